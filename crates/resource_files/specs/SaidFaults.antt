-- A fault by what it says: where the texts of types and names stand is left out. Own.
use Rattle.std.specs.Prelude.{◌≡◌, Option, Some}
use Rattle.link_base.specs.declared.fault.Fault.{Fault}
use Rattle.link_base.specs.declared.fault.Fault.TheVariants.{DuplicateResource}
use Rattle.link_base.specs.declared.kinds.resource.ResName.{ResName}
use Rattle.link_base.specs.declared.kinds.resource.ResName.TheVariants as name
use Rattle.link_base.specs.declared.stop.Refusal.{Refusal}
use Rattle.link_base.specs.declared.stop.Refusal.TheVariants as refusal
use Rattle.res_merge.specs.Entries.{Key, Number, Text, key_of}

-- a type or a name whose text stands nowhere
abbrev pub name_of : Key → ResName
name_of (Number number) = name.Number number
name_of (Text units) = name.Text (record { ref_ptr = (0, 0); now = units })

abbrev pub fault_said : Fault → Fault
fault_said (DuplicateResource file member kind name language) =
    DuplicateResource file member (name_of (key_of kind)) (name_of (key_of name)) language
fault_said fault = fault

-- a refusal says the fault that stands; of want of memory nothing is said
abbrev pub RefusesSaid : Option Fault → Refusal → Type 0
RefusesSaid standing (refusal.Fault fault) = standing ≡ Some (fault_said fault)
RefusesSaid standing refusal.Memory = Unit {0}
