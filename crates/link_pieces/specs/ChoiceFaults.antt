-- Why the names of modules mean nothing certain: COMDAT sections that conflict, and two definitions of one name (PE Format,
-- "COMDAT Sections (Object Only)"; the order is own).
use Rattle.std.specs.Prelude.{List, Option, Some, None, option_map, option_and_then}
use Rattle.link_base.specs.declared.fault.Fault.{Fault}
use Rattle.link_base.specs.declared.fault.Fault.TheVariants as faults
use Rattle.module_view.specs.Module.{ModuleView}
use Rattle.symbol_table.specs.declared.meaning.Clash.{Clash}
use Rattle.symbol_table.specs.Clash.{clash_of}
use Rattle.comdat.specs.declared.error.ChooseError.{ChooseError}
use Rattle.comdat.specs.declared.error.ChooseError.TheVariants as choose
use Rattle.comdat.specs.Groups.{first_conflict}
use Rattle.comdat.specs.Selection.{all_entries, chosen_sections}

-- want of memory is no fault
abbrev pub conflict : ChooseError → Option Fault
conflict (choose.Conflict name first second) = Some (faults.ComdatConflict name (Some first) (Some second))
conflict choose.Memory = None

-- the COMDAT sections of a name conflict
abbrev pub conflict_fault : List ModuleView → Option Fault
conflict_fault modules = option_and_then conflict (first_conflict (all_entries modules))

abbrev pub duplicate : Clash → Fault
duplicate clash = faults.Duplicate clash.name (Some clash.first) (Some clash.second)

-- two modules define one name
abbrev pub clash_fault : List ModuleView → Option Fault
clash_fault modules = option_map duplicate (clash_of modules (chosen_sections modules))
