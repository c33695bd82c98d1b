-- Attributes one after another, as the code takes them. This decides nothing: `Attribute` says which may stand together.
use Rattle.std.specs.Prelude.{Bool, true, false, not, if◌then◌else◌, Option, Some, None, is_none, option_and_then}
use Rattle.directives.specs.Attribute as rule
use Rattle.directives.specs.declared.attributes.Attribute.{Attribute}
use Rattle.directives.specs.declared.attributes.Attribute.TheVariants.{NoName, DataItem, Constant, PrivateItem, Ordinal}
use Rattle.directives.specs.declared.attributes.Attributes.{Attributes}

abbrev pub attributes_said : Attributes → rule.Attributes
attributes_said taken = record {
  ordinal = taken.ordinal;
  noname = taken.noname;
  form = rule.form_by taken.data_item taken.constant;
  private = taken.private_item;
}

abbrev pub none_taken : Attributes
none_taken = record { ordinal = None; noname = false; data_item = false; constant = false; private_item = false }

abbrev pub unless : {A : Type 0} → Bool → A → Option A
unless taken new = if not taken then Some new else None

abbrev pub with_attribute : Attributes → Attribute → Option Attributes
with_attribute taken NoName = unless taken.noname (record taken { noname = true })
with_attribute taken DataItem = unless taken.data_item (record taken { data_item = true })
with_attribute taken Constant = unless taken.constant (record taken { constant = true })
with_attribute taken PrivateItem = unless taken.private_item (record taken { private_item = true })
with_attribute taken (Ordinal n) = if is_none taken.ordinal then Some (record taken { ordinal = Some n }) else None

-- one part more
abbrev pub also : Option Attributes → Option Attribute → Option Attributes
also taken part = option_and_then (λ so_far. option_and_then (with_attribute so_far) part) taken
