-- What may stand after the name of an export, between commas (MSVC linker reference, "/EXPORT").
use Rattle.std.specs.Prelude.{ℕ, Bool, true, false, ◌&&◌, ◌==◌, nat_le, if◌then◌else◌, List, [], ◌∷◌, slice_index, drop, map, Option, Some, None, is_some, option_map, codes, count_by}
use Rattle.std.specs.List.{slice_split, list_all, list_any, filter_map, last_or}
use Rattle.std.specs.Str.{byte}
use Rattle.directives.specs.Text.{is_comma}
use Rattle.directives.specs.Names.{lookup}
use Rattle.directives.specs.Number.{decimal_up_to}
use Rattle.directives.specs.declared.item.ExportForm.{ExportForm}
use Rattle.directives.specs.declared.item.ExportForm.TheVariants.{Code, Data, Const}
use Rattle.directives.specs.declared.attributes.Attribute.{Attribute}
use Rattle.directives.specs.declared.attributes.Attribute.TheVariants.{NoName, DataItem, Constant, PrivateItem, Ordinal}

abbrev pub attribute_names : List (List ℕ × Attribute)
attribute_names = (codes "NONAME", NoName) ∷ (codes "DATA", DataItem) ∷ (codes "CONSTANT", Constant) ∷ (codes "PRIVATE", PrivateItem) ∷ []

-- a word of the table, or an ordinal of 16 bits after `@`
unfoldable pub attribute_of : List ℕ → Option Attribute
attribute_of text =
    if slice_index text 0 == byte "@" then option_map Ordinal (decimal_up_to 65535 (drop 1 text))
    else lookup attribute_names text

-- the kinds of attributes
abbrev pub is_noname : Option Attribute → Bool
is_noname (Some NoName) = true
is_noname _ = false

abbrev pub is_data : Option Attribute → Bool
is_data (Some DataItem) = true
is_data _ = false

abbrev pub is_constant : Option Attribute → Bool
is_constant (Some Constant) = true
is_constant _ = false

abbrev pub is_private : Option Attribute → Bool
is_private (Some PrivateItem) = true
is_private _ = false

abbrev pub ordinal_in : Option Attribute → Option ℕ
ordinal_in (Some (Ordinal n)) = Some n
ordinal_in _ = None

abbrev pub is_ordinal : Option Attribute → Bool
is_ordinal part = is_some (ordinal_in part)

-- no two of the parts are of this kind
abbrev pub once : (Option Attribute → Bool) → List (Option Attribute) → Bool
once kind parts = nat_le (count_by kind parts) 1

-- each part is an attribute, and no two are of one kind
unfoldable pub stand_together : List (Option Attribute) → Bool
stand_together parts =
    list_all is_some parts
    && (once is_noname parts && (once is_data parts && (once is_constant parts && (once is_private parts && once is_ordinal parts))))

-- what the attributes say of an export: the ordinal, where one has one, whether it has no name, its form, and whether an
-- import library leaves it out
pub record Attributes : Type 0 where
  pub ordinal : Option ℕ
  pub noname : Bool
  pub form : ExportForm
  pub private : Bool

-- data counts before a constant
abbrev pub form_by : Bool → Bool → ExportForm
form_by of_data of_constant = if of_data then Data else (if of_constant then Const else Code)

unfoldable pub say_together : List (Option Attribute) → Attributes
say_together parts = record {
  ordinal = last_or None (filter_map ordinal_in parts);
  noname = list_any is_noname parts;
  form = form_by (list_any is_data parts) (list_any is_constant parts);
  private = list_any is_private parts;
}

-- the attributes of a text with commas between
unfoldable pub attributes_of : List ℕ → Option Attributes
attributes_of text =
    let parts = map attribute_of (slice_split is_comma text) in
    if stand_together parts then Some (say_together parts) else None

-- those after the first comma, or none
abbrev pub attributes_after : List ℕ → Option Attributes
attributes_after [] = Some (record { ordinal = None; noname = false; form = Code; private = false })
attributes_after (b ∷ text) = attributes_of text
