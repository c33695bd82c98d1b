-- The value of an export: its name, where it is found inside, and its attributes (MSVC linker reference, "/EXPORT").
use Rattle.std.specs.Prelude.{ℕ, Bool, ◌&&◌, ◌||◌, not, if◌then◌else◌, List, slice_index, drop, Option, Some, None, is_none, option_and_then}
use Rattle.std.specs.List.{before_first, position_or_len}
use Rattle.directives.specs.Text.{is_comma, is_equals, is_name}
use Rattle.directives.specs.Form.{form}
use Rattle.directives.specs.Attribute.{Attributes, attributes_after}
use Rattle.directives.specs.declared.item.Export.{Export}

-- an export without a name needs its ordinal
abbrev pub export_row : List ℕ → Option (List ℕ) → Attributes → Option Export
export_row name internal said =
    if said.noname && is_none said.ordinal then None
    else Some (record { name = name; internal = internal; ordinal = said.ordinal; noname = said.noname; form = said.form; private = said.private })

-- the name ends at the first comma or `=`, or with its quotes
abbrev pub ends_name : ℕ → Bool
ends_name b = is_comma b || is_equals b

-- what stands from the first byte on that passes
abbrev pub from_first : (ℕ → Bool) → List ℕ → List ℕ
from_first test text = drop (position_or_len test text) text

abbrev pub export_parts : List ℕ × Option (List ℕ) → List ℕ × List ℕ
export_parts (text, None) = (before_first ends_name text, from_first ends_name text)
export_parts (first, Some after) = (first, after)

-- the internal name runs to the first comma
unfoldable pub export_internal : List ℕ → List ℕ → Option Export
export_internal name text =
    if is_name (before_first is_comma text)
    then option_and_then (export_row name (Some (before_first is_comma text))) (attributes_after (from_first is_comma text))
    else None

-- after the name stands `=` and the internal name, or the attributes
unfoldable pub export_of : List ℕ × List ℕ → Option Export
export_of (name, after) =
    if not (is_name name) then None else
    (if is_equals (slice_index after 0) then export_internal name (drop 1 after)
    else option_and_then (export_row name None) (attributes_after after))

unfoldable pub export_value : List ℕ → Option Export
export_value value = option_and_then (λ parts. export_of (export_parts parts)) (form value)
