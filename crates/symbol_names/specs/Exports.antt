-- What stands behind an export: a name of the link, or one of another image (MSVC linker reference, "/EXPORT"; PE Format, "Export
-- Address Table"; that a dot tells the one from the other is own).
use Rattle.std.specs.Prelude.{ℕ, Bool, ◌==◌, if◌then◌else◌, List, filter_map, Option, Some, None, option_and_then}
use Rattle.std.specs.List.{list_any}
use Rattle.directives.specs.declared.item.Export.{Export}

abbrev pub is_dot : ℕ → Bool
is_dot byte = byte == 46

-- a text with a dot names what another image exports
unfoldable pub has_dot : List ℕ → Bool
has_dot text = list_any is_dot text

abbrev pub internal_text : List ℕ → Option (List ℕ) → Option (List ℕ)
internal_text name None = Some name
internal_text name (Some text) = if has_dot text then None else Some text

-- the name of the link that an export stands for: the one that it gives behind its own, else its own; a forwarder stands for none
abbrev pub internal_name : Export → Option (List ℕ)
internal_name row = internal_text row.name row.internal

abbrev pub internal_names : List Export → List (List ℕ)
internal_names rows = filter_map internal_name rows

abbrev pub text_with_dot : List ℕ → Option (List ℕ)
text_with_dot text = if has_dot text then Some text else None

-- the text of a forwarder
abbrev pub forwarder : Export → Option (List ℕ)
forwarder row = option_and_then text_with_dot row.internal
