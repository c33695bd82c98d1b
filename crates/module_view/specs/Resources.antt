-- Sections of resources (PE Format, "The .rsrc Section").
use Rattle.std.specs.Prelude.{ℕ, Bool, List}
use Rattle.std.specs.List.{list_any}
use Rattle.coff_records.specs.ObjectFile.{section_name_of}
use Rattle.section_rules.specs.SoughtNames.{is_resources}
use Rattle.module_view.specs.ModuleDirectives.{sections_in}

-- one of an object, by its number
abbrev pub holds_resources : List ℕ → ℕ → Bool
holds_resources bytes section = is_resources (section_name_of bytes section)

-- one of its sections does
unfoldable pub has_resources : List ℕ → Bool
has_resources bytes = list_any (holds_resources bytes) (sections_in bytes)
