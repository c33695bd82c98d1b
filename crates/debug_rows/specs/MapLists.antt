-- The lists of a map but its public symbols. Own.
use Rattle.std.specs.Prelude.{ℕ, List, map, slice_index_or}
use Rattle.std.specs.List.{enumerate_from}
use Rattle.module_view.specs.Module.{ModuleView}
use Rattle.section_group.specs.Uniqueness.{SectionRow}
use Rattle.address_layout.specs.declared.layout.Placed.{Placed}
use Rattle.map_file.specs.declared.rows.MapModule.{MapModule}
use Rattle.map_file.specs.declared.rows.MapSection.{MapSection}
use Rattle.debug_rows.specs.Contributions.{no_place}

abbrev pub map_module : ModuleView → MapModule
map_module view = record { file = view.file; member = view.member }

-- a section at a place
abbrev pub section_at : SectionRow → Placed → MapSection
section_at section place = record { name = section.name; rva = place.rva; size = place.size; flags = section.flags }

abbrev pub map_section : List Placed → ℕ × SectionRow → MapSection
map_section places (index, section) = section_at section (slice_index_or places index no_place)

abbrev pub map_sections_of : List Placed → List SectionRow → List MapSection
map_sections_of places sections = map (map_section places) (enumerate_from 0 sections)
