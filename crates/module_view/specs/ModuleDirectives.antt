-- The directives of a module: what the data of its sections named `.drectve` say, one section after another (PE Format, "The
-- .drectve Section (Object Only)").
use Rattle.std.specs.Prelude.{ℕ, Bool, ◌&&◌, not, List, Option, Some, None, filter, filter_map, flat_map, map, unwrap_or, [], Result, Ok, Err, codes}
use Rattle.std.specs.List.{range_with_len}
use Rattle.link_base.specs.NameText.{same_name}
use Rattle.link_base.specs.Refusals.{first_standing}
use Rattle.coff_records.specs.ObjectFile.{section_total, section_name_of, is_uninitialised, body_of}
use Rattle.directives.specs.Said.{Said}
use Rattle.directives.specs.Words.{directives_of}
use Rattle.directives.specs.declared.item.BadDirective.{BadDirective}

-- the sections by their numbers, from 1
abbrev pub sections_in : List ℕ → List ℕ
sections_in bytes = range_with_len 1 (section_total bytes)

-- a section with this name and with data holds directives
abbrev pub has_directives_by : (name : List ℕ) → (has_data : Bool) → Bool
has_directives_by name has_data = same_name name (codes ".drectve") && has_data

-- of an object, by its number
abbrev pub holds_directives : List ℕ → ℕ → Bool
holds_directives bytes section = has_directives_by (section_name_of bytes section) (not (is_uninitialised bytes section))

-- what its data say: each directive, up to the first malformed one
abbrev pub section_says : List ℕ → ℕ → List (Result Said BadDirective)
section_says bytes section = directives_of (unwrap_or (body_of bytes section) [])

-- what those of some sections say, in their order
abbrev pub sections_say : List ℕ → List ℕ → List (Result Said BadDirective)
sections_say bytes sections = flat_map (section_says bytes) (filter (holds_directives bytes) sections)

-- what all its sections say, in their order
unfoldable pub module_says : List ℕ → List (Result Said BadDirective)
module_says bytes = sections_say bytes (sections_in bytes)

-- an item is a directive
abbrev pub well_formed : Result Said BadDirective → Option Said
well_formed (Ok said) = Some said
well_formed (Err bad) = None

-- or a malformed one
abbrev pub malformed : Result Said BadDirective → Option BadDirective
malformed (Ok said) = None
malformed (Err bad) = Some bad

-- the directives
abbrev pub module_directives : List ℕ → List Said
module_directives bytes = filter_map well_formed (module_says bytes)

-- the malformed one of the first section that has one
abbrev pub bad_directive : List ℕ → Option BadDirective
bad_directive bytes = first_standing (map malformed (module_says bytes))
