-- Groups of COMDAT sections, each of all that go by one name, in the order of modules and then section numbers (PE Format,
-- "COMDAT Sections (Object Only)"). Which conflict is told is own.
use Rattle.std.specs.Prelude.{◌≡◌, ℕ, Bool, false, ◌&&◌, ◌==◌, List, [], length, map, filter, slice_index_or, slice_get, Option, Some, option_map, option_and_then}
use Rattle.std.specs.Option.{option_map_or}
use Rattle.link_base.specs.NameText.{same_name}
use Rattle.link_base.specs.Refusals.{first_refusal_below}
use Rattle.comdat.specs.declared.candidate.Candidate.{Candidate}
use Rattle.comdat.specs.declared.error.ChooseError.{ChooseError}
use Rattle.comdat.specs.declared.error.ChooseError.TheVariants as error
use Rattle.comdat.specs.Choice.{no_candidate, chosen_place, conflict_place}

-- a section and the name that it goes by
pub record Named : Type 0 where
  pub name : List ℕ
  pub candidate : Candidate

abbrev pub no_named : Named
no_named = record { name = []; candidate = no_candidate }

abbrev pub name_at : List Named → ℕ → List ℕ
name_at entries k = (slice_index_or entries k no_named).name

-- ---- a group

abbrev pub has_name : List ℕ → Named → Bool
has_name name entry = same_name entry.name name

abbrev pub candidate_of : Named → Candidate
candidate_of entry = entry.candidate

-- all that go by a name
abbrev pub group_of : List Named → List ℕ → List Candidate
group_of entries name = map candidate_of (filter (has_name name) entries)

-- the one that a group chooses, where it does not conflict
abbrev pub chosen_of : List Candidate → Option Candidate
chosen_of group = option_and_then (slice_get group) (chosen_place group)

abbrev pub is_same_section : Candidate → Candidate → Bool
is_same_section one other = (one.«module» == other.«module») && (one.section == other.section)

-- a section is the chosen one of its group
abbrev pub is_selected : List Named → Named → Bool
is_selected entries entry =
    option_map_or (is_same_section entry.candidate) (chosen_of (group_of entries entry.name)) false

-- ---- conflicts

abbrev pub module_in : List Candidate → ℕ → ℕ
module_in group place = (slice_index_or group place no_candidate).«module»

-- a group's conflict, by the modules of its first section and of the one that it conflicts at
abbrev pub conflict_in : List ℕ → List Candidate → Option ChooseError
conflict_in name group =
    option_map (λ place. error.Conflict name (module_in group 0) (module_in group place)) (conflict_place group)

-- that of the group of a section
abbrev pub conflict_at : List Named → ℕ → Option ChooseError
conflict_at entries k = conflict_in (name_at entries k) (group_of entries (name_at entries k))

-- that of the first section whose group has one, which is the first of its group
abbrev pub first_conflict : List Named → Option ChooseError
first_conflict entries = first_refusal_below (length entries) (conflict_at entries)

-- of want of memory nothing is said; a conflict is the one that is told
abbrev pub RefusesChoice : Option ChooseError → ChooseError → Type 0
RefusesChoice told (error.Conflict name first second) = told ≡ Some (error.Conflict name first second)
RefusesChoice told error.Memory = Unit {0}
