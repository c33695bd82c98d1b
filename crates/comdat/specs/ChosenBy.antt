-- By what each section is chosen. Own.
use Rattle.std.specs.Prelude.{ℕ, Bool, true, false, if◌then◌else◌, List, map, Option, Some, None}
use Rattle.coff_aux.specs.declared.comdat.Comdat.{Comdat}
use Rattle.coff_aux.specs.Comdats.{is_section_number, comdat_of}
use Rattle.module_view.specs.declared.comdat_choice.ComdatChoice.{ComdatChoice}
use Rattle.comdat.specs.declared.chosen_by.ChosenBy.{ChosenBy}
use Rattle.comdat.specs.declared.chosen_by.ChosenBy.TheVariants as by

-- ---- one section

abbrev pub is_itself : ChosenBy → Bool
is_itself by.Itself = true
is_itself by.Group = false
is_itself (by.Parent parent) = false

abbrev pub is_group : ChosenBy → Bool
is_group by.Itself = false
is_group by.Group = true
is_group (by.Parent parent) = false

-- its parent, 0 where it has none, and where that is no section
abbrev pub parent_by : ℕ → ChosenBy → ℕ
parent_by count by.Itself = 0
parent_by count by.Group = 0
parent_by count (by.Parent parent) = if is_section_number count parent then parent else 0

-- by its parent, where it has one, and else by its leader, where it has one
abbrev pub by_parent_or_leader : {A : Type 0} → Option ℕ → Option A → ChosenBy
by_parent_or_leader (Some parent) leader = by.Parent parent
by_parent_or_leader None (Some leader) = by.Group
by_parent_or_leader None None = by.Itself

abbrev pub chosen_by_said : Option Comdat → ChosenBy
chosen_by_said None = by.Itself
chosen_by_said (Some said) = by_parent_or_leader said.parent said.leader

abbrev pub chosen_by : List ℕ → ℕ → ChosenBy
chosen_by bytes section = chosen_by_said (comdat_of bytes section)

-- ---- by what is kept of a section

abbrev pub by_choice : Option ComdatChoice → ChosenBy
by_choice None = by.Itself
by_choice (Some choice) = by_parent_or_leader choice.parent choice.leader

-- of all sections of a module
abbrev pub by_choices : List (Option ComdatChoice) → List ChosenBy
by_choices choices = map by_choice choices
