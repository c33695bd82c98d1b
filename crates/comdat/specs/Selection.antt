-- Which sections of a list of modules are chosen (PE Format, "COMDAT Sections (Object Only)").
use Rattle.std.specs.Prelude.{ℕ, Bool, true, ◌&&◌, if◌then◌else◌, List, [], length, map, filter, Option, Some, None, option_map, is_some, is_none, unwrap_or}
use Rattle.std.specs.List.{range_with_len, flat_map}
use denote.Ref.{Bor}
use Rattle.coff_records.specs.ObjectFile.{section_total, raw_size_of, body_of}
use Rattle.module_view.specs.Module.{ModuleView, module_at}
use Rattle.coff_aux.specs.declared.comdat.Comdat.{Comdat}
use Rattle.coff_aux.specs.Comdats.{comdat_of, parents_of}
use Rattle.comdat.specs.declared.candidate.Candidate.{Candidate}
use Rattle.comdat.specs.Groups.{Named, is_selected}
use Rattle.comdat.specs.Chains.{chain_end}

-- ---- a section

abbrev pub group_name_by : Option ℕ → Option (List ℕ) → Option (List ℕ)
group_name_by None leader = leader
group_name_by (Some parent) leader = None

-- the name of the group of a section: that of its leader, where it is a COMDAT section without a parent
abbrev pub group_name_of : Option Comdat → Option (List ℕ)
group_name_of None = None
group_name_of (Some said) = group_name_by said.parent said.leader

-- chosen in any case: it is no COMDAT section, or has neither a leader nor a parent
abbrev pub is_free : Option Comdat → Bool
is_free None = true
is_free (Some said) = is_none said.parent && is_none said.leader

abbrev pub selection_said : Option Comdat → ℕ
selection_said None = 0
selection_said (Some said) = said.selection

-- ---- the sections that go by a name

abbrev pub sections_of : List ℕ → List ℕ
sections_of bytes = range_with_len 1 (section_total bytes)

abbrev pub goes_by_name : List ℕ → ℕ → Bool
goes_by_name bytes section = is_some (group_name_of (comdat_of bytes section))

abbrev pub named_sections : List ℕ → List ℕ
named_sections bytes = filter (goes_by_name bytes) (sections_of bytes)

-- bytes as what is borrowed; where they stand decides nothing
abbrev pub lent : List ℕ → Bor (List ℕ)
lent bytes = record { ref_ptr = (0, 0); now = bytes }

abbrev pub candidate_in : ℕ → List ℕ → ℕ → Candidate
candidate_in position bytes section =
    record {
      «module» = position;
      section = section;
      selection = selection_said (comdat_of bytes section);
      size = raw_size_of bytes section;
      body = option_map lent (body_of bytes section);
    }

abbrev pub entry_in : ℕ → List ℕ → ℕ → Named
entry_in position bytes section =
    record {
      name = unwrap_or (group_name_of (comdat_of bytes section)) [];
      candidate = candidate_in position bytes section;
    }

abbrev pub entries_of : ℕ → List ℕ → List Named
entries_of position bytes = map (entry_in position bytes) (named_sections bytes)

-- those of all modules, in their order
abbrev pub all_entries : List ModuleView → List Named
all_entries modules = flat_map (λ k. entries_of k (module_at modules k).bytes) (range_with_len 0 (length modules))

-- ---- which are chosen

-- what a section without a parent is: the chosen one of its group where it has one, and else free
abbrev pub own_flag : (ℕ → Bool) → List ℕ → ℕ → Bool
own_flag chosen bytes section =
    if goes_by_name bytes section then chosen section else is_free (comdat_of bytes section)

abbrev pub is_chosen_of_group : List ModuleView → ℕ → ℕ → Bool
is_chosen_of_group modules position section =
    is_selected (all_entries modules) (entry_in position (module_at modules position).bytes section)

-- a section is chosen where the one at the end of its chain of parents is, which is itself where it has no parent
abbrev pub is_chosen : List ModuleView → ℕ → ℕ → Bool
is_chosen modules position section =
    own_flag (is_chosen_of_group modules position) (module_at modules position).bytes (chain_end (parents_of (module_at modules position).bytes) section)

-- by the positions of modules, and by the numbers of sections less 1
abbrev pub chosen_row : List ModuleView → ℕ → List Bool
chosen_row modules position = map (is_chosen modules position) (sections_of (module_at modules position).bytes)

abbrev pub chosen_sections : List ModuleView → List (List Bool)
chosen_sections modules = map (chosen_row modules) (range_with_len 0 (length modules))
