-- Which of the COMDAT sections that go by one name is linked (PE Format, "COMDAT Sections (Object Only)"). The sections are
-- a list, in the order of modules and then section numbers.
use Rattle.std.specs.Prelude.{ℕ, ◌+◌, Bool, true, ◌&&◌, ◌||◌, ◌==◌, nat_le, if◌then◌else◌, List, [], ◌∷◌, length, take, slice_index_or, Option, None, option_copied, unwrap_or, is_none}
use Rattle.std.specs.List.{list_all, list_any}
use Rattle.link_base.specs.Bytes.{first_below}
use Rattle.link_base.specs.NameText.{same_name}
use Rattle.link_base.specs.Refusals.{shown, first_standing}
use Rattle.coff_aux.specs.AuxRecords.{COMDAT_SELECT_ANY, COMDAT_SELECT_SAME_SIZE, COMDAT_SELECT_EXACT_MATCH, COMDAT_SELECT_LARGEST}
use Rattle.comdat.specs.declared.candidate.Candidate.{Candidate}

-- ---- one section

abbrev pub is_any : Candidate → Bool
is_any candidate = candidate.selection == COMDAT_SELECT_ANY

abbrev pub is_same_size : Candidate → Bool
is_same_size candidate = candidate.selection == COMDAT_SELECT_SAME_SIZE

abbrev pub is_exact_match : Candidate → Bool
is_exact_match candidate = candidate.selection == COMDAT_SELECT_EXACT_MATCH

abbrev pub is_largest : Candidate → Bool
is_largest candidate = candidate.selection == COMDAT_SELECT_LARGEST

abbrev pub is_any_or_largest : Candidate → Bool
is_any_or_largest candidate = is_any candidate || is_largest candidate

-- its data; a section without data in the file has none, whatever its size
abbrev pub contents_of : Candidate → List ℕ
contents_of candidate = unwrap_or (option_copied candidate.body) []

abbrev pub has_size : ℕ → Candidate → Bool
has_size size candidate = candidate.size == size

abbrev pub has_contents : List ℕ → Candidate → Bool
has_contents contents candidate = same_name (contents_of candidate) contents

-- ---- a group

-- there is one
abbrev pub is_alone : List Candidate → Bool
is_alone list = length list == 1

-- each is ANY
abbrev pub are_all_any : List Candidate → Bool
are_all_any list = list_all is_any list

-- the size of each is that of the first
abbrev pub have_equal_sizes : List Candidate → Bool
have_equal_sizes [] = true
have_equal_sizes (first ∷ rest) = list_all (has_size first.size) rest

-- each is SAME_SIZE, and their sizes are equal
abbrev pub are_same_size : List Candidate → Bool
are_same_size list = list_all is_same_size list && have_equal_sizes list

-- the contents of each are those of the first
abbrev pub have_equal_contents : List Candidate → Bool
have_equal_contents [] = true
have_equal_contents (first ∷ rest) = list_all (has_contents (contents_of first)) rest

-- each is EXACT_MATCH, and their contents are equal
abbrev pub are_exact_match : List Candidate → Bool
are_exact_match list = list_all is_exact_match list && have_equal_contents list

-- each is LARGEST or ANY, and one is LARGEST
abbrev pub goes_by_size : List Candidate → Bool
goes_by_size list = list_all is_any_or_largest list && list_any is_largest list

-- ---- the choice

abbrev pub no_candidate : Candidate
no_candidate = record { «module» = 0; section = 0; selection = 0; size = 0; body = None }

abbrev pub size_at : List Candidate → ℕ → ℕ
size_at list place = (slice_index_or list place no_candidate).size

abbrev pub is_at_most : ℕ → Candidate → Bool
is_at_most size candidate = nat_le candidate.size size

-- the least place whose size none exceeds
abbrev pub greatest_place : List Candidate → Option ℕ
greatest_place list = first_below (length list) (λ place. list_all (is_at_most (size_at list place)) list)

-- the place of the one that is linked, by the first case that holds; where none does, they conflict
abbrev pub chosen_place : List Candidate → Option ℕ
chosen_place list =
    first_standing
    (shown (is_alone list) 0
    ∷ shown (are_all_any list) 0
    ∷ shown (are_same_size list) 0
    ∷ shown (are_exact_match list) 0
    ∷ (if goes_by_size list then greatest_place list else None)
    ∷ [])

abbrev pub conflicts : List Candidate → Bool
conflicts list = is_none (chosen_place list)

-- the least place whose list up to and with it conflicts
abbrev pub conflict_place : List Candidate → Option ℕ
conflict_place list = first_below (length list) (λ place. conflicts (take (place + 1) list))
