-- The row of a module, by what its sections are chosen, and of one without COMDAT sections.
use Rattle.std.proofs.Common.{◌≡◌, ℕ, zero, suc, ◌+◌, ◌-◌, ◌<◌, ◌≤◌, Bool, true, false, cond, not, eqb, ◌&&◌, List, [], ◌∷◌, ◌++◌, length, get_or, filter, map, Option, None, Some, refl, sym, ap, ◌∙◌, inl, inr, arith}
use Rattle.std.specs.Prelude.{replicate, is_some, nat_le}
use Rattle.std.specs.List.{range_with_len}
use Rattle.std.proofs.lemmas.Bool.{false≢true, ne_eqb, cases_Bool, le-leb, and_from}
use Rattle.std.proofs.lemmas.List.{append-nil, ext_get_or, get_or-map, length-map}
use Rattle.std.proofs.lemmas.List.FromFn.{length-map-range_with_len, get_or-map-range_with_len}
use Rattle.std.proofs.lemmas.Simd.{map-map}
use Rattle.coff_records.specs.ObjectFile.{section_total}
use Rattle.coff_aux.specs.declared.comdat.Comdat.{Comdat}
use Rattle.coff_aux.specs.declared.comdat.ComdatRecord.{ComdatRecord}
use Rattle.coff_aux.specs.Comdats.{is_section_number, is_comdat, has_comdat, section_symbols_of, said_by_first, comdat_record_of, is_associative, leader_name, comdat_by, comdat_of, parent_in, parents_of}
use Rattle.coff_aux.specs.Parents.{parent_at}
use Rattle.module_view.specs.declared.comdat_choice.ComdatChoice.{ComdatChoice}
use Rattle.module_view.specs.declared.definition.Definition.{Definition}
use Rattle.module_view.specs.Choices.{AreChoices}
use Rattle.module_view.proofs.SectionLemmas.{some_section}
use Rattle.comdat.specs.declared.chosen_by.ChosenBy.{ChosenBy}
use Rattle.comdat.specs.declared.chosen_by.ChosenBy.TheVariants as by
use Rattle.comdat.specs.Groups.{Named}
use Rattle.comdat.specs.ChosenBy.{is_group, parent_by, by_parent_or_leader, chosen_by_said, chosen_by, by_choice, by_choices}
use Rattle.comdat.specs.Chains.{chain_end}
use Rattle.comdat.specs.Selection.{goes_by_name, group_name_of, is_free, sections_of, named_sections, entry_in, entries_of, own_flag}
use Rattle.comdat.proofs.ChainLemmas.{end_here}
use Rattle.comdat.proofs.OpenedLemmas.{range_alike, parent_count}
use Rattle.comdat.proofs.RowLemmas.{group_is, says_at, by_said}

-- ---- what is kept of a module

-- nothing, where no section is a COMDAT section
pub choices_none : (bytes : List ℕ) (definitions : List Definition) (choices : List (Option ComdatChoice)) → AreChoices bytes definitions choices → length choices ≡ 0 → has_comdat bytes ≡ false
choices_none bytes definitions choices are none = are.some ∙ ap (λ (n : ℕ). not (eqb n 0)) none

-- and else by what each section is chosen
pub choices_all : (bytes : List ℕ) (definitions : List Definition) (choices : List (Option ComdatChoice)) → AreChoices bytes definitions choices → (length choices ≡ 0 → ⊥) → by_choices choices ≡ map (chosen_by bytes) (sections_of bytes)
choices_all bytes definitions choices are some =
    let total : length choices ≡ section_total bytes = are.count (are.some ∙ ap not (ne_eqb (length choices) 0 some)) in
    ext_get_or by.Itself (by_choices choices) (map (chosen_by bytes) (sections_of bytes)) (length-map choices by_choice ∙ total ∙ sym (length-map-range_with_len (chosen_by bytes) 1 (section_total bytes)))
    (λ k lt.
    let within : k < length choices = omega (arith, lt, length-map choices by_choice) in
    get_or-map by_choice choices k None by.Itself within
    ∙ by_said bytes definitions (k + 1) (get_or choices k None) (says_at bytes definitions choices k are (omega (arith, within, total))).says
    ∙ sym (get_or-map-range_with_len (chosen_by bytes) 1 (section_total bytes) k (k + 1) by.Itself (omega (arith, within, total)) (omega arith)))

pub list_length : (bytes : List ℕ) (row : List ChosenBy) → row ≡ map (chosen_by bytes) (sections_of bytes) → length row ≡ section_total bytes
list_length bytes row is = ap length is ∙ length-map-range_with_len (chosen_by bytes) 1 (section_total bytes)

-- as many go by a name as there are named sections
pub group_total : (bytes : List ℕ) (row : List ChosenBy) → row ≡ map (chosen_by bytes) (sections_of bytes) → length (filter is_group row) ≡ length (named_sections bytes)
group_total bytes row is = ap (λ (r : List ChosenBy). length (filter is_group r)) is ∙ same (sections_of bytes)
  where
    go : (b : Bool) (first : ChosenBy) (section : ℕ) (rest : List ChosenBy) (sections : List ℕ) → length rest ≡ length sections → length (cond b (first ∷ rest) rest) ≡ length (cond b (section ∷ sections) sections)
    go true first section rest sections e = omega (arith, e)
    go false first section rest sections e = e

    same : (sections : List ℕ) → length (filter is_group (map (chosen_by bytes) sections)) ≡ length (filter (goes_by_name bytes) sections)
    same [] = refl
    same (section ∷ sections) =
        ap (λ (b : Bool). length (cond b (chosen_by bytes section ∷ filter is_group (map (chosen_by bytes) sections)) (filter is_group (map (chosen_by bytes) sections)))) (group_is (comdat_of bytes section))
        ∙ go (goes_by_name bytes section) (chosen_by bytes section) section (filter is_group (map (chosen_by bytes) sections)) (filter (goes_by_name bytes) sections) (same sections)

-- ---- parents

-- the parent of a section
parent_same : (bytes : List ℕ) (section : ℕ) → is_section_number (section_total bytes) section ≡ true → parent_by (section_total bytes) (chosen_by bytes section) ≡ parent_in (section_total bytes) (comdat_record_of bytes section)
unfolding comdat_of parent_in
parent_same bytes section within =
    let leader = leader_name bytes (section_symbols_of bytes section).second in
    ap (λ (b : Bool). parent_by (section_total bytes) (chosen_by_said (cond b (comdat_by leader (comdat_record_of bytes section)) None))) within
    ∙ go leader (comdat_record_of bytes section)
  where
    by_parent : (count parent : ℕ) (associative : Bool) (leader : Option (List ℕ)) → parent_by count (by_parent_or_leader (cond associative (Some parent) None) leader) ≡ cond (associative && is_section_number count parent) parent 0
    by_parent count parent true leader = refl
    by_parent count parent false None = refl
    by_parent count parent false (Some leader) = refl

    go : (leader : Option (List ℕ)) (said : Option ComdatRecord) → parent_by (section_total bytes) (chosen_by_said (comdat_by leader said)) ≡ parent_in (section_total bytes) said
    go leader None = refl
    go leader (Some said) = by_parent (section_total bytes) said.associated (is_associative said) leader

pub is_number : (count section : ℕ) → 1 ≤ section → section < 1 + count → is_section_number count section ≡ true
is_number count section low high =
    and_from (nat_le 1 section) (nat_le section count) (le-leb 1 section low) (le-leb section count (omega arith))

pub parents_by : (bytes : List ℕ) → 0 ∷ map (λ section. parent_by (section_total bytes) (chosen_by bytes section)) (sections_of bytes) ≡ parents_of bytes
unfolding parents_of
parents_by bytes =
    let total = section_total bytes in
    ap (λ (parents : List ℕ). 0 ∷ parents)
    (range_alike (λ section. parent_by total (chosen_by bytes section)) (λ section. parent_in total (comdat_record_of bytes section)) 1 total (λ k low high. parent_same bytes k (is_number total k low high)))

pub parents_listed : (bytes : List ℕ) (row : List ChosenBy) → row ≡ map (chosen_by bytes) (sections_of bytes) → 0 ∷ map (parent_by (length row)) row ≡ parents_of bytes
parents_listed bytes row is =
    let total = section_total bytes in
    ap (λ (parents : List ℕ). 0 ∷ parents)
    (ap (λ (n : ℕ). map (parent_by n) row) (list_length bytes row is)
    ∙ ap (map (parent_by total)) is
    ∙ map-map (parent_by total) (chosen_by bytes) (sections_of bytes))
    ∙ parents_by bytes

pub parents_of_choices : (bytes : List ℕ) (choices : List (Option ComdatChoice)) → by_choices choices ≡ map (chosen_by bytes) (sections_of bytes) → 0 ∷ map (parent_by (length choices)) (by_choices choices) ≡ parents_of bytes
parents_of_choices bytes choices is =
    ap (λ (n : ℕ). 0 ∷ map (parent_by n) (by_choices choices)) (sym (length-map choices by_choice)) ∙ parents_listed bytes (by_choices choices) is

-- the parent of a section, by what it is chosen
pub parent_is : (bytes : List ℕ) (section : ℕ) → 1 ≤ section → section < 1 + section_total bytes → parent_at (parents_of bytes) section ≡ parent_by (section_total bytes) (chosen_by bytes section)
parent_is bytes zero low high = absurd (omega arith)
parent_is bytes (suc k) low high =
    ap (λ (parents : List ℕ). get_or parents (suc k) 0) (sym (parents_by bytes))
    ∙ get_or-map-range_with_len (λ section. parent_by (section_total bytes) (chosen_by bytes section)) 1 (section_total bytes) k (suc k) 0 (omega arith) (omega arith)

-- where none has a parent, each section is the end of its chain
pub ends_here : (bytes : List ℕ) (flag : ℕ → Bool) → ((section : ℕ) → 1 ≤ section → section < 1 + section_total bytes → parent_at (parents_of bytes) section ≡ 0) → map (λ section. flag (chain_end (parents_of bytes) section)) (sections_of bytes) ≡ map flag (sections_of bytes)
ends_here bytes flag none =
    range_alike (λ section. flag (chain_end (parents_of bytes) section)) flag 1 (section_total bytes) (λ k low high. ap flag (end_here (parents_of bytes) k (omega (arith, high, parent_count bytes)) (none k low high)))

-- ---- a module without COMDAT sections

none_is : (bytes : List ℕ) (section : ℕ) → has_comdat bytes ≡ false → 1 ≤ section → section < 1 + section_total bytes → comdat_of bytes section ≡ None
unfolding comdat_of comdat_record_of
none_is bytes section none low high = elim (cases_Bool (is_comdat bytes section)) [
  | inl holds ↦ absurd (false≢true (sym none ∙ some_section (is_comdat bytes) (section - 1) (section_total bytes) section (omega arith) (omega arith) holds))
  | inr fails ↦
      let leader = leader_name bytes (section_symbols_of bytes section).second in
      ap (λ (b : Bool). cond (is_section_number (section_total bytes) section) (comdat_by leader (cond b (Some (said_by_first bytes (section_symbols_of bytes section).first)) None)) None) fails
      ∙ either (is_section_number (section_total bytes) section)
]
  where
    either : (b : Bool) → cond b None None ≡ (let none : Option Comdat = None in none)
    either true = refl
    either false = refl

no_names : (test : ℕ → Bool) (a n : ℕ) → ((k : ℕ) → a ≤ k → k < a + n → test k ≡ false) → filter test (range_with_len a n) ≡ []
no_names test a zero fails = refl
no_names test a (suc n) fails =
    ap (λ (b : Bool). cond b (a ∷ filter test (range_with_len (a + 1) n)) (filter test (range_with_len (a + 1) n))) (fails a (omega arith) (omega arith))
    ∙ no_names test (a + 1) n (λ k low high. fails k (omega arith) (omega arith))

none_named : (bytes : List ℕ) → has_comdat bytes ≡ false → named_sections bytes ≡ []
none_named bytes none =
    no_names (goes_by_name bytes) 1 (section_total bytes) (λ k low high. ap (λ (said : Option Comdat). is_some (group_name_of said)) (none_is bytes k none low high))

pub no_entries : (position : ℕ) (bytes : List ℕ) (entries : List Named) → has_comdat bytes ≡ false → entries ≡ entries ++ entries_of position bytes
no_entries position bytes entries none =
    sym (ap (λ (sections : List ℕ). entries ++ map (entry_in position bytes) sections) (none_named bytes none) ∙ append-nil entries)

all_true : (flag : ℕ → Bool) (a n : ℕ) → ((k : ℕ) → a ≤ k → k < a + n → flag k ≡ true) → replicate n true ≡ map flag (range_with_len a n)
all_true flag a zero holds = refl
all_true flag a (suc n) holds = λ i. sym (holds a (omega arith) (omega arith)) i ∷ all_true flag (a + 1) n (λ k low high. holds k (omega arith) (omega arith)) i

-- all of its sections are chosen, and none goes by a name
pub all_chosen : (bytes : List ℕ) (count : ℕ) (flags selected : List Bool) (chosen : ℕ → Bool) (later : List Bool) → has_comdat bytes ≡ false → count ≡ section_total bytes → flags ≡ replicate count true → selected ≡ map chosen (named_sections bytes) ++ later → (flags ≡ map (λ section. own_flag chosen bytes (chain_end (parents_of bytes) section)) (sections_of bytes)) × (selected ≡ later)
all_chosen bytes count flags selected chosen later none total are told =
    let total_is = section_total bytes in (
      are ∙ ap (λ (n : ℕ). replicate n true) total
          ∙ all_true (own_flag chosen bytes) 1 total_is (λ k low high.
          ap (λ (said : Option Comdat). cond (is_some (group_name_of said)) (chosen k) (is_free said)) (none_is bytes k none low high))
          ∙ sym (ends_here bytes (own_flag chosen bytes) (λ k low high. parent_is bytes k low high ∙ ap (λ (said : Option Comdat). parent_by total_is (chosen_by_said said)) (none_is bytes k none low high))),
      told ∙ ap (λ (sections : List ℕ). map chosen sections ++ later) (none_named bytes none),
    )
