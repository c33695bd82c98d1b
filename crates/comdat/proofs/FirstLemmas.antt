-- The choice where all sections are ANY: the first of each name.
use Rattle.std.proofs.Common.{◌≡◌, ℕ, zero, suc, ◌+◌, ◌<◌, Bool, true, false, cond, eqb, not, ◌&&◌, ◌||◌, List, [], ◌∷◌, length, get_or, set, filter, map, Option, None, Some, refl, sym, ap, ◌∙◌, inl, inr, eq-eqb, add-one, arith}
use Rattle.std.proofs.Math.Bool.{or-true, or-false}
use borrow.Author.Count.{below_more}
use Rattle.std.specs.Prelude.{replicate, is_some, is_none, option_map, option_and_then, slice_get}
use Rattle.std.specs.Option.{option_or, option_map_or}
use Rattle.std.specs.List.{All, AllPairs, IsDistinct, list_all, range_with_len}
use Rattle.std.proofs.Math.ListN.{length-set}
use Rattle.std.proofs.lemmas.Bool.{ne_eqb, cases_eq}
use Rattle.std.proofs.lemmas.List.{get_or-set_same, get_or-set_other, get_or-map, length-map, length-replicate, get_or-replicate, ext_get_or}
use Rattle.std.proofs.lemmas.List.FromFn.{length-map-range_with_len, get_or-map-range_with_len}
use Rattle.link_base.specs.Bytes.{first_below}
use Rattle.link_base.specs.NameText.{same_name}
use Rattle.link_base.proofs.CallerLemmas.{first_below-some, first_below-none, first_below-same}
use Rattle.link_base.proofs.NameTextLemmas.{same_refl}
use Rattle.link_base.proofs.RefusalLemmas.{none_below}
use Rattle.coff_aux.specs.AuxRecords.{COMDAT_SELECT_ANY}
use Rattle.module_view.specs.Module.{ModuleView}
use Rattle.symbol_names.proofs.NumberLemmas.{same_number}
use Rattle.comdat.specs.declared.candidate.Candidate.{Candidate}
use Rattle.comdat.specs.declared.entry.Entry.{Entry}
use Rattle.comdat.specs.declared.error.ChooseError.TheVariants as error
use Rattle.comdat.specs.Choice.{is_any, are_all_any}
use Rattle.comdat.specs.Entries.{no_entry, entry_at, named_by, IsSection, KeepsEntry, AreApart}
use Rattle.comdat.specs.Groups.{Named, no_named, name_at, has_name, candidate_of, group_of, is_same_section, is_selected, module_in, conflict_at, first_conflict}
use Rattle.comdat.specs.Numbering.{is_first, candidate_at}
use Rattle.comdat.proofs.ChoiceLemmas.{any_chosen, any_agree}
use Rattle.comdat.proofs.NumberingLemmas.{number_at, numbered_at}

-- ---- which are the first, in a loop over sections

-- one of the first sections has the number of a name
abbrev pub has_before : List Entry → ℕ → ℕ → Bool
has_before entries done name = is_some (first_below done (λ j. eqb (number_at entries j) name))

has_more : (entries : List Entry) (done name : ℕ) → has_before entries (done + 1) name ≡ (has_before entries done name || eqb (number_at entries done) name)
unfolding first_below
has_more entries done name =
    ap (λ (n : ℕ). has_before entries n name) (add-one done)
    ∙ go (first_below done (λ j. eqb (number_at entries j) name)) (eqb (number_at entries done) name)
  where
    go : (before : Option ℕ) (b : Bool) → is_some (option_or before (cond b (Some done) None)) ≡ (is_some before || b)
    go None true = refl
    go None false = refl
    go (Some k) b = refl

pub record FirstsSoFar (entries : List Entry) (count done : ℕ) (seen flags : List Bool) : Type 0 where
  pub names : length seen ≡ count
  pub full : length flags ≡ length entries
  pub met : (name : ℕ) → name < count → get_or seen name false ≡ has_before entries done name
  pub first : (k : ℕ) → k < done → get_or flags k false ≡ not (has_before entries k (number_at entries k))

pub firsts_none : (entries : List Entry) (count : ℕ) (seen flags : List Bool) → seen ≡ replicate count false → flags ≡ replicate (length entries) false → FirstsSoFar entries count 0 seen flags
unfolding first_below
firsts_none entries count seen flags none unsaid = record {
  names = ap length none ∙ length-replicate count false;
  full = ap length unsaid ∙ length-replicate (length entries) false;
  met = λ name lt. ap (λ (bs : List Bool). get_or bs name false) none ∙ get_or-replicate count name false false lt;
  first = λ k lt. absurd (omega (arith, lt));
}

pub firsts_more : (entries : List Entry) (count done : ℕ) (seen flags : List Bool) (was : Bool) → FirstsSoFar entries count done seen flags → done < length entries → number_at entries done < count → was ≡ get_or seen (number_at entries done) false → FirstsSoFar entries count (done + 1) (set seen (number_at entries done) true) (set flags done (not was))
firsts_more entries count done seen flags was before lt in_count read =
    let name = number_at entries done in
    record {
      names = length-set seen name true ∙ before.names;
      full = length-set flags done (not was) ∙ before.full;
      met = λ other within. elim (cases_eq other name) [
        | inl same ↦
            ap (λ (n : ℕ). get_or (set seen name true) n false) same
            ∙ get_or-set_same seen name true false (omega (arith, in_count, before.names))
            ∙ sym (has_more entries done other ∙ ap (λ (b : Bool). has_before entries done other || b) (eq-eqb name other (sym same)) ∙ or-true (has_before entries done other))
        | inr apart ↦
            get_or-set_other seen name other true false apart
            ∙ before.met other within
            ∙ sym (has_more entries done other ∙ ap (λ (b : Bool). has_before entries done other || b) (ne_eqb name other (λ e. apart (sym e))) ∙ or-false (has_before entries done other))
      ];
      first = below_more (λ k. get_or (set flags done (not was)) k false ≡ not (has_before entries k (number_at entries k))) done
          (λ k less. get_or-set_other flags done k (not was) false (λ e. absurd (omega (arith, less, e))) ∙ before.first k less)
          (get_or-set_same flags done (not was) false (omega (arith, lt, before.full)) ∙ ap not (read ∙ before.met name in_count));
    }

none_not : (o : Option ℕ) → not (is_some o) ≡ is_none o
none_not None = refl
none_not (Some k) = refl

pub firsts_all : (keys : List (List ℕ)) (modules : List ModuleView) (entries : List Entry) (count done : ℕ) (seen flags : List Bool) → IsDistinct same_name keys → All (KeepsEntry keys modules) entries → FirstsSoFar entries count done seen flags → done ≡ length entries → flags ≡ map (is_first (named_by modules entries)) (range_with_len 0 (length entries))
firsts_all keys modules entries count done seen flags distinct kept are all =
    let named = named_by modules entries in
    ext_get_or false flags (map (is_first named) (range_with_len 0 (length entries))) (are.full ∙ sym (length-map-range_with_len (is_first named) 0 (length entries)))
    (λ k lt.
    let within : k < length entries = omega (arith, lt, are.full) in
    are.first k (omega (arith, within, all))
    ∙ none_not (first_below k (λ j. eqb (number_at entries j) (number_at entries k)))
    ∙ ap is_none (first_below-same k (λ j. eqb (number_at entries j) (number_at entries k)) (λ j. same_name (name_at named j) (name_at named k)) (λ j less.
    sym (same_number keys (number_at entries k) (number_at entries j) (name_at named k) (name_at named j) distinct (numbered_at keys modules entries k kept within) (numbered_at keys modules entries j kept (omega (arith, less, within))))))
    ∙ sym (get_or-map-range_with_len (is_first named) 0 (length entries) k k false within (omega arith)))

-- ---- what the first of a name is

all_any : (modules : List ModuleView) (entries : List Entry) → All (IsSection modules) entries → list_all (λ entry. eqb entry.selection COMDAT_SELECT_ANY) entries ≡ list_all (λ entry. is_any entry.candidate) (named_by modules entries)
all_any modules [] sections = refl
all_any modules (e ∷ es) sections =
    λ i. eqb ((sections 0 no_entry (omega arith)).selection i) COMDAT_SELECT_ANY && all_any modules es (λ k d lt. sections (suc k) d (omega (arith, lt))) i

group_any : (name : List ℕ) (entries : List Named) → list_all (λ entry. is_any entry.candidate) entries ≡ true → are_all_any (group_of entries name) ≡ true
group_any name [] any = refl
group_any name (e ∷ es) any = go (has_name name e) (is_any e.candidate) refl any (group_any name es)
  where
    rest : List Named
    rest = filter (has_name name) es

    go : (b any : Bool) → is_any e.candidate ≡ any → (any && list_all (λ entry. is_any entry.candidate) es) ≡ true → (list_all (λ entry. is_any entry.candidate) es ≡ true → are_all_any (map candidate_of rest) ≡ true) → are_all_any (map candidate_of (cond b (e ∷ rest) rest)) ≡ true
    go b false is others before = absurd cc
    go true true is others before = ap (λ (t : Bool). t && are_all_any (map candidate_of rest)) is ∙ before others
    go false true is others before = before others

-- a group begins with the first section of its name
group_first : (name : List ℕ) (entries : List Named) (k : ℕ) → k < length entries → same_name (name_at entries k) name ≡ true → ((j : ℕ) → j < k → same_name (name_at entries j) name ≡ false) → slice_get (group_of entries name) 0 ≡ Some (candidate_at entries k)
group_first name [] k lt has before = absurd (omega arith)
group_first name (e ∷ es) zero lt has before =
    ap (λ (b : Bool). slice_get (map candidate_of (cond b (e ∷ filter (has_name name) es) (filter (has_name name) es))) 0) has
group_first name (e ∷ es) (suc k) lt has before =
    ap (λ (b : Bool). slice_get (map candidate_of (cond b (e ∷ filter (has_name name) es) (filter (has_name name) es))) 0) (before 0 (omega arith))
    ∙ group_first name es k (omega arith) has (λ j less. before (suc j) (omega (arith, less)))

-- so it is the chosen one
chosen_first : (entries : List Named) (k first : ℕ) → list_all (λ entry. is_any entry.candidate) entries ≡ true → first < length entries → same_name (name_at entries first) (name_at entries k) ≡ true → first_below first (λ j. same_name (name_at entries j) (name_at entries k)) ≡ None → is_selected entries (get_or entries k no_named) ≡ is_same_section (candidate_at entries k) (candidate_at entries first)
chosen_first entries k first any lt has before =
    let name = name_at entries k in
    ap (λ (o : Option Candidate). option_map_or (is_same_section (candidate_at entries k)) o false)
    (ap (option_and_then (slice_get (group_of entries name))) (any_chosen (group_of entries name) (group_any name entries any))
    ∙ group_first name entries first lt has (first_below-none first (λ j. same_name (name_at entries j) name) before))

same_itself : (candidate : Candidate) → is_same_section candidate candidate ≡ true
same_itself candidate =
    λ i. eq-eqb candidate.«module» candidate.«module» refl i && eq-eqb candidate.section candidate.section refl i

-- a section is chosen exactly where it is the first of its name
first_selected : (entries : List Named) (k : ℕ) → list_all (λ entry. is_any entry.candidate) entries ≡ true → AllPairs AreApart entries → k < length entries → is_first entries k ≡ is_selected entries (get_or entries k no_named)
first_selected entries k any apart lt = go (first_below k (λ j. same_name (name_at entries j) (name_at entries k))) refl
  where
    go : (found : Option ℕ) → first_below k (λ j. same_name (name_at entries j) (name_at entries k)) ≡ found → is_none found ≡ is_selected entries (get_or entries k no_named)
    go None e = sym (chosen_first entries k k any lt (same_refl (name_at entries k)) e ∙ same_itself (candidate_at entries k))
    go (Some j) e =
        let h = first_below-some k j (λ i. same_name (name_at entries i) (name_at entries k)) e in
        sym (chosen_first entries k j any (omega (arith, h.0, lt)) h.1.0 h.1.1 ∙ apart j k no_named h.0 lt)

pub firsts_selected : (modules : List ModuleView) (entries : List Entry) (flags : List Bool) → All (IsSection modules) entries → list_all (λ entry. eqb entry.selection COMDAT_SELECT_ANY) entries ≡ true → AllPairs AreApart (named_by modules entries) → flags ≡ map (is_first (named_by modules entries)) (range_with_len 0 (length entries)) → flags ≡ map (is_selected (named_by modules entries)) (named_by modules entries)
firsts_selected modules entries flags sections any apart are =
    let named = named_by modules entries in
    let total : length named ≡ length entries = length-map entries (entry_at modules) in
    are
    ∙ ext_get_or false (map (is_first named) (range_with_len 0 (length entries))) (map (is_selected named) named) (length-map-range_with_len (is_first named) 0 (length entries) ∙ sym (length-map named (is_selected named) ∙ total))
    (λ k less.
    let within : k < length entries = omega (arith, less, length-map-range_with_len (is_first named) 0 (length entries)) in
    let lt : k < length named = omega (arith, within, total) in
    get_or-map-range_with_len (is_first named) 0 (length entries) k k false within (omega arith)
    ∙ first_selected named k (sym (all_any modules entries sections) ∙ any) apart lt
    ∙ sym (get_or-map (is_selected named) named k no_named false lt))

-- and no group conflicts
pub any_accepted : (modules : List ModuleView) (entries : List Entry) → All (IsSection modules) entries → list_all (λ entry. eqb entry.selection COMDAT_SELECT_ANY) entries ≡ true → first_conflict (named_by modules entries) ≡ None
any_accepted modules entries sections any =
    let named = named_by modules entries in
    none_below (length named) (conflict_at named) (λ k lt.
    let name = name_at named k in
    let group = group_of named name in
    ap (option_map (λ place. error.Conflict name (module_in group 0) (module_in group place))) (any_agree group (group_any name named (sym (all_any modules entries sections) ∙ any))))
