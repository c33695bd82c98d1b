-- The choices of groups, in a loop over their numbers.
use Rattle.std.proofs.Common.{◌≡◌, ℕ, zero, suc, ◌+◌, ◌<◌, Bool, true, false, cond, List, [], ◌∷◌, ◌++◌, length, get_or, filter, map, Vec, Option, None, Some, sym, ap, ◌∙◌, subst, eq-eqb, length-append, arith}
use Rattle.std.specs.Prelude.{option_map, option_and_then, slice_get}
use Rattle.std.specs.List.{All}
use Rattle.std.specs.Option.{option_map_or}
use Rattle.std.specs.declared.alloc.Global.{Global}
use borrow.Author.Count.{below_more}
use Rattle.std.proofs.lemmas.List.{get_or_append_left, get_or_push, get_or_read, get_or-map, length-map}
use Rattle.std.proofs.lemmas.Option.{slice_get-get_or}
use Rattle.link_base.specs.NameText.{same_name}
use Rattle.link_base.proofs.RefusalLemmas.{first_refusal_below-found, none_below}
use Rattle.link_base.proofs.NameTextLemmas.{same_is, same_refl}
use Rattle.module_view.specs.Module.{ModuleView}
use Rattle.comdat.specs.declared.candidate.Candidate.{Candidate}
use Rattle.comdat.specs.declared.error.ChooseError.{ChooseError}
use Rattle.comdat.specs.declared.error.ChooseError.TheVariants as error
use Rattle.comdat.specs.declared.entry.Entry.{Entry}
use Rattle.comdat.specs.Choice.{no_candidate, chosen_place, conflict_place}
use Rattle.comdat.specs.Groups.{Named, no_named, name_at, has_name, candidate_of, group_of, chosen_of, is_same_section, is_selected, module_in, conflict_in, conflict_at, first_conflict, RefusesChoice}
use Rattle.comdat.specs.Entries.{no_entry, entry_at, named_by}
use Rattle.comdat.specs.Numbering.{AreNumbers, AreLists, AreWinners, places_of, candidate_at, candidates_at}
use Rattle.comdat.proofs.ChoiceLemmas.{place_within}
use Rattle.comdat.proofs.EntryLemmas.{named_at}
use Rattle.comdat.proofs.ListLemmas.{places_are, list_is_group}

-- ---- the group of a section

-- it is not empty
pub group_some : (name : List ℕ) (entries : List Named) (k : ℕ) → k < length entries → same_name (name_at entries k) name ≡ true → 0 < length (group_of entries name)
group_some name [] k lt same = absurd (omega arith)
group_some name (e ∷ es) zero lt same =
    subst (λ (b : Bool). 0 < length (map candidate_of (cond b (e ∷ filter (has_name name) es) (filter (has_name name) es)))) (sym same) (omega arith)
group_some name (e ∷ es) (suc k) lt same = go (same_name e.name name) (group_some name es k (omega arith) same)
  where
    go : (b : Bool) → 0 < length (group_of es name) → 0 < length (map candidate_of (cond b (e ∷ filter (has_name name) es) (filter (has_name name) es)))
    go true some = omega arith
    go false some = some

-- the name of a section is that of the first of its group
pub name_of_first : (entries : List Named) (numbers firsts : List ℕ) (k : ℕ) → AreNumbers entries numbers firsts → k < length entries → name_at entries k ≡ name_at entries (get_or firsts (get_or numbers k 0) 0)
name_of_first entries numbers firsts k are lt =
    let number = get_or numbers k 0 in
    let is = are.first number (are.within k lt) in
    let first = get_or firsts number 0 in
    let within : first < length entries = omega (arith, is.within, are.same_length) in
    same_is (name_at entries k) (name_at entries first) (sym (are.alike k first lt within) ∙ eq-eqb number (get_or numbers first 0) (sym is.has))

-- ---- choices

-- where a list chooses a place of its own, that is the place of the chosen one
pub chosen_at : (entries : List Named) (places : List ℕ) (place : ℕ) → 0 < length places → chosen_place (candidates_at entries places) ≡ Some place → (place < length places) × (chosen_of (candidates_at entries places) ≡ Some (candidate_at entries (get_or places place 0)))
chosen_at entries places place some chosen =
    let list = candidates_at entries places in
    let total : length list ≡ length places = length-map places (candidate_at entries) in
    let within : place < length list = place_within list place (omega (arith, total, some)) chosen in (
      omega (arith, total, within),
      ap (option_and_then (slice_get list)) chosen
          ∙ slice_get-get_or list place no_candidate within
          ∙ ap Some (get_or-map (candidate_at entries) places place 0 no_candidate (omega (arith, total, within))),
    )

pub record AreWinnersOf (entries : List Named) (firsts : List ℕ) (done : ℕ) (winners : List ℕ) : Type 0 where
  pub same_length : length winners ≡ done
  pub each : (number : ℕ) → number < done → chosen_of (group_of entries (name_at entries (get_or firsts number 0))) ≡ Some (candidate_at entries (get_or winners number 0))
  pub agreed : (number : ℕ) → number < done → conflict_at entries (get_or firsts number 0) ≡ None

pub winners_more : (entries : List Named) (firsts : List ℕ) (done : ℕ) (winners more : List ℕ) (list : List Candidate) (winner : ℕ) → AreWinnersOf entries firsts done winners → list ≡ group_of entries (name_at entries (get_or firsts done 0)) → chosen_of list ≡ Some (candidate_at entries winner) → conflict_place list ≡ None → more ≡ winners ++ winner ∷ [] → AreWinnersOf entries firsts (done + 1) more
winners_more entries firsts done winners more list winner are is chosen agreed pushed =
    subst (AreWinnersOf entries firsts (done + 1)) (sym pushed)
    (record {
      same_length = omega (arith, length-append winners (winner ∷ []), are.same_length);
      each = below_more (λ n. chosen_of (group_of entries (name_at entries (get_or firsts n 0))) ≡ Some (candidate_at entries (get_or (winners ++ winner ∷ []) n 0))) done
          (λ n lt. are.each n lt ∙ ap (λ (k : ℕ). Some (candidate_at entries k)) (sym (get_or_append_left winners (winner ∷ []) 0 n (omega (arith, are.same_length)))))
          (ap chosen_of (sym is) ∙ chosen ∙ ap (λ (k : ℕ). Some (candidate_at entries k)) (sym (get_or_push winners winner 0 done are.same_length)));
      agreed = below_more (λ n. conflict_at entries (get_or firsts n 0) ≡ None) done are.agreed
          (let first = get_or firsts done 0 in
          ap (conflict_in (name_at entries first)) (sym is) ∙ ap (option_map (λ at. error.Conflict (name_at entries first) (module_in list 0) (module_in list at))) agreed);
    })

-- ---- conflicts

same_conflict : (entries : List Named) (numbers firsts : List ℕ) (k : ℕ) → AreNumbers entries numbers firsts → k < length entries → conflict_at entries k ≡ conflict_at entries (get_or firsts (get_or numbers k 0) 0)
same_conflict entries numbers firsts k are lt =
    ap (λ (name : List ℕ). conflict_in name (group_of entries name)) (name_of_first entries numbers firsts k are lt)

-- no group conflicts
pub none_conflicts : (entries : List Named) (numbers firsts : List ℕ) (done : ℕ) (winners : List ℕ) → AreNumbers entries numbers firsts → AreWinnersOf entries firsts done winners → done ≡ length firsts → first_conflict entries ≡ None
none_conflicts entries numbers firsts done winners are won all =
    none_below (length entries) (conflict_at entries) (λ k lt. same_conflict entries numbers firsts k are lt ∙ won.agreed (get_or numbers k 0) (omega (arith, are.within k lt, all)))

-- a group conflicts, and none before it
pub conflict_told : (entries : List Named) (numbers firsts : List ℕ) (number : ℕ) (winners : List ℕ) (told : ChooseError) → AreNumbers entries numbers firsts → AreWinnersOf entries firsts number winners → number < length firsts → conflict_at entries (get_or firsts number 0) ≡ Some told → first_conflict entries ≡ Some told
conflict_told entries numbers firsts number winners told are won lt e =
    let first = get_or firsts number 0 in
    let of_first = are.first number lt in
    first_refusal_below-found first (length entries) (conflict_at entries) told (omega (arith, of_first.within, are.same_length))
    (none_below first (conflict_at entries) (λ k before.
    let in_k : k < length entries = omega (arith, before, of_first.within, are.same_length) in
    same_conflict entries numbers firsts k are in_k ∙ won.agreed (get_or numbers k 0) (of_first.before k before)))
    e

-- ---- in a loop over the numbers of groups

-- the places of a number are those of the group of its first section, and not empty
pub record IsList (entries : List Named) (firsts : List ℕ) (number : ℕ) (places : List ℕ) : Type 0 where
  pub lt : number < length firsts
  pub within : All (λ k. k < length entries) places
  pub some : 0 < length places
  pub is : candidates_at entries places ≡ group_of entries (name_at entries (get_or firsts number 0))
  pub named : name_at entries (get_or places 0 0) ≡ name_at entries (get_or firsts number 0)

pub list_at : (entries : List Named) (numbers firsts : List ℕ) (number : ℕ) (lists : List (Vec ℕ Global)) (v : Vec ℕ Global) (places : List ℕ) → AreNumbers entries numbers firsts → AreLists numbers (length numbers) (length firsts) lists → number < length lists → v ≡ get_or lists number v → places ≡ v.items → IsList entries firsts number places
list_at entries numbers firsts number lists v places are listed in_lists is_v same =
    let lt : number < length firsts = omega (arith, in_lists, listed.same_length) in
    subst (IsList entries firsts number) (sym (same ∙ ap (λ (w : Vec ℕ Global). w.items) is_v ∙ listed.each number v lt)) (of_number lt)
  where
    of_number : number < length firsts → IsList entries firsts number (places_of numbers (length numbers) number)
    of_number lt =
        let of_first = are.first number lt in
        let first = get_or firsts number 0 in
        let within : first < length entries = omega (arith, of_first.within, are.same_length) in
        let those = places_of numbers (length numbers) number in
        let have = places_are numbers (length numbers) number in
        let is = list_is_group entries numbers firsts number first are within of_first.has in
        let some : 0 < length those = omega (arith, length-map those (candidate_at entries), ap length is, group_some (name_at entries first) entries first within (same_refl (name_at entries first))) in
        let one = have 0 0 some in
        let in_entries : get_or those 0 0 < length entries = omega (arith, one.within, are.same_length) in
        record {
          lt = lt;
          within = λ k d less. let here = have k d less in omega (arith, here.within, are.same_length);
          some = some;
          is = is;
          named = name_of_first entries numbers firsts (get_or those 0 0) are in_entries ∙ ap (λ (n : ℕ). name_at entries (get_or firsts n 0)) one.has;
        }

-- the refusal of a group is that of all
pub refused_at : (entries : List Named) (numbers firsts : List ℕ) (number : ℕ) (winners places : List ℕ) (told : ChooseError) → AreNumbers entries numbers firsts → AreWinnersOf entries firsts number winners → IsList entries firsts number places → RefusesChoice (conflict_in (name_at entries (get_or places 0 0)) (candidates_at entries places)) told → RefusesChoice (first_conflict entries) told
refused_at entries numbers firsts number winners places (error.Conflict name first second) are won list refused =
    conflict_told entries numbers firsts number winners (error.Conflict name first second) are won list.lt (sym (λ i. conflict_in (list.named i) (list.is i)) ∙ refused)
refused_at entries numbers firsts number winners places error.Memory are won list refused = tt

-- ---- flags

-- what is told of a section by the chosen one of its group
pub selected_by : (entries : List Named) (numbers firsts winners : List ℕ) (k : ℕ) → AreNumbers entries numbers firsts → AreWinners entries firsts winners → k < length entries → is_selected entries (get_or entries k no_named) ≡ is_same_section (get_or entries k no_named).candidate (candidate_at entries (get_or winners (get_or numbers k 0) 0))
selected_by entries numbers firsts winners k are won lt =
    let entry = get_or entries k no_named in
    ap (λ (o : Option Candidate). option_map_or (is_same_section entry.candidate) o false)
    (ap (λ (name : List ℕ). chosen_of (group_of entries name)) (name_of_first entries numbers firsts k are lt) ∙ won.each (get_or numbers k 0) (are.within k lt))

-- each section has a winner
pub winner_within : (entries : List Named) (numbers firsts winners : List ℕ) (k at : ℕ) → AreNumbers entries numbers firsts → AreWinners entries firsts winners → k < length entries → at ≡ get_or numbers k at → at < length winners
winner_within entries numbers firsts winners k at are won lt is_at =
    let number : at ≡ get_or numbers k 0 = get_or_read numbers k at (omega (arith, are.same_length)) is_at 0 in
    subst (λ (n : ℕ). n < length winners) (sym number) (omega (arith, are.within k lt, won.same_length))

pub flag_is : (modules : List ModuleView) (entries : List Entry) (numbers firsts winners : List ℕ) (k at winner : ℕ) (flag : Bool) → AreNumbers (named_by modules entries) numbers firsts → AreWinners (named_by modules entries) firsts winners → k < length entries → winner < length entries → at ≡ get_or numbers k at → winner ≡ get_or winners at winner → flag ≡ is_same_section (entry_at modules (get_or entries k no_entry)).candidate (entry_at modules (get_or entries winner no_entry)).candidate → flag ≡ is_selected (named_by modules entries) (entry_at modules (get_or entries k no_entry))
flag_is modules entries numbers firsts winners k at winner flag are won lt in_entries is_at is_winner is =
    let named = named_by modules entries in
    let in_named : k < length named = omega (arith, lt, length-map entries (entry_at modules)) in
    let number : at ≡ get_or numbers k 0 = get_or_read numbers k at (omega (arith, in_named, are.same_length)) is_at 0 in
    let best : winner ≡ get_or winners (get_or numbers k 0) 0 =
    get_or_read winners at winner (winner_within named numbers firsts winners k at are won in_named is_at) is_winner 0 ∙ ap (λ (n : ℕ). get_or winners n 0) number in
    is
    ∙ (λ i. is_same_section (sym (named_at modules entries k lt) i).candidate (sym (named_at modules entries winner in_entries) i).candidate)
    ∙ ap (λ (n : ℕ). is_same_section (get_or named k no_named).candidate (candidate_at named n)) best
    ∙ sym (selected_by named numbers firsts winners k are won in_named)
    ∙ ap (is_selected named) (named_at modules entries k lt)
