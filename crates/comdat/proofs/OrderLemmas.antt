-- What is said of the sections of a module whose parents stand before them, in a loop over by what each is chosen.
use Rattle.std.proofs.Common.{◌≡◌, ℕ, ◌+◌, ◌-◌, ◌<◌, ◌≤◌, Bool, true, false, cond, List, ◌∷◌, ◌++◌, length, get_or, set, drop, filter, map, Option, None, Some, refl, sym, ap, subst, ◌∙◌, arith}
use borrow.Author.Count.{below_more}
use Rattle.std.specs.Option.{IfSome}
use Rattle.std.proofs.Math.ListN.{length-set}
use Rattle.std.proofs.lemmas.List.{get_or-set_same, get_or-set_other, length-drop, ext_get_or}
use Rattle.std.proofs.lemmas.List.FromFn.{length-map-range_with_len, get_or-map-range_with_len}
use Rattle.link_base.specs.Bytes.{first_below}
use Rattle.coff_records.specs.ObjectFile.{section_total}
use Rattle.coff_aux.specs.Comdats.{comdat_of, parents_of}
use Rattle.coff_aux.specs.Parents.{parent_at, comes_back}
use Rattle.comdat.specs.declared.chosen_by.ChosenBy.{ChosenBy}
use Rattle.comdat.specs.declared.chosen_by.ChosenBy.TheVariants as by
use Rattle.comdat.specs.ChosenBy.{is_group, parent_by, chosen_by}
use Rattle.comdat.specs.Chains.{chain_end}
use Rattle.comdat.specs.Selection.{goes_by_name, is_free, sections_of, named_sections, own_flag}
use Rattle.comdat.proofs.ChainLemmas.{DoEnd, end_here, end_above}
use Rattle.comdat.proofs.OpenedLemmas.{parents_are, parent_count}
use Rattle.comdat.proofs.RowLemmas.{left, left_all, left_next, left_none, group_count, count_all, count_next, IsHere, is_here}
use Rattle.comdat.proofs.RowEndLemmas.{list_length, is_number, parent_is}

-- what is said of a section
abbrev pub said_of : (ℕ → Bool) → List ℕ → ℕ → Bool
said_of chosen bytes section = own_flag chosen bytes (chain_end (parents_of bytes) section)

-- what is said of the first sections
pub record SaidOf (chosen : ℕ → Bool) (bytes : List ℕ) (later rest flags : List Bool) (done : ℕ) : Type 0 where
  pub said : (k : ℕ) → k < done → get_or flags k false ≡ said_of chosen bytes (k + 1)
  pub behind : rest ≡ map chosen (left bytes (section_total bytes) done) ++ later

pub record OrderSoFar (row : List ChosenBy) (selected rest flags : List Bool) (done : ℕ) : Type 0 where
  pub full : length flags ≡ length row
  pub room : group_count row done ≤ length rest
  pub told : (bytes : List ℕ) (chosen : ℕ → Bool) (later : List Bool)
      → row ≡ map (chosen_by bytes) (sections_of bytes)
      → first_below (length (parents_of bytes)) (comes_back (parents_of bytes)) ≡ None
      → selected ≡ map chosen (named_sections bytes) ++ later
      → SaidOf chosen bytes later rest flags done

pub order_none : (row : List ChosenBy) (selected flags : List Bool) → length (filter is_group row) ≤ length selected → length flags ≡ length row → OrderSoFar row selected selected flags 0
order_none row selected flags room full = record {
  full = full;
  room = omega (arith, room, count_all row);
  told = λ bytes chosen later is ends e. record {
    said = λ k lt. absurd (omega (arith, lt));
    behind = e ∙ ap (λ (s : List ℕ). map chosen s ++ later) (sym (left_all bytes));
  };
}

-- one flag more
flags_set : (f : ℕ → Bool) (flags : List Bool) (done : ℕ) (flag : Bool) → done < length flags → ((k : ℕ) → k < done → get_or flags k false ≡ f (k + 1)) → flag ≡ f (done + 1) → (k : ℕ) → k < done + 1 → get_or (set flags done flag) k false ≡ f (k + 1)
flags_set f flags done flag within before is =
    below_more (λ k. get_or (set flags done flag) k false ≡ f (k + 1)) done
    (λ k lt. get_or-set_other flags done k flag false (λ e. absurd (omega (arith, lt, e))) ∙ before k lt)
    (get_or-set_same flags done flag false within ∙ is)

-- the parent of the section at a place of the list
parent_here : (row : List ChosenBy) (done : ℕ) (here : ChosenBy) (bytes : List ℕ) → IsHere row done here bytes → parent_at (parents_of bytes) (done + 1) ≡ parent_by (section_total bytes) here
parent_here row done here bytes at =
    parent_is bytes (done + 1) (omega arith) (omega (arith, at.within)) ∙ ap (parent_by (section_total bytes)) (sym at.said)

-- what is said of one without a parent
said_own : (row : List ChosenBy) (done : ℕ) (here : ChosenBy) (bytes : List ℕ) (chosen : ℕ → Bool) → IsHere row done here bytes → parent_by (section_total bytes) here ≡ 0 → said_of chosen bytes (done + 1) ≡ own_flag chosen bytes (done + 1)
said_own row done here bytes chosen at none =
    ap (own_flag chosen bytes) (end_here (parents_of bytes) (done + 1) (omega (arith, at.within, parent_count bytes)) (parent_here row done here bytes at ∙ none))

-- one that is chosen in any case
pub order_itself : (row : List ChosenBy) (selected rest flags : List Bool) (done : ℕ) → OrderSoFar row selected rest flags done → done < length row → by.Itself ≡ get_or row done by.Itself → OrderSoFar row selected rest (set flags done true) (done + 1)
order_itself row selected rest flags done before lt is = record {
  full = length-set flags done true ∙ before.full;
  room = omega (arith, before.room, count_next row done by.Itself false lt is refl);
  told = λ bytes chosen later all ends e.
      let at = is_here row done by.Itself bytes lt is all in
      let was = before.told bytes chosen later all ends e in
      let goes : goes_by_name bytes (done + 1) ≡ false = sym at.group in
      let own : own_flag chosen bytes (done + 1) ≡ true =
      ap (λ (b : Bool). cond b (chosen (done + 1)) (is_free (comdat_of bytes (done + 1)))) goes ∙ sym at.itself in
      record {
        said = flags_set (said_of chosen bytes) flags done true (omega (arith, lt, before.full)) was.said (sym (said_own row done by.Itself bytes chosen at refl ∙ own));
        behind = was.behind ∙ ap (λ (s : List ℕ). map chosen s ++ later) (left_next bytes (section_total bytes) done false at.within goes);
      };
}

-- one that goes by a name
pub order_group : (row : List ChosenBy) (selected rest rest' flags : List Bool) (done : ℕ) → OrderSoFar row selected rest flags done → done < length row → by.Group ≡ get_or row done by.Itself → rest' ≡ drop 1 rest → OrderSoFar row selected rest' (set flags done (get_or rest 0 false)) (done + 1)
order_group row selected rest rest' flags done before lt is after = record {
  full = length-set flags done (get_or rest 0 false) ∙ before.full;
  room = omega (arith, before.room, count_next row done by.Group true lt is refl, ap length after, length-drop 1 rest);
  told = λ bytes chosen later all ends e.
      let at = is_here row done by.Group bytes lt is all in
      let was = before.told bytes chosen later all ends e in
      let goes : goes_by_name bytes (done + 1) ≡ true = sym at.group in
      let there : rest ≡ chosen (done + 1) ∷ (map chosen (left bytes (section_total bytes) (done + 1)) ++ later) =
      was.behind ∙ ap (λ (s : List ℕ). map chosen s ++ later) (left_next bytes (section_total bytes) done true at.within goes) in
      let own : own_flag chosen bytes (done + 1) ≡ chosen (done + 1) =
      ap (λ (b : Bool). cond b (chosen (done + 1)) (is_free (comdat_of bytes (done + 1)))) goes in
      record {
        said = flags_set (said_of chosen bytes) flags done (get_or rest 0 false) (omega (arith, lt, before.full)) was.said
            (ap (λ (r : List Bool). get_or r 0 false) there ∙ sym (said_own row done by.Group bytes chosen at refl ∙ own));
        behind = after ∙ ap (drop 1) there;
      };
}

-- one whose parent stands before
pub order_child : (row : List ChosenBy) (selected rest flags : List Bool) (done parent : ℕ) → OrderSoFar row selected rest flags done → done < length row → by.Parent parent ≡ get_or row done by.Itself → 0 < parent → parent ≤ done → OrderSoFar row selected rest (set flags done (get_or flags (parent - 1) false)) (done + 1)
order_child row selected rest flags done parent before lt is some le =
    let flag = get_or flags (parent - 1) false in
    record {
      full = length-set flags done flag ∙ before.full;
      room = omega (arith, before.room, count_next row done (by.Parent parent) false lt is refl);
      told = λ bytes chosen later all ends e.
          let at = is_here row done (by.Parent parent) bytes lt is all in
          let was = before.told bytes chosen later all ends e in
          let goes : goes_by_name bytes (done + 1) ≡ false = sym at.group in
          let are : DoEnd (parents_of bytes) = record { are = parents_are bytes; ends = ends } in
          let its : parent_at (parents_of bytes) (done + 1) ≡ parent =
          parent_here row done (by.Parent parent) bytes at
          ∙ ap (λ (b : Bool). cond b parent 0) (is_number (section_total bytes) parent (omega (arith, some)) (omega (arith, le, at.within))) in
          let above : chain_end (parents_of bytes) (done + 1) ≡ chain_end (parents_of bytes) parent =
          end_above (parents_of bytes) (done + 1) are (omega arith) (omega (arith, at.within, parent_count bytes)) (subst (λ (n : ℕ). 0 < n) (sym its) some)
          ∙ ap (chain_end (parents_of bytes)) its in
          let place : parent - 1 + 1 ≡ parent = omega (arith, some) in
          record {
            said = flags_set (said_of chosen bytes) flags done flag (omega (arith, lt, before.full)) was.said
                (was.said (parent - 1) (omega (arith, some, le)) ∙ ap (said_of chosen bytes) place ∙ ap (own_flag chosen bytes) (sym above));
            behind = was.behind ∙ ap (λ (s : List ℕ). map chosen s ++ later) (left_next bytes (section_total bytes) done false at.within goes);
          };
    }

-- all sections were seen
pub order_all : (row : List ChosenBy) (selected rest flags : List Bool) (done : ℕ) (bytes : List ℕ) (chosen : ℕ → Bool) (later : List Bool) → OrderSoFar row selected rest flags done → done ≡ length row → row ≡ map (chosen_by bytes) (sections_of bytes) → first_below (length (parents_of bytes)) (comes_back (parents_of bytes)) ≡ None → selected ≡ map chosen (named_sections bytes) ++ later → (flags ≡ map (said_of chosen bytes) (sections_of bytes)) × (rest ≡ later)
order_all row selected rest flags done bytes chosen later is end all ends e =
    let told = is.told bytes chosen later all ends e in
    let total : done ≡ section_total bytes = end ∙ list_length bytes row all in (
      ext_get_or false flags (map (said_of chosen bytes) (sections_of bytes)) (is.full ∙ list_length bytes row all ∙ sym (length-map-range_with_len (said_of chosen bytes) 1 (section_total bytes)))
          (λ k lt.
          let within : k < section_total bytes = omega (arith, lt, is.full, list_length bytes row all) in
          told.said k (omega (arith, within, total))
          ∙ sym (get_or-map-range_with_len (said_of chosen bytes) 1 (section_total bytes) k (k + 1) false within (omega arith))),
      told.behind ∙ ap (λ (s : List ℕ). map chosen s ++ later) (left_none bytes (section_total bytes) done (omega (arith, total))),
    )

-- the next section has an entry
pub order_next : (row : List ChosenBy) (selected rest flags : List Bool) (done : ℕ) → OrderSoFar row selected rest flags done → done < length row → by.Group ≡ get_or row done by.Itself → 0 < length rest
order_next row selected rest flags done before lt is = omega (arith, before.room, count_next row done by.Group true lt is refl)

-- what is said of the content of an option that has one
pub if_some : {A : Type 0} {o : Option A} {x : A} (P : A → Type 0) → o ≡ Some x → IfSome o P → P x
if_some {A} P e h = subst (λ (o : Option A). IfSome o P) e h
