-- The first contribution of each module, and the records of modules, one more at a time.
use Rattle.std.proofs.Common.{◌≡◌, ◌≤◌, ℕ, zero, suc, ◌+◌, ◌<◌, Bool, true, false, cond, List, [], ◌∷◌, ◌++◌, length, get_or, take, set, map, Option, Some, None, refl, sym, ap, ◌∙◌, inl, inr, append_assoc, add-one, arith}
use Rattle.std.specs.List.{flat_map, find, range_with_len, enumerate_from}
use Rattle.std.specs.Option.{option_or, is_none, is_some, unwrap_or}
use Rattle.std.proofs.Math.Seq.{take-suc}
use Rattle.std.proofs.lemmas.Bool.{eqb-true, eqb-false, cases_Bool}
use Rattle.std.proofs.lemmas.List.{append-nil, take_all, get_or-set_same, get_or-set_other}
use Rattle.std.proofs.lemmas.List.Folds.{find-append}
use Rattle.std.proofs.lemmas.List.FromFn.{fill_by_all, get_or-map-range_with_len}
use Rattle.link_base.proofs.RefusalLemmas.{or_none}
use Rattle.pdb_dbi.specs.declared.rows.Contribution.{Contribution}
use Rattle.pdb_dbi.specs.declared.rows.ModuleName.{ModuleName}
use Rattle.pdb_dbi.specs.ModuleInfo.{is_of, no_contribution, first_of, module_header, module_text, padded, module_record, module_part}

-- ---- the first contribution of each module

-- of the modules below a number, the first among some contributions
abbrev pub AreFirsts : List (Option Contribution) → List Contribution → ℕ → Type 0
AreFirsts firsts list count = (k : ℕ) → k < count → get_or firsts k None ≡ find (is_of k) list

some_stays : {X : Type 0} (o p : Option X) → is_none o ≡ false → option_or o p ≡ o
some_stays None p e = absurd cc
some_stays (Some x) p e = refl

none_is : {X : Type 0} (o : Option X) → is_none o ≡ true → o ≡ None
none_is None e = refl
none_is (Some x) e = absurd cc

-- what was read is none, or is not
pub none_by : {X : Type 0} (o p : Option X) → o ≡ p → is_some o ≡ false → is_none p ≡ true
none_by None p is none = rw (← is) refl
none_by (Some x) p is none = absurd cc

pub some_by : {X : Type 0} (o p : Option X) → o ≡ p → is_some o ≡ true → is_none p ≡ false
some_by None p is some = absurd cc
some_by (Some x) p is some = rw (← is) refl

-- a contribution more
find_more : (k i : ℕ) (list : List Contribution) (row d : Contribution) → i < length list → row ≡ get_or list i d → find (is_of k) (take (i + 1) list) ≡ option_or (find (is_of k) (take i list)) (cond (is_of k row) (Some row) None)
find_more k i list row d lt is =
    ap (λ (n : ℕ). find (is_of k) (take n list)) (add-one i)
    ∙ ap (find (is_of k)) (take-suc list i d lt)
    ∙ find-append (is_of k) (take i list) (get_or list i d ∷ [])
    ∙ ap (λ (x : Contribution). option_or (find (is_of k) (take i list)) (cond (is_of k x) (Some x) None)) (sym is)

-- it is the first of its module
pub first_noted : (count i : ℕ) (list : List Contribution) (row d : Contribution) (firsts new : List (Option Contribution)) → i < length list → row ≡ get_or list i d → length firsts ≡ count → row.«module» < count → AreFirsts firsts (take i list) count → is_none (get_or firsts row.«module» None) ≡ true → new ≡ set firsts row.«module» (Some row) → AreFirsts new (take (i + 1) list) count
first_noted count i list row d firsts new lt is long below all none noted k inside =
    elim (cases_Bool (is_of k row)) [
      | inl same ↦
          let e : row.«module» ≡ k = eqb-true _ _ same in
          let before : find (is_of k) (take i list) ≡ None = sym (all k inside) ∙ ap (λ (j : ℕ). get_or firsts j None) (sym e) ∙ none_is (get_or firsts row.«module» None) none in
          ap (λ (xs : List (Option Contribution)). get_or xs k None) noted
          ∙ ap (λ (j : ℕ). get_or (set firsts row.«module» (Some row)) j None) (sym e)
          ∙ get_or-set_same firsts row.«module» (Some row) None (omega (arith, long, below))
          ∙ sym (find_more k i list row d lt is ∙ rw (before, same) refl)
      | inr other ↦
          ap (λ (xs : List (Option Contribution)). get_or xs k None) noted
          ∙ get_or-set_other firsts row.«module» k (Some row) None (λ e. differs k row other e)
          ∙ all k inside
          ∙ sym (find_more k i list row d lt is ∙ ap (λ (b : Bool). option_or (find (is_of k) (take i list)) (cond b (Some row) None)) other ∙ or_none (find (is_of k) (take i list)))
    ]
  where
    differs : (j : ℕ) (x : Contribution) → is_of j x ≡ false → j ≡ x.«module» → ⊥
    differs j x fails e = eqb-false _ _ fails (sym e)

-- its module has one already
pub first_stays : (count i : ℕ) (list : List Contribution) (row d : Contribution) (firsts : List (Option Contribution)) → i < length list → row ≡ get_or list i d → AreFirsts firsts (take i list) count → is_none (get_or firsts row.«module» None) ≡ false → AreFirsts firsts (take (i + 1) list) count
first_stays count i list row d firsts lt is all there k inside =
    elim (cases_Bool (is_of k row)) [
      | inl same ↦
          let e : row.«module» ≡ k = eqb-true _ _ same in
          let some : is_none (find (is_of k) (take i list)) ≡ false = ap is_none (sym (all k inside)) ∙ ap (λ (j : ℕ). is_none (get_or firsts j None)) (sym e) ∙ there in
          all k inside ∙ sym (find_more k i list row d lt is ∙ some_stays (find (is_of k) (take i list)) (cond (is_of k row) (Some row) None) some)
      | inr other ↦
          all k inside
          ∙ sym (find_more k i list row d lt is ∙ ap (λ (b : Bool). option_or (find (is_of k) (take i list)) (cond b (Some row) None)) other ∙ or_none (find (is_of k) (take i list)))
    ]

-- all of them were looked at
pub firsts_are : (count i : ℕ) (list : List Contribution) (firsts : List (Option Contribution)) → length list ≤ i → length firsts ≡ count → AreFirsts firsts (take i list) count → firsts ≡ map (λ position. find (is_of position) list) (range_with_len 0 count)
firsts_are count i list firsts past long all =
    fill_by_all (λ position. find (is_of position) list) firsts count None long (λ k lt. all k lt ∙ ap (find (is_of k)) (take_all i list past))

-- ---- the records of modules

record_more : (list : List Contribution) (start : ℕ) (modules : List ModuleName) (i : ℕ) (d : ModuleName) → i < length modules → flat_map (module_record list) (enumerate_from start (take (suc i) modules)) ≡ flat_map (module_record list) (enumerate_from start (take i modules)) ++ module_record list (start + i, get_or modules i d)
record_more list start [] i d lt = absurd (omega (arith, lt))
record_more list start (names ∷ modules) zero d lt =
    let place : start ≡ start + 0 = omega arith in
    append-nil (module_record list (start, names)) ∙ ap (λ (k : ℕ). module_record list (k, names)) place
record_more list start (names ∷ modules) (suc i) d lt =
    let place : start + 1 + i ≡ start + suc i = omega arith in
    ap (λ (rest : List ℕ). module_record list (start, names) ++ rest) (record_more list (start + 1) modules i d (omega (arith, lt)))
    ∙ sym (append_assoc (module_record list (start, names)) (flat_map (module_record list) (enumerate_from (start + 1) (take i modules))) (module_record list (start + 1 + i, get_or modules i d)))
    ∙ ap (λ (k : ℕ). (module_record list (start, names) ++ flat_map (module_record list) (enumerate_from (start + 1) (take i modules))) ++ module_record list (k, get_or modules i d)) place

first_is : (count i : ℕ) (list : List Contribution) (firsts : List (Option Contribution)) → i < count → firsts ≡ map (λ position. find (is_of position) list) (range_with_len 0 count) → unwrap_or (get_or firsts i None) (no_contribution i) ≡ first_of list i
first_is count i list firsts lt are =
    ap (λ (xs : List (Option Contribution)). unwrap_or (get_or xs i None) (no_contribution i)) are
    ∙ ap (λ (o : Option Contribution). unwrap_or o (no_contribution i)) (get_or-map-range_with_len (λ position. find (is_of position) list) 0 count i i None lt (omega arith))

-- a record more, of the module that was read
pub records_grow : (count i : ℕ) (list : List Contribution) (modules : List ModuleName) (firsts : List (Option Contribution)) (first none : Contribution) (noted : Option Contribution) (names : ModuleName) (now after : List ℕ) → i < length modules → count ≡ length modules → firsts ≡ map (λ position. find (is_of position) list) (range_with_len 0 count) → first ≡ unwrap_or noted none → noted ≡ get_or firsts i None → none ≡ no_contribution i → names ≡ get_or modules i names → now ≡ module_part list (take i modules) → after ≡ now ++ (module_header first ++ padded (module_text names)) → after ≡ module_part list (take (i + 1) modules)
unfolding module_record
records_grow count i list modules firsts first none noted names now after lt n are unwrapped read stands is was grown =
    grown
    ∙ ap (λ (xs : List ℕ). xs ++ (module_header first ++ padded (module_text names))) was
    ∙ ap (λ (x : Contribution). module_part list (take i modules) ++ (module_header x ++ padded (module_text names))) (unwrapped ∙ ap (λ (o : Option Contribution). unwrap_or o none) read ∙ ap (unwrap_or (get_or firsts i None)) stands ∙ first_is count i list firsts (omega (arith, lt, n)) are)
    ∙ ap (λ (x : ModuleName). module_part list (take i modules) ++ (module_header (first_of list i) ++ padded (module_text x))) is
    ∙ ap (λ (k : ℕ). module_part list (take i modules) ++ (module_header (first_of list k) ++ padded (module_text (get_or modules i names)))) zero_more
    ∙ sym (record_more list 0 modules i names lt)
    ∙ ap (λ (k : ℕ). module_part list (take k modules)) (sym (add-one i))
  where
    zero_more : i ≡ 0 + i
    zero_more = omega arith
