-- One more common: the greatest of its name.
use Rattle.std.proofs.Common.{◌≡◌, ℕ, ◌<◌, Bool, true, false, cond, nat_eq, nat_lt, List, [], ◌∷◌, ◌++◌, length, map, get_or, replicate, Option, Some, None, inl, inr, refl, sym, ap, subst, ◌∙◌, eqb-true, arith}
use Rattle.std.proofs.Math.Bool.{and-true}
use Rattle.std.proofs.Math.ListN.{set}
use Rattle.std.specs.Prelude.{option_map, filter, nat_le, is_some, ◌&&◌}
use Rattle.std.specs.Option.{option_or}
use Rattle.std.specs.List.{find, list_all, list_any, All, AllZip, IsDistinct}
use Rattle.std.proofs.lemmas.Bool.{true≢false, ltb-true, ltb-false, le-leb, leb-true, lt-leb, and_from, and_left, and_right, cases_lt, and_parts}
use Rattle.std.proofs.lemmas.Option.{same_Some}
use Rattle.std.proofs.lemmas.List.{length-replicate, append-nil}
use Rattle.std.proofs.lemmas.List.Folds.{find-append, list_all-append}
use Rattle.link_base.specs.NameText.{same_name}
use Rattle.module_view.specs.declared.definition.Common.{Common}
use Rattle.symbol_names.specs.declared.noted.NotedCommon.{NotedCommon}
use Rattle.symbol_table.specs.declared.greatest.GreatestCommon.{GreatestCommon}
use Rattle.symbol_names.specs.Lists.{Offered, offered, offered_by, all_commons, offers}
use Rattle.symbol_names.specs.Kept.{noted_view}
use Rattle.symbol_names.specs.declared.noted.ModuleNames.{ModuleNames}
use Rattle.module_view.specs.SymbolLists.{commons_of}
use Rattle.symbol_table.specs.Resolution.{is_at_most, is_greatest, greatest_of}
use Rattle.symbol_names.specs.Interning.{Numbers, NotesCommon, NotesModule}
use Rattle.symbol_table.specs.Passes.{common_kept, is_greater, has_commons, TellsGreatest, AreGreatest}
use Rattle.symbol_names.proofs.NumberLemmas.{number_within, same_number, zip_at, zip_length}
use Rattle.symbol_table.proofs.PassLemmas.{none_at, filter_last, Changed, changed_set, changed_not, none_of_all, zip_none, none_kept, any_false, noted_at}

-- ---- what is found in a list

find_passes : {A : Type 0} (p : A → Bool) (xs : List A) (x : A) → find p xs ≡ Some x → p x ≡ true
find_passes p [] x e = absurd cc
find_passes {A} p (y ∷ ys) x e = go (p y) refl e (λ later. find_passes p ys x later)
  where
    go : (b : Bool) → p y ≡ b → cond b (Some y) (find p ys) ≡ Some x → (find p ys ≡ Some x → p x ≡ true) → p x ≡ true
    go true h e later = ap p (sym (same_Some y x e)) ∙ h
    go false h e later = later e

find_same : {A : Type 0} (p q : A → Bool) (xs : List A) → ((y : A) → p y ≡ q y) → find p xs ≡ find q xs
find_same p q [] same = refl
find_same {A} p q (y ∷ ys) same =
    ap (λ (b : Bool). cond b (Some y) (find p ys)) (same y) ∙ ap (λ (o : Option A). cond (q y) (Some y) o) (find_same p q ys same)

find_both : {A : Type 0} (p q : A → Bool) (xs : List A) (x : A) → find p xs ≡ Some x → q x ≡ true → find (λ y. p y && q y) xs ≡ Some x
find_both p q [] x e h = absurd cc
find_both {A} p q (y ∷ ys) x e h = go (p y) refl e (λ later. find_both p q ys x later h)
  where
    rest : Option A
    rest = find (λ z. p z && q z) ys

    go : (b : Bool) → p y ≡ b → cond b (Some y) (find p ys) ≡ Some x → (find p ys ≡ Some x → rest ≡ Some x) → cond (p y && q y) (Some y) rest ≡ Some x
    go true at e later =
        let same : y ≡ x = same_Some y x e in
        ap (λ (b : Bool). cond b (Some y) rest) (and_from (p y) (q y) at (ap q same ∙ h)) ∙ ap Some same
    go false at e later = ap (λ (b : Bool). cond b (Some y) rest) (and_left (p y) (q y) at) ∙ later e

find_neither : {A : Type 0} (p q r : A → Bool) (xs : List A) → list_all r xs ≡ true → ((y : A) → r y ≡ true → q y ≡ false) → find (λ y. p y && q y) xs ≡ None
find_neither p q r [] all fails = refl
find_neither {A} p q r (y ∷ ys) all fails =
    let both = and_parts (r y) (list_all r ys) all in
    ap (λ (b : Bool). cond b (Some y) (find (λ z. p z && q z) ys)) (and_right (p y) (q y) (fails y both.0)) ∙ find_neither p q r ys both.1 fails

all_from : {A : Type 0} (p q : A → Bool) (xs : List A) → ((y : A) → p y ≡ true → q y ≡ true) → list_all p xs ≡ true → list_all q xs ≡ true
all_from p q [] to all = refl
all_from p q (y ∷ ys) to all =
    let both = and_parts (p y) (list_all p ys) all in
    and_from (q y) (list_all q ys) (to y both.0) (all_from p q ys to both.1)

some_after : {A : Type 0} (p : A → Bool) (x : A) (xs : List A) → is_some (find p xs) ≡ true → is_some (find p (x ∷ xs)) ≡ true
some_after {A} p x xs some = go (p x)
  where
    go : (b : Bool) → is_some (cond b (Some x) (find p xs)) ≡ true
    go true = refl
    go false = some

-- ---- the greatest of a list

at_most_itself : (e : Offered) → is_at_most e.common.size e ≡ true
at_most_itself e = le-leb e.common.size e.common.size (omega arith)

-- of several there is one
greatest_in : (x : Offered) (xs : List Offered) → (g : Offered) × (list_all (is_at_most g.common.size) (x ∷ xs) ≡ true) × ((p : Offered → Bool) → p g ≡ true → is_some (find p (x ∷ xs)) ≡ true)
greatest_in x [] = (
  x,
  and_from (is_at_most x.common.size x) true (at_most_itself x) refl,
  λ p h. ap (λ (b : Bool). is_some (cond b (Some x) None)) h,
)
greatest_in x (y ∷ ys) =
    let rest = greatest_in y ys in
    let g = rest.0 in
    elim (cases_lt g.common.size x.common.size) [
      | inl lt ↦ (
        x,
        and_from (is_at_most x.common.size x) (list_all (is_at_most x.common.size) (y ∷ ys)) (at_most_itself x) (all_from (is_at_most g.common.size) (is_at_most x.common.size) (y ∷ ys) (λ z h. le-leb z.common.size x.common.size (omega (arith, lt, leb-true z.common.size g.common.size h))) rest.1),
        λ p h. ap (λ (b : Bool). is_some (cond b (Some x) (find p (y ∷ ys)))) h,
      )
      | inr le ↦ (
        g,
        and_from (is_at_most g.common.size x) (list_all (is_at_most g.common.size) (y ∷ ys)) (le-leb x.common.size g.common.size le) rest.1,
        λ p h. some_after p x (y ∷ ys) (rest.2 p h),
      )
    ]

abbrev greater_of : Option Offered → Offered → Option Offered
greater_of None e = Some e
greater_of (Some g) e = cond (nat_lt g.common.size e.common.size) (Some e) (Some g)

-- of one more
pub greatest_push : (xs : List Offered) (e : Offered) → greatest_of (xs ++ e ∷ []) ≡ greater_of (greatest_of xs) e
greatest_push [] e =
    ap (λ (b : Bool). cond b (Some e) None) (and_from (is_at_most e.common.size e) true (at_most_itself e) refl)
greatest_push (x ∷ rest) e =
    find-append test xs (e ∷ [])
    ∙ ap (λ (o : Option Offered). option_or o (find test (e ∷ []))) (find_same test both xs same_test)
    ∙ go (greatest_of xs) refl
  where
    xs : List Offered
    xs = x ∷ rest

    test : Offered → Bool
    test = is_greatest (xs ++ e ∷ [])

    reaches : Offered → Bool
    reaches y = nat_le e.common.size y.common.size

    both : Offered → Bool
    both y = is_greatest xs y && reaches y

    same_test : (y : Offered) → test y ≡ both y
    same_test y = list_all-append (is_at_most y.common.size) xs (e ∷ []) ∙ ap (λ (b : Bool). is_greatest xs y && b) (and-true (reaches y))

    size_case : (g : Offered) → greatest_of xs ≡ Some g → (b : Bool) → nat_lt g.common.size e.common.size ≡ b → option_or (find both xs) (find test (e ∷ [])) ≡ cond b (Some e) (Some g)
    size_case g is true lt =
        let most : is_greatest xs g ≡ true = find_passes (is_greatest xs) xs g is in
        let less : g.common.size < e.common.size = ltb-true g.common.size e.common.size lt in
        ap (λ (o : Option Offered). option_or o (find test (e ∷ []))) (find_neither (is_greatest xs) reaches (is_at_most g.common.size) xs most (λ y h. lt-leb e.common.size y.common.size (omega (arith, less, leb-true y.common.size g.common.size h))))
        ∙ ap (λ (b : Bool). cond b (Some e) None)
        (same_test e ∙ and_from (is_greatest xs e) (reaches e) (all_from (is_at_most g.common.size) (is_at_most e.common.size) xs (λ y h. le-leb y.common.size e.common.size (omega (arith, less, leb-true y.common.size g.common.size h))) most) (at_most_itself e))
    size_case g is false lt =
        ap (λ (o : Option Offered). option_or o (find test (e ∷ []))) (find_both (is_greatest xs) reaches xs g is (le-leb e.common.size g.common.size (ltb-false g.common.size e.common.size lt)))

    go : (o : Option Offered) → greatest_of xs ≡ o → option_or (find both xs) (find test (e ∷ [])) ≡ greater_of o e
    go None is =
        let top = greatest_in x rest in
        absurd (true≢false (sym (top.2 (is_greatest xs) top.1) ∙ ap is_some is))
    go (Some g) is = size_case g is (nat_lt g.common.size e.common.size) refl

-- ---- names

kept_greater : (o : Option Offered) (entry : Offered) → cond (is_greater entry.common.size (option_map common_kept o)) (Some (common_kept entry)) (option_map common_kept o) ≡ option_map common_kept (greater_of o entry)
kept_greater None entry = refl
kept_greater (Some g) entry = go (nat_lt g.common.size entry.common.size)
  where
    go : (b : Bool) → cond b (Some (common_kept entry)) (Some (common_kept g)) ≡ option_map common_kept (cond b (Some entry) (Some g))
    go true = refl
    go false = refl

greatest_more : (names : List (List ℕ)) (earlier : List Offered) (entry : Offered) (n : ℕ) (old new : List (Option GreatestCommon)) → IsDistinct same_name names → Numbers names n entry.common.name → AreGreatest names earlier old → Changed old new n (cond (is_greater entry.common.size (get_or old n None)) (Some (common_kept entry)) (get_or old n None)) → AreGreatest names (earlier ++ entry ∷ []) new
greatest_more names earlier entry n old new distinct named was changed = record {
  long = changed.long ∙ was.long;
  greatest = λ m other is. go m other is (nat_eq n m) refl;
}
  where
    go : (m : ℕ) (other : List ℕ) → Numbers names m other → (b : Bool) → nat_eq n m ≡ b → get_or new m None ≡ option_map common_kept (greatest_of (filter (offers other) (earlier ++ entry ∷ [])))
    go m other is true e =
        let same : n ≡ m = eqb-true n m e in
        let before = filter (offers other) earlier in
        ap (λ (k : ℕ). get_or new k None) (sym same) ∙ changed.here
        ∙ ap (λ (k : ℕ). cond (is_greater entry.common.size (get_or old k None)) (Some (common_kept entry)) (get_or old k None)) same
        ∙ ap (λ (o : Option GreatestCommon). cond (is_greater entry.common.size o) (Some (common_kept entry)) o) (was.greatest m other is)
        ∙ kept_greater (greatest_of before) entry
        ∙ ap (option_map common_kept) (sym (greatest_push before entry))
        ∙ ap (λ (es : List Offered). option_map common_kept (greatest_of es)) (sym (filter_last (offers other) earlier entry true (same_number names m n other entry.common.name distinct is named ∙ e)))
    go m other is false e =
        changed.others m e ∙ was.greatest m other is
        ∙ ap (λ (es : List Offered). option_map common_kept (greatest_of es))
        (sym (filter_last (offers other) earlier entry false (same_number names m n other entry.common.name distinct is named ∙ e) ∙ append-nil (filter (offers other) earlier)))

abbrev kept_at : ℕ → ℕ → ℕ → GreatestCommon
kept_at position symbol size = record { «module» = position; symbol = symbol; size = size }

-- one that is greater than that of its name
pub common_first : (names : List (List ℕ)) (earlier : List Offered) (position : ℕ) (common : Common) (noted : NotedCommon) (old : List (Option GreatestCommon)) → IsDistinct same_name names → is_greater noted.size (get_or old noted.name None) ≡ true → NotesCommon names common noted → AreGreatest names earlier old → AreGreatest names (earlier ++ offered position common ∷ []) (set old noted.name (Some (record { «module» = position; symbol = noted.symbol; size = noted.size })))
common_first names earlier position common noted old distinct greater notes was =
    let entry = offered position common in
    let n = noted.name in
    let kept : GreatestCommon = kept_at position noted.symbol noted.size in
    let is : Some kept ≡ cond (is_greater entry.common.size (get_or old n None)) (Some (common_kept entry)) (get_or old n None) =
    ap (λ (s : ℕ). Some (kept_at position s noted.size)) notes.symbol_is ∙ ap (λ (s : ℕ). Some (kept_at position common.symbol s)) notes.size_is
    ∙ ap (λ (b : Bool). cond b (Some (common_kept entry)) (get_or old n None)) (sym greater ∙ ap (λ (s : ℕ). is_greater s (get_or old n None)) notes.size_is) in
    let lt : n < length old = omega (arith, number_within names n common.name notes.named, was.long) in
    greatest_more names earlier entry n old (set old n (Some kept)) distinct notes.named was
    (subst (Changed old (set old n (Some kept)) n) is (changed_set old n (Some kept) lt))

-- one that is not
pub common_again : (names : List (List ℕ)) (earlier : List Offered) (position : ℕ) (common : Common) (noted : NotedCommon) (old : List (Option GreatestCommon)) → IsDistinct same_name names → is_greater noted.size (get_or old noted.name None) ≡ false → NotesCommon names common noted → AreGreatest names earlier old → AreGreatest names (earlier ++ offered position common ∷ []) old
common_again names earlier position common noted old distinct fails notes was =
    let entry = offered position common in
    let n = noted.name in
    greatest_more names earlier entry n old old distinct notes.named was
    (changed_not old n (cond (is_greater entry.common.size (get_or old n None)) (Some (common_kept entry)) (get_or old n None))
    (ap (λ (b : Bool). cond b (Some (common_kept entry)) (get_or old n None)) (sym fails ∙ ap (λ (s : ℕ). is_greater s (get_or old n None)) notes.size_is)))

-- ---- in a loop over commons

abbrev pub no_common : Common
no_common = record { name = []; symbol = 0; size = 0 }

pub common_at : (names : List (List ℕ)) (commons : List Common) (notes : List NotedCommon) (i : ℕ) (e : NotedCommon) → AllZip (NotesCommon names) commons notes → i < length notes → NotesCommon names (get_or commons i no_common) (get_or notes i e)
common_at names commons notes i e zipped lt =
    zip_at (NotesCommon names) commons notes i no_common e zipped (omega (arith, zip_length (NotesCommon names) commons notes zipped))

-- of no modules there are none
pub no_commons : (names : List (List ℕ)) (n : ℕ) (commons : List (Option GreatestCommon)) → commons ≡ replicate n None → n ≡ length names → AreGreatest names [] commons
no_commons names n commons is count = record {
  long = ap length is ∙ length-replicate n None ∙ count;
  greatest = λ m other named. ap (λ (l : List (Option GreatestCommon)). get_or l m None) is ∙ none_at None n m refl;
}

-- no module shares a name
pub none_shared : (names : List (List ℕ)) (kept : List ModuleNames) (commons : List (Option GreatestCommon)) → All (NotesModule names) kept → list_any has_commons kept ≡ false → commons ≡ [] → TellsGreatest names (all_commons (map noted_view kept)) commons
none_shared names kept commons noted none empty =
    subst (TellsGreatest names (all_commons (map noted_view kept))) (sym empty)
    (subst (λ (es : List Offered). TellsGreatest names es []) (sym nothing) (λ number name numbered. refl))
  where
    nothing : all_commons (map noted_view kept) ≡ []
    nothing = none_of_all offered_by kept (λ k m lt is. ap (map (offered k)) (zip_none (NotesCommon names) (commons_of m.bytes.now) m.commons.items (none_kept m.commons.items (any_false has_commons kept k m none lt is)) (noted_at names kept k m noted lt is).commons))
