-- One more of a list: what is found in it, what stands at its number, and one more module.
use Rattle.std.proofs.Common.{◌⊎◌, inl, inr, ◌≡◌, ℕ, zero, suc, ◌+◌, ◌<◌, ◌≤◌, Bool, false, cond, nat_eq, List, [], ◌∷◌, ◌++◌, length, map, take, get_or, replicate, Option, Some, None, refl, sym, ap, subst, ◌∙◌, add-one, append_assoc, arith}
use Rattle.std.proofs.Math.ListN.{set}
use Rattle.std.specs.Prelude.{filter, not, ◌==◌}
use Rattle.std.specs.Option.{option_or}
use Rattle.std.specs.List.{find, list_any, flat_map, range_with_len, All, AllZip}
use Rattle.std.proofs.lemmas.Bool.{true≢false, eqb-false, ne_eqb, or_parts}
use Rattle.std.proofs.lemmas.List.{map-append, take_more, length-map, length-append, length-set, get_or-map, get_or-set_same, get_or-set_other, get_or_append_left, get_or_push}
use Rattle.std.proofs.lemmas.List.Folds.{find-append}
use Rattle.std.proofs.lemmas.List.Elements.{filter-append}
use Rattle.link_base.proofs.RangeLemmas.{joined_more, same_joined}
use Rattle.module_view.specs.Module.{ModuleView, no_module, module_at}
use Rattle.symbol_names.specs.declared.noted.ModuleNames.{ModuleNames}
use Rattle.symbol_names.specs.Lists.{of_each, of_all}
use Rattle.symbol_names.specs.Interning.{NotesModule}
use Rattle.symbol_names.specs.Kept.{noted_view}

-- ---- the first of two

pub none_or_some : {A : Type 0} (o : Option A) → (o ≡ None) ⊎ ((x : A) × (o ≡ Some x))
none_or_some None = inl refl
none_or_some (Some x) = inr (x, refl)

-- ---- one more

pub find_last : {A : Type 0} (p : A → Bool) (xs : List A) (x : A) (b : Bool) → p x ≡ b → find p (xs ++ x ∷ []) ≡ option_or (find p xs) (cond b (Some x) None)
find_last {A} p xs x b e =
    find-append p xs (x ∷ []) ∙ ap (λ (c : Bool). option_or (find p xs) (cond c (Some x) None)) e

pub filter_last : {A : Type 0} (p : A → Bool) (xs : List A) (x : A) (b : Bool) → p x ≡ b → filter p (xs ++ x ∷ []) ≡ filter p xs ++ cond b (x ∷ []) []
filter_last {A} p xs x b e =
    filter-append p xs (x ∷ []) ∙ ap (λ (c : Bool). filter p xs ++ cond c (x ∷ []) []) e

pub filtered_more : {A B : Type 0} (p : B → Bool) (f : A → B) (earlier : List B) (xs : List A) (i : ℕ) (d : A) (b : Bool) → i < length xs → p (f (get_or xs i d)) ≡ b → earlier ++ filter p (map f (take (i + 1) xs)) ≡ (earlier ++ filter p (map f (take i xs))) ++ cond b (f (get_or xs i d) ∷ []) []
filtered_more {A} {B} p f earlier xs i d b lt e =
    ap (λ (ys : List A). earlier ++ filter p (map f ys)) (take_more xs i d lt)
    ∙ ap (λ (ys : List B). earlier ++ filter p ys) (map-append f (take i xs) (get_or xs i d ∷ []))
    ∙ ap (λ (ys : List B). earlier ++ ys) (filter_last p (map f (take i xs)) (f (get_or xs i d)) b e)
    ∙ sym (append_assoc earlier (filter p (map f (take i xs))) (cond b (f (get_or xs i d) ∷ []) []))

-- ---- what stands at a number

-- a list is changed at one place at most
pub record Changed {A : Type 0} (old new : List (Option A)) (n : ℕ) (y : Option A) : Type 0 where
  pub long : length new ≡ length old
  pub here : get_or new n None ≡ y
  pub others : (m : ℕ) → nat_eq n m ≡ false → get_or new m None ≡ get_or old m None

pub changed_set : {A : Type 0} (old : List (Option A)) (n : ℕ) (y : Option A) → n < length old → Changed old (set old n y) n y
changed_set old n y lt = record {
  long = length-set old n y;
  here = get_or-set_same old n y None lt;
  others = λ m e. get_or-set_other old n m y None (λ is. eqb-false n m e (sym is));
}

pub changed_not : {A : Type 0} (old : List (Option A)) (n : ℕ) (y : Option A) → get_or old n None ≡ y → Changed old old n y
changed_not old n y e = record { long = refl; here = e; others = λ m differ. refl }

-- in a list of nothing nothing stands at any number
pub none_at : {A : Type 0} (nothing : Option A) (n m : ℕ) → nothing ≡ None → get_or (replicate n nothing) m None ≡ None
none_at nothing zero m e = refl
none_at nothing (suc n) zero e = e
none_at nothing (suc n) (suc m) e = none_at nothing n m e

-- ---- one more module

-- the lists of the first modules, joined
abbrev pub each_first : {A : Type 0} → (ℕ → ModuleView → List A) → List ModuleView → ℕ → List A
each_first list modules n = flat_map (λ k. list k (module_at modules k)) (range_with_len 0 n)

pub each_first_more : {A : Type 0} (list : ℕ → ModuleView → List A) (modules : List ModuleNames) (n : ℕ) (m : ModuleNames) → n < length modules → m ≡ get_or modules n m → each_first list (map noted_view modules) (n + 1) ≡ each_first list (map noted_view modules) n ++ list n (noted_view m)
each_first_more {A} list modules n m lt is =
    let views = map noted_view modules in
    joined_more (λ k. list k (module_at views k)) 0 n n (omega arith)
    ∙ ap (λ (v : ModuleView). each_first list views n ++ list n v) (get_or-map noted_view modules n m no_module lt ∙ ap noted_view (sym is))

pub each_first_all : {A : Type 0} (list : ℕ → ModuleView → List A) (modules : List ModuleNames) (n : ℕ) → n ≡ length modules → each_first list (map noted_view modules) n ≡ of_each list (map noted_view modules)
each_first_all list modules n is =
    ap (each_first list (map noted_view modules)) (is ∙ sym (length-map modules noted_view))

-- those that go by the bytes of their objects
abbrev pub of_first : {A : Type 0} → (ℕ → List ℕ → List A) → List ModuleView → ℕ → List A
of_first list modules n = each_first (λ k view. list k view.bytes) modules n

pub of_first_more : {A : Type 0} (list : ℕ → List ℕ → List A) (modules : List ModuleNames) (n : ℕ) (m : ModuleNames) → n < length modules → m ≡ get_or modules n m → of_first list (map noted_view modules) (n + 1) ≡ of_first list (map noted_view modules) n ++ list n m.bytes.now
of_first_more list modules n m lt is = each_first_more (λ k (view : ModuleView). list k view.bytes) modules n m lt is

pub of_first_all : {A : Type 0} (list : ℕ → List ℕ → List A) (modules : List ModuleNames) (n : ℕ) → n ≡ length modules → of_first list (map noted_view modules) n ≡ of_all list (map noted_view modules)
of_first_all list modules n is = each_first_all (λ k (view : ModuleView). list k view.bytes) modules n is

pub of_all_push : {A : Type 0} (list : ℕ → List ℕ → List A) (modules : List ModuleNames) (m : ModuleNames) → of_all list (map noted_view (modules ++ m ∷ [])) ≡ of_all list (map noted_view modules) ++ list (length modules) m.bytes.now
of_all_push {A} list modules m =
    let more = modules ++ m ∷ [] in
    let n = length modules in
    let longer : length more ≡ n + 1 = length-append modules (m ∷ []) in
    sym (of_first_all list more (n + 1) (sym longer))
    ∙ of_first_more list more n m (omega (arith, longer)) (sym (get_or_push modules m m n refl))
    ∙ ap (λ (xs : List A). xs ++ list n m.bytes.now)
    (same_joined (λ k. list k (module_at (map noted_view more) k).bytes) (λ k. list k (module_at (map noted_view modules) k).bytes) 0 n (λ k low high.
    ap (λ (v : ModuleView). list k v.bytes)
    (ap (λ (vs : List ModuleView). module_at vs k) (map-append noted_view modules (m ∷ []))
    ∙ get_or_append_left (map noted_view modules) (map noted_view (m ∷ [])) no_module k (omega (arith, high, length-map modules noted_view))))
    ∙ of_first_all list modules n refl)

-- what is noted of the module at an index
pub noted_at : (names : List (List ℕ)) (modules : List ModuleNames) (i : ℕ) (m : ModuleNames) → All (NotesModule names) modules → i < length modules → m ≡ get_or modules i m → NotesModule names m
noted_at names modules i m all lt is = subst (NotesModule names) (sym is) (all i m lt)

-- ---- no module has any

pub item_at : {A : Type 0} (xs : List A) (i : ℕ) → i < length xs → (x : A) × (x ≡ get_or xs i x)
item_at [] i lt = absurd (omega arith)
item_at (x ∷ xs) zero lt = (x, refl)
item_at (x ∷ xs) (suc i) lt = item_at xs i (omega arith)

pub any_false : {A : Type 0} (p : A → Bool) (xs : List A) (i : ℕ) (x : A) → list_any p xs ≡ false → i < length xs → x ≡ get_or xs i x → p x ≡ false
any_false p [] i x none lt is = absurd (omega arith)
any_false p (y ∷ ys) zero x none lt is = ap p is ∙ (or_parts _ _ none).0
any_false p (y ∷ ys) (suc i) x none lt is = any_false p ys i x (or_parts _ _ none).1 (omega arith) is

pub none_kept : {A : Type 0} (xs : List A) → not (length xs == 0) ≡ false → xs ≡ []
none_kept [] e = refl
none_kept (x ∷ xs) e = absurd (true≢false (sym (ap not (ne_eqb (length (x ∷ xs)) 0 (λ e. omega (arith, e)))) ∙ e))

pub zip_none : {A B : Type 0} (R : A → B → Type 0) (xs : List A) (ys : List B) → ys ≡ [] → AllZip R xs ys → xs ≡ []
zip_none R [] ys empty h = refl
zip_none R (x ∷ xs) ys empty h = absurd (subst (AllZip R (x ∷ xs)) empty h)

-- lists of modules that are all empty, joined
pub none_of_all : {A : Type 0} (list : ℕ → List ℕ → List A) (kept : List ModuleNames) → ((k : ℕ) (m : ModuleNames) → k < length kept → m ≡ get_or kept k m → list k m.bytes.now ≡ []) → of_all list (map noted_view kept) ≡ []
none_of_all {A} list kept each = sym (of_first_all list kept (length kept) refl) ∙ none_first (length kept) (omega arith)
  where
    none_first : (n : ℕ) → n ≤ length kept → of_first list (map noted_view kept) n ≡ []
    none_first zero le = refl
    none_first (suc n) le =
        let item = item_at kept n (omega arith) in
        let m : ModuleNames = item.0 in
        let is : m ≡ get_or kept n m = item.1 in
        let lt : n < length kept = omega arith in
        ap (λ (k : ℕ). of_first list (map noted_view kept) k) (sym (add-one n))
        ∙ of_first_more list kept n m lt is
        ∙ ap (λ (ys : List A). ys ++ list n m.bytes.now) (none_first n (omega arith))
        ∙ each n m lt is
