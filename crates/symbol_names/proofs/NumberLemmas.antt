-- Names by numbers, and lists side by side.
use Rattle.std.proofs.Common.{◌≡◌, ℕ, zero, suc, ◌+◌, ◌<◌, true, false, nat_eq, List, [], ◌∷◌, ◌++◌, length, map, take, get_or, refl, sym, ap, subst, ◌∙◌, inl, inr, eq-eqb, append_assoc, arith}
use Rattle.std.specs.List.{All, AllZip, IsDistinct}
use Rattle.std.proofs.lemmas.Bool.{false≢true, ne_eqb, cases_order, cases_Bool}
use Rattle.std.proofs.lemmas.List.{map-append, take_more}
use Rattle.std.proofs.lemmas.Option.{slice_get_within, get_or_from_slice_get, same_Some}
use Rattle.std.proofs.lemmas.Map.Keys.{apart_from_distinct}
use Rattle.std.proofs.lemmas.Slice.Eq.{bytes_eq-Decides}
use Rattle.link_base.specs.NameText.{same_name}
use Rattle.link_base.proofs.NameTextLemmas.{same_is}
use Rattle.module_view.specs.declared.definition.Definition.{Definition}
use Rattle.module_view.specs.declared.definition.Common.{Common}
use Rattle.module_view.specs.declared.reference.Weak.{Weak}
use Rattle.symbol_names.specs.declared.noted.NotedDefinition.{NotedDefinition}
use Rattle.symbol_names.specs.declared.noted.NotedCommon.{NotedCommon}
use Rattle.symbol_names.specs.declared.noted.NotedWeak.{NotedWeak}
use Rattle.symbol_names.specs.declared.noted.NotedAlternate.{NotedAlternate}
use Rattle.symbol_names.specs.declared.noted.NotedAsked.{NotedAsked}
use Rattle.symbol_names.specs.declared.noted.NotedDefault.{NotedDefault}
use Rattle.symbol_names.specs.declared.noted.NotedDefault.TheVariants as noted
use Rattle.symbol_names.specs.declared.weak_default.WeakDefault.{WeakDefault}
use Rattle.symbol_names.specs.declared.weak_default.WeakDefault.TheVariants as default
use Rattle.symbol_names.specs.References.{Asked}
use Rattle.symbol_names.specs.Interning.{Numbers, KeepsNumbers, NotesDefinition, NotesCommon, NotesDefault, NotesWeak, NotesAlternate, NotesAsked, AreRecords}

-- ---- names that are one text

pub same_from : (a b : List ℕ) → a ≡ b → same_name a b ≡ true
same_from a b e = (bytes_eq-Decides a b).1 e

flipped : (a b : List ℕ) → same_name a b ≡ false → same_name b a ≡ false
flipped a b e =
    elim (cases_Bool (same_name b a)) [
      | inl holds ↦ absurd (false≢true (sym e ∙ same_from a b (sym (same_is b a holds))))
      | inr fails ↦ fails
    ]

-- ---- numbers

pub number_within : (names : List (List ℕ)) (number : ℕ) (name : List ℕ) → Numbers names number name → number < length names
number_within names number name is = slice_get_within names number name is

pub one_name : (names : List (List ℕ)) (number : ℕ) (name other : List ℕ) → Numbers names number name → Numbers names number other → name ≡ other
one_name names number name other is also = same_Some name other (sym is ∙ also)

pub keeps_both : (a b c : List (List ℕ)) → KeepsNumbers a b → KeepsNumbers b c → KeepsNumbers a c
keeps_both a b c first second = λ number name is. second number name (first number name is)

-- two names are one where their numbers are
pub same_number : (names : List (List ℕ)) (n m : ℕ) (name other : List ℕ) → IsDistinct same_name names → Numbers names n name → Numbers names m other → same_name other name ≡ nat_eq m n
same_number names n m name other distinct is also =
    elim (cases_order m n) [
      | inl same ↦
          same_from other name (one_name names n other name (subst (λ (k : ℕ). Numbers names k other) same also) is)
          ∙ sym (eq-eqb m n same)
      | inr differ ↦ elim differ [
        | inl lt ↦ apart m n other name also is lt ∙ sym (ne_eqb m n (λ e. omega (arith, e, lt)))
        | inr gt ↦ flipped name other (apart n m name other is also gt) ∙ sym (ne_eqb m n (λ e. omega (arith, e, gt)))
      ]
    ]
  where
    apart : (j k : ℕ) (a b : List ℕ) → Numbers names j a → Numbers names k b → j < k → same_name a b ≡ false
    apart j k a b at_j at_k lt =
        ap (λ (x : List ℕ). same_name x b) (sym (get_or_from_slice_get names j a [] at_j))
        ∙ ap (same_name (get_or names j [])) (sym (get_or_from_slice_get names k b [] at_k))
        ∙ apart_from_distinct same_name names j k [] distinct lt (slice_get_within names k b at_k)

-- ---- lists side by side

pub zip_at : {A B : Type 0} (R : A → B → Type 0) (xs : List A) (ys : List B) (i : ℕ) (d : A) (e : B) → AllZip R xs ys → i < length xs → R (get_or xs i d) (get_or ys i e)
zip_at R [] ys i d e h lt = absurd (omega arith)
zip_at R (x ∷ xs) [] i d e h lt = absurd h
zip_at R (x ∷ xs) (y ∷ ys) zero d e h lt = h.0
zip_at R (x ∷ xs) (y ∷ ys) (suc i) d e h lt = zip_at R xs ys i d e h.1 (omega arith)

pub zip_length : {A B : Type 0} (R : A → B → Type 0) (xs : List A) (ys : List B) → AllZip R xs ys → length xs ≡ length ys
zip_length R [] [] h = refl
zip_length R [] (y ∷ ys) h = absurd h
zip_length R (x ∷ xs) [] h = absurd h
zip_length R (x ∷ xs) (y ∷ ys) h = ap suc (zip_length R xs ys h.1)

pub zip_push : {A B : Type 0} (R : A → B → Type 0) (xs : List A) (ys : List B) (x : A) (y : B) → AllZip R xs ys → R x y → AllZip R (xs ++ x ∷ []) (ys ++ y ∷ [])
zip_push R [] [] x y h r = (r, tt)
zip_push R [] (b ∷ ys) x y h r = absurd h
zip_push R (a ∷ xs) [] x y h r = absurd h
zip_push R (a ∷ xs) (b ∷ ys) x y h r = (h.0, zip_push R xs ys x y h.1 r)

pub zip_map : {A B : Type 0} (R S : A → B → Type 0) (xs : List A) (ys : List B) → ((x : A) (y : B) → R x y → S x y) → AllZip R xs ys → AllZip S xs ys
zip_map R S [] [] to h = tt
zip_map R S [] (y ∷ ys) to h = absurd h
zip_map R S (x ∷ xs) [] to h = absurd h
zip_map R S (x ∷ xs) (y ∷ ys) to h = (to x y h.0, zip_map R S xs ys to h.1)

pub zip_append : {A B : Type 0} (R : A → B → Type 0) (xs more : List A) (ys later : List B) → AllZip R xs ys → AllZip R more later → AllZip R (xs ++ more) (ys ++ later)
zip_append R [] more [] later h r = r
zip_append R [] more (b ∷ ys) later h r = absurd h
zip_append R (a ∷ xs) more [] later h r = absurd h
zip_append R (a ∷ xs) more (b ∷ ys) later h r = (h.0, zip_append R xs more ys later h.1 r)

-- what each has on the right
pub zip_right : {A B : Type 0} (R : A → B → Type 0) (P : B → Type 0) (xs : List A) (ys : List B) → ((x : A) (y : B) → R x y → P y) → AllZip R xs ys → All P ys
zip_right R P xs [] each h = λ k d lt. absurd (omega arith)
zip_right R P [] (y ∷ ys) each h = absurd h
zip_right {A} {B} R P (x ∷ xs) (y ∷ ys) each h = go (each x y h.0) (zip_right R P xs ys each h.1)
  where
    go : P y → All P ys → All P (y ∷ ys)
    go first later zero d lt = first
    go first later (suc k) d lt = later k d (omega arith)

-- what is so of all is so of the item at an index
pub all_item : {A : Type 0} (P : A → Type 0) (xs : List A) (i : ℕ) (x : A) → All P xs → i < length xs → x ≡ get_or xs i x → P x
all_item P xs i x all lt is = subst P (sym is) (all i x lt)

-- one more of a list is noted, where what was noted before stays right
pub zip_more : {A B : Type 0} (R S : A → B → Type 0) (xs : List A) (i : ℕ) (x : A) (ys more : List B) (y : B) → ((a : A) (b : B) → R a b → S a b) → i < length xs → x ≡ get_or xs i x → AllZip R (take i xs) ys → S x y → more ≡ ys ++ y ∷ [] → AllZip S (take (i + 1) xs) more
zip_more {A} {B} R S xs i x ys more y to lt is h s pushed =
    subst (AllZip S (take (i + 1) xs)) (sym pushed)
    (subst (λ (l : List A). AllZip S l (ys ++ y ∷ [])) (ap (λ (z : A). take i xs ++ z ∷ []) is ∙ sym (take_more xs i x lt))
    (zip_push S (take i xs) ys x y (zip_map R S (take i xs) ys to h) s))

-- one more that is mapped
pub mapped_more : {A B : Type 0} (f : A → B) (earlier : List B) (xs : List A) (i : ℕ) (d : A) → i < length xs → earlier ++ map f (take (i + 1) xs) ≡ (earlier ++ map f (take i xs)) ++ f (get_or xs i d) ∷ []
mapped_more {A} {B} f earlier xs i d lt =
    ap (λ (ys : List A). earlier ++ map f ys) (take_more xs i d lt)
    ∙ ap (λ (ys : List B). earlier ++ ys) (map-append f (take i xs) (get_or xs i d ∷ []))
    ∙ sym (append_assoc earlier (map f (take i xs)) (f (get_or xs i d) ∷ []))

-- ---- what was noted stays right as names grow

pub definition_kept : (before after : List (List ℕ)) → KeepsNumbers before after → (definition : Definition) (noted : NotedDefinition) → NotesDefinition before definition noted → NotesDefinition after definition noted
definition_kept before after kept definition noted is = record { named = kept _ _ is.named; place_is = is.place_is }

pub common_kept : (before after : List (List ℕ)) → KeepsNumbers before after → (common : Common) (noted : NotedCommon) → NotesCommon before common noted → NotesCommon after common noted
common_kept before after kept common noted is = record { named = kept _ _ is.named; symbol_is = is.symbol_is; size_is = is.size_is }

pub default_kept : (before after : List (List ℕ)) → KeepsNumbers before after → (said : WeakDefault) (kept_as : NotedDefault) → NotesDefault before said kept_as → NotesDefault after said kept_as
default_kept before after kept (default.Name name) (noted.Name number) is = kept number name is
default_kept before after kept (default.Name name) (noted.Place section value) is = absurd is
default_kept before after kept (default.Name name) (noted.Absolute value) is = absurd is
default_kept before after kept (default.Name name) noted.Nothing is = absurd is
default_kept before after kept (default.Place section value) said is = is
default_kept before after kept (default.Absolute value) said is = is
default_kept before after kept default.Nothing said is = is

pub weak_kept : (before after : List (List ℕ)) → KeepsNumbers before after → (bytes : List ℕ) (weak : Weak) (noted : NotedWeak) → NotesWeak before bytes weak noted → NotesWeak after bytes weak noted
weak_kept before after kept bytes weak noted is = record { named = kept _ _ is.named; default_is = default_kept before after kept _ _ is.default_is }

pub alternate_kept : (before after : List (List ℕ)) → KeepsNumbers before after → (pair : List ℕ × List ℕ) (noted : NotedAlternate) → NotesAlternate before pair noted → NotesAlternate after pair noted
alternate_kept before after kept pair noted is = record { left = kept _ _ is.left; right = kept _ _ is.right }

pub asked_within : (names : List (List ℕ)) (asked : List Asked) (notes : List NotedAsked) → AllZip (NotesAsked names) asked notes → All (λ noted. noted.name < length names) notes
asked_within names asked notes zipped =
    zip_right (NotesAsked names) (λ noted. noted.name < length names) asked notes (λ a n is. number_within names n.name a.name is.named) zipped

pub asked_kept : (before after : List (List ℕ)) → KeepsNumbers before after → (asked : Asked) (noted : NotedAsked) → NotesAsked before asked noted → NotesAsked after asked noted
asked_kept before after kept asked noted is = record { named = kept _ _ is.named; search_is = is.search_is }

pub records_kept : (before after : List (List ℕ)) → KeepsNumbers before after → (bytes records : List ℕ) → AreRecords before bytes records → AreRecords after bytes records
records_kept before after kept bytes records are =
    λ symbol lt. record { starts = (are symbol lt).starts; named = kept _ _ (are symbol lt).named }
