-- Names in either case.
use Rattle.std.proofs.Common.{◌≡◌, ◌≢◌, ℕ, Bool, true, false, List, length, map, IsTrue, ◌↔◌, nat_eq, eqb, cond, [], ◌∷◌, Some, None, option_map, find, refl, sym, ap, ◌∙◌}
use lib.Pointwise.{pointwise}
use Rattle.std.specs.Bool.{then_some}
use Rattle.std.specs.Cmp.{both_ways}
use Rattle.std.specs.Char.{to_ascii_lowercase}
use Rattle.std.proofs.lemmas.List.{length-map}
use Rattle.std.proofs.lemmas.Bool.{eqb-false, ne_eqb}
use Rattle.std.proofs.lemmas.Slice.Eq.{bytes_eq-Decides}
use Rattle.directives.specs.Names.{is_word, lookup, directive_names, listed}
use Rattle.directives.specs.declared.names.Listed.{Listed}

-- what the library's test answers is the word's test
pub is_word_is : (r : Bool) (text word : List ℕ) → IsTrue r ↔ (map to_ascii_lowercase text ≡ map to_ascii_lowercase word) → r ≡ is_word text word
unfolding is_word
is_word_is r text word h =
    let d = bytes_eq-Decides (map to_ascii_lowercase text) (map to_ascii_lowercase word) in
    both_ways _ _ (λ e. d.1 (h.0 e)) (λ e. h.1 (d.0 e))

-- a word in its own case
pub is_word_own : (r : Bool) (text word : List ℕ) → r ≡ pointwise nat_eq text word → r ≡ true → r ≡ is_word text word
is_word_own r text word is e =
    let same : text ≡ word = (bytes_eq-Decides text word).0 (sym is ∙ e) in
    e ∙ is_word_is true text word ((λ t. ap (map to_ascii_lowercase) same), (λ t. refl))

-- a word of another length
pub is_word_other : (text word : List ℕ) → (length text ≡ length word → ⊥) → false ≡ is_word text word
is_word_other text word apart =
    is_word_is false text word ((λ t. absurd cc), (λ same. absurd (apart (sym (length-map text to_ascii_lowercase) ∙ ap (λ (xs : List ℕ). length xs) same ∙ length-map word to_ascii_lowercase))))

-- a word in small letters
pub is_word_small : (r : Bool) (text word small : List ℕ) → r ≡ pointwise nat_eq text small → r ≡ true → map to_ascii_lowercase small ≡ map to_ascii_lowercase word → r ≡ is_word text word
is_word_small r text word small is e cased =
    let same : text ≡ small = (bytes_eq-Decides text small).0 (sym is ∙ e) in
    e ∙ is_word_is true text word ((λ t. ap (map to_ascii_lowercase) same ∙ cased), (λ t. refl))

-- ---- the name of each length

-- the rows of a table whose names have this length
abbrev pub of_length : ℕ → List (List ℕ × Listed) → List (List ℕ × Listed)
of_length n [] = []
of_length n (row ∷ table) = cond (eqb (length row.0) n) (row ∷ of_length n table) (of_length n table)

-- a row whose name has another length is passed over
passed_over : (name : List ℕ) (row : List ℕ × Listed) (table : List (List ℕ × Listed)) → eqb (length row.0) (length name) ≡ false → lookup (row ∷ table) name ≡ lookup table name
passed_over name row table e =
    let no : is_word name row.0 ≡ false = sym (is_word_other name row.0 (λ same. eqb-false _ _ e (sym same))) in
    rw no refl

-- the other rows say nothing of the name
by_length : (name : List ℕ) (table : List (List ℕ × Listed)) → lookup table name ≡ lookup (of_length (length name) table) name
by_length name [] = refl
by_length name (row ∷ table) = by_cases (by_length name table) (eqb (length row.0) (length name)) refl
  where
    kept : lookup table name ≡ lookup (of_length (length name) table) name → (b : Bool) → option_map (λ (r : List ℕ × Listed). r.1) (cond b (Some row) (find (λ r. is_word name r.0) table)) ≡ option_map (λ (r : List ℕ × Listed). r.1) (cond b (Some row) (find (λ r. is_word name r.0) (of_length (length name) table)))
    kept rest true = refl
    kept rest false = rest

    by_cases : lookup table name ≡ lookup (of_length (length name) table) name → (same : Bool) → eqb (length row.0) (length name) ≡ same → lookup (row ∷ table) name ≡ lookup (cond same (row ∷ of_length (length name) table) (of_length (length name) table)) name
    by_cases rest true e = kept rest (is_word name row.0)
    by_cases rest false e = passed_over name row table e ∙ rest

-- the only directive whose name has this length
pub only_of_length : (name word : List ℕ) (one : Listed) (r : Bool) (n : ℕ) → length name ≡ n → of_length n directive_names ≡ (word, one) ∷ [] → r ≡ is_word name word → then_some r one ≡ listed name
unfolding listed
only_of_length name word one r n len only is =
    let table : of_length (length name) directive_names ≡ (word, one) ∷ [] = ap (λ (k : ℕ). of_length k directive_names) len ∙ only in
    ap (λ (b : Bool). then_some b one) is ∙ shown (is_word name word) ∙ sym (by_length name directive_names ∙ ap (λ (rows : List (List ℕ × Listed)). lookup rows name) table)
  where
    shown : (b : Bool) → then_some b one ≡ option_map (λ (r : List ℕ × Listed). r.1) (cond b (Some (word, one)) None)
    shown true = refl
    shown false = refl

-- no directive has a name of this length
pub none_of_length : (name : List ℕ) → of_length (length name) directive_names ≡ [] → None ≡ listed name
unfolding listed
none_of_length name none =
    sym (by_length name directive_names ∙ ap (λ (rows : List (List ℕ × Listed)). lookup rows name) none)

-- a length that no directive's name has
pub no_length : (n : ℕ) → n ≢ 5 → n ≢ 6 → n ≢ 7 → n ≢ 9 → n ≢ 10 → n ≢ 13 → n ≢ 14 → of_length n directive_names ≡ []
no_length n not_5 not_6 not_7 not_9 not_10 not_13 not_14 =
    rw (ne_eqb 9 n (λ e. not_9 (sym e)), ne_eqb 13 n (λ e. not_13 (sym e)), ne_eqb 10 n (λ e. not_10 (sym e)), ne_eqb 6 n (λ e. not_6 (sym e)), ne_eqb 14 n (λ e. not_14 (sym e)), ne_eqb 7 n (λ e. not_7 (sym e)), ne_eqb 5 n (λ e. not_5 (sym e))) refl
