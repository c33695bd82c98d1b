-- Where symbols start, told by the symbols of an object; marks, and one more of a list that passes.
use Rattle.std.proofs.Common.{◌≡◌, ℕ, zero, suc, ◌<◌, Bool, true, false, ◌||◌, eqb, List, [], ◌∷◌, ◌++◌, length, map, replicate, get_or, set, refl, sym, ap, ◌∙◌}
use Rattle.std.proofs.Math.Bool.{or-false, or_assoc}
use Rattle.std.specs.List.{list_any}
use Rattle.std.proofs.lemmas.List.Folds.{list_any-append}
use Rattle.link_base.proofs.ListLemmas.{marked}
use Rattle.coff_records.specs.ObjectFile.{SymbolEntry, symbols_of, symbol_entry, symbol_entries, starts_symbol}

any_entry : (f : ℕ → SymbolEntry) (j : ℕ) (indexes : List ℕ) → ((i : ℕ) → (f i).0 ≡ i) → list_any (λ e. eqb e.0 j) (map f indexes) ≡ list_any (λ i. eqb i j) indexes
any_entry f j [] own = refl
any_entry f j (i ∷ rest) own =
    ap (λ (k : ℕ). eqb k j || list_any (λ (e : SymbolEntry). eqb e.0 j) (map f rest)) (own i)
    ∙ ap (λ (b : Bool). eqb i j || b) (any_entry f j rest own)

-- the symbols of an object tell where one starts
pub starts_among : (bytes : List ℕ) (j : ℕ) → list_any (λ e. eqb e.0 j) (symbol_entries bytes) ≡ starts_symbol bytes j
unfolding starts_symbol
starts_among bytes j = any_entry (symbol_entry bytes) j (symbols_of bytes) (λ i. refl)

-- nothing is marked at first
pub unmarked : (marks : List Bool) (n j : ℕ) → marks ≡ replicate n false → get_or marks j false ≡ false
unmarked marks n j is = ap (λ (ms : List Bool). get_or ms j false) is ∙ each n j
  where
    each : (n j : ℕ) → get_or (replicate n false) j false ≡ false
    each zero j = refl
    each (suc n) zero = refl
    each (suc n) (suc j) = each n j

-- one more passes, or an earlier one
pub any_more : {X : Type 0} (test : X → Bool) (xs : List X) (x : X) (b : Bool) → b ≡ test x → list_any test (xs ++ x ∷ []) ≡ (list_any test xs || b)
any_more test xs x b is =
    list_any-append test xs (x ∷ []) ∙ ap (λ (c : Bool). list_any test xs || c) (or-false (test x) ∙ sym is)

-- ---- what is told of symbols, after one more

pub still_none : {X : Type 0} (test : X → Bool) (before after : List X) (x : X) (whole b : Bool) → before ≡ x ∷ after → list_any test before ≡ whole → b ≡ test x → b ≡ false → list_any test after ≡ whole
still_none test before after x whole b is was said fails =
    let here : test x ≡ false = sym said ∙ fails in
    ap (λ (c : Bool). c || list_any test after) (sym here) ∙ sym (ap (list_any test) is) ∙ was

-- one that passes is among all
pub found_among : {X : Type 0} (test : X → Bool) (before after : List X) (x : X) (whole b : Bool) → before ≡ x ∷ after → list_any test before ≡ whole → b ≡ test x → b ≡ true → whole ≡ true
found_among test before after x whole b is was said passes =
    let here : test x ≡ true = sym said ∙ passes in
    sym was ∙ ap (list_any test) is ∙ ap (λ (c : Bool). c || list_any test after) here

one_noted : {X : Type 0} (test : X → Bool) (before after : List X) (x : X) (noted b whole : Bool) → before ≡ x ∷ after → (noted || list_any test before) ≡ whole → b ≡ test x → ((noted || b) || list_any test after) ≡ whole
one_noted {X} test before after x noted b whole is was said =
    or_assoc noted b (list_any test after)
    ∙ ap (λ (c : Bool). noted || (c || list_any test after)) said
    ∙ ap (λ (xs : List X). noted || list_any test xs) (sym is)
    ∙ was

-- ---- marks where symbols start

pub marks_more : (before after : List SymbolEntry) (entry : SymbolEntry) (marks : List Bool) (j : ℕ) (whole : Bool) → before ≡ entry ∷ after → entry.0 < length marks → (get_or marks j false || list_any (λ e. eqb e.0 j) before) ≡ whole → (get_or (set marks entry.0 true) j false || list_any (λ e. eqb e.0 j) after) ≡ whole
marks_more before after entry marks j whole is lt was =
    ap (λ (b : Bool). b || list_any (λ (e : SymbolEntry). eqb e.0 j) after) (marked marks entry.0 j lt)
    ∙ one_noted (λ (e : SymbolEntry). eqb e.0 j) before after entry (get_or marks j false) (eqb entry.0 j) whole is was refl
