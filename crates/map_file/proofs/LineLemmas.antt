-- Lines that are numbered, one more at a time.
use Rattle.std.proofs.Common.{◌≡◌, ℕ, zero, suc, ◌+◌, ◌<◌, List, [], ◌∷◌, ◌++◌, length, get_or, take, sym, ap, ◌∙◌, append_assoc, add-one, arith}
use Rattle.std.specs.List.{flat_map, enumerate_from}
use Rattle.std.proofs.lemmas.List.{append-nil}

abbrev pub numbered : {X : Type 0} → (ℕ × X → List ℕ) → ℕ → List X → List ℕ
numbered line start rows = flat_map line (enumerate_from start rows)

numbered_suc : {X : Type 0} (line : ℕ × X → List ℕ) (start : ℕ) (rows : List X) (i : ℕ) (d : X) → i < length rows → numbered line start (take (suc i) rows) ≡ numbered line start (take i rows) ++ line (start + i, get_or rows i d)
numbered_suc line start [] i d lt = absurd (omega (arith, lt))
numbered_suc {X} line start (row ∷ rows) zero d lt =
    let place : start ≡ start + 0 = omega arith in
    append-nil (line (start, row)) ∙ ap (λ (k : ℕ). line (k, row)) place
numbered_suc {X} line start (row ∷ rows) (suc i) d lt =
    let place : start + 1 + i ≡ start + suc i = omega arith in
    ap (λ (rest : List ℕ). line (start, row) ++ rest) (numbered_suc line (start + 1) rows i d (omega (arith, lt)))
    ∙ sym (append_assoc (line (start, row)) (numbered line (start + 1) (take i rows)) (line (start + 1 + i, get_or rows i d)))
    ∙ ap (λ (k : ℕ). (line (start, row) ++ numbered line (start + 1) (take i rows)) ++ line (k, get_or rows i d)) place

-- a line more, of the row that was read
pub numbered_grows : {X : Type 0} (line : ℕ × X → List ℕ) (start i number : ℕ) (rows : List X) (row : X) (old now new : List ℕ) → i < length rows → number ≡ start + i → row ≡ get_or rows i row → now ≡ old ++ numbered line start (take i rows) → new ≡ now ++ line (number, row) → new ≡ old ++ numbered line start (take (i + 1) rows)
numbered_grows {X} line start i number rows row old now new lt place is was grown =
    grown
    ∙ ap (λ (text : List ℕ). text ++ line (number, row)) was
    ∙ append_assoc old (numbered line start (take i rows)) (line (number, row))
    ∙ ap (λ (k : ℕ). old ++ (numbered line start (take i rows) ++ line (k, row))) place
    ∙ ap (λ (x : X). old ++ (numbered line start (take i rows) ++ line (start + i, x))) is
    ∙ ap (λ (text : List ℕ). old ++ text) (sym (numbered_suc line start rows i row lt) ∙ ap (λ (k : ℕ). numbered line start (take k rows)) (sym (add-one i)))
