-- The definition on a small graph.
use Rattle.std.proofs.Common.{ℕ, zero, suc, ◌+◌, ◌<◌, lit<, get_or, List, [], ◌∷◌, refl, ap, arith}
use Rattle.std.specs.List.{Contains}
use Rattle.reach.specs.Paths.{LeadsTo, IsPath, IsKept}
use Rattle.reach.proofs.PathLemmas.{of_kept}

-- 0 leads to 1, and that to 2; 3 leads to itself and to 0
edges : List (ℕ × ℕ)
edges = (0, 1) ∷ (1, 2) ∷ (3, 3) ∷ (3, 0) ∷ []

is_path : IsPath 4 edges (0 ∷ 1 ∷ 2 ∷ [])
unfolding edges
is_path = record { of_pieces = of_pieces; led = led }
  where
    of_pieces : (k d : ℕ) → k < 3 → get_or (0 ∷ 1 ∷ 2 ∷ []) k d < 4
    of_pieces zero d less = lit< tt
    of_pieces (suc zero) d less = lit< tt
    of_pieces (suc (suc zero)) d less = lit< tt
    of_pieces (suc (suc (suc k))) d less = absurd (omega arith)

    led : (k d : ℕ) → k + 1 < 3 → LeadsTo edges (get_or (0 ∷ 1 ∷ 2 ∷ []) k d) (get_or (0 ∷ 1 ∷ 2 ∷ []) (k + 1) d)
    led zero d less = (0, lit< tt, refl)
    led (suc zero) d less = (1, lit< tt, refl)
    led (suc (suc k)) d less = absurd (omega arith)

-- so 2 is kept where 0 is a root
two_is_kept : IsKept 4 edges (0 ∷ []) 2
two_is_kept = record { path = 0 ∷ 1 ∷ 2 ∷ []; is_path = is_path; root = 0; is_root = (0, lit< tt, refl); first = refl; last = refl }

-- and 3 is not
three_is_not_kept : IsKept 4 edges (0 ∷ []) 3 → ⊥
unfolding edges
three_is_not_kept kept = omega (arith, of_kept 4 edges (0 ∷ []) (λ piece. piece < 3) of_roots of_next 3 kept)
  where
    of_roots : (piece : ℕ) → Contains (0 ∷ []) piece → piece < 4 → piece < 3
    of_roots piece (zero, lt, is) less = omega (arith, is)
    of_roots piece (suc k, lt, is) less = absurd (omega arith)

    of_next : (piece next : ℕ) → piece < 3 → LeadsTo edges piece next → next < 4 → next < 3
    of_next piece next below (zero, lt, is) less = omega (arith, ap (λ (edge : ℕ × ℕ). edge.1) is)
    of_next piece next below (suc zero, lt, is) less = omega (arith, ap (λ (edge : ℕ × ℕ). edge.1) is)
    of_next piece next below (suc (suc zero), lt, is) less = absurd (omega (arith, ap (λ (edge : ℕ × ℕ). edge.0) is))
    of_next piece next below (suc (suc (suc zero)), lt, is) less = omega (arith, ap (λ (edge : ℕ × ℕ). edge.1) is)
    of_next piece next below (suc (suc (suc (suc k))), lt, is) less = absurd (omega arith)
