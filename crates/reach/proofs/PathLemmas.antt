-- Paths: a root is one, an edge makes one longer, and what is closed under edges holds all of one.
use Rattle.std.proofs.Common.{◌≡◌, ℕ, zero, suc, ◌+◌, ◌-◌, ◌<◌, List, [], ◌∷◌, ◌++◌, length, get_or, Some, refl, sym, ap, subst, ◌∙◌, inl, inr, length-append, arith}
use Rattle.std.specs.List.{All, Contains, AllAdjacentBelow}
use Rattle.std.proofs.lemmas.Bool.{cases_lt}
use Rattle.std.proofs.lemmas.List.{get_or_append_left}
use Rattle.std.proofs.lemmas.List.Elements.{All-append}
use Rattle.std.proofs.lemmas.Option.{get_or_from_slice_get, slice_get-get_or, slice_get_within}
use Rattle.link_base.proofs.ListLemmas.{at_end}
use Rattle.reach.specs.Paths.{LeadsTo, IsPath, IsKept}

one_piece : (pieces piece : ℕ) → piece < pieces → All (λ (p : ℕ). p < pieces) (piece ∷ [])
one_piece pieces piece lt zero d h = lt
one_piece pieces piece lt (suc k) d h = absurd (omega arith)

-- a root is kept, if it is a piece
pub root_kept : (pieces : ℕ) (edges : List (ℕ × ℕ)) (roots : List ℕ) (piece : ℕ) → Contains roots piece → piece < pieces → IsKept pieces edges roots piece
root_kept pieces edges roots piece has lt = record {
  path = piece ∷ [];
  is_path = record { of_pieces = one_piece pieces piece lt; led = λ k d less. absurd (omega arith) };
  root = piece;
  is_root = has;
  first = refl;
  last = refl;
}

-- what a kept piece leads to is kept
pub next_kept : (pieces : ℕ) (edges : List (ℕ × ℕ)) (roots : List ℕ) (piece next : ℕ) → IsKept pieces edges roots piece → LeadsTo edges piece next → next < pieces → IsKept pieces edges roots next
next_kept pieces edges roots piece next kept leads lt = record {
  path = longer;
  is_path = record {
    of_pieces = All-append (λ (p : ℕ). p < pieces) kept.path (next ∷ []) kept.is_path.of_pieces (one_piece pieces next lt);
    led = led;
  };
  root = kept.root;
  is_root = kept.is_root;
  first = slice_get-get_or longer 0 kept.root (omega (arith, len)) ∙ ap (λ (p : ℕ). Some p) (get_or_append_left kept.path (next ∷ []) kept.root 0 some ∙ get_or_from_slice_get kept.path 0 kept.root kept.root kept.first);
  last = slice_get-get_or longer (length longer - 1) next (omega (arith, len)) ∙ ap (λ (k : ℕ). Some (get_or longer k next)) (omega (arith, len)) ∙ ap (λ (p : ℕ). Some p) (at_end kept.path next next);
}
  where
    longer : List ℕ
    longer = kept.path ++ next ∷ []

    len : length longer ≡ length kept.path + 1
    len = length-append kept.path (next ∷ [])

    some : 0 < length kept.path
    some = slice_get_within kept.path 0 kept.root kept.first

    led : AllAdjacentBelow (LeadsTo edges) longer (length longer)
    led k d less =
        elim (cases_lt (k + 1) (length kept.path)) [
          | inl before ↦
              subst (λ (b : ℕ). LeadsTo edges (get_or longer k d) b) (sym (get_or_append_left kept.path (next ∷ []) d (k + 1) before))
              (subst (λ (a : ℕ). LeadsTo edges a (get_or kept.path (k + 1) d)) (sym (get_or_append_left kept.path (next ∷ []) d k (omega arith))) (kept.is_path.led k d before))
          | inr behind ↦
              let here : k + 1 ≡ length kept.path = omega (arith, len, behind, less) in
              let place : k ≡ length kept.path - 1 = omega arith in
              let a_is : get_or longer k d ≡ piece = get_or_append_left kept.path (next ∷ []) d k (omega arith) ∙ ap (λ (n : ℕ). get_or kept.path n d) place ∙ get_or_from_slice_get kept.path (length kept.path - 1) piece d kept.last in
              let b_is : get_or longer (k + 1) d ≡ next = ap (λ (n : ℕ). get_or longer n d) here ∙ at_end kept.path next d in
              subst (λ (b : ℕ). LeadsTo edges (get_or longer k d) b) (sym b_is) (subst (λ (a : ℕ). LeadsTo edges a next) (sym a_is) leads)
        ]

-- what holds of the roots, and of what each piece that it holds of leads to, holds of what is kept
module _ (pieces : ℕ) (edges : List (ℕ × ℕ)) (roots : List ℕ) (Holds : ℕ → Type 0) (of_roots : (piece : ℕ) → Contains roots piece → piece < pieces → Holds piece) (of_next : (piece next : ℕ) → Holds piece → LeadsTo edges piece next → next < pieces → Holds next) where
  along : (path : List ℕ) → IsPath pieces edges path → Holds (get_or path 0 0) → (k : ℕ) → k < length path → Holds (get_or path k 0)
  along path is first zero less = first
  along path is first (suc k) less =
      let more : k + 1 ≡ suc k = omega arith in
      of_next (get_or path k 0) (get_or path (suc k) 0) (along path is first k (omega arith))
      (subst (λ (n : ℕ). LeadsTo edges (get_or path k 0) (get_or path n 0)) more (is.led k 0 (omega arith))) (is.of_pieces (suc k) 0 less)

  pub of_kept : (piece : ℕ) → IsKept pieces edges roots piece → Holds piece
  of_kept piece kept =
      let some : 0 < length kept.path = slice_get_within kept.path 0 kept.root kept.first in
      let first : kept.root ≡ get_or kept.path 0 0 = sym (get_or_from_slice_get kept.path 0 kept.root 0 kept.first) in
      let starts : Holds (get_or kept.path 0 0) =
      subst Holds first (of_roots kept.root kept.is_root (subst (λ (p : ℕ). p < pieces) (sym first) (kept.is_path.of_pieces 0 0 some))) in
      subst Holds (get_or_from_slice_get kept.path (length kept.path - 1) piece 0 kept.last) (along kept.path kept.is_path starts (length kept.path - 1) (omega arith))
