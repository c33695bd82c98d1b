-- What pieces give to an image does not depend on their bytes, and each that gives something has a module that is listed.
use Rattle.std.proofs.Common.{◌≡◌, ℕ, ◌-◌, ◌≤◌, Bool, true, false, cond, List, [], ◌∷◌, length, map, get_or, Option, Some, None, sym, subst, inl, inr, arith}
use Rattle.std.specs.Prelude.{◌==◌, IfSome}
use Rattle.std.specs.List.{All, flat_map, filter_map, cons_option, enumerate_from}
use Rattle.std.proofs.Math.ListN.{get_or-map}
use Rattle.std.proofs.lemmas.Bool.{cases_lt}
use Rattle.std.proofs.lemmas.List.{get_or_past}
use Rattle.std.proofs.lemmas.List.Elements.{All-nil, All-cons, All-append, All-get_or}
use Rattle.module_view.specs.Module.{ModuleView}
use Rattle.section_group.specs.declared.piece.Piece.{Piece}
use Rattle.section_group.specs.BarePieces.{bare}
use Rattle.section_group.specs.SectionOrder.{no_piece}
use Rattle.section_group.specs.Uniqueness.{SectionRow}
use Rattle.address_layout.specs.declared.layout.Placed.{Placed}
use Rattle.pdb_dbi.specs.declared.rows.Contribution.{Contribution}
use Rattle.debug_rows.specs.Contributions.{is_listed, contribution_of, contribution_at, section_start, section_contributions, contributions_of}

-- ---- the bytes of pieces

-- the rows of a section
section_bare : (modules : List ModuleView) (pieces : List Piece) (places : List Placed) (rvas : List ℕ) (numbered : ℕ × SectionRow) → section_contributions modules (map bare pieces) places rvas numbered ≡ section_contributions modules pieces places rvas numbered
unfolding section_contributions
section_bare modules pieces places rvas (number, section) = λ i.
    let piece = λ (k : ℕ). get_or-map bare pieces k no_piece i in
    let start = section_start places number in
    let row = λ (k : ℕ). cond ((piece k).size == 0) None (Some (contribution_of modules number (get_or rvas k 0 - start) (piece k))) in
    cond (is_listed section.name) (filter_map row section.pieces) []

pub contributions_bare : (modules : List ModuleView) (pieces : List Piece) (places : List Placed) (rvas : List ℕ) (sections : List SectionRow) → contributions_of modules (map bare pieces) places rvas sections ≡ contributions_of modules pieces places rvas sections
contributions_bare modules pieces places rvas sections = λ i. flat_map (λ numbered. section_bare modules pieces places rvas numbered i) (enumerate_from 1 sections)

-- ---- their modules

kept_within : {Y : Type 0} (P : Y → Type 0) (y : Option Y) (ys : List Y) → IfSome y P → All P ys → All P (cons_option y ys)
kept_within P (Some y) ys holds all = All-cons P y ys holds all
kept_within P None ys holds all = all

all_kept : {X Y : Type 0} (P : Y → Type 0) (f : X → Option Y) → ((x : X) → IfSome (f x) P) → (xs : List X) → All P (filter_map f xs)
all_kept P f each [] = All-nil P
all_kept P f each (x ∷ xs) = kept_within P (f x) (filter_map f xs) (each x) (all_kept P f each xs)

all_joined : {X Y : Type 0} (P : Y → Type 0) (f : X → List Y) → ((x : X) → All P (f x)) → (xs : List X) → All P (flat_map f xs)
all_joined P f each [] = All-nil P
all_joined P f each (x ∷ xs) = All-append P (f x) (flat_map f xs) (each x) (all_joined P f each xs)

-- the piece of an index, or of none
piece_within : (most : ℕ) (pieces : List Piece) → All (λ piece. piece.«module» ≤ most) pieces → (k : ℕ) → (get_or pieces k no_piece).«module» ≤ most
piece_within most pieces all k =
    elim (cases_lt k (length pieces)) [
      | inl inside ↦ All-get_or (λ (piece : Piece). piece.«module» ≤ most) pieces k no_piece inside all
      | inr past ↦ subst (λ (piece : Piece). piece.«module» ≤ most) (sym (get_or_past pieces k no_piece past)) (omega arith)
    ]

-- what a piece gives
piece_row_within : (modules : List ModuleView) (pieces : List Piece) (rvas : List ℕ) (most : ℕ) → All (λ piece. piece.«module» ≤ most) pieces → (number start k : ℕ) → IfSome (contribution_at modules pieces rvas number start k) (λ row. row.«module» ≤ most)
piece_row_within modules pieces rvas most all number start k = go ((get_or pieces k no_piece).size == 0)
  where
    row : Contribution
    row = contribution_of modules number (get_or rvas k 0 - start) (get_or pieces k no_piece)

    go : (empty : Bool) → IfSome (cond empty None (Some row)) (λ given. given.«module» ≤ most)
    go true = tt
    go false = piece_within most pieces all k

section_within : (modules : List ModuleView) (pieces : List Piece) (places : List Placed) (rvas : List ℕ) (most : ℕ) → All (λ piece. piece.«module» ≤ most) pieces → (numbered : ℕ × SectionRow) → All (λ row. row.«module» ≤ most) (section_contributions modules pieces places rvas numbered)
unfolding section_contributions
section_within modules pieces places rvas most all (number, section) = go (is_listed section.name)
  where
    start : ℕ
    start = section_start places number

    go : (listed : Bool) → All (λ row. row.«module» ≤ most) (cond listed (filter_map (contribution_at modules pieces rvas number start) section.pieces) [])
    go true = all_kept (λ (row : Contribution). row.«module» ≤ most) (contribution_at modules pieces rvas number start) (piece_row_within modules pieces rvas most all number start) section.pieces
    go false = All-nil (λ (row : Contribution). row.«module» ≤ most)

pub contributions_within : (modules : List ModuleView) (pieces : List Piece) (places : List Placed) (rvas : List ℕ) (sections : List SectionRow) (most : ℕ) → All (λ piece. piece.«module» ≤ most) pieces → All (λ row. row.«module» ≤ most) (contributions_of modules pieces places rvas sections)
contributions_within modules pieces places rvas sections most all =
    all_joined (λ (row : Contribution). row.«module» ≤ most) (section_contributions modules pieces places rvas) (section_within modules pieces places rvas most all) (enumerate_from 1 sections)
