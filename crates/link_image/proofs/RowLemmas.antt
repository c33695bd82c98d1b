-- A member of the section of the exception table holds whole rows, and none of its fields holds an address.
use Rattle.std.proofs.Common.{◌≡◌, ℕ, zero, suc, ◌%◌, ◌<◌, Bool, true, false, cond, ◌||◌, ◌&&◌, not, eqb, ltb, nat_lt, List, [], ◌∷◌, length, get_or, Some, None, inl, inr, refl, sym, ap, ◌∙◌, eqb-true, lt-ltb, ltb-true, arith}
use Rattle.std.proofs.lemmas.Bool.{false≢true, and_parts, and_from, cases_lt}
use Rattle.link_base.proofs.OptionLemmas.{both_none}
use Rattle.section_group.specs.declared.piece.Piece.{Piece}
use Rattle.section_group.specs.declared.piece.OutSection.{OutSection}
use Rattle.section_group.specs.BarePieces.{bare}
use Rattle.section_group.specs.SectionOrder.{no_piece}
use Rattle.section_group.specs.Uniqueness.{row_of, rows_of}
use Rattle.address_layout.specs.declared.layout.Layout.{Layout}
use Rattle.relocate.proofs.PatchableLemmas.{none_each}
use Rattle.link_words.specs.Outcome.{LinkOptions}
use Rattle.link_pieces.specs.LinkParts.{LinkParts}
use Rattle.link_pieces.specs.Pieces.{link_pieces}
use Rattle.link_pieces.specs.TablePieces.{KeptParts, whole_pieces, whole_piece, is_table}
use Rattle.link_pieces.proofs.CallerLemmas.{no_table, whole_at}
use Rattle.link_fields.specs.Pdata.{is_pdata}
use Rattle.link_fields.specs.Fixes.{piece_at}
use Rattle.link_plan.specs.declared.planning.LinkPlan.{LinkPlan}
use Rattle.link_plan.specs.Plan.{IsPlanOf, kept_parts}
use Rattle.link_plan.specs.PlanFaults.{mismatch_fault, choice_fault, meaning_fault, fields_fault, plan_fault}
use Rattle.link_plan.specs.Planned.{is_kept, plan_pieces}
use Rattle.link_plan.proofs.CallerLemmas.{plan_count, used_first, pdata_not_based}
use Rattle.piece_bytes.specs.Owners.{no_row}
use Rattle.link_image.specs.ExportFaults.{export_fault}
use Rattle.link_image.specs.TableFaults.{lacks_rows, is_bad_pdata, bad_pdata, pdata_fault_at, pdata_fault, tables_fault}
use Rattle.link_image.specs.LinkedBytes.{contents_at}
use Rattle.link_image.specs.Steps.{IsHeld, IsRowPiece}
use Rattle.link_image.proofs.HeldLemmas.{unnamed, plan_at, piece_count, planned_is, held_at}
use Rattle.link_image.proofs.PdataLemmas.{IsMember, pdata_inside}

-- ---- a section by its number

pub record IsThere (sections : List OutSection) (i : ℕ) : Type 0 where
  pub section : OutSection
  pub is : get_or sections i section ≡ section
  pub row : get_or (rows_of sections) i no_row ≡ row_of section

pub section_there : (sections : List OutSection) (i : ℕ) → i < length sections → IsThere sections i
section_there [] i lt = absurd (omega (arith, lt))
section_there (s ∷ ss) zero lt = record { section = s; is = refl; row = refl }
section_there (s ∷ ss) (suc i) lt =
    let later = section_there ss i (omega (arith, lt)) in
    record { section = later.section; is = later.is; row = later.row }

-- ---- what is not bad

-- where it has bytes they are initialised, and whole rows
record IsGood (piece : Piece) : Type 0 where
  init : 0 < piece.size → piece.init ≡ true
  rows : piece.size % 12 ≡ 0

good_of : (piece : Piece) → is_pdata piece ≡ true → is_bad_pdata piece ≡ false → IsGood piece
unfolding is_bad_pdata
good_of piece is none = record { init = λ some. (by some).0; rows = whole }
  where
    lacks : lacks_rows piece ≡ false
    lacks = ap (λ (b : Bool). b && lacks_rows piece) (sym is) ∙ none

    tests : (a b : Bool) → (not a || not b) ≡ false → (a ≡ true) × (b ≡ true)
    tests true true e = (refl, refl)
    tests true false e = absurd (false≢true (sym e))
    tests false b e = absurd (false≢true (sym e))

    by : 0 < piece.size → (piece.init ≡ true) × (eqb (piece.size % 12) 0 ≡ true)
    by some = tests piece.init (eqb (piece.size % 12) 0) (ap (λ (b : Bool). b && (not piece.init || not (eqb (piece.size % 12) 0))) (sym (lt-ltb 0 piece.size some)) ∙ lacks)

    whole : piece.size % 12 ≡ 0
    whole = elim (cases_lt 0 piece.size) [
      | inl some ↦ eqb-true (piece.size % 12) 0 (by some).1
      | inr none ↦ let zero_is : piece.size ≡ 0 = omega (arith, none) in ap (λ (n : ℕ). n % 12) zero_is
    ]

not_bad : (link : KeptParts) (k : ℕ) → k < length (link_pieces link.parts) → is_kept link k ≡ true → pdata_fault link ≡ None → is_bad_pdata (piece_at link.parts k) ≡ false
unfolding pdata_fault
not_bad link k lt kept none = by (is_kept link k) (is_bad_pdata (piece_at link.parts k)) kept (none_each (length (link_pieces link.parts)) (pdata_fault_at link) none k lt)
  where
    by : (a b : Bool) → a ≡ true → cond (a && b) (Some (bad_pdata (piece_at link.parts k))) None ≡ None → b ≡ false
    by true true on e = absurd cc
    by true false on e = refl
    by false b on e = absurd (false≢true on)

pdata_unnamed : (a b : Piece) → unnamed a ≡ unnamed b → is_pdata a ≡ is_pdata b
unfolding is_pdata
pdata_unnamed a b same = ap (λ (p : Piece). is_pdata p) same

held_rows : (piece : Piece) (bytes : List ℕ) → IsGood piece → IsHeld piece bytes → (length bytes ≡ piece.size) × (length bytes % 12 ≡ 0)
held_rows piece bytes good held = by piece.init refl
  where
    by : (b : Bool) → piece.init ≡ b → (length bytes ≡ piece.size) × (length bytes % 12 ≡ 0)
    by true on = (held.filled on, ap (λ (n : ℕ). n % 12) (held.filled on) ∙ good.rows)
    by false off =
        let none = held.empty off in
        elim (cases_lt 0 piece.size) [
          | inl some ↦ absurd (false≢true (sym off ∙ good.init some))
          | inr le ↦ (omega (arith, none, le), ap (λ (n : ℕ). n % 12) none)
        ]

-- the fields of a plan have no fault
fields_none : (options : LinkOptions) (link : LinkParts) → plan_fault options link ≡ None → fields_fault options link ≡ None
unfolding plan_fault
fields_none options link none =
    let later = (both_none (mismatch_fault link.modules) _ none).1 in
    let meant = (both_none (choice_fault link) _ later).1 in
    (both_none (meaning_fault options link) (fields_fault options link) meant).1

good_same : (a b : Piece) → unnamed a ≡ unnamed b → IsGood a → IsGood b
good_same a b same good = record {
  init = λ some. sym (ap (λ (p : Piece). p.init) same) ∙ good.init (let size = ap (λ (p : Piece). p.size) same in omega (arith, some, size));
  rows = ap (λ (p : Piece). p.size % 12) (sym same) ∙ good.rows;
}

good_bare : (piece : Piece) → IsGood (bare piece) → IsGood piece
good_bare piece good = record { init = good.init; rows = good.rows }

pub member_row : (options : LinkOptions) (plan : LinkPlan) (layout : Layout) (k : ℕ) → IsPlanOf options plan.modules.items plan → tables_fault (kept_parts plan) ≡ None → IsMember options (kept_parts plan) k → IsRowPiece (kept_parts plan) plan.pieces.items layout k
member_row options plan layout k planned none member =
    let link = kept_parts plan in
    let used = and_parts (ltb k (length (plan_pieces options link))) _ member.used in
    let count = plan_count options link in
    let whole : k < length (whole_pieces link) = omega (arith, ltb-true k (length (plan_pieces options link)) used.0, count) in
    let lt : k < length plan.pieces.items = omega (arith, whole, piece_count options plan planned) in
    let is : is_pdata (whole_piece link k) ≡ true = sym (pdata_unnamed (get_or (plan_pieces options link) k no_piece) (whole_piece link k) (plan_at options link k)) ∙ member.named in
    let inside = pdata_inside link k whole is in
    let at : whole_piece link k ≡ piece_at link.parts k = whole_at link k inside in
    let own : is_pdata (piece_at link.parts k) ≡ true = ap is_pdata (sym at) ∙ is in
    let kept : is_kept link k ≡ true = and_from _ _ (lt-ltb k (length (link_pieces link.parts)) inside) (sym (used_first options link k planned.link_is.kept_are inside) ∙ used.1) in
    let good = good_of (piece_at link.parts k) own (not_bad link k inside kept (both_none (pdata_fault link) (export_fault link) none).0) in
    let here : unnamed (piece_at link.parts k) ≡ unnamed (bare (get_or plan.pieces.items k no_piece)) = ap unnamed (sym at) ∙ sym (planned_is options plan planned k) in
    let rows = held_rows (get_or plan.pieces.items k no_piece) (contents_at link layout k) (good_bare (get_or plan.pieces.items k no_piece) (good_same (piece_at link.parts k) (bare (get_or plan.pieces.items k no_piece)) here good)) (held_at options plan planned layout k lt) in
    record {
      there = lt;
      no_table = ap (is_table (length link.parts.modules)) at ∙ no_table link.parts k inside;
      size = rows.0;
      rows = rows.1;
      unbased = pdata_not_based options link k inside (fields_none options link.parts planned.no_fault) own;
    }

-- ---- what is judged of a piece of a plan

bad_unnamed : (a b : Piece) → unnamed a ≡ unnamed b → is_bad_pdata a ≡ is_bad_pdata b
unfolding is_bad_pdata is_pdata
bad_unnamed a b same = ap (λ (p : Piece). is_bad_pdata p) same

bad_bare : (piece : Piece) → is_bad_pdata (bare piece) ≡ is_bad_pdata piece
unfolding is_bad_pdata is_pdata
bad_bare piece = refl

pub judged_at : (options : LinkOptions) (plan : LinkPlan) (k : ℕ) (piece : Piece) → IsPlanOf options plan.modules.items plan → k < length (link_pieces plan.names) → piece ≡ get_or plan.pieces.items k no_piece → pdata_fault_at (kept_parts plan) k ≡ cond (get_or plan.kept.items k false && is_bad_pdata piece) (Some (bad_pdata piece)) None
judged_at options plan k piece planned lt is =
    let link = kept_parts plan in
    let same : unnamed (piece_at link.parts k) ≡ unnamed (bare piece) = ap unnamed (sym (whole_at link k lt)) ∙ sym (planned_is options plan planned k) ∙ ap (λ (p : Piece). unnamed (bare p)) (sym is) in
    let bad : is_bad_pdata (piece_at link.parts k) ≡ is_bad_pdata piece = bad_unnamed (piece_at link.parts k) (bare piece) same ∙ bad_bare piece in
    ap (λ (b : Bool). cond (b && is_bad_pdata (piece_at link.parts k)) (Some (bad_pdata (piece_at link.parts k))) None) (kept_is k (length (link_pieces plan.names)) (get_or plan.kept.items k false) lt)
    ∙ ap (λ (b : Bool). cond (get_or plan.kept.items k false && b) (Some (bad_pdata (piece_at link.parts k))) None) bad
    ∙ ap (λ (p : Piece). cond (get_or plan.kept.items k false && is_bad_pdata piece) (Some (bad_pdata p)) None) same
  where
    kept_is : (k n : ℕ) (b : Bool) → k < n → (nat_lt k n && b) ≡ b
    kept_is k n b lt = ap (λ (a : Bool). a && b) (lt-ltb k n lt)
