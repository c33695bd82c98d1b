-- The pieces of a link, judged one after the other.
use Rattle.std.proofs.Common.{◌≡◌, ℕ, ◌+◌, ◌-◌, ◌<◌, Bool, List, [], ◌∷◌, ◌++◌, length, map, get_or, Option, None, inl, inr, refl, sym, ap, subst, ◌∙◌, arith}
use Rattle.std.specs.List.{flat_map, range_with_len}
use Rattle.std.proofs.lemmas.Bool.{cases_lt}
use Rattle.std.proofs.lemmas.List.{get_or_default, length-map, length-append, get_or_append_left, get_or-append_right}
use Rattle.std.proofs.Math.ListN.{get_or-map}
use Rattle.link_base.proofs.RangeLemmas.{joined_grows}
use Rattle.link_base.specs.declared.fault.Fault.{Fault}
use Rattle.link_base.specs.declared.stop.Refusal.{Refusal}
use Rattle.link_base.specs.declared.stop.Refusal.TheVariants as refusal
use Rattle.link_base.specs.Refusals.{first_refusal_below, RefusesFor}
use Rattle.link_base.proofs.RefusalLemmas.{first_refusal_below-found}
use Rattle.section_group.specs.declared.piece.Piece.{Piece}
use Rattle.section_group.specs.BarePieces.{bare}
use Rattle.section_group.specs.SectionOrder.{no_piece}
use Rattle.section_group.specs.PieceContents.{piece_contents}
use Rattle.relocate.specs.declared.fix.Fix.{Fix}
use Rattle.relocate.specs.Judged.{AreTheFields, ArePatchable}
use Rattle.link_pieces.specs.LinkParts.{LinkParts}
use Rattle.link_pieces.specs.Pieces.{link_pieces, link_contents, IsPieceOf}
use Rattle.link_pieces.proofs.CallerLemmas.{piece_is, bare_at}
use Rattle.link_fields.specs.Pdata.{is_pdata}
use Rattle.link_fields.specs.Fixes.{fixes_in, piece_at, piece_fixes, judged_fault, piece_fault, HaveFields, edges_by, edges_of}

-- ---- no relocations

-- a piece without relocations has no fault
pub none_judged : (piece : Piece) (contents : List ℕ) (large : Bool) (fixes : List Fix) → length fixes ≡ 0 → judged_fault piece contents large fixes ≡ None
unfolding first_refusal_below
none_judged piece contents large [] none = refl
none_judged piece contents large (fix ∷ fixes) none = absurd (omega (arith, none))

-- ---- a piece as it was read

pub record IsRead (link : LinkParts) (k : ℕ) (piece : Piece) : Type 0 where
  pub within : k < length (link_pieces link)
  pub is : bare piece ≡ piece_at link k
  pub whole : IsPieceOf link (bare piece)
  pub contents : piece_contents piece ≡ get_or (link_contents link) k []

pub read_piece : (link : LinkParts) (pieces : List Piece) (k : ℕ) (piece : Piece) → map bare pieces ≡ link_pieces link → map piece_contents pieces ≡ link_contents link → k < length pieces → piece ≡ get_or pieces k piece → IsRead link k piece
read_piece link pieces k piece are contents lt read =
    let within : k < length (link_pieces link) = omega (arith, length-map pieces bare, ap (λ (ps : List Piece). length ps) are) in
    let here : piece ≡ get_or pieces k no_piece = read ∙ get_or_default pieces k piece no_piece lt in
    let is : bare piece ≡ piece_at link k = ap bare here ∙ bare_at link pieces k are in
    record {
      within = within;
      is = is;
      whole = subst (IsPieceOf link) (sym is) (piece_is link k within);
      contents = ap piece_contents here ∙ sym (get_or-map piece_contents pieces k no_piece) ∙ ap (λ (cs : List (List ℕ)). get_or cs k []) contents;
    }

-- its relocations are those of the link's piece
pub fixes_read : (link : LinkParts) (k : ℕ) (piece : Piece) → IsRead link k piece → fixes_in link piece ≡ piece_fixes link k
fixes_read link k piece read = ap (fixes_in link) read.is

-- and so is their fault
pub fault_read : (link : LinkParts) (k : ℕ) (piece : Piece) (large : Bool) (fixes : List Fix) → IsRead link k piece → fixes ≡ fixes_in link piece → judged_fault piece (piece_contents piece) large fixes ≡ piece_fault link large k
unfolding is_pdata
fault_read link k piece large fixes read are =
    ap (judged_fault piece (piece_contents piece) large) (are ∙ fixes_read link k piece read)
    ∙ ap (λ (bytes : List ℕ). judged_fault piece bytes large (piece_fixes link k)) read.contents
    ∙ ap (λ (p : Piece). judged_fault p (get_or (link_contents link) k []) large (piece_fixes link k)) read.is

-- ---- one piece more

pub fields_none : (link : LinkParts) (fixups : List (List Fix)) → fixups ≡ [] → HaveFields link 0 fixups
fields_none link fixups none = record {
  for_each = ap (λ (fs : List (List Fix)). length fs) none;
  fields = λ k lt. absurd (omega arith);
  patchable = λ k lt. absurd (omega arith);
}

pub fields_more : (link : LinkParts) (k : ℕ) (piece : Piece) (fixes fields : List Fix) (was now : List (List Fix)) → IsRead link k piece → HaveFields link k was → now ≡ was ++ fields ∷ [] → fixes ≡ fixes_in link piece → AreTheFields fixes fields → ArePatchable (length (piece_contents piece)) fields → HaveFields link (k + 1) now
fields_more link k piece fixes fields was now read have grown are field patchable =
    let first_place : k - k ≡ 0 = omega arith in
    let last : get_or (was ++ fields ∷ []) k [] ≡ fields = get_or-append_right was (fields ∷ []) k k [] have.for_each (omega arith) ∙ ap (λ (i : ℕ). get_or (fields ∷ []) i []) first_place in
    let here : AreTheFields (piece_fixes link k) fields = subst (λ (fs : List Fix). AreTheFields fs fields) (are ∙ fixes_read link k piece read) field in
    let fits : ArePatchable (length (get_or (link_contents link) k [])) fields = subst (λ (bytes : List ℕ). ArePatchable (length bytes) fields) read.contents patchable in
    record {
      for_each = let len = ap (λ (fs : List (List Fix)). length fs) grown in let sum = length-append was (fields ∷ []) in let whole = have.for_each in omega (arith, len, sum, whole);
      fields = λ i lt. subst (λ (fs : List (List Fix)). AreTheFields (piece_fixes link i) (get_or fs i [])) (sym grown) (elim (cases_lt i k) [
        | inl below ↦ subst (AreTheFields (piece_fixes link i)) (sym (get_or_append_left was (fields ∷ []) [] i (omega (arith, have.for_each)))) (have.fields i below)
        | inr above ↦
            let same : i ≡ k = omega arith in
            subst (λ (j : ℕ). AreTheFields (piece_fixes link j) (get_or (was ++ fields ∷ []) j [])) (sym same) (subst (AreTheFields (piece_fixes link k)) (sym last) here)
      ]);
      patchable = λ i lt. subst (λ (fs : List (List Fix)). ArePatchable (length (get_or (link_contents link) i [])) (get_or fs i [])) (sym grown) (elim (cases_lt i k) [
        | inl below ↦ subst (ArePatchable (length (get_or (link_contents link) i []))) (sym (get_or_append_left was (fields ∷ []) [] i (omega (arith, have.for_each)))) (have.patchable i below)
        | inr above ↦
            let same : i ≡ k = omega arith in
            subst (λ (j : ℕ). ArePatchable (length (get_or (link_contents link) j [])) (get_or (was ++ fields ∷ []) j [])) (sym same) (subst (ArePatchable (length (get_or (link_contents link) k []))) (sym last) fits)
      ]);
    }

-- what the fields of one more piece lead to
pub edges_more : (link : LinkParts) (k : ℕ) (piece : Piece) (fixes : List Fix) (was now : List (ℕ × ℕ)) → IsRead link k piece → fixes ≡ fixes_in link piece → was ≡ flat_map (edges_of link) (range_with_len 0 k) → now ≡ was ++ edges_by k fixes → now ≡ flat_map (edges_of link) (range_with_len 0 (k + 1))
edges_more link k piece fixes was now read are before after =
    joined_grows (edges_of link) 0 k k was now (edges_by k fixes) (omega arith) before after
    (ap (edges_by k) (are ∙ fixes_read link k piece read))

-- a refusal of one piece, before which none is refused, is that of all
pub refuses_found : (count k : ℕ) (fault_at : ℕ → Option Fault) (here : Option Fault) (r : Refusal) → k < count → first_refusal_below k fault_at ≡ None → here ≡ fault_at k → RefusesFor here r → RefusesFor (first_refusal_below count fault_at) r
refuses_found count k fault_at here (refusal.Fault fault) lt none is refused =
    first_refusal_below-found k count fault_at fault lt none (sym is ∙ refused)
refuses_found count k fault_at here refusal.Memory lt none is refused = tt
