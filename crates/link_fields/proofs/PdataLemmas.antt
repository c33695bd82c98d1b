-- What fields are that were judged: each means what suits its type, and in the exception table none holds an address.
use Rattle.std.proofs.Common.{◌≡◌, ℕ, zero, suc, ◌<◌, Bool, true, false, cond, ◌&&◌, not, eqb, eqb-true, nat_le, nat_lt, List, [], ◌∷◌, length, get_or, Option, Some, None, option_map, option_and_then, refl}
use Rattle.std.proofs.lemmas.Bool.{not-false}
use Rattle.std.specs.Option.{option_or, is_none}
use Rattle.std.proofs.lemmas.List.Elements.{All-weaker}
use Rattle.link_base.specs.Refusals.{shown, first_standing, first_refusal_below}
use Rattle.link_base.specs.declared.kinds.target.TargetFault.{TargetFault}
use Rattle.link_base.specs.declared.kinds.target.TargetFault.TheVariants as target
use Rattle.link_base.specs.declared.kinds.target.RelocKind.{RelocKind}
use Rattle.link_base.specs.declared.kinds.target.RelocKind.TheVariants as kind
use Rattle.link_base.proofs.OptionLemmas.{both_none}
use Rattle.section_group.specs.declared.piece.Piece.{Piece}
use Rattle.relocate.specs.declared.fix.Fix.{Fix}
use Rattle.relocate.specs.declared.error.FieldError.{FieldError}
use Rattle.relocate.specs.declared.error.FieldError.TheVariants as error
use Rattle.relocate.specs.Field.{has_field, fix_at}
use Rattle.relocate.specs.FieldFaults.{leaves_body, own_fault, is_absolute, is_image_base, place_faults, target_faults, overlaps_earlier, faults_of, fault_of, fault_at, field_fault}
use Rattle.relocate.specs.PatchedBytes.{is_based, IsSuited, AreSuited, HaveNoBased}
use Rattle.relocate.proofs.JudgeLemmas.{shown_none}
use Rattle.relocate.proofs.PatchableLemmas.{none_each}
use Rattle.relocate.proofs.CallerLemmas.{judged_suited}
use Rattle.link_pieces.specs.LinkParts.{LinkParts}
use Rattle.link_pieces.specs.Pieces.{link_pieces, link_contents}
use Rattle.link_fields.specs.Pdata.{is_pdata}
use Rattle.link_fields.specs.Fixes.{piece_at, piece_fixes, refused_at, len_if, piece_fault, fixes_fault}

-- ---- a fault of a relocation is never want of memory

abbrev IsTold : Option FieldError → Type 0
IsTold None = Unit {0}
IsTold (Some (error.Reloc index why)) = Unit {0}
IsTold (Some (error.Target index why)) = Unit {0}
IsTold (Some error.Memory) = ⊥

abbrev AreTold : List (Option FieldError) → Type 0
AreTold [] = Unit {0}
AreTold (fault ∷ later) = IsTold fault × AreTold later

either_told : (first second : Option FieldError) → IsTold first → IsTold second → IsTold (option_or first second)
either_told None second a b = b
either_told (Some x) second a b = a

first_told : (faults : List (Option FieldError)) → AreTold faults → IsTold (first_standing faults)
first_told [] told = tt
first_told (fault ∷ later) told = either_told fault (first_standing later) told.0 (first_told later told.1)

below_told : (n : ℕ) (fault : ℕ → Option FieldError) → ((k : ℕ) → IsTold (fault k)) → IsTold (first_refusal_below n fault)
unfolding first_refusal_below
below_told zero fault each = tt
below_told (suc n) fault each = either_told (first_refusal_below n fault) (fault n) (below_told n fault each) (each n)

reloc_told : (b : Bool) (index : ℕ) (why : RelocKind) → IsTold (shown b (error.Reloc index why))
reloc_told true index why = tt
reloc_told false index why = tt

target_told : (b : Bool) (index : ℕ) (why : TargetFault) → IsTold (shown b (error.Target index why))
target_told true index why = tt
target_told false index why = tt

own_told : (index : ℕ) (why : Option TargetFault) → IsTold (option_map (error.Target index) why)
own_told index None = tt
own_told index (Some why) = tt

unless_told : (b : Bool) (fault : Option FieldError) → IsTold fault → IsTold (cond b None fault)
unless_told true fault told = tt
unless_told false fault told = told

one_told : (body_len : Option ℕ) (large pdata : Bool) (fix : Fix) (overlaps : Bool) → IsTold (fault_of body_len large pdata fix overlaps)
unfolding fault_of place_faults target_faults
one_told body_len large pdata fix overlaps =
    unless_told (eqb fix.kind 0) (first_standing (faults_of body_len large pdata fix overlaps))
    (first_told (faults_of body_len large pdata fix overlaps) (reloc_told (nat_lt 11 fix.kind) fix.index kind.Kind, (reloc_told (leaves_body body_len fix) fix.index kind.Field, (reloc_told (is_none fix.target) fix.index kind.Index, (reloc_told overlaps fix.index kind.Overlap, (own_told fix.index (own_fault fix.target), (target_told (nat_le 3 fix.kind && is_absolute fix.target) fix.index target.AbsRelative, (target_told (nat_le 10 fix.kind && is_image_base fix.target) fix.index target.NoSection, (target_told (eqb fix.kind 2 && (not (is_absolute fix.target) && large)) fix.index target.NeedsLow, (target_told (pdata && not (eqb fix.kind 3)) fix.index target.PdataField, tt))))))))))

all_told : (body_len : Option ℕ) (large pdata : Bool) (fixes : List Fix) → IsTold (field_fault body_len large pdata fixes)
all_told body_len large pdata fixes =
    below_told (length fixes) (fault_at body_len large pdata fixes) (λ k. one_told body_len large pdata (fix_at fixes k) (overlaps_earlier fixes k))

-- so it refuses the piece
no_fault : (piece : Piece) (fault : Option FieldError) → IsTold fault → option_and_then (refused_at piece) fault ≡ None → fault ≡ None
no_fault piece None told e = refl
no_fault piece (Some (error.Reloc index why)) told e = absurd cc
no_fault piece (Some (error.Target index why)) told e = absurd cc
no_fault piece (Some error.Memory) told e = absurd told

-- ---- the fields of a piece

-- where no piece has a fault, each means what suits its type, and what suits the exception table in a piece of it
pub fixes_suited : (link : LinkParts) (large : Bool) (k : ℕ) → k < length (link_pieces link) → fixes_fault link large ≡ None → AreSuited large (is_pdata (piece_at link k)) (piece_fixes link k)
fixes_suited link large k lt none =
    let piece = piece_at link k in
    let body_len = len_if piece.init (get_or (link_contents link) k []) in
    judged_suited body_len large (is_pdata piece) (piece_fixes link k)
    (no_fault piece (field_fault body_len large (is_pdata piece) (piece_fixes link k)) (all_told body_len large (is_pdata piece) (piece_fixes link k))
    (none_each (length (link_pieces link)) (piece_fault link large) none k lt))

-- ---- the exception table

one_not_based : (large : Bool) (fix : Fix) → IsSuited large true fix → is_based fix ≡ false
unfolding target_faults
one_not_based large fix suits =
    let own = both_none (option_map (error.Target fix.index) (own_fault fix.target)) _ suits.1 in
    let relative = both_none (shown (nat_le 3 fix.kind && is_absolute fix.target) (error.Target fix.index target.AbsRelative)) _ own.1 in
    let section = both_none (shown (nat_le 10 fix.kind && is_image_base fix.target) (error.Target fix.index target.NoSection)) _ relative.1 in
    let low = both_none (shown (eqb fix.kind 2 && (not (is_absolute fix.target) && large)) (error.Target fix.index target.NeedsLow)) _ section.1 in
    let field = both_none (shown (not (eqb fix.kind 3)) (error.Target fix.index target.PdataField)) _ low.1 in
    let is : fix.kind ≡ 3 = eqb-true fix.kind 3 (not-false (eqb fix.kind 3) (shown_none (not (eqb fix.kind 3)) (error.Target fix.index target.PdataField) field.0)) in
    rw is refl

-- fields that suit the exception table hold no address
pub pdata_no_based : (large : Bool) (fixes : List Fix) → AreSuited large true fixes → HaveNoBased fixes
pdata_no_based large fixes suits =
    All-weaker (λ fix. has_field fix ≡ true → IsSuited large true fix) (λ fix. has_field fix ≡ true → is_based fix ≡ false)
    (λ fix suited some. one_not_based large fix (suited some)) fixes suits
