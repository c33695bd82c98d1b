-- The section of a piece that stands in one, and the places that fields mean.
use Rattle.std.proofs.Common.{◌≡◌, ℕ, zero, suc, ◌<◌, ◌⊎◌, Bool, true, false, ◌||◌, eqb, List, [], ◌∷◌, length, filter, get_or, Option, Some, None, unwrap_or, refl, sym, ap, subst, ◌∙◌, eq-eqb, eqb-true, length-append, arith}
use Rattle.std.specs.List.{Contains, list_any}
use Rattle.std.proofs.lemmas.Bool.{false≢true}
use Rattle.std.proofs.lemmas.List.{length-map}
use Rattle.std.proofs.lemmas.List.Elements.{All-weaker}
use Rattle.std.proofs.lemmas.List.Folds.{list_any_at}
use Rattle.std.proofs.lemmas.List.FromFn.{get_or-map-range_with_len, length-map-range_with_len}
use Rattle.std.proofs.lemmas.List.Sorted.{All-permutation}
use Rattle.link_base.specs.Bytes.{first_below}
use Rattle.link_base.proofs.CallerLemmas.{first_below-some, first_below-none}
use Rattle.section_group.specs.declared.piece.Piece.{Piece}
use Rattle.section_group.specs.declared.piece.OutSection.{OutSection}
use Rattle.section_group.specs.BarePieces.{bare}
use Rattle.section_group.specs.SectionOrder.{no_piece}
use Rattle.section_group.specs.Uniqueness.{SectionRow, row_of, rows_of}
use Rattle.address_layout.specs.declared.layout.Layout.{Layout}
use Rattle.address_layout.specs.Layout.{all_pieces}
use Rattle.address_layout.specs.Places.{row_at}
use Rattle.address_layout.proofs.CallerLemmas.{StandsAt, stands_at}
use Rattle.image_writer.specs.PieceInFile.{piece_at}
use Rattle.relocate.specs.declared.fix.Fix.{Fix}
use Rattle.relocate.specs.declared.fix.Target.{Target}
use Rattle.relocate.specs.declared.fix.Target.TheVariants as target
use Rattle.relocate.specs.Field.{has_field}
use Rattle.relocate.specs.Judged.{AreTheFields}
use Rattle.relocate.specs.Value.{target_of, HasEntry, HaveEntries}
use Rattle.link_pieces.specs.TablePieces.{KeptParts, whole_pieces}
use Rattle.link_plan.specs.Planned.{plan_pieces, planned_fixes}
use Rattle.link_plan.proofs.CallerLemmas.{Stands, fields_stand, plan_count}
use Rattle.piece_bytes.specs.Owners.{no_row, row_holds, section_of, owners}
use Rattle.link_image.specs.Steps.{IsReady}
use Rattle.std.proofs.Math.ListN.{get_or-map}

-- ---- the section of a piece

rows_same : (sections : List OutSection) (i : ℕ) → (get_or (rows_of sections) i no_row).pieces ≡ (row_at sections i).1
rows_same [] i = refl
rows_same (s ∷ ss) zero = refl
rows_same (s ∷ ss) (suc i) = rows_same ss i

-- a list that has a number has it at a place
record IsAt (xs : List ℕ) (k : ℕ) : Type 0 where
  number : ℕ
  within : number < length xs
  is : get_or xs number 0 ≡ k

one_more : (x : ℕ) (xs : List ℕ) (k : ℕ) (b : Bool) → eqb x k ≡ b → (b ≡ false → IsAt xs k) → IsAt (x ∷ xs) k
one_more x xs k true here rest = record { number = 0; within = omega arith; is = eqb-true x k here }
one_more x xs k false here rest =
    let later = rest refl in
    record { number = suc later.number; within = omega (arith, later.within); is = later.is }

found_at : (xs : List ℕ) (k : ℕ) → list_any (λ m. eqb m k) xs ≡ true → IsAt xs k
found_at [] k e = absurd (false≢true e)
found_at (x ∷ xs) k e =
    one_more x xs k (eqb x k) refl (λ apart. found_at xs k (sym (ap (λ (b : Bool). b || list_any (λ m. eqb m k) xs) apart) ∙ e))

pub record OwnerAt (sections : List OutSection) (k : ℕ) : Type 0 where
  pub there : section_of (rows_of sections) k < length sections
  pub number : ℕ
  pub within : number < length (row_at sections (section_of (rows_of sections) k)).1
  pub is : piece_at sections (section_of (rows_of sections) k) number ≡ k

pub owner_at : (sections : List OutSection) (k : ℕ) → Contains (all_pieces sections) k → OwnerAt sections k
owner_at sections k there = by_first (first_below (length rows) (row_holds rows k)) refl
  where
    rows : List SectionRow
    rows = rows_of sections

    at : StandsAt sections k
    at = stands_at sections k there

    count : length (rows_of sections) ≡ length sections
    count = length-map sections row_of

    holds : row_holds (rows_of sections) k at.section ≡ true
    holds =
        ap (λ (ms : List ℕ). list_any (λ m. eqb m k) ms) (rows_same sections at.section)
        ∙ list_any_at (λ m. eqb m k) (row_at sections at.section).1 at.number 0 at.within (ap (λ (m : ℕ). eqb m k) at.is ∙ eq-eqb k k refl)

    by_first : (o : Option ℕ) → first_below (length (rows_of sections)) (row_holds (rows_of sections) k) ≡ o → OwnerAt sections k
    by_first None none = absurd (false≢true (sym (first_below-none (length (rows_of sections)) (row_holds (rows_of sections) k) none at.section (omega (arith, at.there, count))) ∙ holds))
    by_first (Some i) e =
        let found = first_below-some (length (rows_of sections)) i (row_holds (rows_of sections) k) e in
        let owner : section_of (rows_of sections) k ≡ i = ap (λ (o : Option ℕ). unwrap_or o (length (rows_of sections))) e in
        let place = found_at (row_at sections i).1 k (ap (λ (ms : List ℕ). list_any (λ m. eqb m k) ms) (sym (rows_same sections i)) ∙ found.1.0) in
        record {
          there = omega (arith, owner, found.0, count);
          number = place.number;
          within = subst (λ (s : ℕ). place.number < length (row_at sections s).1) (sym owner) place.within;
          is = ap (λ (s : ℕ). piece_at sections s place.number) owner ∙ place.is;
        }

-- ---- the table of sections

pub length-owners : (rows : List SectionRow) (count : ℕ) → length (owners rows count) ≡ count
unfolding owners
length-owners rows count = length-map-range_with_len (section_of rows) 0 count

pub owner_read : (rows : List SectionRow) (count k : ℕ) → k < count → get_or (owners rows count) k 0 ≡ section_of rows k
unfolding owners
owner_read rows count k lt = get_or-map-range_with_len (section_of rows) 0 count k k 0 lt (omega arith)

-- ---- what fields mean

module _ (link : KeptParts) (pieces : List Piece) (fixups : List (List Fix)) (sections : List OutSection) (layout : Layout) (owner : List ℕ) (tables : List (List ℕ)) (ready : IsReady link pieces fixups sections layout owner tables) where
  pub pieces_count : length pieces ≡ length (whole_pieces link)
  pieces_count = sym (length-map pieces bare) ∙ ap (λ (ps : List Piece). length ps) ready.pieces_are ∙ plan_count ready.options link

  -- there is an RVA and an owner for each piece
  pub rva_there : (k : ℕ) → k < length pieces → k < length layout.pieces.items
  rva_there k lt = omega (arith, lt, ready.laid.rva_for_each, length-append pieces ready.rest)

  pub owner_at_piece : (k : ℕ) → k < length pieces → get_or owner k 0 ≡ section_of (rows_of sections) k
  owner_at_piece k lt = ap (λ (os : List ℕ). get_or os k 0) ready.owner_is ∙ owner_read (rows_of sections) (length layout.pieces.items) k (rva_there k lt)

  pub length_owner : length owner ≡ length layout.pieces.items
  length_owner = ap length ready.owner_is ∙ length-owners (rows_of sections) (length layout.pieces.items)

  -- a piece that a field means has a place
  entry_of : (t : Target) → Stands ready.options link t → HasEntry layout owner t
  entry_of (target.Piece piece value) stand =
      let within : piece < length pieces = omega (arith, stand.0, pieces_count) in
      let is : bare (get_or pieces piece no_piece) ≡ get_or (plan_pieces ready.options link) piece no_piece = sym (get_or-map bare pieces piece no_piece) ∙ ap (λ (ps : List Piece). get_or ps piece no_piece) ready.pieces_are in
      let needs : (0 < (get_or pieces piece no_piece).size) ⊎ ((get_or pieces piece no_piece).named ≡ true) = subst (λ (p : Piece). (0 < p.size) ⊎ (p.named ≡ true)) (sym is) stand.2 in
      let at = owner_at sections piece (ready.stands piece within stand.1 needs) in
      let there = rva_there piece within in
      let owned = owner_at_piece piece within in
      (there, omega (arith, there, length_owner), omega (arith, owned, at.there, ready.laid.section_for_each))
  entry_of (target.Absolute value) stand = tt
  entry_of target.ImageBase stand = tt

  pub entries : (k : ℕ) (fields : List Fix) → k < length pieces → AreTheFields (planned_fixes link k) fields → HaveEntries layout owner fields
  entries k fields lt are =
      All-permutation (λ fix. HasEntry layout owner (target_of fix)) (filter has_field (planned_fixes link k)) fields are
      (All-weaker (λ fix. Stands ready.options link (target_of fix)) (λ fix. HasEntry layout owner (target_of fix)) (λ fix stand. entry_of (target_of fix) stand) (filter has_field (planned_fixes link k)) (fields_stand ready.options link k ready.kept_are))
