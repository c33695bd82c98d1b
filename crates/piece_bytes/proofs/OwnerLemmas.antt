-- The sections of pieces, one section more at a time.
use Rattle.std.proofs.Common.{◌≡◌, ◌≢◌, ℕ, ◌+◌, ◌<◌, Bool, true, false, cond, ◌&&◌, eqb, List, length, map, get_or, replicate, Option, Some, None, unwrap_or, refl, sym, ap, ◌∙◌, add-one, arith}
use Rattle.std.specs.List.{list_any, range_with_len}
use Rattle.std.specs.Option.{option_or}
use Rattle.std.proofs.Math.ListN.{get_or-map}
use Rattle.std.proofs.lemmas.Bool.{ne_eqb, eq-eqb}
use Rattle.std.proofs.lemmas.List.{get_or_default, length-map, ext_get_or, get_or-replicate}
use Rattle.std.proofs.lemmas.List.FromFn.{get_or-map-range_with_len, length-map-range_with_len}
use Rattle.link_base.specs.Bytes.{first_below}
use Rattle.link_base.proofs.CallerLemmas.{first_below-some}
use Rattle.section_group.specs.declared.piece.OutSection.{OutSection}
use Rattle.section_group.specs.Uniqueness.{SectionRow, row_of, rows_of}
use Rattle.piece_bytes.specs.Owners.{no_row, row_holds, section_of, owners}

-- ---- the members of a section

abbrev pub noted : Bool → ℕ → ℕ → ℕ → ℕ
noted there none section old = cond (there && eqb old none) section old

-- ---- one more section

-- what the first sections say of a piece
abbrev pub owner_among : List SectionRow → ℕ → ℕ → ℕ
owner_among rows i k = unwrap_or (first_below i (row_holds rows k)) (length rows)

pub owner_more : (rows : List SectionRow) (i k was now : ℕ) → i < length rows → was ≡ owner_among rows i k → now ≡ cond (row_holds rows k i && eqb was (length rows)) i was → now ≡ owner_among rows (i + 1) k
unfolding first_below
owner_more rows i k was now lt before after =
    after ∙ ap (λ (w : ℕ). cond (row_holds rows k i && eqb w (length rows)) i w) before
    ∙ go (first_below i (row_holds rows k)) refl (row_holds rows k i)
    ∙ ap (λ (n : ℕ). owner_among rows n k) (sym (add-one i))
  where
    go : (o : Option ℕ) → first_below i (row_holds rows k) ≡ o → (b : Bool) → cond (b && eqb (unwrap_or o (length rows)) (length rows)) i (unwrap_or o (length rows)) ≡ unwrap_or (option_or o (cond b (Some i) None)) (length rows)
    go None e true = rw (eq-eqb (length rows) (length rows) refl) refl
    go None e false = refl
    go (Some m) e true =
        let found = first_below-some i m (row_holds rows k) e in
        let apart : m ≢ length rows = λ same. absurd (omega (arith, found.0, same)) in
        rw (ne_eqb m (length rows) apart) refl
    go (Some m) e false = refl

-- nothing is noted at first
pub owner_none : (rows : List SectionRow) (count k : ℕ) (owner : List ℕ) → owner ≡ replicate count (length rows) → k < count → get_or owner k 0 ≡ owner_among rows 0 k
unfolding first_below
owner_none rows count k owner is lt = ap (λ (xs : List ℕ). get_or xs k 0) is ∙ get_or-replicate count k (length rows) 0 lt

-- all sections
pub owners_are : (rows : List SectionRow) (count i : ℕ) (owner : List ℕ) → length owner ≡ count → length rows ≡ i → ((k : ℕ) → k < count → get_or owner k 0 ≡ owner_among rows i k) → owner ≡ owners rows count
unfolding owners
owners_are rows count i owner len all each =
    ext_get_or 0 owner (map (section_of rows) (range_with_len 0 count)) (len ∙ sym (length-map-range_with_len (section_of rows) 0 count)) (λ k lt.
    let within : k < count = omega arith in
    each k within ∙ ap (λ (n : ℕ). owner_among rows n k) (sym all) ∙ sym (get_or-map-range_with_len (section_of rows) 0 count k k 0 within (omega arith)))

-- ---- a section as it was read

pub members_read : (sections : List OutSection) (i k : ℕ) (section : OutSection) → i < length sections → section ≡ get_or sections i section → list_any (λ m. eqb m k) section.pieces.items ≡ row_holds (rows_of sections) k i
members_read sections i k section lt read =
    ap (λ (s : OutSection). list_any (λ m. eqb m k) s.pieces.items) read
    ∙ ap (λ (r : SectionRow). list_any (λ m. eqb m k) r.pieces) (sym (get_or-map row_of sections i section))
    ∙ ap (λ (r : SectionRow). list_any (λ m. eqb m k) r.pieces) (get_or_default (map row_of sections) i (row_of section) no_row (omega (arith, length-map sections row_of)))
