-- An index of pieces, one piece more at a time.
use Rattle.std.proofs.Common.{◌≡◌, ℕ, zero, suc, ◌+◌, ◌-◌, ◌<◌, ◌≤◌, Bool, true, false, cond, ◌&&◌, eqb, ltb, List, [], ◌∷◌, ◌++◌, length, map, get_or, set, replicate, Option, Some, None, inl, inr, refl, sym, ap, subst, ◌∙◌, arith}
use Rattle.std.proofs.Math.Bool.{and-false}
use Rattle.std.specs.Prelude.{is_some}
use Rattle.std.specs.Option.{option_or}
use Rattle.std.specs.List.{All}
use Rattle.std.proofs.lemmas.Bool.{cases_lt, eq-eqb, lt-ltb, le-ltb, ne_eqb}
use Rattle.std.proofs.lemmas.Bool.Decides.{eqb_tells}
use Rattle.std.proofs.lemmas.List.{get_or-set_same, get_or-set_other, get_or_default, get_or_past, get_or_push, get_or_append_left, length-append}
use Rattle.std.proofs.Math.ListN.{get_or-map as get_or-map_same}
use Rattle.link_base.specs.Bytes.{first_below}
use Rattle.section_group.specs.declared.piece.Piece.{Piece}
use Rattle.section_group.specs.BarePieces.{bare}
use Rattle.section_group.specs.SectionOrder.{no_piece}
use Rattle.coff_records.specs.ObjectFile.{section_total}
use Rattle.module_view.specs.Module.{ModuleView, no_module, module_at}
use Rattle.link_imports.specs.Imports.{is_import}
use Rattle.link_pieces.specs.LinkParts.{LinkParts}
use Rattle.link_pieces.specs.Commons.{FIRST_COMMON, HasFewSections}
use Rattle.link_pieces.specs.Pieces.{link_pieces, IsModulePiece, IsPieceOf}
use Rattle.link_pieces.specs.LocalSlots.{slot_names}
use Rattle.link_base.specs.Limits.{MODULE_LIMIT}
use Rattle.link_pieces.specs.LinkerPieces.{numbers_below, IsLinkerNumber}
use Rattle.link_pieces.proofs.CallerLemmas.{pieces_are}
use Rattle.std.proofs.lemmas.List.Elements.{All-weaker}
use Rattle.link_pieces.proofs.CommonLemmas.{common_place}
use Rattle.link_pieces.specs.PieceIndex.{RowsView, row_start, is_section_of, is_common_of, holds, indexed}
use Rattle.link_pieces.specs.Rows.{rows_of, section_places, common_places, AreRows, HasStarts, HasRows, HasPlace, HasLinkerPlace, HasSomePlace}
use Rattle.link_base.proofs.RefusalLemmas.{or_none}
use Rattle.link_base.proofs.CallerLemmas.{first_below-next}

-- what a place of a list holds, once a piece is noted where none was
pub put_at : (row : List (Option ℕ)) (at index s : ℕ) → at < length row → get_or (set row at (option_or (get_or row at None) (Some index))) s None ≡ option_or (get_or row s None) (cond (eqb at s) (Some index) None)
put_at row at index s lt =
    elim (eqb_tells at s) [
      | inl here ↦
          let same : s ≡ at = omega arith in
          rw (here.0, same) (get_or-set_same row at (option_or (get_or row at None) (Some index)) None lt)
      | inr other ↦
          rw other.0 (get_or-set_other row at s (option_or (get_or row at None) (Some index)) None (λ same. other.1 (sym same)) ∙ sym (or_none (get_or row s None)))
    ]

-- ---- places of rows

-- a row that has a place starts and ends among the starts
pub starts_inside : (starts : List ℕ) (i low : ℕ) → low < get_or starts i 0 → i < length starts
starts_inside starts i low lt =
    elim (cases_lt i (length starts)) [
      | inl inside ↦ inside
      | inr past ↦ let none = get_or_past starts i 0 past in absurd (omega (arith, lt, none))
    ]

abbrev pub Ascends : List ℕ → Type 0
Ascends starts = (i j : ℕ) → i ≤ j → j < length starts → get_or starts i 0 ≤ get_or starts j 0

-- places in different rows differ
apart_below : (starts : List ℕ) (p n m s : ℕ) → Ascends starts → p < m → get_or starts p 0 + n < get_or starts (p + 1) 0 → get_or starts m 0 + s < get_or starts (m + 1) 0 → get_or starts p 0 + n < get_or starts m 0 + s
apart_below starts p n m s ascends lt here there =
    let inside : m + 1 < length starts = starts_inside starts (m + 1) (get_or starts m 0 + s) there in
    let next = ascends (p + 1) m (omega arith) (omega arith) in
    omega (arith, here, next)

same_place : (starts : List ℕ) (p n m s : ℕ) → Ascends starts → get_or starts p 0 + n < get_or starts (p + 1) 0 → get_or starts m 0 + s < get_or starts (m + 1) 0 → eqb (get_or starts p 0 + n) (get_or starts m 0 + s) ≡ (eqb p m && eqb n s)
same_place starts p n m s ascends here there =
    elim (eqb_tells p m) [
      | inl same ↦
          let start : get_or starts p 0 ≡ get_or starts m 0 = ap (λ (k : ℕ). get_or starts k 0) same.1 in
          elim (eqb_tells n s) [
            | inl equal ↦ rw (same.0, equal.0) (eq-eqb (get_or starts p 0 + n) (get_or starts m 0 + s) (omega (arith, start, equal.1)))
            | inr other ↦ rw (same.0, other.0) (ne_eqb (get_or starts p 0 + n) (get_or starts m 0 + s) (λ e. other.1 (omega (arith, start, e))))
          ]
      | inr other ↦ rw other.0 (ne_eqb (get_or starts p 0 + n) (get_or starts m 0 + s) (λ e. other.1 (row_of e)))
    ]
  where
    row_of : get_or starts p 0 + n ≡ get_or starts m 0 + s → p ≡ m
    row_of e =
        elim (cases_lt p m) [
          | inl below ↦ let lt = apart_below starts p n m s ascends below here there in absurd (omega (arith, lt, e))
          | inr above ↦
              elim (cases_lt m p) [
                | inl below ↦ let lt = apart_below starts m s p n ascends below there here in absurd (omega (arith, lt, e))
                | inr equal ↦ omega (arith, above, equal)
              ]
        ]

-- what the rows say, once a piece is noted at a place
pub noted_at : (starts : List ℕ) (before after : List (Option ℕ)) (p n index m s : ℕ) → Ascends starts → get_or starts p 0 + n < get_or starts (p + 1) 0 → ((k : ℕ) → get_or after k None ≡ option_or (get_or before k None) (cond (eqb (get_or starts p 0 + n) k) (Some index) None)) → indexed (rows_of starts after) m s ≡ option_or (indexed (rows_of starts before) m s) (cond (eqb p m && eqb n s) (Some index) None)
noted_at starts before after p n index m s ascends here noted =
    let place = get_or starts m 0 + s in
    elim (cases_lt place (get_or starts (m + 1) 0)) [
      | inl inside ↦
          rw (lt-ltb place (get_or starts (m + 1) 0) inside)
          (noted place ∙ ap (λ (b : Bool). option_or (get_or before place None) (cond b (Some index) None)) (same_place starts p n m s ascends here inside))
      | inr outside ↦
          rw (le-ltb place (get_or starts (m + 1) 0) outside)
          (ap (λ (b : Bool). cond b (Some index) None) (sym (elsewhere outside)))
    ]
  where
    elsewhere : get_or starts (m + 1) 0 ≤ get_or starts m 0 + s → (eqb p m && eqb n s) ≡ false
    elsewhere outside =
        elim (eqb_tells p m) [
          | inl same ↦
              elim (eqb_tells n s) [
                | inl equal ↦
                    let start = ap (λ (k : ℕ). get_or starts k 0) same.1 in
                    let end = ap (λ (k : ℕ). get_or starts (k + 1) 0) same.1 in
                    absurd (omega (arith, here, outside, start, end, equal.1))
                | inr other ↦ rw (same.0, other.0) refl
              ]
          | inr other ↦ rw other.0 refl
        ]

-- rows without a piece say nothing
abbrev nothing : Option ℕ
nothing = None

pub nothing_at : (starts : List ℕ) (n m s : ℕ) → indexed (rows_of starts (replicate n nothing)) m s ≡ None
nothing_at starts n m s =
    either (ltb (get_or starts m 0 + s) (get_or starts (m + 1) 0)) (get_or (replicate n nothing) (get_or starts m 0 + s) None) (each n (get_or starts m 0 + s))
  where
    each : (n k : ℕ) → get_or (replicate n nothing) k None ≡ None
    each zero k = refl
    each (suc n) zero = refl
    each (suc n) (suc k) = each n k

    either : (b : Bool) (o : Option ℕ) → o ≡ None → cond b o None ≡ None
    either true o e = e
    either false o e = refl

-- ---- where rows start

starts_ascend : (places : List ℕ → ℕ) (modules : List ModuleView) (count : ℕ) (starts : List ℕ) (end d i j : ℕ) → HasStarts places modules count starts end → j ≡ i + d → j ≤ count → get_or starts i 0 ≤ get_or starts j 0
starts_ascend places modules count starts end zero i j has is within =
    let same : j ≡ i = omega (arith, is) in
    let equal = ap (λ (k : ℕ). get_or starts k 0) same in
    omega (arith, equal)
starts_ascend places modules count starts end (suc d) i j has is within =
    let before = starts_ascend places modules count starts end d i (i + d) has refl (omega (arith, is, within)) in
    let next = has.next (i + d) (omega (arith, is, within)) in
    let same : j ≡ i + d + 1 = omega (arith, is) in
    let at = ap (λ (k : ℕ). get_or starts k 0) same in
    omega (arith, before, next, at)

pub rows_are : (places : List ℕ → ℕ) (modules : List ModuleView) (rows : RowsView) → HasStarts places modules (length modules) rows.starts (length rows.pieces) → AreRows rows
rows_are places modules rows has = record {
  ascend = λ i j le lt. starts_ascend places modules (length modules) rows.starts (length rows.pieces) (j - i) i j has (omega arith) (omega (arith, lt, has.for_each));
  within = λ i.
      elim (cases_lt i (length rows.starts)) [
        | inl inside ↦
            let up = starts_ascend places modules (length modules) rows.starts (length rows.pieces) (length modules - i) i (length modules) has (omega (arith, inside, has.for_each)) (omega arith) in
            omega (arith, up, has.last)
        | inr past ↦ let none = get_or_past rows.starts i 0 past in omega (arith, none)
      ];
}

-- ---- a loop over pieces

holds_read : (test : Piece → Bool) (pieces : List Piece) (k : ℕ) (piece : Piece) → k < length pieces → piece ≡ get_or pieces k piece → holds test (map bare pieces) k ≡ test (bare piece)
holds_read test pieces k piece lt is =
    ap test (get_or-map_same bare pieces k no_piece)
    ∙ ap (λ (p : Piece). test (bare p)) (sym (is ∙ get_or_default pieces k piece no_piece lt))

-- a row has it noted where it passes
pub index_more : (test : Piece → Bool) (pieces : List Piece) (k : ℕ) (piece : Piece) (here : Bool) (before after : Option ℕ) → k < length pieces → piece ≡ get_or pieces k piece → here ≡ test (bare piece) → before ≡ first_below k (holds test (map bare pieces)) → after ≡ option_or before (cond here (Some k) None) → after ≡ first_below (k + 1) (holds test (map bare pieces))
index_more test pieces k piece here before after lt read passes was is =
    is
    ∙ ap (λ (o : Option ℕ). option_or o (cond here (Some k) None)) was
    ∙ ap (λ (b : Bool). option_or (first_below k (holds test (map bare pieces))) (cond b (Some k) None)) (passes ∙ sym (holds_read test pieces k piece lt read))
    ∙ sym (first_below-next k (holds test (map bare pieces)))

-- and stays as it was where it does not
pub index_same : (test : Piece → Bool) (pieces : List Piece) (k : ℕ) (piece : Piece) (before : Option ℕ) → k < length pieces → piece ≡ get_or pieces k piece → test (bare piece) ≡ false → before ≡ first_below k (holds test (map bare pieces)) → before ≡ first_below (k + 1) (holds test (map bare pieces))
index_same test pieces k piece before lt read fails was =
    index_more test pieces k piece false before before lt read (sym fails) was (sym (or_none before))

-- ---- sections and commons

pub of_section : (count position section : ℕ) (piece : Piece) → piece.«module» < count → piece.number < FIRST_COMMON → (eqb piece.«module» position && eqb piece.number section) ≡ is_section_of count position section piece
of_section count position section piece inside small =
    rw (lt-ltb piece.«module» count inside, lt-ltb piece.number FIRST_COMMON small) refl

pub no_section : (count position section : ℕ) (piece : Piece) → FIRST_COMMON ≤ piece.number → is_section_of count position section piece ≡ false
no_section count position section piece large = rw (le-ltb piece.number FIRST_COMMON large, and-false (ltb piece.«module» count)) refl

pub not_of_modules : (count position section : ℕ) (piece : Piece) → piece.«module» ≡ count → is_section_of count position section piece ≡ false
not_of_modules count position section piece same = rw (le-ltb piece.«module» count (omega (arith, same))) refl

pub of_common : (position symbol : ℕ) (piece : Piece) → FIRST_COMMON ≤ piece.number → (eqb piece.«module» position && eqb (piece.number - FIRST_COMMON) symbol) ≡ is_common_of position symbol piece
of_common position symbol piece large = ap (λ (b : Bool). eqb piece.«module» position && b) (shifted piece.number large)
  where
    shifted : (number : ℕ) → FIRST_COMMON ≤ number → eqb (number - FIRST_COMMON) symbol ≡ eqb number (FIRST_COMMON + symbol)
    shifted number large =
        elim (eqb_tells (number - FIRST_COMMON) symbol) [
          | inl same ↦ same.0 ∙ sym (eq-eqb number (FIRST_COMMON + symbol) (omega (arith, same.1)))
          | inr other ↦
              elim (eqb_tells number (FIRST_COMMON + symbol)) [
                | inl here ↦ absurd (other.1 (omega (arith, here.1)))
                | inr apart ↦ other.0 ∙ sym apart.0
              ]
        ]

pub no_common : (position symbol : ℕ) (piece : Piece) → piece.number < FIRST_COMMON → is_common_of position symbol piece ≡ false
no_common position symbol piece small =
    elim (eqb_tells piece.number (FIRST_COMMON + symbol)) [
      | inl same ↦ absurd (omega (arith, small, same.1))
      | inr other ↦ ap (λ (b : Bool). eqb piece.«module» position && b) other.0 ∙ and-false (eqb piece.«module» position)
    ]

-- ---- rows with what is noted of the first pieces

pub record AreNoted (places : List ℕ → ℕ) (modules : List ModuleView) (test : ℕ → ℕ → Piece → Bool) (pieces : List Piece) (count : ℕ) (rows : RowsView) : Type 0 where
  pub starts : HasStarts places modules (length modules) rows.starts (length rows.pieces)
  pub noted : (m n : ℕ) → indexed rows m n ≡ first_below count (holds (test m n) (map bare pieces))

pub none_noted : (places : List ℕ → ℕ) (modules : List ModuleView) (test : ℕ → ℕ → Piece → Bool) (pieces : List Piece) (rows : RowsView) → HasRows places modules rows → AreNoted places modules test pieces 0 rows
unfolding first_below
none_noted places modules test pieces rows has = record {
  starts = has.starts;
  noted = λ m n. ap (λ (ps : List (Option ℕ)). indexed (rows_of rows.starts ps) m n) has.empty ∙ nothing_at rows.starts (length rows.pieces) m n;
}

pub noted_more : (places : List ℕ → ℕ) (modules : List ModuleView) (test : ℕ → ℕ → Piece → Bool) (pieces : List Piece) (k : ℕ) (piece : Piece) (number : ℕ) (rows after : RowsView) → k < length pieces → piece ≡ get_or pieces k piece → ((m n : ℕ) → (eqb piece.«module» m && eqb number n) ≡ test m n (bare piece)) → after.starts ≡ rows.starts → length after.pieces ≡ length rows.pieces → ((m n : ℕ) → indexed after m n ≡ option_or (indexed rows m n) (cond (eqb piece.«module» m && eqb number n) (Some k) None)) → AreNoted places modules test pieces k rows → AreNoted places modules test pieces (k + 1) after
noted_more places modules test pieces k piece number rows after lt read passes same long noted are = record {
  starts = subst (λ (ns : List ℕ). HasStarts places modules (length modules) ns (length after.pieces)) (sym same) (subst (HasStarts places modules (length modules) rows.starts) (sym long) are.starts);
  noted = λ m n. index_more (test m n) pieces k piece _ (indexed rows m n) (indexed after m n) lt read (passes m n) (are.noted m n) (noted m n);
}

pub noted_same : (places : List ℕ → ℕ) (modules : List ModuleView) (test : ℕ → ℕ → Piece → Bool) (pieces : List Piece) (k : ℕ) (piece : Piece) (rows : RowsView) → k < length pieces → piece ≡ get_or pieces k piece → ((m n : ℕ) → test m n (bare piece) ≡ false) → AreNoted places modules test pieces k rows → AreNoted places modules test pieces (k + 1) rows
noted_same places modules test pieces k piece rows lt read fails are = record {
  starts = are.starts;
  noted = λ m n. index_same (test m n) pieces k piece (indexed rows m n) lt read (fails m n) (are.noted m n);
}

-- ---- places in rows

module_place : (link : LinkParts) (piece : Piece) → All HasFewSections link.modules → IsModulePiece link piece → HasPlace link.modules piece.«module» piece.number
module_place link piece few whole = record {
  within = whole.within;
  section = λ small.
      elim whole.is [
        | inl section ↦ omega (arith, section.last)
        | inr common ↦ absurd (omega (arith, small, ap (λ (p : Piece). p.number) common.is))
      ];
  common = λ large.
      elim whole.is [
        | inl section ↦
            let total : section_total (module_at link.modules piece.«module»).bytes < FIRST_COMMON = few piece.«module» no_module whole.within in
            absurd (omega (arith, large, section.last, total))
        | inr common ↦
            let number : piece.number ≡ FIRST_COMMON + common.common.symbol = ap (λ (p : Piece). p.number) common.is in
            let room = common_place (module_at link.modules piece.«module»).bytes common.common common.own in
            omega (arith, room, number)
      ];
}

-- a number of the linker's module stays below those of commons
few_numbers : (modules slots number : ℕ) → modules ≤ MODULE_LIMIT → numbers_below slots ≤ FIRST_COMMON → IsLinkerNumber modules slots number → number < FIRST_COMMON
few_numbers modules slots number few below (inl made) = omega (arith, made.1, few)
few_numbers modules slots number few below (inr slot) = omega (arith, slot.1, below)

some_place : (link : LinkParts) (slots : ℕ) (piece : Piece) → slots ≡ length (slot_names link) → length link.modules ≤ MODULE_LIMIT → numbers_below slots ≤ FIRST_COMMON → All HasFewSections link.modules → IsPieceOf link piece → HasSomePlace link.modules slots piece.«module» piece.number
some_place link slots piece same limit below few (inl of_module) = inl (module_place link piece few of_module)
some_place link slots piece same limit below few (inr of_linker) =
    let numbered = subst (λ (n : ℕ). IsLinkerNumber (length link.modules) n piece.number) (sym same) of_linker.numbered in
    inr (record {
      of_linker = of_linker.of_linker;
      within = numbered;
      few = few_numbers (length link.modules) slots piece.number limit below numbered;
    })

pub all_placed : (link : LinkParts) (slots : ℕ) → slots ≡ length (slot_names link) → length link.modules ≤ MODULE_LIMIT → numbers_below slots ≤ FIRST_COMMON → All HasFewSections link.modules → All (λ piece. HasSomePlace link.modules slots piece.«module» piece.number) (link_pieces link)
all_placed link slots same limit below few =
    All-weaker (IsPieceOf link) (λ (piece : Piece). HasSomePlace link.modules slots piece.«module» piece.number) (λ piece whole. some_place link slots piece same limit below few whole) (link_pieces link) (pieces_are link)

-- rows of so many places have it
pub in_section_rows : (modules : List ModuleView) (rows : RowsView) (position number : ℕ) → HasStarts section_places modules (length modules) rows.starts (length rows.pieces) → HasPlace modules position number → number < FIRST_COMMON → row_start rows position + number < row_start rows (position + 1)
in_section_rows modules rows position number starts has small =
    let next = starts.next position has.within in
    let room = has.section small in
    omega (arith, next, room)

pub in_common_rows : (modules : List ModuleView) (rows : RowsView) (position number : ℕ) → HasStarts common_places modules (length modules) rows.starts (length rows.pieces) → HasPlace modules position number → FIRST_COMMON ≤ number → row_start rows position + (number - FIRST_COMMON) < row_start rows (position + 1)
in_common_rows modules rows position number starts has large =
    let next = starts.next position has.within in
    let room = has.common large in
    omega (arith, next, room)

-- ---- which place a piece has

pub of_module : (modules : List ModuleView) (slots position number : ℕ) → (position ≡ length modules → ⊥) → HasSomePlace modules slots position number → HasPlace modules position number
of_module modules slots position number other (inl place) = place
of_module modules slots position number other (inr place) = absurd (other place.of_linker)

pub of_linker : (modules : List ModuleView) (slots position number : ℕ) → position ≡ length modules → HasSomePlace modules slots position number → HasLinkerPlace modules slots position number
of_linker modules slots position number same (inl place) = absurd (omega (arith, same, place.within))
of_linker modules slots position number same (inr place) = place

-- ---- the numbers of imports

abbrev number_at : List ModuleView → ℕ → ℕ → Option ℕ
number_at modules pieces position = cond (is_import modules position) (Some (pieces + position)) None

-- those of the first modules
pub record AreNumbers (modules : List ModuleView) (pieces count : ℕ) (numbers : List (Option ℕ)) : Type 0 where
  pub for_each : length numbers ≡ count
  pub each : (p : ℕ) → p < count → get_or numbers p None ≡ cond (is_import modules p) (Some (pieces + p)) None

pub no_numbers : (modules : List ModuleView) (pieces : ℕ) (numbers : List (Option ℕ)) → numbers ≡ [] → AreNumbers modules pieces 0 numbers
no_numbers modules pieces numbers none = record { for_each = ap length none; each = λ p lt. absurd (omega arith) }

pub numbers_more : (modules : List ModuleView) (pieces k : ℕ) (numbers after : List (Option ℕ)) (number : Option ℕ) → k < length modules → after ≡ numbers ++ number ∷ [] → number ≡ cond (is_import modules k) (Some (pieces + k)) None → AreNumbers modules pieces k numbers → AreNumbers modules pieces (k + 1) after
numbers_more modules pieces k numbers after number lt grown is are = record {
  for_each = let long = are.for_each in omega (arith, long, ap length grown, length-append numbers (number ∷ []));
  each = λ p below.
      ap (λ (ns : List (Option ℕ)). get_or ns p None) grown
      ∙ elim (cases_lt p k) [
        | inl earlier ↦ get_or_append_left numbers (number ∷ []) None p (omega (arith, earlier, are.for_each)) ∙ are.each p earlier
        | inr later ↦
            let same : p ≡ k = omega arith in
            subst (λ (q : ℕ). get_or (numbers ++ number ∷ []) q None ≡ number_at modules pieces q) (sym same) (get_or_push numbers number None k are.for_each ∙ is)
      ];
}

pub all_numbers : (modules : List ModuleView) (pieces count : ℕ) (numbers : List (Option ℕ)) (p : ℕ) → count ≡ length modules → AreNumbers modules pieces count numbers → get_or numbers p None ≡ cond (is_import modules p) (Some (pieces + p)) None
all_numbers modules pieces count numbers p all are =
    elim (cases_lt p count) [
      | inl inside ↦ are.each p inside
      | inr past ↦
          get_or_past numbers p None (omega (arith, past, are.for_each))
          ∙ sym (ap (λ (view : ModuleView). cond (is_some view.imported) (Some (pieces + p)) None) (get_or_past modules p no_module (omega (arith, past, all))))
    ]
