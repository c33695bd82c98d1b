-- Which texts of a string table are longer than a name may be. Own.
use Rattle.std.specs.Prelude.{◌≡◌, ℕ, ◌+◌, ◌-◌, ◌*◌, ◌<◌, ◌≤◌, Bool, true, false, ◌&&◌, nat_le, nat_lt, if◌then◌else◌, List, [], ◌∷◌, ◌++◌, length, replicate, get_or, slice_index, Option, Some, None}
use Rattle.link_base.specs.Bytes.{is_nul}
use Rattle.link_base.specs.Limits.{NAME_LIMIT}
use Rattle.coff_object.specs.declared.long_texts.LongSpan.{LongSpan}
use Rattle.coff_records.specs.StringTable.{is_long_text}

-- a name whose text stands at such an offset is too long; one that does not stand in the table is not
abbrev pub is_long_at : List ℕ → Option ℕ → Bool
is_long_at strings None = false
is_long_at strings (Some offset) = is_long_text strings offset

-- the first NUL at or after a place; the end, where there is none: an invariant of the code
pub record IsNextNul (strings : List ℕ) (at place : ℕ) : Type 0 where
  pub low : at ≤ length strings → at ≤ place
  pub within : place ≤ length strings
  pub none : (k : ℕ) → at ≤ k → k < place → is_nul (slice_index strings k) ≡ true → ⊥
  pub here : place < length strings → is_nul (slice_index strings place) ≡ true

-- the place after the last NUL of a range, or the start of the range where there is none
pub record IsAfterLastNul (strings : List ℕ) (start end place : ℕ) : Type 0 where
  pub low : start ≤ place
  pub high : place ≤ end
  pub none : (k : ℕ) → place ≤ k → k < end → is_nul (slice_index strings k) ≡ true → ⊥
  pub here : start < place → is_nul (slice_index strings (place - 1)) ≡ true

-- the offsets of a block at which long texts begin: those from the span's first on, before its end
pub record IsLongSpan (strings : List ℕ) (start : ℕ) (span : LongSpan) : Type 0 where
  pub holds : (offset : ℕ) → start ≤ offset → offset < start + NAME_LIMIT → is_long_text strings offset ≡ (nat_le span.from offset && nat_lt offset span.until)

-- the span of a block in which no text is long
abbrev pub no_text : LongSpan
no_text = record { from = 0; until = 0 }

-- the spans of the first blocks with that of a later one: those between hold no offset, and nothing is put where no text is long
abbrev pub with_span : List LongSpan → ℕ → LongSpan → List LongSpan
with_span spans index span =
    if nat_lt span.from span.until then spans ++ replicate (index - length spans) no_text ++ span ∷ [] else spans

-- of so many blocks the first have their spans, and no text is long that begins in the others
pub record HoldsBlocks (strings : List ℕ) (spans : List LongSpan) (count : ℕ) : Type 0 where
  pub within : length spans ≤ count
  pub each : (index : ℕ) (span : LongSpan) → index < length spans → IsLongSpan strings (NAME_LIMIT * index) (get_or spans index span)
  pub others : (offset : ℕ) → NAME_LIMIT * length spans ≤ offset → offset < NAME_LIMIT * count → is_long_text strings offset ≡ false

-- each block has its span, and no text is long that begins after them all
pub record HoldsSpans (strings : List ℕ) (spans : List LongSpan) : Type 0 where
  pub each : (index : ℕ) (span : LongSpan) → index < length spans → IsLongSpan strings (NAME_LIMIT * index) (get_or spans index span)
  pub beyond : (offset : ℕ) → NAME_LIMIT * length spans ≤ offset → is_long_text strings offset ≡ false
