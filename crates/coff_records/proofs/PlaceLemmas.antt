-- Where symbol records stand, which have one of two sizes.
use Rattle.std.proofs.Common.{◌≡◌, ℕ, ◌+◌, ◌-◌, ◌*◌, ◌<◌, ◌≤◌, Bool, true, false, cond, List, [], length, refl, ◌∙◌, ◌⊎◌, inl, inr, arith}
use Rattle.std.proofs.lemmas.Bool.{cases_lt}
use Rattle.coff_records.specs.ObjectHeader.{is_big_object, symbols_offset, symbol_size, record_total}
use Rattle.coff_records.specs.SymbolRecord.{SymbolView, aux_count_in}
use Rattle.coff_records.specs.ObjectFile.{record_offset, record_at, symbol_at, aux_total_of}
use Rattle.coff_records.specs.FileRanges.{HasRecords}

chosen : (b : Bool) (x y : ℕ) → (cond b x y ≡ y) ⊎ (cond b x y ≡ x)
chosen true x y = inr refl
chosen false x y = inl refl

pub size_cases : (file : List ℕ) → (symbol_size file ≡ 18) ⊎ (symbol_size file ≡ 20)
unfolding symbol_size
size_cases file = chosen (is_big_object file) 20 18

after : (start size index place : ℕ) → (size ≡ 18) ⊎ (size ≡ 20) → start + size * index + size * (1 + place) ≡ start + size * (index + 1 + place)
after start size index place (inl plain) = rw plain (omega arith)
after start size index place (inr big) = rw big (omega arith)

-- an auxiliary record stands so many records after its symbol
pub place_after : (file : List ℕ) (start size index place : ℕ) → start ≡ record_offset file index → size ≡ symbol_size file → start + size * (1 + place) ≡ record_offset file (index + 1 + place)
unfolding record_offset
place_after file start size index place starts sizes =
    rw (starts, sizes) (after (symbols_offset file) (symbol_size file) index place (size_cases file))

-- no more records than the file holds
fit : (total start size len : ℕ) → (size ≡ 18) ⊎ (size ≡ 20) → (0 < total → start + size * (total - 1) + size ≤ len) → 18 * total ≤ len
fit total start size len sizes last =
    elim (cases_lt 0 total) [
      | inr none ↦ omega arith
      | inl some ↦ elim sizes [
        | inl plain ↦ let whole = rw plain at (last some) in omega (arith, whole)
        | inr big ↦ let whole = rw big at (last some) in omega (arith, whole)
      ]
    ]

pub records_fit-whole : (file : List ℕ) → HasRecords file → 18 * record_total file ≤ length file
unfolding record_offset
records_fit-whole file records =
    fit (record_total file) (symbols_offset file) (symbol_size file) (length file) (size_cases file) (λ some. records.whole (record_total file - 1) (omega arith))

-- ---- auxiliary records of a record, whatever the string table

pub aux_is : (inside file part : List ℕ) (is_big : Bool) (index aux : ℕ) (symbol : SymbolView) → inside ≡ file → is_big ≡ is_big_object inside → part ≡ record_at file index → symbol ≡ record { is_big = is_big; bytes = part; strings = [] } → aux ≡ aux_count_in symbol → aux ≡ aux_total_of file index
unfolding symbol_at aux_count_in
aux_is inside file part is_big index aux symbol same form parts is said = said ∙ rw (is, form, parts, same) refl
