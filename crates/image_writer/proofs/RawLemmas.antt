-- The raw data of a section, byte by byte: what the pieces put at each address.
use Rattle.std.proofs.Common.{◌≡◌, ℕ, ◌+◌, ◌-◌, ◌<◌, ◌≤◌, ◌⊎◌, leb, ltb, false, cond, List, [], ◌∷◌, ◌++◌, length, get_or, map, replicate, refl, sym, ap, ◌∙◌, inl, inr, length-append, arith}
use Rattle.std.specs.List.{range_with_len}
use Rattle.std.proofs.lemmas.Bool.{and_parts, and_from, cases_Bool, cases_lt, leb-true, ltb-true, cond-true, cond-false, lt-ltb, le-leb, le-ltb}
use Rattle.std.proofs.lemmas.Grind.{same_number_lists}
use Rattle.std.proofs.lemmas.List.{get_or_append_left, get_or-append_right, get_or-replicate, length-replicate}
use Rattle.std.proofs.lemmas.List.FromFn.{get_or-map-range_with_len, length-map-range_with_len}
use Rattle.image_writer.specs.declared.headers.SectionHeader.{SectionHeader}
use Rattle.image_writer.specs.ExpectedImage.{PlacedBytes, holds, piece_byte, raw_byte, raw_bytes}
use Rattle.image_writer.specs.RawData.{gap, next_place, laid, Ascend}

-- ---- pieces that ascend

place_rises : (bytes : List ℕ) (rva place : ℕ) → (0 < length bytes → place ≤ rva) → place ≤ next_place bytes rva place
place_rises [] rva place le = omega arith
place_rises (b ∷ bs) rva place le = omega (arith, le (omega arith))

pub ascend_end : (pieces : List PlacedBytes) (end place : ℕ) → Ascend pieces end place → place ≤ end
unfolding Ascend
ascend_end [] end place up = up
ascend_end (piece ∷ pieces) end place up =
    omega (arith, place_rises piece.bytes piece.rva place up.0, ascend_end pieces end (next_place piece.bytes piece.rva place) up.1)

one_more : (bytes : List ℕ) (rva place end : ℕ) → (0 < length bytes → place ≤ rva) → next_place bytes rva place ≤ end → gap bytes rva place + length bytes + (end - next_place bytes rva place) ≡ end - place
one_more [] rva place end le fits = omega arith
one_more (b ∷ bs) rva place end le fits = omega (arith, le (omega arith), fits)

pub length-laid : (pieces : List PlacedBytes) (end place : ℕ) → Ascend pieces end place → length (laid pieces end place) ≡ end - place
unfolding laid Ascend
length-laid [] end place up = length-replicate {A = ℕ} (end - place) 0
length-laid (piece ∷ pieces) end place up =
    let zeros : List ℕ = replicate (gap piece.bytes piece.rva place) 0 in
    let next = next_place piece.bytes piece.rva place in
    omega (
      arith,
      length-append (zeros ++ piece.bytes) (laid pieces end next),
      length-append zeros piece.bytes,
      length-replicate {A = ℕ} (gap piece.bytes piece.rva place) 0,
      length-laid pieces end next up.1,
      one_more piece.bytes piece.rva place end up.0 (ascend_end pieces end next up.1),
    )

-- ---- pieces that do not hold an address

pub apart : (piece : PlacedBytes) (rva : ℕ) → (0 < length piece.bytes → (rva < piece.rva) ⊎ (piece.rva + length piece.bytes ≤ rva)) → holds piece rva ≡ false
apart piece rva out =
    elim (cases_Bool (holds piece rva)) [
      | inr elsewhere ↦ elsewhere
      | inl here ↦
          let both = and_parts (leb piece.rva rva) (ltb rva (piece.rva + length piece.bytes)) here in
          let low : piece.rva ≤ rva = leb-true _ _ both.0 in
          let high : rva < piece.rva + length piece.bytes = ltb-true _ _ both.1 in
          elim (out (omega arith)) [ inl before ↦ absurd (omega arith) | inr behind ↦ absurd (omega arith) ]
    ]

pub passed : (piece : PlacedBytes) (pieces : List PlacedBytes) (rva : ℕ) → (0 < length piece.bytes → (rva < piece.rva) ⊎ (piece.rva + length piece.bytes ≤ rva)) → piece_byte (piece ∷ pieces) rva ≡ piece_byte pieces rva
passed piece pieces rva out = cond-false (holds piece rva) _ _ (apart piece rva out)

-- the pieces with bytes lie between two places
unfoldable pub Lie : ℕ → ℕ → List PlacedBytes → Type 0
Lie low high [] = Unit {0}
Lie low high (piece ∷ pieces) = (0 < length piece.bytes → (low ≤ piece.rva) × (piece.rva + length piece.bytes ≤ high)) × Lie low high pieces

pub lie_wider : (low high lower higher : ℕ) (pieces : List PlacedBytes) → lower ≤ low → high ≤ higher → Lie low high pieces → Lie lower higher pieces
unfolding Lie
lie_wider low high lower higher [] below above lie = tt
lie_wider low high lower higher (piece ∷ pieces) below above lie =
    (λ some. let at = lie.0 some in (omega (arith, at.0), omega (arith, at.1)), lie_wider low high lower higher pieces below above lie.1)

pub lie_both : (low high : ℕ) (xs ys : List PlacedBytes) → Lie low high xs → Lie low high ys → Lie low high (xs ++ ys)
unfolding Lie
lie_both low high [] ys a b = b
lie_both low high (x ∷ xs) ys a b = (a.0, lie_both low high xs ys a.1 b)

outside : (low high start len rva : ℕ) → (low ≤ start) × (start + len ≤ high) → (rva < low) ⊎ (high ≤ rva) → (rva < start) ⊎ (start + len ≤ rva)
outside low high start len rva at (inl before) = inl (omega (arith, at.0))
outside low high start len rva at (inr behind) = inr (omega (arith, at.1))

-- the pieces that lie elsewhere are passed over
pub front_passed : (low high rva : ℕ) (xs ys : List PlacedBytes) → Lie low high xs → (rva < low) ⊎ (high ≤ rva) → piece_byte (xs ++ ys) rva ≡ piece_byte ys rva
unfolding Lie
front_passed low high rva [] ys lie out = refl
front_passed low high rva (x ∷ xs) ys lie out =
    passed x (xs ++ ys) rva (λ some. outside low high x.rva (length x.bytes) rva (lie.0 some) out) ∙ front_passed low high rva xs ys lie.1 out

pub none_there : (low high rva : ℕ) (pieces : List PlacedBytes) → Lie low high pieces → (rva < low) ⊎ (high ≤ rva) → piece_byte pieces rva ≡ 0
unfolding Lie
none_there low high rva [] lie out = refl
none_there low high rva (x ∷ xs) lie out =
    passed x xs rva (λ some. outside low high x.rva (length x.bytes) rva (lie.0 some) out) ∙ none_there low high rva xs lie.1 out

pub back_passed : (rva : ℕ) (xs ys : List PlacedBytes) → piece_byte ys rva ≡ 0 → piece_byte (xs ++ ys) rva ≡ piece_byte xs rva
back_passed rva [] ys none = none
back_passed rva (x ∷ xs) ys none = ap (λ (n : ℕ). cond (holds x rva) (get_or x.bytes (rva - x.rva) 0) n) (back_passed rva xs ys none)

-- pieces that ascend lie between the place and the end
next_lies : (bytes : List ℕ) (rva place end : ℕ) → (0 < length bytes → place ≤ rva) → next_place bytes rva place ≤ end → 0 < length bytes → (place ≤ rva) × (rva + length bytes ≤ end)
next_lies [] rva place end le fits some = absurd (omega arith)
next_lies (b ∷ bs) rva place end le fits some = (le some, fits)

pub ascend_lie : (pieces : List PlacedBytes) (end place : ℕ) → Ascend pieces end place → Lie place end pieces
unfolding Ascend Lie
ascend_lie [] end place up = tt
ascend_lie (piece ∷ pieces) end place up =
    let next = next_place piece.bytes piece.rva place in (
      next_lies piece.bytes piece.rva place end up.0 (ascend_end pieces end next up.1),
      lie_wider next end place end pieces (place_rises piece.bytes piece.rva place up.0) (omega arith) (ascend_lie pieces end next up.1),
    )

-- ---- the bytes that are laid

-- the byte at a place behind zeros and bytes, or in them
byte_here : (b : ℕ) (bs : List ℕ) (rva : ℕ) (rest : List ℕ) (pieces : List PlacedBytes) (place end k : ℕ) → place ≤ rva → Lie (rva + length (b ∷ bs)) end pieces → ((j : ℕ) → rva + length (b ∷ bs) + j ≡ place + k → get_or rest j 0 ≡ piece_byte pieces (place + k)) → get_or ((replicate (rva - place) 0 ++ (b ∷ bs)) ++ rest) k 0 ≡ piece_byte (record { rva = rva; bytes = b ∷ bs } ∷ pieces) (place + k)
byte_here b bs rva rest pieces place end k le lie later =
    let bytes = b ∷ bs in
    let piece : PlacedBytes = record { rva = rva; bytes = b ∷ bs } in
    let zeros : List ℕ = replicate (rva - place) 0 in
    let many : length zeros ≡ rva - place = length-replicate {A = ℕ} (rva - place) 0 in
    let front : length (zeros ++ bytes) ≡ rva - place + length bytes = omega (arith, length-append zeros bytes, many) in
    elim (cases_lt k (rva - place + length bytes)) [
      | inl inner ↦
          get_or_append_left (zeros ++ bytes) rest 0 k (omega arith)
          ∙ (elim (cases_lt k (rva - place)) [
            | inl before ↦
                get_or_append_left zeros bytes 0 k (omega arith)
                ∙ get_or-replicate (rva - place) k 0 0 before
                ∙ sym (passed piece pieces (place + k) (λ some. inl (omega arith)) ∙ none_there (rva + length bytes) end (place + k) pieces lie (inl (omega arith)))
            | inr here ↦
                get_or-append_right zeros bytes (rva - place) k 0 many here
                ∙ ap (λ (n : ℕ). get_or bytes n 0) (omega arith)
                ∙ sym (cond-true (holds piece (place + k)) (get_or bytes (place + k - rva) 0) _ (and_from _ _ (le-leb rva (place + k) (omega arith)) (lt-ltb (place + k) (rva + length bytes) (omega arith))))
          ])
      | inr past ↦
          get_or-append_right (zeros ++ bytes) rest (rva - place + length bytes) k 0 front past
          ∙ later (k - (rva - place + length bytes)) (omega arith)
          ∙ sym (passed piece pieces (place + k) (λ some. inr (omega arith)))
    ]

byte_more : (bytes : List ℕ) (rva : ℕ) (rest : List ℕ) (pieces : List PlacedBytes) (place end k : ℕ) → (0 < length bytes → place ≤ rva) → Lie (next_place bytes rva place) end pieces → ((j : ℕ) → next_place bytes rva place + j ≡ place + k → get_or rest j 0 ≡ piece_byte pieces (place + k)) → get_or ((replicate (gap bytes rva place) 0 ++ bytes) ++ rest) k 0 ≡ piece_byte (record { rva = rva; bytes = bytes } ∷ pieces) (place + k)
byte_more [] rva rest pieces place end k le lie later =
    later k refl ∙ sym (passed (record { rva = rva; bytes = [] }) pieces (place + k) (λ some. absurd (omega arith)))
byte_more (b ∷ bs) rva rest pieces place end k le lie later = byte_here b bs rva rest pieces place end k (le (omega arith)) lie later

pub laid_byte : (pieces : List PlacedBytes) (end place k : ℕ) → Ascend pieces end place → k < end - place → get_or (laid pieces end place) k 0 ≡ piece_byte pieces (place + k)
unfolding laid Ascend
laid_byte [] end place k up lt = get_or-replicate (end - place) k 0 0 lt
laid_byte (piece ∷ pieces) end place k up lt =
    let next = next_place piece.bytes piece.rva place in
    let fits = ascend_end pieces end next up.1 in
    byte_more piece.bytes piece.rva (laid pieces end next) pieces place end k up.0 (ascend_lie pieces end next up.1)
    (λ j same. laid_byte pieces end next j up.1 (omega (arith, same, fits)) ∙ ap (piece_byte pieces) same)

-- ---- the raw data of a section among others

section_byte : (before mine after : List PlacedBytes) (row : SectionHeader) (high k : ℕ) → Lie 0 row.rva before → Lie row.rva (row.rva + row.size) mine → Lie (row.rva + row.size) high after → piece_byte mine (row.rva + k) ≡ raw_byte (before ++ (mine ++ after)) row k
section_byte before mine after row high k b m a =
    elim (cases_lt k row.size) [
      | inl inner ↦
          sym (cond-true (ltb k row.size) _ 0 (lt-ltb _ _ inner)
          ∙ front_passed 0 row.rva (row.rva + k) before (mine ++ after) b (inr (omega arith))
          ∙ back_passed (row.rva + k) mine after (none_there (row.rva + row.size) high (row.rva + k) after a (inl (omega arith))))
      | inr past ↦ none_there row.rva (row.rva + row.size) (row.rva + k) mine m (inr (omega arith)) ∙ sym (cond-false (ltb k row.size) _ 0 (le-ltb _ _ past))
    ]

pub section_raw : (before mine after : List PlacedBytes) (row : SectionHeader) (high : ℕ) → Lie 0 row.rva before → Ascend mine (row.rva + row.raw_size) row.rva → Lie row.rva (row.rva + row.size) mine → Lie (row.rva + row.size) high after → laid mine (row.rva + row.raw_size) row.rva ≡ raw_bytes (before ++ (mine ++ after)) row
section_raw before mine after row high b up m a =
    let f = raw_byte (before ++ (mine ++ after)) row in
    let made : length (map f (range_with_len 0 row.raw_size)) ≡ row.raw_size = length-map-range_with_len f 0 row.raw_size in
    let laid_len : length (laid mine (row.rva + row.raw_size) row.rva) ≡ row.raw_size = omega (arith, length-laid mine (row.rva + row.raw_size) row.rva up) in
    same_number_lists (laid mine (row.rva + row.raw_size) row.rva) (map f (range_with_len 0 row.raw_size)) (laid_len ∙ sym made) (λ k lt.
    let below : k < row.raw_size = omega (arith, laid_len) in
    laid_byte mine (row.rva + row.raw_size) row.rva k up (omega arith)
    ∙ section_byte before mine after row high k b m a
    ∙ sym (get_or-map-range_with_len f 0 row.raw_size k k 0 below (omega arith)))
