-- Bytes put over those from a place on, byte by byte.
use Rattle.std.proofs.Common.{◌≡◌, ℕ, ◌+◌, ◌-◌, ◌<◌, ◌≤◌, List, [], ◌∷◌, ◌++◌, length, take, drop, slice_index, refl, ap, ◌∙◌, inl, inr, length-append, length-drop, arith}
use Rattle.std.proofs.lemmas.Bool.{cases_lt}
use Rattle.std.proofs.lemmas.Grind.{same_number_lists}
use Rattle.std.proofs.lemmas.List.{get_or_append_left, get_or-append_right, get_or-take, get_or-drop, length-take-le, take_all}
use Rattle.link_base.specs.Bytes.{bytes_at}
use Rattle.image_writer.specs.PieceInFile.{patched}

-- bytes that stand at a place
pub bytes_are : (bytes : List ℕ) (place : ℕ) (part : List ℕ) → (0 < length part → place + length part ≤ length bytes) → ((t : ℕ) → t < length part → slice_index bytes (place + t) ≡ slice_index part t) → bytes_at bytes place (length part) ≡ part
bytes_are bytes place [] inside same = refl
bytes_are bytes place (b ∷ bs) inside same =
    let n = length (b ∷ bs) in
    let len : length (take n (drop place bytes)) ≡ n = length-take-le n (drop place bytes) (omega (arith, length-drop place bytes, inside (omega arith))) in
    same_number_lists (take n (drop place bytes)) (b ∷ bs) len (λ t lt.
    get_or-take n (drop place bytes) t 0 (omega (arith, len, lt)) ∙ get_or-drop place bytes t 0 ∙ same t (omega (arith, len, lt)))

pub length-patched : (place : ℕ) (part bytes : List ℕ) → (0 < length part → place + length part ≤ length bytes) → length (patched place part bytes) ≡ length bytes
length-patched place part bytes fits =
    let back = drop (place + length part) bytes in
    let whole = length-append (take place bytes) (part ++ back) in
    let rest = length-append part back in
    let dropped = length-drop (place + length part) bytes in
    elim (cases_lt place (length bytes)) [
      | inl before ↦
          let front = length-take-le place bytes (omega arith) in
          (elim (cases_lt 0 (length part)) [ inl some ↦ omega (arith, whole, rest, dropped, front, fits some) | inr none ↦ omega (arith, whole, rest, dropped, front, none) ])
      | inr past ↦
          let front = ap length (take_all place bytes past) in
          (elim (cases_lt 0 (length part)) [ inl some ↦ absurd (omega (arith, fits some, some, past)) | inr none ↦ omega (arith, whole, rest, dropped, front, none) ])
    ]

pub patched_before : (place : ℕ) (part bytes : List ℕ) (o : ℕ) → o < place → o < length bytes → slice_index (patched place part bytes) o ≡ slice_index bytes o
patched_before place part bytes o lt there =
    elim (cases_lt place (length bytes)) [
      | inl before ↦
          get_or_append_left (take place bytes) (part ++ drop (place + length part) bytes) 0 o (omega (arith, length-take-le place bytes (omega arith), lt)) ∙ get_or-take place bytes o 0 lt
      | inr past ↦
          get_or_append_left (take place bytes) (part ++ drop (place + length part) bytes) 0 o (omega (arith, ap length (take_all place bytes past), there)) ∙ get_or-take place bytes o 0 lt
    ]

pub patched_inside : (place : ℕ) (part bytes : List ℕ) (o : ℕ) → place + length part ≤ length bytes → place ≤ o → o < place + length part → slice_index (patched place part bytes) o ≡ slice_index part (o - place)
patched_inside place part bytes o fits low high =
    get_or-append_right (take place bytes) (part ++ drop (place + length part) bytes) place o 0 (length-take-le place bytes (omega arith)) low
    ∙ get_or_append_left part (drop (place + length part) bytes) 0 (o - place) (omega arith)

pub patched_after : (place : ℕ) (part bytes : List ℕ) (o : ℕ) → place + length part ≤ o → o < length bytes → slice_index (patched place part bytes) o ≡ slice_index bytes o
patched_after place part bytes o past there =
    get_or-append_right (take place bytes) (part ++ drop (place + length part) bytes) place o 0 (length-take-le place bytes (omega arith)) (omega arith)
    ∙ get_or-append_right part (drop (place + length part) bytes) (length part) (o - place) 0 refl (omega arith)
    ∙ get_or-drop (place + length part) bytes (o - place - length part) 0
    ∙ ap (slice_index bytes) (back place (length part) o past)
  where
    back : (a b c : ℕ) → a + b ≤ c → a + b + (c - a - b) ≡ c
    back a b c le = omega arith
