-- Bytes that a list holds at an offset: their parts, the numbers and the texts in them.
use Rattle.std.proofs.Common.{◌≡◌, ℕ, ◌+◌, ◌^◌, ◌<◌, ◌≤◌, Bool, false, ◌||◌, List, [], ◌∷◌, ◌++◌, length, take, drop, Some, length-append, length-drop, lt-ltb, refl, sym, ap, ◌∙◌, inl, inr, arith}
use Rattle.std.specs.List.{list_any, position_or_len}
use Rattle.std.proofs.lemmas.Bool.{cases_Bool, false≢true}
use Rattle.std.proofs.lemmas.List.{take-append-drop, drop-drop, drop_at, take_at, append_assoc, length-take}
use Rattle.std.proofs.Math.Numerals.{one-add}
use Rattle.link_base.specs.Bytes.{bytes_at, number_at, number_bytes, is_nul, text_at}
use Rattle.link_base.proofs.CallerLemmas.{number_at-drop, number_at-number_bytes}

-- ---- parts

-- what stands from an offset on begins with the bytes that are held there
pub held_front : (memory : List ℕ) (rva : ℕ) (bytes : List ℕ) → bytes_at memory rva (length bytes) ≡ bytes → drop rva memory ≡ bytes ++ drop (length bytes) (drop rva memory)
held_front memory rva bytes held =
    sym (take-append-drop (length bytes) (drop rva memory)) ∙ ap (λ (xs : List ℕ). xs ++ drop (length bytes) (drop rva memory)) held

-- a part of the bytes is held where it stands among them
pub held_part : (memory : List ℕ) (rva : ℕ) (before bytes after : List ℕ) → bytes_at memory rva (length (before ++ (bytes ++ after))) ≡ before ++ (bytes ++ after) → bytes_at memory (rva + length before) (length bytes) ≡ bytes
held_part memory rva before bytes after held =
    let rest = drop (length (before ++ (bytes ++ after))) (drop rva memory) in
    let whole : drop rva memory ≡ before ++ (bytes ++ (after ++ rest)) =
    held_front memory rva (before ++ (bytes ++ after)) held
    ∙ append_assoc before (bytes ++ after) rest
    ∙ ap (λ (xs : List ℕ). before ++ xs) (append_assoc bytes after rest) in
    ap (take (length bytes)) (sym (drop-drop (length before) rva memory) ∙ ap (drop (length before)) whole ∙ drop_at before (bytes ++ (after ++ rest)) (length before) refl)
    ∙ take_at bytes (after ++ rest) (length bytes) refl

-- bytes that are held end within the list
pub held_fits : (memory : List ℕ) (rva : ℕ) (bytes : List ℕ) → bytes_at memory rva (length bytes) ≡ bytes → 0 < length bytes → rva + length bytes ≤ length memory
held_fits memory rva bytes held some =
    omega (arith, ap length held, length-take (length bytes) (drop rva memory), length-drop rva memory)

-- ---- numbers

-- the number whose bytes are held
pub held_number : (memory : List ℕ) (rva width number : ℕ) → bytes_at memory rva (length (number_bytes width number)) ≡ number_bytes width number → number < 256 ^ width → number_at width memory rva ≡ number
held_number memory rva width number held fits =
    let bytes : List ℕ = number_bytes width number in
    ap (number_at width memory) (zero_more rva)
    ∙ sym (number_at-drop width rva 0 memory)
    ∙ ap (λ (xs : List ℕ). number_at width xs 0) (held_front memory rva bytes held)
    ∙ number_at-number_bytes width number (drop (length bytes) (drop rva memory)) fits
  where
    zero_more : (n : ℕ) → n ≡ n + 0
    zero_more n = omega arith

-- ---- texts

-- behind a text without a NUL the first NUL stands at its end
pub nul_place : (text rest : List ℕ) → list_any is_nul text ≡ false → position_or_len is_nul (text ++ 0 ∷ rest) ≡ length text
nul_place [] rest none = refl
nul_place (byte ∷ text) rest none =
    elim (cases_Bool (is_nul byte)) [
      | inl nul ↦ absurd (false≢true (sym none ∙ ap (λ (b : Bool). b || list_any is_nul text) nul))
      | inr other ↦
          rw other (ap (λ (n : ℕ). 1 + n) (nul_place text rest (ap (λ (b : Bool). b || list_any is_nul text) (sym other) ∙ none)) ∙ one-add (length text))
    ]

-- the text that is held with its NUL
pub held_text : (memory : List ℕ) (rva : ℕ) (text : List ℕ) → bytes_at memory rva (length (text ++ 0 ∷ [])) ≡ text ++ 0 ∷ [] → list_any is_nul text ≡ false → text_at memory rva ≡ Some text
held_text memory rva text held none =
    let rest = drop (length (text ++ 0 ∷ [])) (drop rva memory) in
    let all : drop rva memory ≡ text ++ 0 ∷ rest = held_front memory rva (text ++ 0 ∷ []) held ∙ append_assoc text (0 ∷ []) rest in
    let place = nul_place text rest none in
    let inside : length text < length (text ++ 0 ∷ rest) = omega (arith, length-append text (0 ∷ rest)) in
    rw (all, place, lt-ltb _ _ inside) (ap Some (take_at text (0 ∷ rest) (length text) refl))
