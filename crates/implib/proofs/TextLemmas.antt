-- A text without a NUL that a NUL ends: it is the text at the start of what it begins.
use Rattle.std.proofs.Common.{◌≡◌, ℕ, ◌+◌, ◌^◌, ◌<◌, false, List, [], ◌∷◌, ◌++◌, length, drop, Some, refl, sym, ap, ◌∙◌, lt-ltb, length-append, arith}
use Rattle.std.specs.List.{list_any, position_or_len}
use Rattle.std.proofs.lemmas.List.{take_at, drop_at}
use Rattle.link_base.specs.Bytes.{is_nul, text_at, number_at, number_bytes}
use Rattle.link_base.proofs.CallerLemmas.{number_at-drop, number_at-number_bytes}
use Rattle.link_base.proofs.TestLemmas.{or_left, or_right}
use Rattle.lib_reader.specs.Texts.{first_text, behind_text}

pub nul_place : (text rest : List ℕ) → list_any is_nul text ≡ false → position_or_len is_nul (text ++ 0 ∷ rest) ≡ length text
nul_place [] rest plain = refl
nul_place (byte ∷ text) rest plain =
    let here = or_left (is_nul byte) (list_any is_nul text) plain in
    let behind = nul_place text rest (or_right (is_nul byte) (list_any is_nul text) plain) in
    rw (here, behind) (omega arith)

pub text_here : (text rest : List ℕ) → list_any is_nul text ≡ false → text_at (text ++ 0 ∷ rest) 0 ≡ Some text
text_here text rest plain =
    let inside : length text < length (text ++ 0 ∷ rest) = omega (arith, length-append text (0 ∷ rest)) in
    rw (nul_place text rest plain, lt-ltb _ _ inside) (ap Some (take_at text (0 ∷ rest) (length text) refl))

pub first_here : (text rest : List ℕ) → list_any is_nul text ≡ false → first_text (text ++ 0 ∷ rest) ≡ text
first_here text rest plain = rw (nul_place text rest plain) (take_at text (0 ∷ rest) (length text) refl)

pub behind_here : (text rest : List ℕ) → list_any is_nul text ≡ false → behind_text (text ++ 0 ∷ rest) ≡ rest
behind_here text rest plain =
    rw (nul_place text rest plain)
    (ap (drop (length text + 1)) (one text rest) ∙ drop_at (text ++ 0 ∷ []) rest (length text + 1) (length-append text (0 ∷ [])))
  where
    one : (xs ys : List ℕ) → xs ++ 0 ∷ ys ≡ (xs ++ 0 ∷ []) ++ ys
    one [] ys = refl
    one (x ∷ xs) ys = ap (λ (zs : List ℕ). x ∷ zs) (one xs ys)

-- a number is read where its bytes stand
pub number_here : (width offset number : ℕ) (bytes rest : List ℕ) → drop offset bytes ≡ number_bytes width number ++ rest → number < 256 ^ width → number_at width bytes offset ≡ number
number_here width offset number bytes rest is fits =
    let same : offset ≡ offset + 0 = omega arith in
    ap (number_at width bytes) same ∙ sym (number_at-drop width offset 0 bytes) ∙ ap (λ (xs : List ℕ). number_at width xs 0) is ∙ number_at-number_bytes width number rest fits
