-- Texts in a memory: where one ends, and that it is a name by no more bytes than the name and a NUL have.
use Rattle.std.proofs.Common.{◌≡◌, ℕ, suc, ◌+◌, ◌-◌, ◌<◌, ◌≤◌, Bool, true, false, ◌&&◌, nat_eq, List, [], ◌∷◌, length, take, drop, get_or, Option, Some, None, option_map, refl, sym, ap, ◌∙◌, inl, inr, lt-ltb, le-ltb, arith}
use Rattle.std.specs.List.{position_or_len}
use Rattle.std.proofs.lemmas.Bool.{false≢true, cases_lt, cases_Bool, and_right}
use Rattle.std.proofs.lemmas.List.{get_or-drop, length-drop}
use Rattle.std.proofs.lemmas.List.Sums.{passes_at_first, fails_before_first}
use Rattle.memchr.specs.Find.{Nowhere, Passes, IsLastByte}
use Rattle.link_base.specs.Bytes.{is_nul, text_at}
use Rattle.export_tables.specs.ExportDirectory.{is_text, has_text, EndTexts}

-- ---- where a text ends

text_there : (memory : List ℕ) (rva k : ℕ) → rva ≤ k → k < length memory → is_nul (get_or memory k 0) ≡ true → has_text memory rva ≡ true
text_there memory rva k from within nul =
    let rest = drop rva memory in
    let at : is_nul (get_or rest (k - rva) 0) ≡ true = ap is_nul (get_or-drop rva memory (k - rva) 0) ∙ ap (λ (i : ℕ). is_nul (get_or memory i 0)) (omega arith) ∙ nul in
    elim (cases_lt (k - rva) (position_or_len is_nul rest)) [
      | inl lt ↦ absurd (false≢true (sym (fails_before_first is_nul rest (k - rva) 0 lt) ∙ at))
      | inr le ↦ let ends : position_or_len is_nul rest < length rest = omega (arith, le, from, within, length-drop rva memory) in rw (lt-ltb _ _ ends) refl
    ]

text_missing : (memory : List ℕ) (rva : ℕ) → Nowhere (Passes is_nul memory) rva (length memory) → has_text memory rva ≡ false
text_missing memory rva none =
    let rest = drop rva memory in
    let first = position_or_len is_nul rest in
    elim (cases_lt first (length rest)) [
      | inl lt ↦ absurd (none (rva + first) (omega arith) (omega (arith, lt, length-drop rva memory)) (ap is_nul (sym (get_or-drop rva memory first 0)) ∙ passes_at_first is_nul rest 0 lt))
      | inr le ↦ rw (le-ltb _ _ le) refl
    ]

pub ends_after : (memory : List ℕ) (at : ℕ) → IsLastByte is_nul memory (Some at) → EndTexts memory (at + 1)
ends_after memory at last rva =
    elim (cases_lt rva (at + 1)) [
      | inl lt ↦ text_there memory rva at (omega (arith, lt)) last.0.high last.1 ∙ sym (lt-ltb _ _ lt)
      | inr le ↦ text_missing memory rva (λ k low high. last.0.after k (omega (arith, le, low)) high) ∙ sym (le-ltb _ _ le)
    ]

pub ends_nowhere : (memory : List ℕ) → IsLastByte is_nul memory None → EndTexts memory 0
ends_nowhere memory none rva = text_missing memory rva (λ k low high. none k (omega arith) high) ∙ sym (le-ltb rva 0 (omega arith))

-- ---- the text at the start of some bytes

text_of : List ℕ → Option (List ℕ)
text_of xs = text_at xs 0

text_of_nul : (x : ℕ) (xs : List ℕ) → is_nul x ≡ true → text_at (x ∷ xs) 0 ≡ Some []
text_of_nul x xs e = let some : 0 < suc (length xs) = omega arith in rw (e, lt-ltb _ _ some) refl

text_of_more : (x : ℕ) (xs : List ℕ) → is_nul x ≡ false → text_at (x ∷ xs) 0 ≡ option_map (λ (t : List ℕ). x ∷ t) (text_at xs 0)
text_of_more x xs e =
    elim (cases_lt (position_or_len is_nul xs) (length xs)) [
      | inl lt ↦
          let more : suc (position_or_len is_nul xs) < suc (length xs) = omega (arith, lt) in
          let one : 1 + position_or_len is_nul xs ≡ suc (position_or_len is_nul xs) = omega arith in
          rw (e, one, lt-ltb _ _ lt, lt-ltb _ _ more) refl
      | inr le ↦
          let more : suc (length xs) ≤ suc (position_or_len is_nul xs) = omega (arith, le) in
          let one : 1 + position_or_len is_nul xs ≡ suc (position_or_len is_nul xs) = omega arith in
          rw (e, one, le-ltb _ _ le, le-ltb _ _ more) refl
    ]

more_named : (x y : ℕ) (name : List ℕ) (text : Option (List ℕ)) → is_text (option_map (λ (t : List ℕ). x ∷ t) text) (y ∷ name) ≡ (nat_eq x y && is_text text name)
more_named x y name None = sym (and_right (nat_eq x y) false refl)
more_named x y name (Some text) = refl

never_empty : (x : ℕ) (text : Option (List ℕ)) → is_text (option_map (λ (t : List ℕ). x ∷ t) text) [] ≡ false
never_empty x None = refl
never_empty x (Some text) = refl

-- no more bytes count than the name and a NUL have
windowed : (name xs : List ℕ) → is_text (text_at (take (suc (length name)) xs) 0) name ≡ is_text (text_at xs 0) name
windowed name [] = refl
windowed [] (x ∷ xs) =
    elim (cases_Bool (is_nul x)) [
      | inl nul ↦ rw (text_of_nul x [] nul, text_of_nul x xs nul) refl
      | inr other ↦ rw (text_of_more x [] other, text_of_more x xs other) (sym (never_empty x (text_at xs 0)))
    ]
windowed (y ∷ name) (x ∷ xs) =
    elim (cases_Bool (is_nul x)) [
      | inl nul ↦ rw (text_of_nul x (take (suc (length name)) xs) nul, text_of_nul x xs nul) refl
      | inr other ↦
          ap (λ (t : Option (List ℕ)). is_text t (y ∷ name)) (text_of_more x (take (suc (length name)) xs) other)
          ∙ more_named x y name (text_at (take (suc (length name)) xs) 0)
          ∙ ap (λ (b : Bool). nat_eq x y && b) (windowed name xs)
          ∙ sym (more_named x y name (text_at xs 0))
          ∙ sym (ap (λ (t : Option (List ℕ)). is_text t (y ∷ name)) (text_of_more x xs other))
    ]

-- ---- the text at an RVA, by the bytes behind it

pub named_in_window : (memory name rest window : List ℕ) (rva n : ℕ) (text : Option (List ℕ)) → rest ≡ drop rva memory → n ≡ length name → window ≡ take (n + 1) rest → text ≡ text_at window 0 → is_text text name ≡ is_text (text_at memory rva) name
named_in_window memory name rest window rva n text from len cut is =
    let one : n + 1 ≡ suc (length name) = omega (arith, len) in
    ap (λ (t : Option (List ℕ)). is_text t name) (is ∙ ap (λ (w : List ℕ). text_at w 0) (cut ∙ ap (λ (k : ℕ). take k rest) one ∙ ap (take (suc (length name))) from))
    ∙ windowed name (drop rva memory)
