-- A short text in which neither a quote nor a NUL stands, and its parts.
use Rattle.std.proofs.Common.{eqb, ◌≡◌, ℕ, ◌+◌, ◌<◌, ◌≤◌, Bool, true, false, ◌&&◌, not, cond, List, [], ◌∷◌, length, take, drop, get_or, Option, Some, None, is_some, option_map, option_and_then, le-leb, lt-ltb, inl, inr, subst, refl, sym, ap, ◌∙◌, arith}
use Rattle.std.specs.Bool.{then_some}
use Rattle.std.specs.List.{position, position_or_len}
use Rattle.std.proofs.lemmas.Bool.{false≢true, cases_lt, eqb-true, ne_eqb}
use Rattle.std.proofs.lemmas.List.{length-take, length-drop, get_or-take, get_or-drop}
use Rattle.std.proofs.lemmas.List.Sums.{prefix_len-le-length, fails_before_first}
use Rattle.std.specs.Borrow.{Bor}
use Rattle.std.specs.Option.{option_copied}
use Rattle.memchr.specs.Find.{IsFirstByte}
use Rattle.link_base.specs.Bytes.{is_nul}
use Rattle.link_base.specs.Limits.{NAME_LIMIT}
use Rattle.link_base.proofs.FoundLemmas.{first_place}
use Rattle.directives.specs.Text.{is_quote, is_equals, has, split_at_first, is_text, is_name}
use Rattle.directives.specs.Form.{form, whole, pair}
use Rattle.directives.specs.FormView.{two_lists}
use Rattle.directives.specs.Said as says
use Rattle.directives.specs.Value.{name_of, names_of, mismatch_said}
use Rattle.directives.proofs.PlaceLemmas.{place_none}

-- ---- no byte of a text passes

has_none : (test : ℕ → Bool) (text : List ℕ) → IsFirstByte test text None → has test text ≡ false
has_none test text none = ap is_some (sym (first_place test text None none))

is_nowhere : (test : ℕ → Bool) (text : List ℕ) → has test text ≡ false → IsFirstByte test text None
is_nowhere test text e k low lt passes =
    let within : k < position_or_len test text = omega (arith, lt, place_none test text (missing (position test text) e)) in
    false≢true (sym (fails_before_first test text k 0 within) ∙ passes)
  where
    missing : (o : Option ℕ) → is_some o ≡ false → None ≡ o
    missing None e = refl
    missing (Some k) e = absurd cc

-- ---- a text whose first n bytes come after the quote's

abbrev pub AreAfterQuote : List ℕ → ℕ → Type 0
AreAfterQuote text n = (k : ℕ) → k < n → 34 < get_or text k 0

module _ (text : List ℕ) (n : ℕ) (above : AreAfterQuote text n) where
  pub after_quote-more : 34 < get_or text n 0 → AreAfterQuote text (n + 1)
  after_quote-more here k lt =
      elim (cases_lt k n) [
        | inl lt ↦ above k lt
        | inr ge ↦ subst (λ (i : ℕ). 34 < get_or text i 0) (omega (arith, lt, ge)) here
      ]

  pub no_quote : length text ≤ n → has is_quote text ≡ false
  no_quote le =
      has_none is_quote text (λ k low lt passes. absurd (omega (arith, above k (omega (arith, lt, le)), eqb-true (get_or text k 0) 34 passes)))

  pub no_nul : length text ≤ n → has is_nul text ≡ false
  no_nul le =
      has_none is_nul text (λ k low lt passes. absurd (omega (arith, above k (omega (arith, lt, le)), eqb-true (get_or text k 0) 0 passes)))

-- ---- a value of one part

begins_plain : (value : List ℕ) → has is_quote value ≡ false → is_quote (get_or value 0 0) ≡ false
begins_plain [] e = refl
begins_plain (b ∷ rest) e = by_cases (is_quote b) refl
  where
    by_cases : (c : Bool) → is_quote b ≡ c → c ≡ false
    by_cases true quote = absurd (is_nowhere is_quote (b ∷ rest) e 0 (omega arith) (omega arith) quote)
    by_cases false quote = refl

plain_form : (value : List ℕ) → has is_quote value ≡ false → form value ≡ Some (value, None)
unfolding form
plain_form value e = rw (begins_plain value e, e) refl

-- a short text without a NUL is a name where it has a byte
plain_is_name : (text : List ℕ) → length text ≤ NAME_LIMIT → has is_nul text ≡ false → not (eqb (length text) 0) ≡ is_name text
unfolding is_name is_text
plain_is_name [] short nul = refl
plain_is_name (b ∷ text) short nul =
    rw (le-leb _ _ short, nul, lt-ltb 0 (length (b ∷ text)) (omega arith), ne_eqb (length (b ∷ text)) 0 (λ e. omega (arith, e))) refl

plain_is_text : (text : List ℕ) → length text ≤ NAME_LIMIT → has is_nul text ≡ false → is_text text ≡ true
unfolding is_text
plain_is_text text short nul = rw (le-leb _ _ short, nul) refl

pub plain_name : (r : Bool) (value : Bor (List ℕ)) → length value.now ≤ NAME_LIMIT → has is_quote value.now ≡ false → has is_nul value.now ≡ false → r ≡ eqb (length value.now) 0 → option_copied (then_some (not r) value) ≡ name_of value.now
unfolding name_of whole
plain_name r value short quote nul is =
    rw (plain_form value.now quote, ← plain_is_name value.now short nul, ← is) (shown (not r))
  where
    shown : (b : Bool) → option_copied (then_some b value) ≡ cond b (Some value.now) None
    shown true = refl
    shown false = refl

-- ---- a value of two parts

plain_pair : (separates : ℕ → Bool) (value : List ℕ) → has is_quote value ≡ false → pair separates value ≡ split_at_first separates value
unfolding pair
plain_pair separates value quote = rw (plain_form value quote) refl

has-take : (test : ℕ → Bool) (text : List ℕ) (n : ℕ) → n ≤ length text → has test text ≡ false → has test (take n text) ≡ false
has-take test text n le e =
    has_none test (take n text) (λ k low lt passes. is_nowhere test text e k (omega arith) (omega (arith, lt, length-take n text)) (ap test (sym (get_or-take n text k 0 (omega (arith, lt, length-take n text)))) ∙ passes))

has-drop : (test : ℕ → Bool) (text : List ℕ) (n : ℕ) → has test text ≡ false → has test (drop n text) ≡ false
has-drop test text n e =
    has_none test (drop n text) (λ k low lt passes. is_nowhere test text e (n + k) (omega arith) (omega (arith, lt, length-drop n text)) (ap test (sym (get_or-drop n text k 0)) ∙ passes))

-- both parts of a short text without a NUL are such texts
record IsPlain (text : List ℕ) : Type 0 where
  short : length text ≤ NAME_LIMIT
  nul : has is_nul text ≡ false

plain_parts : (separates : ℕ → Bool) (value left right : List ℕ) → IsPlain value → ◌≡◌ {A = Option (List ℕ × List ℕ)} (Some (left, right)) (split_at_first separates value) → IsPlain left × IsPlain right
plain_parts separates value left right plain e = by_cases (has separates value) e
  where
    at : ℕ
    at = position_or_len separates value

    within : at ≤ length value
    within = prefix_len-le-length (λ b. not (separates b)) value

    before : IsPlain (take at value)
    before = record { short = omega (arith, plain.short, within, length-take at value); nul = has-take is_nul value at within plain.nul }

    after : IsPlain (drop (at + 1) value)
    after = record { short = omega (arith, plain.short, length-drop (at + 1) value); nul = has-drop is_nul value (at + 1) plain.nul }

    by_cases : (b : Bool) → ◌≡◌ {A = Option (List ℕ × List ℕ)} (Some (left, right)) (cond b (Some (take at value, drop (at + 1) value)) None) → IsPlain left × IsPlain right
    by_cases true e =
        let same : ◌≡◌ {A = List ℕ × List ℕ} (left, right) (take at value, drop (at + 1) value) = cc in
        (subst IsPlain (sym (ap (λ (two : List ℕ × List ℕ). two.0) same)) before, subst IsPlain (sym (ap (λ (two : List ℕ × List ℕ). two.1) same)) after)
    by_cases false e = absurd cc

-- what a value of two parts says, where it is such a text
module _ (value : List ℕ) (short : length value ≤ NAME_LIMIT) (quote : has is_quote value ≡ false) (nul : has is_nul value ≡ false) where
  pub no_two : ◌≡◌ {A = Option (List ℕ × List ℕ)} None (split_at_first is_equals value) → None ≡ names_of value
  unfolding names_of
  no_two e = rw (plain_pair is_equals value quote, ← e) refl

  pub no_mismatch : ◌≡◌ {A = Option (List ℕ × List ℕ)} None (split_at_first is_equals value) → None ≡ option_and_then mismatch_said (pair is_equals value)
  no_mismatch e = rw (plain_pair is_equals value quote, ← e) refl

  module _ (left right : Bor (List ℕ)) (e : ◌≡◌ {A = Option (List ℕ × List ℕ)} (Some (left.now, right.now)) (split_at_first is_equals value)) where
    parts : IsPlain left.now × IsPlain right.now
    parts = plain_parts is_equals value left.now right.now (record { short = short; nul = nul }) e

    pub two_names : (both : Bool) → both ≡ (not (eqb (length left.now) 0) && not (eqb (length right.now) 0)) → option_map two_lists (then_some both (left, right)) ≡ names_of value
    unfolding names_of
    two_names both is =
        rw (plain_pair is_equals value quote, ← e, ← plain_is_name left.now parts.0.short parts.0.nul, ← plain_is_name right.now parts.1.short parts.1.nul, ← is) (shown both)
      where
        shown : (b : Bool) → option_map two_lists (then_some b (left, right)) ≡ cond b (Some (left.now, right.now)) None
        shown true = refl
        shown false = refl

    pub mismatch : (empty : Bool) → empty ≡ eqb (length left.now) 0 → option_and_then mismatch_said (pair is_equals value) ≡ cond (not empty) (Some (says.FailIfMismatch left.now right.now)) None
    mismatch empty is =
        rw (plain_pair is_equals value quote, ← e, ← plain_is_name left.now parts.0.short parts.0.nul, plain_is_text right.now parts.1.short parts.1.nul, ← is) (shown (not empty))
      where
        shown : (b : Bool) → cond (b && true) (Some (says.FailIfMismatch left.now right.now)) None ≡ cond b (Some (says.FailIfMismatch left.now right.now)) None
        shown true = refl
        shown false = refl
