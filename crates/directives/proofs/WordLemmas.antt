-- Quotes one byte after another, and where a word ends.
use Rattle.std.proofs.Common.{◌≡◌, ℕ, ◌+◌, ◌%◌, ◌<◌, ◌≤◌, Bool, true, false, ◌&&◌, not, cond, eqb, List, length, take, get_or, Some, None, refl, sym, ap, ◌∙◌, arith, add-one}
use Rattle.std.proofs.lemmas.List.Sums.{count_by_more_yes, count_by_more_no}
use Rattle.std.proofs.lemmas.Bool.Decides.{nat_tests}
use Rattle.std.specs.List.{count_by}
use Rattle.std.specs.Bool.{then_some}
use Rattle.std.proofs.Math.Seq.{take-length}
use Rattle.link_base.specs.Bytes.{first_below}
use Rattle.link_base.proofs.CallerLemmas.{first_below-more, first_below-found}
use Rattle.directives.specs.Text.{is_quote}
use Rattle.directives.specs.Words.{is_blank, leaves_open, ends_word, word_len, last_quote, open_quote}

odd_more : (n : ℕ) → eqb ((n + 1) % 2) 1 ≡ not (eqb (n % 2) 1)
odd_more n = grind (arith, nat_tests)

-- a byte more
pub leaves_open-more : (text : List ℕ) (k : ℕ) (open_before : Bool) → k < length text → open_before ≡ leaves_open (take k text) → cond (is_quote (get_or text k 0)) (not open_before) open_before ≡ leaves_open (take (k + 1) text)
unfolding leaves_open
leaves_open-more text k open_before lt is = by_cases (is_quote (get_or text k 0)) refl
  where
    by_cases : (b : Bool) → is_quote (get_or text k 0) ≡ b → cond b (not open_before) open_before ≡ leaves_open (take (k + 1) text)
    by_cases true e = ap not is ∙ sym (odd_more (count_by is_quote (take k text))) ∙ ap (λ (n : ℕ). eqb (n % 2) 1) (sym (count_by_more_yes is_quote text k 0 lt e))
    by_cases false e = is ∙ ap (λ (n : ℕ). eqb (n % 2) 1) (sym (count_by_more_no is_quote text k 0 lt e))

pub none_open : (text : List ℕ) → false ≡ leaves_open (take 0 text)
unfolding leaves_open
none_open text = refl

-- the word goes on at this byte
pub goes_on-more : (text : List ℕ) (k : ℕ) (open_before : Bool) → first_below k (ends_word text) ≡ None → open_before ≡ leaves_open (take k text) → (is_blank (get_or text k 0) && not open_before) ≡ false → first_below (k + 1) (ends_word text) ≡ None
unfolding ends_word
goes_on-more text k open_before none is e =
    first_below-more k (ends_word text) none (ap (λ (b : Bool). is_blank (get_or text k 0) && not b) (sym is) ∙ e)

-- the word ends at this byte
pub word_ends : (text : List ℕ) (k : ℕ) (open_before : Bool) → k < length text → first_below k (ends_word text) ≡ None → open_before ≡ leaves_open (take k text) → (is_blank (get_or text k 0) && not open_before) ≡ true → k ≡ word_len text
unfolding word_len ends_word
word_ends text k open_before lt none is e =
    let found = first_below-found k (length text) (ends_word text) lt none (ap (λ (b : Bool). is_blank (get_or text k 0) && not b) (sym is) ∙ e) in
    rw found refl

-- the word is the rest of the text
pub word_is_all : (text : List ℕ) (k : ℕ) → length text ≡ k → first_below k (ends_word text) ≡ None → length text ≡ word_len text
unfolding word_len
word_is_all text k e none =
    let all : first_below (length text) (ends_word text) ≡ None = ap (λ (n : ℕ). first_below n (ends_word text)) e ∙ none in
    rw all refl

pub last_quote-more : (text : List ℕ) (k : ℕ) → last_quote (k + 1) text ≡ cond (is_quote (get_or text k 0)) k (last_quote k text)
unfolding last_quote
last_quote-more text k = rw add-one refl

pub open_quote_is : (text : List ℕ) (k : ℕ) (is_open : Bool) (last : ℕ) → length text ≡ k → is_open ≡ leaves_open (take k text) → last ≡ last_quote k text → then_some is_open last ≡ open_quote text
unfolding open_quote
open_quote_is text k is_open last all e is =
    let same : is_open ≡ leaves_open text = e ∙ ap (λ (n : ℕ). leaves_open (take n text)) (sym all) ∙ ap leaves_open (take-length text) in
    let place : last ≡ last_quote (length text) text = is ∙ ap (λ (n : ℕ). last_quote n text) (sym all) in
    shown is_open ∙ rw (← same, ← place) refl
  where
    shown : (b : Bool) → then_some b last ≡ cond b (Some last) None
    shown true = refl
    shown false = refl

pub last_quote-none : (text : List ℕ) → 0 ≡ last_quote 0 text
unfolding last_quote
last_quote-none text = refl

pub goes_on-none : (text : List ℕ) → first_below 0 (ends_word text) ≡ None
unfolding first_below
goes_on-none text = refl

pub later_within : (b : Bool) (last k later : ℕ) → later ≡ cond b k last → last ≤ k → later ≤ k + 1
later_within true last k later e le = omega (arith, e)
later_within false last k later e le = omega (arith, e)

-- no quote stays open
pub none_left_open : (text : List ℕ) → leaves_open text ≡ false → None ≡ open_quote text
unfolding open_quote
none_left_open text e = rw e refl

-- a byte more that is neither a blank nor a quote
pub inner-more : (text : List ℕ) (k : ℕ) (is_open : Bool) → k < length text → is_open ≡ leaves_open (take k text) → is_quote (get_or text k 0) ≡ false → is_open ≡ leaves_open (take (k + 1) text)
inner-more text k is_open lt is e =
    ap (λ (b : Bool). cond b (not is_open) is_open) (sym e) ∙ leaves_open-more text k is_open lt is

pub inner-goes_on : (text : List ℕ) (k : ℕ) (is_open : Bool) → first_below k (ends_word text) ≡ None → is_open ≡ leaves_open (take k text) → is_blank (get_or text k 0) ≡ false → first_below (k + 1) (ends_word text) ≡ None
inner-goes_on text k is_open none is e =
    goes_on-more text k is_open none is (ap (λ (b : Bool). b && not is_open) e)
