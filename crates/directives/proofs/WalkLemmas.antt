-- A text is read one blank or one word after another.
use Rattle.std.proofs.Common.{◌≡◌, ℕ, zero, suc, ◌+◌, ◌<◌, ◌≤◌, Bool, true, false, ◌&&◌, not, cond, List, [], ◌∷◌, length, take, drop, get_or, Option, Some, None, Result, Ok, Err, refl, sym, ap, ◌∙◌, arith, add-one, subst, drop-cons}
use Rattle.std.proofs.lemmas.List.{length-drop, drop-drop}
use Rattle.std.proofs.lemmas.Bool.{false≢true}
use Rattle.std.proofs.Math.ListN.{drop_of_length-le}
use Rattle.link_base.specs.Bytes.{first_below}
use Rattle.link_base.proofs.CallerLemmas.{first_below-some}
use Rattle.directives.specs.Said.{Said}
use Rattle.directives.specs.declared.item.BadDirective.{BadDirective}
use Rattle.directives.specs.Words.{is_blank, leaves_open, ends_word, word_len, Word, word_at, words, word_says, words_say, says_before, text_says}

-- a word that does not begin with a blank has a byte
pub word_len-positive : (b : ℕ) (text : List ℕ) → is_blank b ≡ false → 0 < word_len (b ∷ text)
unfolding word_len ends_word
word_len-positive b text e = by_cases (first_below (suc (length text)) (ends_word (b ∷ text))) refl
  where
    at_zero : (k : ℕ) → ends_word (b ∷ text) k ≡ true → 0 < k
    at_zero zero h = absurd (false≢true (sym (ap (λ (c : Bool). c && not (leaves_open [])) e) ∙ h))
    at_zero (suc k) h = omega arith

    by_cases : (o : Option ℕ) → first_below (suc (length text)) (ends_word (b ∷ text)) ≡ o → 0 < Rattle.std.specs.Option.unwrap_or o (suc (length text))
    by_cases None h = omega arith
    by_cases (Some k) h = at_zero k (first_below-some _ k (ends_word (b ∷ text)) h).1.0

-- how many words may come does not matter, where the text has no more bytes
words_enough : (n m start : ℕ) (text : List ℕ) → length text ≤ n → length text ≤ m → words n start text ≡ words m start text
unfolding words
words_enough zero zero start text short also = refl
words_enough zero (suc m) start [] short also = refl
words_enough (suc n) zero start [] short also = refl
words_enough (suc n) (suc m) start [] short also = refl
words_enough zero (suc m) start (b ∷ text) short also = absurd (omega arith)
words_enough (suc n) zero start (b ∷ text) short also = absurd (omega arith)
words_enough (suc n) (suc m) start (b ∷ text) short also = by_cases (λ s t p q. words_enough n m s t p q) (is_blank b) refl
  where
    after : is_blank b ≡ false → (k : ℕ) → length text ≤ k → length (drop (word_len (b ∷ text)) (b ∷ text)) ≤ k
    after e k le = omega (arith, word_len-positive b text e, length-drop (word_len (b ∷ text)) (b ∷ text))

    by_cases : ((s : ℕ) (t : List ℕ) → length t ≤ n → length t ≤ m → words n s t ≡ words m s t) → (c : Bool) → is_blank b ≡ c → cond c (words n (start + 1) text) (word_at start (b ∷ text) ∷ words n (start + word_len (b ∷ text)) (drop (word_len (b ∷ text)) (b ∷ text))) ≡ cond c (words m (start + 1) text) (word_at start (b ∷ text) ∷ words m (start + word_len (b ∷ text)) (drop (word_len (b ∷ text)) (b ∷ text)))
    by_cases again true e = again (start + 1) text (omega arith) (omega arith)
    by_cases again false e =
        ap (λ (w : List Word). word_at start (b ∷ text) ∷ w) (again (start + word_len (b ∷ text)) (drop (word_len (b ∷ text)) (b ∷ text)) (after e n (omega arith)) (after e m (omega arith)))

says_blank : (start b : ℕ) (rest : List ℕ) → is_blank b ≡ true → text_says start (b ∷ rest) ≡ text_says (start + 1) rest
unfolding text_says words
says_blank start b rest e = rw e refl

says_word : (start b : ℕ) (rest : List ℕ) → is_blank b ≡ false → text_says start (b ∷ rest) ≡ says_before (word_says (word_at start (b ∷ rest))) (text_says (start + word_len (b ∷ rest)) (drop (word_len (b ∷ rest)) (b ∷ rest)))
unfolding text_says words words_say
says_word start b rest e =
    let len : ℕ = word_len (b ∷ rest) in
    let short : length (drop len (b ∷ rest)) ≤ length rest = omega (arith, word_len-positive b rest e, length-drop len (b ∷ rest)) in
    rw e (ap (λ (w : List Word). says_before (word_says (word_at start (b ∷ rest))) (words_say w)) (words_enough (length rest) (length (drop len (b ∷ rest))) (start + len) (drop len (b ∷ rest)) short (omega arith)))

-- at a blank the text goes on after it
pub blank_step : (text rest : List ℕ) (at : ℕ) → rest ≡ drop at text → at < length text → is_blank (get_or rest 0 0) ≡ true → text_says at (drop at text) ≡ text_says (at + 1) (drop (at + 1) text)
blank_step text rest at e lt blank =
    let here : drop at text ≡ get_or text at 0 ∷ drop (suc at) text = drop-cons text at 0 lt in
    let first : get_or rest 0 0 ≡ get_or text at 0 = ap (λ (t : List ℕ). get_or t 0 0) (e ∙ here) in
    ap (text_says at) here ∙ says_blank at (get_or text at 0) (drop (suc at) text) (sym (ap is_blank first) ∙ blank) ∙ ap (λ (k : ℕ). text_says (at + 1) (drop k text)) (sym (add-one at))

-- at another byte stands a word, and the text goes on after it
pub word_step : (text rest word : List ℕ) (at len : ℕ) → rest ≡ drop at text → at < length text → is_blank (get_or rest 0 0) ≡ false → len ≡ word_len rest → word ≡ take len rest → text_says at (drop at text) ≡ says_before (word_says (record { start = at; text = word })) (text_says (at + len) (drop (at + len) text))
word_step text rest word at len e lt blank is part =
    let here : drop at text ≡ get_or text at 0 ∷ drop (suc at) text = drop-cons text at 0 lt in
    let first : get_or rest 0 0 ≡ get_or text at 0 = ap (λ (t : List ℕ). get_or t 0 0) (e ∙ here) in
    let one : text_says at (drop at text) ≡ says_before (word_says (word_at at (drop at text))) (text_says (at + word_len (drop at text)) (drop (word_len (drop at text)) (drop at text))) =
    subst (λ (t : List ℕ). text_says at t ≡ says_before (word_says (word_at at t)) (text_says (at + word_len t) (drop (word_len t) t))) (sym here) (says_word at (get_or text at 0) (drop (suc at) text) (sym (ap is_blank first) ∙ blank)) in
    let length_is : len ≡ word_len (drop at text) = is ∙ ap word_len e in
    let text_is : word ≡ take (word_len (drop at text)) (drop at text) = part ∙ ap (take len) e ∙ ap (λ (k : ℕ). take k (drop at text)) length_is in
    one ∙ ap (λ (w : List ℕ). says_before (word_says (record { start = at; text = w })) (text_says (at + word_len (drop at text)) (drop (word_len (drop at text)) (drop at text)))) (sym text_is) ∙ ap (λ (k : ℕ). says_before (word_says (record { start = at; text = word })) (text_says (at + k) (drop k (drop at text)))) (sym length_is) ∙ ap (λ (t : List ℕ). says_before (word_says (record { start = at; text = word })) (text_says (at + len) t)) (drop-drop len at text)

-- the end of the text says nothing
pub end_step : (text : List ℕ) (at : ℕ) → length text ≤ at → text_says at (drop at text) ≡ []
unfolding text_says words words_say
end_step text at le = ap (text_says at) (drop_of_length-le text le) ∙ nothing at
  where
    nothing : (start : ℕ) → text_says start [] ≡ []
    nothing start = refl

-- what a word of three kinds leaves of what the text says
module _ (left rest : List (Result Said BadDirective)) (word : Option (Result Said BadDirective)) (step : left ≡ says_before word rest) where
  pub none_step : None ≡ word → left ≡ rest
  none_step e = step ∙ ap (λ (o : Option (Result Said BadDirective)). says_before o rest) (sym e)

  pub ok_step : (one : Said) → Some (Ok one) ≡ word → left ≡ Ok one ∷ rest
  ok_step one e = step ∙ ap (λ (o : Option (Result Said BadDirective)). says_before o rest) (sym e)

  pub err_step : (bad : BadDirective) → Some (Err bad) ≡ word → left ≡ Err bad ∷ []
  err_step bad e = step ∙ ap (λ (o : Option (Result Said BadDirective)). says_before o rest) (sym e)

-- a word has a byte where the text has one that is no blank
pub word_len-more : (text : List ℕ) → 0 < length text → is_blank (get_or text 0 0) ≡ false → 0 < word_len text
word_len-more [] lt e = absurd (omega arith)
word_len-more (b ∷ text) lt e = word_len-positive b text e
