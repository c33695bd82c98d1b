-- The words of a link one after another, up to the first that is refused.
use Rattle.std.proofs.Common.{◌≡◌, ℕ, ◌+◌, ◌<◌, ◌≤◌, List, [], length, take, get_or, map, fold, Option, Some, None, Result, Ok, Err, option_map, refl, sym, ap, ◌∙◌, subst, arith}
use Rattle.std.proofs.lemmas.List.{get_or-map, length-map, take_all}
use Rattle.std.proofs.lemmas.List.Sums.{fold_more}
use Rattle.link_base.specs.Refusals.{first_refusal_below}
use Rattle.link_base.proofs.RefusalLemmas.{first_refusal_below-more, first_refusal_below-found}
use Rattle.link_words.specs.Outcome.{Refused, refuse}
use Rattle.link_words.specs.Setting.{Setting, word_says, said_in, refusal_in}
use Rattle.link_words.specs.LinkWords.{word_at, word_refusal, unless_refused}
use Rattle.link_words.specs.Answers.{Answers}
use Rattle.link_words.specs.Steps.{SoFar, so_far, nothing_said, with_said, also, words_give, Gives, refused_at}
use Rattle.link_words.specs.declared.errors.UsageKind.{UsageKind}
use Rattle.link_words.specs.declared.errors.WordsError.{WordsError}
use Rattle.link_words.specs.declared.errors.Refusal.{Refusal}
use Rattle.link_words.specs.declared.errors.Refusal.TheVariants as refused

abbrev pub refusal_at : List (List ℕ) → ℕ → Option Refused
refusal_at words k = option_map (refuse (k + 1)) (refusal_in (word_says (word_at words k)))

abbrev pub word_step : SoFar → List ℕ → SoFar
word_step given word = also given (said_in (word_says word))

took : (given new : SoFar) (r : Result Setting UsageKind) → with_said given r ≡ Ok new → (refusal_in r ≡ None) × (new ≡ also given (said_in r))
took given new (Ok setting) e = (refl, cc)
took given new (Err kind) e = absurd cc

refused_is : (given : SoFar) (kind : UsageKind) (r : Result Setting UsageKind) → with_said given r ≡ Err kind → refusal_in r ≡ Some kind
refused_is given kind (Ok setting) e = absurd cc
refused_is given kind (Err other) e = cc

module _ {A : Type 0} (text : A → List ℕ) (words : List A) (k : ℕ) (given : SoFar) (word : A) (lt : k < length words) (is : word ≡ get_or words k word) where
  at_word : word_at (map text words) k ≡ text word
  at_word = get_or-map text words k word [] lt ∙ ap text (sym is)

  -- the word is taken
  pub taken_none : (new : SoFar) → first_refusal_below k (refusal_at (map text words)) ≡ None → with_said given (word_says (text word)) ≡ Ok new → first_refusal_below (k + 1) (refusal_at (map text words)) ≡ None
  taken_none new none h =
      first_refusal_below-more k (refusal_at (map text words)) none (ap (λ (w : List ℕ). option_map (refuse (k + 1)) (refusal_in (word_says w))) at_word ∙ ap (option_map (refuse (k + 1))) (took given new (word_says (text word)) h).0)

  pub taken_said : (new : SoFar) → given ≡ fold word_step nothing_said (take k (map text words)) → with_said given (word_says (text word)) ≡ Ok new → new ≡ fold word_step nothing_said (take (k + 1) (map text words))
  taken_said new said h =
      let below : k < length (map text words) = omega (arith, lt, length-map {A = A} words text) in
      (took given new (word_says (text word)) h).1 ∙ ap (λ (w : List ℕ). word_step given w) (sym at_word) ∙ ap (λ (g : SoFar). word_step g (word_at (map text words) k)) said ∙ sym (fold_more word_step nothing_said (map text words) k [] below)

  -- what the code answers for a word that is refused
  pub refused_gives : (new : SoFar) (refusal : Refusal) (error : WordsError) → first_refusal_below k (refusal_at (map text words)) ≡ None → Gives (Err refusal) (with_said given (word_says (text word))) new → error ≡ refused_at (k + 1) refusal → Answers so_far (words_give (map text words)) (Err error)
  unfolding words_give word_refusal
  refused_gives new refused.Memory error none h e = subst (λ (r : WordsError). Answers so_far (words_give (map text words)) (Err r)) (sym e) tt
  refused_gives new (refused.Usage kind) error none h e =
      let here : refusal_at (map text words) k ≡ Some (refuse (k + 1) kind) = ap (λ (w : List ℕ). option_map (refuse (k + 1)) (refusal_in (word_says w))) at_word ∙ ap (option_map (refuse (k + 1))) (refused_is given kind (word_says (text word)) h) in
      let below : k < length (map text words) = omega (arith, lt, length-map {A = A} words text) in
      let found : first_refusal_below (length (map text words)) (refusal_at (map text words)) ≡ Some (refuse (k + 1) kind) = first_refusal_below-found k (length (map text words)) (refusal_at (map text words)) (refuse (k + 1) kind) below none here in
      subst (λ (r : WordsError). Answers so_far (words_give (map text words)) (Err r)) (sym e) (ap (λ (o : Option Refused). unless_refused o (fold word_step nothing_said (map text words))) found)

-- no word is read
pub none_refused : (words : List (List ℕ)) → first_refusal_below 0 (refusal_at words) ≡ None
unfolding first_refusal_below
none_refused words = refl

-- no word is left
pub words_done : {A : Type 0} (text : A → List ℕ) (words : List A) (k : ℕ) (given : SoFar) → length words ≤ k → k ≤ length words → first_refusal_below k (refusal_at (map text words)) ≡ None → given ≡ fold word_step nothing_said (take k (map text words)) → words_give (map text words) ≡ Ok given
unfolding words_give word_refusal
words_done {A} text words k given le ge none said =
    let same : length (map text words) ≡ k = omega (arith, le, ge, length-map {A = A} words text) in
    let all : first_refusal_below (length (map text words)) (refusal_at (map text words)) ≡ None = ap (λ (n : ℕ). first_refusal_below n (refusal_at (map text words))) same ∙ none in
    let whole : take k (map text words) ≡ map text words = take_all k (map text words) (omega arith) in
    ap (λ (o : Option Refused). unless_refused o (fold word_step nothing_said (map text words))) all ∙ ap Ok (sym (said ∙ ap (fold word_step nothing_said) whole))
