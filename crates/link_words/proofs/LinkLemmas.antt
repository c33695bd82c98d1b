-- A link step by step gives what the rules say of it.
use Rattle.std.proofs.Common.{◌≡◌, ℕ, true, List, ◌∷◌, map, fold, Option, Some, None, Result, Ok, refl, sym, ap, ◌∙◌}
use Rattle.std.specs.Prelude.{codes}
use Rattle.std.specs.Str.{bytes_eq}
use Rattle.std.specs.Option.{option_or}
use Rattle.link_words.specs.Outcome.{LinkOptions, CommandSaid, Link, Refused}
use Rattle.link_words.specs.Options.{options_of}
use Rattle.link_words.specs.LinkWords.{settings, word_refusal, line_refusal, link_refusal, link_says, unless_refused}
use Rattle.link_words.specs.Commands.{◌>>=◌, words_say}
use Rattle.link_words.specs.Steps.{SoFar, nothing_said, words_give, final_options, finished, link_steps}
use Rattle.link_words.proofs.WordLemmas.{word_step}
use Rattle.link_words.proofs.SettingLemmas.{words_options}

stages : (first later : Option Refused) (options : LinkOptions) → (unless_refused later options >>= (λ o. Ok (Link o))) ≡ unless_refused (option_or None later) (Link options)
stages first None options = refl
stages first (Some refused) options = refl

pub link_same : (words : List (List ℕ)) → link_steps words ≡ link_says words
unfolding link_steps link_says link_refusal words_give finished
link_same words = by_cases (word_refusal words)
  where
    rest : SoFar → Result CommandSaid Refused
    rest given = unless_refused (line_refusal (final_options given)) (final_options given) >>= (λ o. Ok (Link o))

    by_cases : (o : Option Refused) → (unless_refused o (fold word_step nothing_said words) >>= (λ given. unless_refused (line_refusal (final_options given)) (final_options given) >>= (λ options. Ok (Link options)))) ≡ unless_refused (option_or o (line_refusal (options_of (settings words)))) (Link (options_of (settings words)))
    by_cases (Some refused) = refl
    by_cases None =
        ap (λ (options : LinkOptions). unless_refused (line_refusal options) options >>= (λ o. Ok (Link o))) (words_options words) ∙ stages None (line_refusal (options_of (settings words))) (options_of (settings words))

-- the line of a link
pub link_line : {A : Type 0} (text : A → List ℕ) (words rest : List A) (command : A) (shown : List ℕ) → words ≡ command ∷ rest → shown ≡ text command → bytes_eq shown (codes "link") ≡ true → link_steps (map text rest) ≡ words_say (map text words)
unfolding words_say
link_line text words rest command shown e is link =
    let named : bytes_eq (text command) (codes "link") ≡ true = ap (λ (t : List ℕ). bytes_eq t (codes "link")) (sym is) ∙ link in
    link_same (map text rest) ∙ sym (ap (λ (w : List _). words_say (map text w)) e ∙ rw named refl)
