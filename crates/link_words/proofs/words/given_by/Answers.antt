use Rattle.std.proofs.Common.{◌∙◌, ℕ, List, map, ap, sym, subst, Err, arith}
use Rattle.std.specs.String.{string_bytes}
use Rattle.link_words.specs.Setting.{word_says}
use Rattle.link_words.specs.Steps.{so_far, with_said, Gives}
use Rattle.link_words.proofs.WordLemmas.{none_refused, taken_none, taken_said, refused_gives, words_done}
use Rattle.link_words.proofs.words.given_by.Goals as goal

pub loop-k-init : goal.loop-k-init
loop-k-init c = record { none = none_refused (map string_bytes c.args.words.now); said = c.none_given-given.ensures }

pub loop-k-preserved : goal.loop-k-preserved
loop-k-preserved c =
    let gives = ap (λ (text : List ℕ). with_said (so_far c.loop-k.given) (word_says text)) (sym c.as_str.ensures.value) ∙ c.in-Ok.ensures in
    record {
      none = taken_none string_bytes c.args.words.now c.loop-k.k (so_far c.loop-k.given) c.index-words-k.result c.loop-k-test.true c.index-words-k.is (so_far c.one_word.new.given) c.loop-k.invariant.none gives;
      said = taken_said string_bytes c.args.words.now c.loop-k.k (so_far c.loop-k.given) c.index-words-k.result c.loop-k-test.true c.index-words-k.is (so_far c.one_word.new.given) c.loop-k.invariant.said gives;
    }

pub returns-in-Err : goal.returns-in-Err
returns-in-Err c =
    let gives = subst (λ (text : List ℕ). Gives (Err c.in-Err.refusal) (with_said (so_far c.loop-k.given) (word_says text)) (so_far c.one_word.new.given)) c.as_str.ensures.value c.in-Err.ensures in
    refused_gives string_bytes c.args.words.now c.loop-k.k (so_far c.loop-k.given) c.index-words-k.result c.loop-k-test.true c.index-words-k.is (so_far c.one_word.new.given) c.in-Err.refusal c.refused_at.result c.loop-k.invariant.none gives c.refused_at.ensures

pub returns : goal.returns
returns c =
    words_done string_bytes c.args.words.now c.loop-k.k (so_far c.loop-k.given) c.loop-k-test.false (omega arith) c.loop-k.invariant.none c.loop-k.invariant.said
