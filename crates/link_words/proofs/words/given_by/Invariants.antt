use Rattle.std.proofs.Common.{◌≡◌, map, take, fold, None}
use Rattle.std.specs.String.{string_bytes}
use Rattle.link_base.specs.Refusals.{first_refusal_below}
use Rattle.link_words.specs.Steps.{so_far, nothing_said}
use Rattle.link_words.proofs.WordLemmas.{refusal_at, word_step}
use Rattle.link_words.proofs.words.given_by.Given as goal

abbrev pub invariant-loop-k : goal.invariant-loop-k
invariant-loop-k l = record {
  none : first_refusal_below l.k (refusal_at (map string_bytes l.words)) ≡ None;
  said : so_far l.given ≡ fold word_step nothing_said (take l.k (map string_bytes l.words));
}
