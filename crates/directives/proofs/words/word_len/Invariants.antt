use Rattle.std.proofs.Common.{◌≡◌, take, None}
use Rattle.link_base.specs.Bytes.{first_below}
use Rattle.directives.specs.Words.{ends_word, leaves_open}
use Rattle.directives.proofs.words.word_len.Given as goal

abbrev pub invariant-loop-k : goal.invariant-loop-k
invariant-loop-k l = record {
  goes_on : first_below l.k (ends_word l.text) ≡ None;
  quotes : l.is_open ≡ leaves_open (take l.k l.text);
}
