use Rattle.std.proofs.Common.{◌≡◌, ◌≤◌, take}
use Rattle.directives.specs.Words.{last_quote, leaves_open}
use Rattle.directives.proofs.words.open_quote.Given as goal

abbrev pub invariant-loop-k : goal.invariant-loop-k
invariant-loop-k l = record {
  quote : l.last ≡ last_quote l.k l.word;
  within : l.last ≤ l.k;
  quotes : l.is_open ≡ leaves_open (take l.k l.word);
}
