use Rattle.std.proofs.Common.{◌≡◌, ◌≤◌, ◌*◌, ◌++◌, take, drop, sum, length}
use Rattle.pdb_publics.specs.PublicStreams.{words}
use Rattle.pdb_publics.proofs.hash_part.bucket_words.Given as goal

abbrev pub invariant-loop-count : goal.invariant-loop-count
invariant-loop-count l = record {
  before : l.first ≡ sum (take l.count-index l.counts);
  made : l.words.items ++ words l.first (drop l.count-index l.counts) ≡ words 0 l.counts;
  small : length l.words.items ≤ 4 * l.count-index;
}
