use Rattle.std.proofs.Common.{◌≡◌, take}
use Rattle.icf.specs.Sections.{sections_of}
use Rattle.icf.specs.Contents.{all_contents}
use Rattle.icf.proofs.contents.contents_of.Given as goal

abbrev pub invariant-loop-rank : goal.invariant-loop-rank
invariant-loop-rank l = l.contents.items ≡ all_contents l.pieces (take l.rank (sections_of l.candidate))
