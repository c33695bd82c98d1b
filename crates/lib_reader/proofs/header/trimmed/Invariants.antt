use Rattle.std.proofs.Common.{◌≡◌, ◌≤◌, length}
use Rattle.lib_reader.specs.ArchiveMember.{trimmed_length}
use Rattle.lib_reader.proofs.header.trimmed.Given as goal

abbrev pub invariant-loop-len : goal.invariant-loop-len
invariant-loop-len l = record {
  inside : l.len ≤ length l.text;
  same : trimmed_length l.text (length l.text) ≡ trimmed_length l.text l.len;
}

abbrev pub decreases-loop-len : goal.decreases-loop-len
decreases-loop-len l = l.len
