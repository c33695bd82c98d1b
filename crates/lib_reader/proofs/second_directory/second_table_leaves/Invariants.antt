use Rattle.std.proofs.Common.{◌≡◌, true}
use Rattle.link_base.specs.Bytes.{all_below}
use Rattle.lib_reader.specs.SecondDirectory.{has_member}
use Rattle.lib_reader.proofs.second_directory.second_table_leaves.Given as goal

abbrev pub invariant-loop-index : goal.invariant-loop-index
invariant-loop-index l = all_below l.index (has_member l.directory) ≡ true
