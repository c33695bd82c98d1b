use Rattle.std.proofs.Common.{◌≡◌, ◌-◌, map}
use Rattle.std.specs.List.{range_with_len}
use Rattle.res_merge.specs.Entries.{key_of}
use Rattle.res_merge.specs.Lookup.{row_at, rows_at, first_named}
use Rattle.res_merge.proofs.lookup.first_named.Given as goal

abbrev pub invariant-loop-index : goal.invariant-loop-index
invariant-loop-index l = record {
  left : first_named l.part (key_of l.key) (rows_at l.part l.table) ≡ first_named l.part (key_of l.key) (map (row_at l.part l.table) (range_with_len l.index (l.count - l.index)));
}
