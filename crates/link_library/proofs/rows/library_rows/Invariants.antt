use Rattle.std.proofs.Common.{◌≡◌, map, take}
use Rattle.std.specs.List.{filter}
use Rattle.link_library.specs.LinkLibrary.{is_listed, row_of}
use Rattle.link_library.proofs.rows.library_rows.Given as goal

abbrev pub invariant-loop-index : goal.invariant-loop-index
invariant-loop-index l = l.rows.items ≡ map (row_of l.exports) (filter (is_listed l.exports.rows) (take l.index-index l.index-items))
