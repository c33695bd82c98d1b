use Rattle.std.proofs.Common.{◌≡◌, ◌<◌, ◌+◌, ◌^◌, ◌++◌, drop}
use Rattle.std.specs.Prelude.{sum_by}
use Rattle.std.specs.List.{flat_map}
use Rattle.link_base.specs.Bytes.{number_bytes}
use Rattle.implib.specs.Listings.{row_size, headers_from}
use Rattle.implib.proofs.directories.push_headers.Given as goal

abbrev pub invariant-loop-row : goal.invariant-loop-row
invariant-loop-row l = record {
  written : l.out.items ++ flat_map (number_bytes 4) (headers_from l.dll l.header (drop l.row-index l.rows)) ≡ l.initial.out.items ++ flat_map (number_bytes 4) (headers_from l.dll l.start l.rows);
  fits : l.header + sum_by (row_size l.dll) (drop l.row-index l.rows) < 2 ^ 32;
}
