-- What functions of this crate promise one another. It decides nothing.
use Rattle.std.specs.Prelude.{◌≤◌, length}
use Rattle.link_base.specs.Limits.{NAME_LIMIT}
use Rattle.import_tables.specs.declared.row.ImportRow.{ImportRow}
use Rattle.import_tables.specs.ImportShape.{name_len}
use Rattle.import_tables.specs.ReadBack.{HasNoNul, IsReadable}

-- no longer names than a link can have, and none that a NUL cuts short
pub record CanBeTold (row : ImportRow) : Type 0 where
  pub short_dll : length row.dll ≤ NAME_LIMIT
  pub short_name : name_len row.by ≤ NAME_LIMIT
  pub dll : HasNoNul row.dll
  pub by : IsReadable row.by
