-- What the iterator over a file still has to give.
use Rattle.std.specs.Prelude.{List, if◌then◌else◌, Result, ◌==◌}
use Rattle.res_merge.specs.Entries.{Entry}
use Rattle.res_merge.specs.ResourceFile.{resources_of, entries_at}
use Rattle.res_merge.specs.declared.resource.ResError.{ResError}
use Rattle.res_merge.specs.declared.reader.Resources.{Resources}

-- everything at the start, and else the entries from an offset on
abbrev pub items_left : Resources → List (Result Entry ResError)
items_left reader = if reader.at == 0 then resources_of reader.bytes.now else entries_at reader.bytes.now reader.at
