use Rattle.std.proofs.Common.{◌≡◌, ◌++◌, map, take}
use Rattle.std.specs.List.{flat_map}
use Rattle.link_base.specs.Bytes.{number_bytes}
use Rattle.base_reloc.specs.PageBlocks.{entry_word}
use Rattle.base_reloc.proofs.writing.push_entries.Given as goal

abbrev pub invariant-loop-field : goal.invariant-loop-field
invariant-loop-field l =
    l.table.items ≡ l.fn.table.items ++ flat_map (number_bytes 2) (map entry_word (take l.field-index l.fields))
