use Rattle.std.proofs.Common.{◌≡◌, map, take}
use Rattle.comdat.specs.Entries.{entry_at, named_by}
use Rattle.comdat.specs.Groups.{is_selected}
use Rattle.comdat.proofs.groups.select.Given as goal

abbrev pub invariant-loop-index : goal.invariant-loop-index
invariant-loop-index l =
    l.flags.items ≡ map (λ entry. is_selected (named_by l.modules l.entries) (entry_at l.modules entry)) (take l.index l.entries)
