use Rattle.std.proofs.Common.{◌≡◌, map, take}
use Rattle.comdat.specs.Entries.{named_by}
use Rattle.comdat.specs.Numbering.{candidates_at}
use Rattle.comdat.specs.Plain.{plain}
use Rattle.comdat.proofs.groups.gather.Given as goal

abbrev pub invariant-loop-place : goal.invariant-loop-place
invariant-loop-place l =
    map plain l.group.items ≡ candidates_at (named_by l.modules l.entries) (take l.place-index l.places)
