-- What the expectations of a row say of the last run and of the files that it left. Own.
use Rattle.std.specs.Prelude.{◌≡◌, ◌+◌, ℕ, List, length, Option, Some, None, slice_range, string_bytes, IsSomeAnd, ⊤}
use Rattle.link_files.specs.Store.{Store, file_of}
use Rattle.link_files.specs.MemFiles.{MemState}
use Rattle.row_walker.specs.declared.row.Action.{Action}
use Rattle.row_walker.specs.declared.row.Action.TheVariants.{Status, Printed, At, Size, Gone, Same}
use Rattle.row_walker.specs.declared.stage.Stage.{Stage}

-- the file of this name: where failures were planned for the last run, among the files that it left
abbrev pub file_among : Option MemState → Store → List ℕ → Option (List ℕ)
file_among (Some failed) store name = file_of failed.files name
file_among None store name = file_of store name

abbrev pub held_by : Stage → List ℕ → Option (List ℕ)
held_by stage name = file_among stage.failed stage.store name

-- the last run ended with this status
abbrev pub EndedWith : Stage → ℕ → Type 0
EndedWith stage status = IsSomeAnd stage.ended (λ ended. ended.status ≡ status)

-- the last run printed these bytes
abbrev pub HasPrinted : Stage → List ℕ → Type 0
HasPrinted stage bytes = IsSomeAnd stage.ended (λ ended. ended.printed.taken ≡ bytes)

-- the file holds these bytes at the offset
abbrev pub HoldsAt : Stage → List ℕ → ℕ → List ℕ → Type 0
HoldsAt stage name offset bytes = IsSomeAnd (held_by stage name) (λ held. slice_range held offset (offset + length bytes) ≡ bytes)

-- the file has so many bytes
abbrev pub HasLength : Stage → List ℕ → ℕ → Type 0
HasLength stage name len = IsSomeAnd (held_by stage name) (λ held. length held ≡ len)

-- ---- the steps of a row

-- the stage meets what a step expects; of the other steps nothing is said
abbrev pub Meets : Action → Stage → Type 0
Meets (Status status) stage = EndedWith stage status
Meets (Printed bytes) stage = HasPrinted stage bytes.items
Meets (At name offset bytes) stage = HoldsAt stage (string_bytes name) offset bytes.items
Meets (Size name len) stage = HasLength stage (string_bytes name) len
Meets (Gone name) stage = held_by stage (string_bytes name) ≡ None
Meets (Same name other) stage = held_by stage (string_bytes name) ≡ held_by stage (string_bytes other)
Meets other stage = ⊤
