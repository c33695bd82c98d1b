-- What a whole write leaves in a writer whose bytes are known. Own.
use Rattle.std.specs.Prelude.{ℕ, List, take, Option, Result, Ok, Err}
use Rattle.std.specs.Io.KnownBytes.{Appends, Keeps}
use Rattle.link_files.specs.declared.sink.PutError.{PutError}
use Rattle.link_files.specs.declared.sink.PutError.TheVariants.{Fault, Memory}

-- all of the bytes, or the first of them, some or none or all, or nothing
abbrev pub WritesWhole : {T : Type 0} → Option (List ℕ) → Option (List ℕ) → List ℕ → Result T PutError → Type 0
WritesWhole old new bytes (Ok _) = Appends old new bytes
WritesWhole old new bytes (Err Fault) = (len : ℕ) × Appends old new (take len bytes)
WritesWhole old new bytes (Err Memory) = Keeps old new
