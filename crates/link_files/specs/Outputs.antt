-- What a list of output files leaves, written one after the other. Own.
use Rattle.std.specs.Prelude.{◌≡◌, ◌<◌, ◌≤◌, ℕ, List, [], ◌∷◌, length, take, slice_index_or, Option, Result, Ok, Err}
use Rattle.link_files.specs.declared.outputs.Output.{Output}
use Rattle.link_files.specs.declared.outputs.OutputError.{OutputError}
use Rattle.link_files.specs.declared.outputs.OutputError.TheVariants as stop
use Rattle.link_files.specs.Store.{Store, told_with_file}
use Rattle.link_files.specs.Outside.{FilesView}

-- the name of a file, and what it is to hold
pub record NamedBytes : Type 0 where
  pub name : List ℕ
  pub bytes : List ℕ

abbrev pub named_bytes : Output → NamedBytes
named_bytes output = record { name = output.name.now; bytes = output.bytes.items }

abbrev pub no_output : NamedBytes
no_output = record { name = []; bytes = [] }

abbrev pub output_at : List NamedBytes → ℕ → NamedBytes
output_at outputs k = slice_index_or outputs k no_output

-- a store, told or untold, with these files, each in place of one of the same name
unfoldable pub told_with_files : Option Store → List NamedBytes → Option Store
told_with_files store [] = store
told_with_files store (output ∷ rest) = told_with_files (told_with_file store output.name output.bytes) rest

-- the first `count` outputs are whole, and every other file is as it was
pub record FirstWritten (before after : FilesView) (outputs : List NamedBytes) (count : ℕ) : Type 0 where
  pub within : count ≤ length outputs
  pub store : after.store ≡ told_with_files before.store (take count outputs)
  pub reads : after.read_faults ≡ before.read_faults
  pub writes : after.write_faults ≡ before.write_faults

-- a write failed: the first `count` outputs are whole, the next holds the first of its bytes, some of them or none or
-- all, and every other file is as it was
pub record NextTorn (before after : FilesView) (outputs : List NamedBytes) (count : ℕ) : Type 0 where
  pub within : count < length outputs
  pub store : (len : ℕ) × (after.store ≡ told_with_file (told_with_files before.store (take count outputs)) (output_at outputs count).name (take len (output_at outputs count).bytes))
  pub reads : after.read_faults ≡ before.read_faults
  pub writes : before.write_faults < after.write_faults

-- what writing the outputs leaves, by its answer: all of them are whole, or one is torn; for want of memory some of the
-- first are whole
abbrev pub WritesOutputs : {T : Type 0} → FilesView → FilesView → List NamedBytes → Result T OutputError → Type 0
WritesOutputs before after outputs (Ok _) = FirstWritten before after outputs (length outputs)
WritesOutputs before after outputs (Err (stop.Fault index)) = NextTorn before after outputs index
WritesOutputs before after outputs (Err stop.Memory) = (count : ℕ) × FirstWritten before after outputs count
