-- The outside of a run as its contracts see it: the files, and the sink that takes what is printed. Own.
use Rattle.std.specs.Prelude.{◌≡◌, ◌<◌, ℕ, List, take, Option}
use Rattle.link_files.specs.Store.{Store}
use Rattle.link_files.specs.Putting.{told_with_bytes}

-- the files: their store, where it is told, and the counts of reads and writes that failed
pub record FilesView : Type 0 where
  pub store : Option Store
  pub read_faults : ℕ
  pub write_faults : ℕ

-- the sink: the bytes that it took, where they are told, and the count of puts that failed
pub record SinkView : Type 0 where
  pub taken : Option (List ℕ)
  pub faults : ℕ

-- the files of an object, as far as they are known
abbrev pub files_of : {S : Type 0} → (S → Option Store) → (S → ℕ) → (S → ℕ) → S → FilesView
files_of store read_faults write_faults files =
    record { store = store files; read_faults = read_faults files; write_faults = write_faults files }

-- what a sink printed, as far as it is known
abbrev pub printed_by : {S : Type 0} → (S → Option (List ℕ)) → (S → ℕ) → S → SinkView
printed_by taken faults sink = record { taken = taken sink; faults = faults sink }

-- ---- the files

-- every file is as it was, and no read or write failed
pub record AreUntouched (before after : FilesView) : Type 0 where
  pub store : after.store ≡ before.store
  pub reads : after.read_faults ≡ before.read_faults
  pub writes : after.write_faults ≡ before.write_faults

-- a read failed; every file is as it was
pub record ReadFailed (before after : FilesView) : Type 0 where
  pub store : after.store ≡ before.store
  pub reads : before.read_faults < after.read_faults
  pub writes : after.write_faults ≡ before.write_faults

-- ---- the sink

-- the sink took all of the bytes
pub record LinePrinted (before after : SinkView) (line : List ℕ) : Type 0 where
  pub faults : after.faults ≡ before.faults
  pub taken : after.taken ≡ told_with_bytes before.taken line

-- a put failed, and the sink took the first of the bytes
pub record LineTorn (before after : SinkView) (line : List ℕ) : Type 0 where
  pub faults : before.faults < after.faults
  pub taken : (len : ℕ) × (after.taken ≡ told_with_bytes before.taken (take len line))

pub record NothingPrinted (before after : SinkView) : Type 0 where
  pub faults : after.faults ≡ before.faults
  pub taken : after.taken ≡ before.taken
