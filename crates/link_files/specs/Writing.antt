-- What each answer of a write says, of a store that may be told and of the count of failed writes. Own.
use Rattle.std.specs.Prelude.{◌≡◌, ◌<◌, ℕ, List, take, Option, Result, Ok, Err}
use Rattle.link_files.specs.declared.files.WriteError.{WriteError}
use Rattle.link_files.specs.declared.files.WriteError.TheVariants.{Fault, Memory}
use Rattle.link_files.specs.Store.{Store, told_with_file}

-- the file holds the bytes and every other file is as it was; no write failed
pub record PutsFile (old new : Option Store) (name bytes : List ℕ) (before after : ℕ) : Type 0 where
  pub none_failed : after ≡ before
  pub stored : new ≡ told_with_file old name bytes

-- the file holds the first bytes, some of them or none or all, and every other file is as it was; a write failed
pub record TearsFile (old new : Option Store) (name bytes : List ℕ) (before after : ℕ) : Type 0 where
  pub failed : before < after
  pub torn : (len : ℕ) × (new ≡ told_with_file old name (take len bytes))

-- every file is as it was; no write failed
pub record LeavesFiles (old new : Option Store) (before after : ℕ) : Type 0 where
  pub none_failed : after ≡ before
  pub kept : new ≡ old

-- what a write of the bytes to the name says by its answer; the counts are those of failed writes before and after
abbrev pub WritesFile : {T : Type 0} → Option Store → Option Store → List ℕ → List ℕ → ℕ → ℕ → Result T WriteError → Type 0
WritesFile old new name bytes before after (Ok _) = PutsFile old new name bytes before after
WritesFile old new name bytes before after (Err Fault) = TearsFile old new name bytes before after
WritesFile old new name bytes before after (Err Memory) = LeavesFiles old new before after
