-- What each answer of a read says, of a store that may be told and of the count of failed reads. Own.
use Rattle.std.specs.Prelude.{◌≡◌, ◌<◌, ◌≤◌, ℕ, Bool, true, false, List, length, Option, None, Some, Result, Ok, Err, Vec, IsSomeAnd}
use Rattle.std.specs.Option.{ForSome}
use Rattle.link_files.specs.declared.files.FileError.{FileError}
use Rattle.link_files.specs.declared.files.FileError.TheVariants.{NotFound, TooLarge, Fault, Memory}
use Rattle.link_files.specs.Store.{Store, file_of}

-- the bytes are at most the limit, and those of the told file; no read failed
pub record GivesFile (told : Option Store) (name : List ℕ) (limit before after : ℕ) (bytes : List ℕ) : Type 0 where
  pub none_failed : after ≡ before
  pub within : length bytes ≤ limit
  pub file : ForSome told (λ files. file_of files name ≡ Some bytes)

-- the told store lacks the name; no read failed
pub record LacksFile (told : Option Store) (name : List ℕ) (before after : ℕ) : Type 0 where
  pub none_failed : after ≡ before
  pub absent : ForSome told (λ files. file_of files name ≡ None)

-- the told file is longer than the limit; no read failed
pub record HasLargerFile (told : Option Store) (name : List ℕ) (limit before after : ℕ) : Type 0 where
  pub none_failed : after ≡ before
  pub larger : ForSome told (λ files. IsSomeAnd (file_of files name) (λ bytes. limit < length bytes))

-- what a read of the name with this limit says by its answer; the counts are those of failed reads before and after
abbrev pub ReadsFile : {A : Type 0} → Option Store → List ℕ → ℕ → ℕ → ℕ → Result (Vec ℕ A) FileError → Type 0
ReadsFile told name limit before after (Ok bytes) = GivesFile told name limit before after bytes.items
ReadsFile told name limit before after (Err NotFound) = LacksFile told name before after
ReadsFile told name limit before after (Err TooLarge) = HasLargerFile told name limit before after
ReadsFile told name limit before after (Err Fault) = before < after
ReadsFile told name limit before after (Err Memory) = after ≡ before

-- a read fails exactly where that is planned
abbrev pub FailsAsPlanned : {A : Type 0} → Bool → Result (Vec ℕ A) FileError → Type 0
FailsAsPlanned planned (Ok bytes) = planned ≡ false
FailsAsPlanned planned (Err NotFound) = planned ≡ false
FailsAsPlanned planned (Err TooLarge) = planned ≡ false
FailsAsPlanned planned (Err Fault) = planned ≡ true
FailsAsPlanned planned (Err Memory) = planned ≡ false
