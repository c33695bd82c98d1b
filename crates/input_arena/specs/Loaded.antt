-- What loading a file into an arena says, by the answer. A total is how many bytes the files that were loaded before
-- have together. Own.
use Rattle.std.specs.Prelude.{◌≡◌, ◌<◌, ◌≤◌, ◌+◌, ℕ, nat_lt, if◌then◌else◌, List, length, Option, None, Some, Result, Ok, Err}
use Rattle.std.specs.Option.{ForSome}
use Rattle.std.specs.Borrow.{Bor}
use Rattle.link_base.specs.Limits.{FILE_LIMIT, INPUT_LIMIT}
use Rattle.link_files.specs.Store.{file_of}
use Rattle.link_files.specs.Outside.{FilesView, AreUntouched, ReadFailed}
use Rattle.input_arena.specs.declared.error.LoadError.{LoadError}
use Rattle.input_arena.specs.declared.error.LoadError.TheVariants.{NotFound, TooLarge, InputLimit, Fault, Memory}

-- why a file is not loaded after `total` bytes
abbrev pub load_error : ℕ → Option (List ℕ) → Option LoadError
load_error total None = Some NotFound
load_error total (Some bytes) =
    if nat_lt FILE_LIMIT (length bytes) then Some TooLarge
    else (if nat_lt INPUT_LIMIT (total + length bytes) then Some (InputLimit (total + length bytes)) else None)

-- its bytes keep the limits, are counted, and are those of the told file
pub record GivesFile (name : List ℕ) (before_total after_total : ℕ) (before after : FilesView) (bytes : List ℕ) : Type 0 where
  pub files : AreUntouched before after
  pub total_is : after_total ≡ before_total + length bytes
  pub within : length bytes ≤ FILE_LIMIT
  pub together : after_total ≤ INPUT_LIMIT
  pub told : ForSome before.store (λ store. file_of store name ≡ Some bytes)
  pub no_error : ForSome before.store (λ store. load_error before_total (file_of store name) ≡ None)

-- it is the error of the told file
pub record RefusesFile (name : List ℕ) (before_total after_total : ℕ) (before after : FilesView) (error : LoadError) : Type 0 where
  pub files : AreUntouched before after
  pub total_kept : after_total ≡ before_total
  pub told : ForSome before.store (λ store. load_error before_total (file_of store name) ≡ Some error)

-- it is the error of the told file, and the files would have `sum` bytes together
pub record RefusesSum (name : List ℕ) (before_total after_total : ℕ) (before after : FilesView) (sum : ℕ) : Type 0 where
  pub refuses : RefusesFile name before_total after_total before after (InputLimit sum)
  pub above : INPUT_LIMIT < sum
  pub within : sum ≤ before_total + FILE_LIMIT

-- its read failed
pub record FailsFile (before_total after_total : ℕ) (before after : FilesView) : Type 0 where
  pub files : ReadFailed before after
  pub total_kept : after_total ≡ before_total

-- memory was refused
pub record LacksMemory (before_total after_total : ℕ) (before after : FilesView) : Type 0 where
  pub files : AreUntouched before after
  pub total_kept : after_total ≡ before_total

abbrev pub LoadsFile : List ℕ → ℕ → ℕ → FilesView → FilesView → Result (Bor (List ℕ)) LoadError → Type 0
LoadsFile name before_total after_total before after (Ok bytes) = GivesFile name before_total after_total before after bytes.now
LoadsFile name before_total after_total before after (Err NotFound) = RefusesFile name before_total after_total before after NotFound
LoadsFile name before_total after_total before after (Err TooLarge) = RefusesFile name before_total after_total before after TooLarge
LoadsFile name before_total after_total before after (Err (InputLimit sum)) = RefusesSum name before_total after_total before after sum
LoadsFile name before_total after_total before after (Err Fault) = FailsFile before_total after_total before after
LoadsFile name before_total after_total before after (Err Memory) = LacksMemory before_total after_total before after
