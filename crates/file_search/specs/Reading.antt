-- What reading files that are looked for under several names promises, by the result. Own.
use Rattle.std.specs.Prelude.{◌≡◌, ◌+◌, ◌<◌, ◌≤◌, ℕ, true, false, List, length, map, All, Option, Some, None, Result, Ok, Err, Vec}
use Rattle.std.specs.List.{sum_by}
use Rattle.std.specs.Option.{ForSome}
use Rattle.link_base.specs.Limits.{FILE_LIMIT, INPUT_LIMIT}
use Rattle.link_base.specs.Refusals.{first_refusal_below}
use Rattle.link_base.specs.declared.fault.Fault.{Fault}
use Rattle.link_base.specs.declared.stop.Stop.{Stop}
use Rattle.link_base.specs.declared.stop.Stop.TheVariants as stop
use Rattle.link_files.specs.Store.{Store, file_of}
use Rattle.link_files.specs.Outside.{FilesView, AreUntouched, ReadFailed}
use Rattle.link_words.specs.Outcome.{LinkOptions}
use Rattle.file_search.specs.FileNames.{tried_names}
use Rattle.file_search.specs.FoundFiles.{FoundFile, is_there, file_named, size_fault, read_fault}
use Rattle.file_search.specs.InputFiles.{text_at, input_file, input_files, input_total, reading_fault, reading_fault_at}
use Rattle.file_search.specs.declared.found.FoundFile.{FoundFile as Found}

-- a file that was found, and several, as plain data
abbrev pub file_found : Found → FoundFile
file_found found = record { file = found.file; bytes = found.bytes.now }

abbrev pub files_found : List Found → List FoundFile
files_found found = map file_found found

-- nothing is written where memory is wanting
pub record LeavesFiles (before after : FilesView) : Type 0 where
  pub store : after.store ≡ before.store
  pub writes : after.write_faults ≡ before.write_faults

-- ---- one name that is tried, after `before_total` bytes

-- a file is there, and was read
pub record GivesTried (name : List ℕ) (before_total after_total : ℕ) (before after : FilesView) (found : FoundFile) : Type 0 where
  pub files : AreUntouched before after
  pub named : found.file ≡ name
  pub total_is : after_total ≡ before_total + length found.bytes
  pub within : length found.bytes ≤ FILE_LIMIT
  pub together : after_total ≤ INPUT_LIMIT
  pub told : ForSome before.store (λ store. file_of store name ≡ Some found.bytes)

-- none is there
pub record LacksTried (name : List ℕ) (before_total after_total : ℕ) (before after : FilesView) : Type 0 where
  pub files : AreUntouched before after
  pub total_kept : after_total ≡ before_total
  pub told : ForSome before.store (λ store. is_there store name ≡ false)

-- the one that is there is too large
pub record FaultsTried (name : List ℕ) (before_total : ℕ) (before after : FilesView) (fault : Fault) : Type 0 where
  pub files : AreUntouched before after
  pub there : ForSome before.store (λ store. is_there store name ≡ true)
  pub told : ForSome before.store (λ store. size_fault before_total (file_named store name) ≡ Some fault)

-- its read failed
pub record FailsTried (name : List ℕ) (before after : FilesView) (failed : List ℕ) : Type 0 where
  pub files : ReadFailed before after
  pub named : failed ≡ name

-- what trying it says, by the result
abbrev pub TriesName : List ℕ → ℕ → ℕ → FilesView → FilesView → Result (Option Found) Stop → Type 0
TriesName name before_total after_total before after (Ok (Some found)) =
    GivesTried name before_total after_total before after (file_found found)
TriesName name before_total after_total before after (Ok None) = LacksTried name before_total after_total before after
TriesName name before_total after_total before after (Err (stop.Fault fault)) = FaultsTried name before_total before after fault
TriesName name before_total after_total before after (Err (stop.Read failed)) = FailsTried name before after failed
TriesName name before_total after_total before after (Err stop.Memory) = LeavesFiles before after

-- ---- the names that are tried

-- a file is looked for under the name at a place of a list, and under none before it one is there
pub record Tries (store : Store) (names : List (List ℕ)) (name : List ℕ) : Type 0 where
  pub place : ℕ
  pub within : place < length names
  pub named : name ≡ text_at names place
  pub earlier : (k : ℕ) → k < place → is_there store (text_at names k) ≡ false

-- ---- one file, looked for under its name and in the folders

-- it was found and read, and its bytes are counted
pub record GivesNamed (folders : List (List ℕ)) (name : List ℕ) (before_total after_total : ℕ) (before after : FilesView) (found : FoundFile) : Type 0 where
  pub files : AreUntouched before after
  pub total_is : after_total ≡ before_total + length found.bytes
  pub within : length found.bytes ≤ FILE_LIMIT
  pub together : after_total ≤ INPUT_LIMIT
  pub told : ForSome before.store (λ store. input_file store folders name ≡ Some found)
  pub no_fault : ForSome before.store (λ store. read_fault name before_total (input_file store folders name) ≡ None)

-- it is not there, or too large
pub record FaultsNamed (folders : List (List ℕ)) (name : List ℕ) (before_total : ℕ) (before after : FilesView) (fault : Fault) : Type 0 where
  pub files : AreUntouched before after
  pub told : ForSome before.store (λ store. read_fault name before_total (input_file store folders name) ≡ Some fault)

-- the read of one of the names failed
pub record FailsNamed (folders : List (List ℕ)) (name : List ℕ) (before after : FilesView) (failed : List ℕ) : Type 0 where
  pub files : ReadFailed before after
  pub told : ForSome before.store (λ store. Tries store (tried_names folders name) failed)

-- what looking for it says, by the result
abbrev pub ReadsNamed : List (List ℕ) → List ℕ → ℕ → ℕ → FilesView → FilesView → Result Found Stop → Type 0
ReadsNamed folders name before_total after_total before after (Ok found) =
    GivesNamed folders name before_total after_total before after (file_found found)
ReadsNamed folders name before_total after_total before after (Err (stop.Fault fault)) =
    FaultsNamed folders name before_total before after fault
ReadsNamed folders name before_total after_total before after (Err (stop.Read failed)) =
    FailsNamed folders name before after failed
ReadsNamed folders name before_total after_total before after (Err stop.Memory) = LeavesFiles before after

-- ---- all inputs, from a total of 0

-- a file is looked for under a name for an input, after those before it were read
pub record TriesInput (store : Store) (options : LinkOptions) (name : List ℕ) : Type 0 where
  pub input : ℕ
  pub within : input < length options.inputs
  pub read : first_refusal_below input (reading_fault_at store options) ≡ None
  pub tries : Tries store (tried_names options.lib_paths (text_at options.inputs input)) name

-- they were all read, and their bytes are counted
pub record GivesInputs (options : LinkOptions) (after_total : ℕ) (before after : FilesView) (found : List FoundFile) : Type 0 where
  pub files : AreUntouched before after
  pub within : All (λ file. length file.bytes ≤ FILE_LIMIT) found
  pub together : sum_by (λ file. length file.bytes) found ≤ INPUT_LIMIT
  pub no_fault : ForSome before.store (λ store. reading_fault store options ≡ None)
  pub told : ForSome before.store (λ store. found ≡ input_files store options)
  pub total_is : ForSome before.store (λ store. after_total ≡ input_total store options)

-- one is not read
pub record FaultsInputs (options : LinkOptions) (before after : FilesView) (fault : Fault) : Type 0 where
  pub files : AreUntouched before after
  pub told : ForSome before.store (λ store. reading_fault store options ≡ Some fault)

-- a read for one of them failed
pub record FailsInputs (options : LinkOptions) (before after : FilesView) (failed : List ℕ) : Type 0 where
  pub files : ReadFailed before after
  pub told : ForSome before.store (λ store. TriesInput store options failed)

-- what reading them says, by the result
abbrev pub ReadsInputs : {A : Type 0} → LinkOptions → ℕ → FilesView → FilesView → Result (Vec Found A) Stop → Type 0
ReadsInputs options after_total before after (Ok found) = GivesInputs options after_total before after (files_found found.items)
ReadsInputs options after_total before after (Err (stop.Fault fault)) = FaultsInputs options before after fault
ReadsInputs options after_total before after (Err (stop.Read failed)) = FailsInputs options before after failed
ReadsInputs options after_total before after (Err stop.Memory) = LeavesFiles before after
