-- What `at` and `show` print of an image: its bytes from a place on, as they stand in memory at a base. The refusals of the
-- files come first, in the order of the words, and then those of what the files hold. Own.
use Rattle.std.specs.Prelude.{◌≡◌, ℕ, nat_lt, if◌then◌else◌, List, length, Option, Some, None, Result, Ok, Err}
use Rattle.link_base.specs.declared.fault.Fault.{Fault}
use Rattle.link_base.specs.declared.fault.Fault.TheVariants as faults
use Rattle.link_files.specs.Store.{Store, file_of}
use Rattle.image_show.specs.ShownBytes.{shown_at, shown_symbol}
use Rattle.linker_program.specs.Ending.{Outcome, Refused, Shown}

-- the greatest length of a file of which something is shown
abbrev pub SHOWN_FILE_LIMIT : ℕ
SHOWN_FILE_LIMIT = 1073741824

-- ---- the files

-- the bytes of a file that may not be there
abbrev pub whole_file : List ℕ → Option (List ℕ) → Result (List ℕ) Fault
whole_file name None = Err (faults.NotFound name None)
whole_file name (Some bytes) =
    if nat_lt SHOWN_FILE_LIMIT (length bytes) then Err (faults.FileTooLarge name None) else Ok bytes

abbrev pub file_bytes : List ℕ → Store → Result (List ℕ) Fault
file_bytes name store = whole_file name (file_of store name)

-- ---- the lines

-- of an image that may not be read
abbrev pub image_line : ℕ → ℕ → ℕ → Result (List ℕ) Fault → Result (List ℕ) Fault
image_line base rva len (Err fault) = Err fault
image_line base rva len (Ok image) = shown_at image base rva len

abbrev pub at_line : List ℕ → ℕ → ℕ → ℕ → Store → Result (List ℕ) Fault
at_line name base rva len store = image_line base rva len (file_bytes name store)

-- of an image and a program database that may not be read
abbrev pub pair_line : ℕ → List ℕ → ℕ → Result (List ℕ) Fault → Result (List ℕ) Fault → Result (List ℕ) Fault
pair_line base symbol len (Err fault) pdb = Err fault
pair_line base symbol len (Ok image) (Err fault) = Err fault
pair_line base symbol len (Ok image) (Ok pdb) = shown_symbol image pdb base symbol len

abbrev pub symbol_line : List ℕ → List ℕ → ℕ → List ℕ → ℕ → Store → Result (List ℕ) Fault
symbol_line image pdb base symbol len store = pair_line base symbol len (file_bytes image store) (file_bytes pdb store)

-- ---- the outcomes

-- a line is shown, and a fault refuses
abbrev pub line_outcome : Result (List ℕ) Fault → Outcome
line_outcome (Ok line) = Shown line
line_outcome (Err fault) = Refused fault

-- of `at IMAGE BASE RVA LENGTH`
abbrev pub AtOutcome : List ℕ → ℕ → ℕ → ℕ → Store → Outcome → Type 0
AtOutcome name base rva len store outcome = outcome ≡ line_outcome (at_line name base rva len store)

-- of `show IMAGE PDB BASE SYMBOL LENGTH`
abbrev pub ShowOutcome : List ℕ → List ℕ → ℕ → List ℕ → ℕ → Store → Outcome → Type 0
ShowOutcome image pdb base symbol len store outcome = outcome ≡ line_outcome (symbol_line image pdb base symbol len store)
