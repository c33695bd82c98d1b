-- Files that are looked for under several names, and why one is not read. Own.
use Rattle.std.specs.Prelude.{ℕ, ◌+◌, Bool, nat_lt, if◌then◌else◌, List, [], length, Option, Some, None, is_some, unwrap_or, option_map}
use Rattle.std.specs.List.{find}
use Rattle.link_base.specs.Limits.{FILE_LIMIT, INPUT_LIMIT}
use Rattle.link_base.specs.declared.fault.Fault.{Fault}
use Rattle.link_base.specs.declared.fault.Fault.TheVariants.{NotFound, FileTooLarge, InputLimit}
use Rattle.link_files.specs.Store.{Store, file_of}

-- a file by the name under which it is there, and its bytes
pub record FoundFile : Type 0 where
  pub file : List ℕ
  pub bytes : List ℕ

abbrev pub no_file : FoundFile
no_file = record { file = []; bytes = [] }

abbrev pub is_there : Store → List ℕ → Bool
is_there store name = is_some (file_of store name)

abbrev pub file_named : Store → List ℕ → FoundFile
file_named store name = record { file = name; bytes = unwrap_or (file_of store name) [] }

-- the file under the first of these names under which one is there
abbrev pub found_file : Store → List (List ℕ) → Option FoundFile
found_file store names = option_map (file_named store) (find (is_there store) names)

abbrev pub found_len : Option FoundFile → ℕ
found_len found = length (unwrap_or found no_file).bytes

-- it has too many bytes, or makes the inputs too large together: `total` bytes were read before it
abbrev pub size_fault : ℕ → FoundFile → Option Fault
size_fault total found =
    if nat_lt FILE_LIMIT (length found.bytes) then Some (FileTooLarge found.file None)
    else (if nat_lt INPUT_LIMIT (total + length found.bytes) then Some (InputLimit (total + length found.bytes)) else None)

-- why the file with this name is not read
abbrev pub read_fault : List ℕ → ℕ → Option FoundFile → Option Fault
read_fault name total None = Some (NotFound name None)
read_fault name total (Some found) = size_fault total found
