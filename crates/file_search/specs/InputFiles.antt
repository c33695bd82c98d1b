-- The files that the command line names, read in their order. The first that cannot be read, or that makes them too large
-- together, is the fault. Own.
use Rattle.std.specs.Prelude.{ℕ, List, [], length, map, take, slice_index_or, Option, unwrap_or}
use Rattle.std.specs.List.{sum_by}
use Rattle.link_base.specs.Refusals.{first_refusal_below}
use Rattle.link_base.specs.declared.fault.Fault.{Fault}
use Rattle.link_files.specs.Store.{Store}
use Rattle.link_words.specs.Outcome.{LinkOptions}
use Rattle.file_search.specs.FileNames.{tried_names}
use Rattle.file_search.specs.FoundFiles.{FoundFile, no_file, found_file, found_len, read_fault}

abbrev pub text_at : List (List ℕ) → ℕ → List ℕ
text_at texts k = slice_index_or texts k []

-- the file that a name of the command line names
abbrev pub input_file : Store → List (List ℕ) → List ℕ → Option FoundFile
input_file store folders name = found_file store (tried_names folders name)

abbrev pub input_len : Store → List (List ℕ) → List ℕ → ℕ
input_len store folders name = found_len (input_file store folders name)

-- how many bytes the first inputs have together
abbrev pub total_before : Store → LinkOptions → ℕ → ℕ
total_before store options k = sum_by (input_len store options.lib_paths) (take k options.inputs)

abbrev pub reading_fault_at : Store → LinkOptions → ℕ → Option Fault
reading_fault_at store options k =
    read_fault (text_at options.inputs k) (total_before store options k)
    (input_file store options.lib_paths (text_at options.inputs k))

-- why the inputs are not all read
abbrev pub reading_fault : Store → LinkOptions → Option Fault
reading_fault store options = first_refusal_below (length options.inputs) (reading_fault_at store options)

abbrev pub file_or_none : Store → LinkOptions → List ℕ → FoundFile
file_or_none store options name = unwrap_or (input_file store options.lib_paths name) no_file

-- the files, in the order of the words
abbrev pub input_files : Store → LinkOptions → List FoundFile
input_files store options = map (file_or_none store options) options.inputs

-- their bytes together
abbrev pub input_total : Store → LinkOptions → ℕ
input_total store options = total_before store options (length options.inputs)
