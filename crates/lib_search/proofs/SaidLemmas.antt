-- The faults of a loading hold no place of a text, so that each is what it says.
use Rattle.std.proofs.Common.{◌≡◌, ℕ, ◌+◌, Bool, true, false, cond, ltb, List, length, get_or, take, Option, Some, None, refl, ap}
use Rattle.std.specs.Prelude.{option_map, unwrap_or}
use Rattle.std.specs.List.{list_any}
use Rattle.std.specs.Option.{option_or}
use Rattle.link_base.specs.Limits.{FILE_LIMIT, INPUT_LIMIT}
use Rattle.link_base.specs.declared.fault.Fault.{Fault}
use Rattle.link_base.specs.declared.fault.Fault.TheVariants as faults
use Rattle.link_base.specs.declared.kinds.form.Kind.TheVariants.{SecondResource}
use Rattle.link_files.specs.Store.{Store}
use Rattle.link_words.specs.Outcome.{LinkOptions}
use Rattle.lib_reader.specs.declared.error.LibError.{LibError}
use Rattle.lib_reader.specs.LibraryWalk.{library_fault, long_names_of}
use Rattle.lib_reader.specs.MemberFault.{member_fault}
use Rattle.lib_reader.specs.ArchiveMember.{data_of}
use Rattle.module_view.specs.declared.error.ModuleError.{ModuleError}
use Rattle.module_view.specs.declared.error.ModuleError.TheVariants as bad
use Rattle.module_view.specs.Module.{ModuleView}
use Rattle.module_view.specs.Opening.{file_error}
use Rattle.res_merge.specs.Entries.{Entry}
use Rattle.file_search.specs.FoundFiles.{FoundFile, no_file, read_fault}
use Rattle.file_search.specs.InputFiles.{text_at, input_file, input_files, total_before, reading_fault_at, reading_fault}
use Rattle.resource_files.specs.SaidFaults.{fault_said}
use Rattle.resource_files.specs.Held.{is_resource_file, entries_among, merges_resources, resource_fault}
use Rattle.resource_files.proofs.SaidLemmas.{IsPlain, plain_fault, plain_or, plain_if, plain_first, resource_plain}
use Rattle.par_read.specs.Joining.{module_fault, brings_resources, second_fault, count_fault, joining_fault}
use Rattle.lib_search.specs.LibraryFaults.{bad_library, no_library}
use Rattle.lib_search.specs.Inputs.{is_library, modules_among, file_fault, opening_fault_at, opening_fault}
use Rattle.lib_search.specs.SearchSteps.{MemberPlace, SearchState, Ends, Faults, Goes, goes_unless, name_of_member, library_at, header_fault, member_fault_in, join_fault, with_member, join_step, after_default, default_fault, default_step_as, default_step, wants_library, next_default, next_member, next_step}
use Rattle.lib_search.specs.Loading.{HasLoadingFault, AtRead, AtOpening, AtStep}

-- ---- reading

read_plain : (name : List ℕ) (total : ℕ) (found : Option FoundFile) → IsPlain (read_fault name total found)
read_plain name total None = refl
read_plain name total (Some found) = size_plain (ltb FILE_LIMIT (length found.bytes)) (ltb INPUT_LIMIT (total + length found.bytes))
  where
    size_plain : (b c : Bool) → IsPlain (cond b (Some (faults.FileTooLarge found.file None)) (cond c (Some (faults.InputLimit (total + length found.bytes))) None))
    size_plain true c = refl
    size_plain false true = refl
    size_plain false false = refl

pub reading_plain : (store : Store) (options : LinkOptions) → IsPlain (reading_fault store options)
reading_plain store options =
    plain_first (length options.inputs) (reading_fault_at store options)
    (λ k. read_plain (text_at options.inputs k) (total_before store options k) (input_file store options.lib_paths (text_at options.inputs k)))

-- ---- opening

pub joining_plain : (file : List ℕ) (member : Option (List ℕ)) (bytes : List ℕ) (merges : Bool) (modules : List ModuleView) → IsPlain (joining_fault file member bytes merges modules)
joining_plain file member bytes merges modules =
    plain_or (module_fault file member (file_error bytes)) (option_or (second_fault file member bytes merges modules) (count_fault (length modules)))
    (of_module (file_error bytes))
    (plain_or (second_fault file member bytes merges modules) (count_fault (length modules))
    (plain_if _ (faults.Unsupported file member SecondResource) refl)
    (plain_if _ (faults.InputLimit 65535) refl))
  where
    of_module : (e : Option ModuleError) → IsPlain (module_fault file member e)
    of_module (Some (bad.Object error)) = refl
    of_module (Some (bad.Import kind)) = refl
    of_module (Some (bad.Directive at)) = refl
    of_module (Some (bad.Unsupported kind)) = refl
    of_module (Some bad.Memory) = refl
    of_module None = refl

of_library : (file : List ℕ) (e : Option LibError) → IsPlain (option_map (bad_library file) e)
of_library file (Some error) = refl
of_library file None = refl

pub library_plain : (found : FoundFile) → IsPlain (no_library found)
library_plain found = of_library found.file (library_fault found.bytes)

file_plain : (found : FoundFile) (modules : List ModuleView) (entries : List Entry) (merges : Bool) → IsPlain (file_fault found modules entries merges)
file_plain found modules entries merges = go (is_library found) (is_resource_file found)
  where
    go : (b c : Bool) → IsPlain (cond b (no_library found) (cond c (resource_fault found (list_any brings_resources modules) entries) (joining_fault found.file None found.bytes merges modules)))
    go true c = library_plain found
    go false true = resource_plain found (list_any brings_resources modules) entries
    go false false = joining_plain found.file None found.bytes merges modules

opening_plain : (files : List FoundFile) → IsPlain (opening_fault files)
opening_plain files = plain_first (length files) (opening_fault_at files) (λ k. file_plain (get_or files k no_file) (modules_among (take k files)) (entries_among (take k files)) (merges_resources (take k files)))

-- ---- a step

unless_plain : (o : Option Fault) (state : SearchState) (fault : Fault) → IsPlain o → goes_unless o state ≡ Faults fault → fault_said fault ≡ fault
unless_plain (Some other) state fault plain is = plain_fault (Some other) fault plain (ap Some (same other fault is))
  where
    same : (x y : Fault) → Faults x ≡ Faults y → x ≡ y
    same x y e = cc
unless_plain None state fault plain is = absurd (clash state fault is)
  where
    clash : (state : SearchState) (fault : Fault) → Goes state ≡ Faults fault → ⊥
    clash state fault e = cc

member_plain : (library : FoundFile) (at : ℕ) (merges : Bool) (modules : List ModuleView) → IsPlain (member_fault_in library at merges modules)
member_plain library at merges modules =
    plain_or (header_fault library at) (joining_fault library.file (Some (name_of_member library at)) (data_of library.bytes at) merges modules)
    (of_library library.file (member_fault (long_names_of library.bytes) library.bytes at))
    (joining_plain library.file (Some (name_of_member library at)) (data_of library.bytes at) merges modules)

step_plain : (store : Store) (options : LinkOptions) (state : SearchState) (fault : Fault) → next_step store options state ≡ Faults fault → fault_said fault ≡ fault
unfolding next_step
step_plain store options state fault is = go (wants_library options state) is
  where
    of_member : (place : Option MemberPlace) → join_step state place ≡ Faults fault → fault_said fault ≡ fault
    of_member None e = absurd (clash fault e)
      where
        clash : (fault : Fault) → Ends ≡ Faults fault → ⊥
        clash fault e = cc
    of_member (Some place) e =
        unless_plain (join_fault state.searched place) (record state { searched = with_member state.searched place }) fault
        (member_plain (library_at state.searched.libraries place.0) place.1 state.searched.merges state.searched.link.modules) e

    of_default : (name : List ℕ) (found : Option FoundFile) → default_step_as name state found ≡ Faults fault → fault_said fault ≡ fault
    of_default name found e =
        unless_plain (default_fault name state.total found) (after_default state (unwrap_or found no_file)) fault
        (plain_or (read_fault name state.total found) (no_library (unwrap_or found no_file)) (read_plain name state.total found) (library_plain (unwrap_or found no_file))) e

    go : (b : Bool) → cond b (default_step store options (next_default options state) state) (join_step state (next_member state.searched)) ≡ Faults fault → fault_said fault ≡ fault
    go true e = of_default (next_default options state) (input_file store options.lib_paths (next_default options state)) e
    go false e = of_member (next_member state.searched) e

-- ---- the whole

pub loading_plain : (store : Store) (options : LinkOptions) (fault : Fault) → HasLoadingFault store options fault → fault_said fault ≡ fault
loading_plain store options fault (AtRead is) = plain_fault (reading_fault store options) fault (reading_plain store options) is
loading_plain store options fault (AtOpening read is) = plain_fault (opening_fault (input_files store options)) fault (opening_plain (input_files store options)) is
loading_plain store options fault (AtStep state at) = step_plain store options state fault at.next
