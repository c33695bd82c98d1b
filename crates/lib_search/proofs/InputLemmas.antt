-- Inputs that are opened one by one.
use Rattle.std.proofs.Common.{◌≡◌, ℕ, ◌+◌, ◌<◌, Bool, ◌||◌, List, [], ◌∷◌, ◌++◌, length, map, take, get_or, None, true, false, cond, eqb, eqb-true, refl, sym, ap, ◌∙◌, arith}
use Rattle.std.specs.Prelude.{filter}
use Rattle.std.specs.List.{take-map, flat_map}
use Rattle.std.proofs.lemmas.Grind.{flat_map-append}
use Rattle.std.proofs.lemmas.List.Folds.{list_any-append}
use Rattle.std.proofs.lemmas.Bool.{false≢true}
use Rattle.std.proofs.lemmas.List.{append-nil, map-append, take_more, length-map, get_or-map}
use Rattle.std.proofs.lemmas.List.Elements.{filter-append}
use Rattle.link_base.specs.declared.stop.Refusal.{Refusal}
use Rattle.link_base.specs.declared.stop.Refusal.TheVariants as refusal
use Rattle.link_base.specs.Refusals.{first_refusal_below}
use Rattle.link_base.proofs.RefusalLemmas.{first_refusal_below-found}
use Rattle.link_base.specs.NameText.{begins}
use Rattle.lib_reader.specs.LibraryWalk.{has_magic}
use Rattle.coff_object.specs.Forms.{resource_start}
use Rattle.module_view.specs.Module.{ModuleView}
use Rattle.file_search.specs.declared.found.FoundFile.{FoundFile as Found}
use Rattle.file_search.specs.FoundFiles.{FoundFile, no_file}
use Rattle.file_search.specs.Reading.{file_found, files_found}
use Rattle.res_merge.specs.Entries.{Entry}
use Rattle.resource_files.specs.SaidFaults.{fault_said, RefusesSaid}
use Rattle.resource_files.specs.Held.{is_resource_file, entries_in, entries_among, merges_resources}
use Rattle.lib_search.specs.Inputs.{is_library, is_module, file_module, modules_among, libraries_among, file_fault, fault_after, opening_fault_at, opening_fault}

found_more : (files : List Found) (i : ℕ) (file : Found) → i < length files → file ≡ get_or files i file → files_found (take (i + 1) files) ≡ files_found (take i files) ++ file_found file ∷ []
found_more files i file lt is =
    ap files_found (take_more files i file lt ∙ ap (λ (f : Found). take i files ++ f ∷ []) (sym is))
    ∙ map-append file_found (take i files) (file ∷ [])

modules-append : (xs ys : List FoundFile) → modules_among (xs ++ ys) ≡ modules_among xs ++ modules_among ys
modules-append xs ys =
    ap (map file_module) (filter-append is_module xs ys) ∙ map-append file_module (filter is_module xs) (filter is_module ys)

pub modules_more : (files : List Found) (i : ℕ) (file : Found) → i < length files → file ≡ get_or files i file → modules_among (files_found (take (i + 1) files)) ≡ modules_among (files_found (take i files)) ++ modules_among (file_found file ∷ [])
modules_more files i file lt is =
    ap modules_among (found_more files i file lt is) ∙ modules-append (files_found (take i files)) (file_found file ∷ [])

pub libraries_more : (files : List Found) (i : ℕ) (file : Found) → i < length files → file ≡ get_or files i file → libraries_among (files_found (take (i + 1) files)) ≡ libraries_among (files_found (take i files)) ++ libraries_among (file_found file ∷ [])
libraries_more files i file lt is =
    ap libraries_among (found_more files i file lt is) ∙ filter-append is_library (files_found (take i files)) (file_found file ∷ [])

entries-append : (xs ys : List FoundFile) → entries_among (xs ++ ys) ≡ entries_among xs ++ entries_among ys
entries-append xs ys =
    ap (flat_map entries_in) (filter-append is_resource_file xs ys) ∙ flat_map-append entries_in (filter is_resource_file xs) (filter is_resource_file ys)

pub entries_more : (files : List Found) (i : ℕ) (file : Found) → i < length files → file ≡ get_or files i file → entries_among (files_found (take (i + 1) files)) ≡ entries_among (files_found (take i files)) ++ entries_among (file_found file ∷ [])
entries_more files i file lt is =
    ap entries_among (found_more files i file lt is) ∙ entries-append (files_found (take i files)) (file_found file ∷ [])

pub merges_more : (files : List Found) (i : ℕ) (file : Found) → i < length files → file ≡ get_or files i file → merges_resources (files_found (take (i + 1) files)) ≡ (merges_resources (files_found (take i files)) || merges_resources (file_found file ∷ []))
merges_more files i file lt is =
    ap merges_resources (found_more files i file lt is) ∙ list_any-append is_resource_file (files_found (take i files)) (file_found file ∷ [])

-- why the file at an index does not open, after those before it
pub opens_here : (files : List Found) (i : ℕ) (file : Found) (modules : List ModuleView) (entries : List Entry) (merges : Bool) → i < length files → file ≡ get_or files i file → modules ≡ modules_among (files_found (take i files)) → entries ≡ entries_among (files_found (take i files)) → merges ≡ merges_resources (files_found (take i files)) → opening_fault_at (files_found files) i ≡ file_fault (file_found file) modules entries merges
opens_here files i file modules entries merges lt is modules_are entries_are merges_is =
    let before = files_found (take i files) in
    ap (λ (f : FoundFile). fault_after f (take i (files_found files)))
    (get_or-map file_found files i file no_file lt ∙ ap file_found (sym is))
    ∙ ap (fault_after (file_found file)) (take-map file_found i files)
    ∙ ap (λ (ms : List ModuleView). file_fault (file_found file) ms (entries_among before) (merges_resources before)) (sym modules_are)
    ∙ ap (λ (es : List Entry). file_fault (file_found file) modules es (merges_resources before)) (sym entries_are)
    ∙ ap (file_fault (file_found file) modules entries) (sym merges_is)

-- the file at an index stops the opening
pub opening_stops : (files : List Found) (i : ℕ) (r : Refusal) → i < length files → first_refusal_below i (opening_fault_at (files_found files)) ≡ None → RefusesSaid (opening_fault_at (files_found files) i) r → RefusesSaid (opening_fault (files_found files)) r
opening_stops files i (refusal.Fault fault) lt none here =
    first_refusal_below-found i (length (files_found files)) (opening_fault_at (files_found files)) (fault_said fault) (omega (arith, lt, length-map files file_found)) none here
opening_stops files i refusal.Memory lt none here = tt

-- ---- a library

-- what begins as a library does not begin as a resource file
no_resources : (file : FoundFile) → is_library file ≡ true → is_resource_file file ≡ false
unfolding resource_start
no_resources file library = go file.bytes library
  where
    by_first : (first : ℕ) (rest : List ℕ) (b : Bool) → eqb 0 first ≡ b → has_magic (first ∷ rest) ≡ true → begins (first ∷ rest) resource_start ≡ false
    by_first first rest true zero library =
        absurd (false≢true (ap (λ (n : ℕ). has_magic (n ∷ rest)) (eqb-true 0 first zero) ∙ library))
    by_first first rest false other library = rw other refl

    go : (bytes : List ℕ) → has_magic bytes ≡ true → begins bytes resource_start ≡ false
    go [] library = refl
    go (first ∷ rest) library = by_first first rest (eqb 0 first) refl library

pub library_adds : (file : FoundFile) (entries : List Entry) → is_library file ≡ true → entries ≡ entries ++ entries_among (file ∷ [])
library_adds file entries library =
    sym (ap (λ (b : Bool). entries ++ flat_map entries_in (cond b (file ∷ []) [])) (no_resources file library) ∙ append-nil entries)

pub library_merges : (file : FoundFile) (merges : Bool) → is_library file ≡ true → merges ≡ (merges || merges_resources (file ∷ []))
library_merges file merges library = by_test merges ∙ ap (λ (b : Bool). merges || (b || false)) (sym (no_resources file library))
  where
    by_test : (b : Bool) → b ≡ (b || (false || false))
    by_test true = refl
    by_test false = refl
