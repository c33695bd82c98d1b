-- The inputs that were read so far.
use Rattle.std.proofs.Common.{◌≡◌, ◌<◌, ◌≤◌, ◌+◌, ℕ, List, [], ◌∷◌, ◌++◌, length, get_or, map, take, Option, Some, None, Err, refl, sym, ap, ◌∙◌, subst, arith}
use Rattle.std.specs.Prelude.{All, unwrap_or}
use Rattle.std.specs.List.{sum_by}
use Rattle.std.specs.Option.{ForSome}
use Rattle.std.proofs.Math.Seq.{take-length}
use Rattle.std.proofs.lemmas.List.{length-map, map-append, take_more, get_or-map}
use Rattle.std.proofs.lemmas.List.Sums.{sum_by_push}
use Rattle.std.proofs.lemmas.List.Elements.{All-nil, All-same, All-push}
use Rattle.link_base.specs.Limits.{FILE_LIMIT, INPUT_LIMIT}
use Rattle.link_base.specs.Refusals.{first_refusal_below}
use Rattle.link_base.specs.declared.stop.Stop.{Stop}
use Rattle.link_base.specs.declared.stop.Stop.TheVariants as stop
use Rattle.link_base.proofs.RefusalLemmas.{first_refusal_below-more, first_refusal_below-found}
use Rattle.link_files.specs.Store.{Store}
use Rattle.link_files.specs.Outside.{FilesView, AreUntouched}
use Rattle.link_words.specs.Outcome.{LinkOptions}
use Rattle.file_search.specs.FoundFiles.{FoundFile, no_file, read_fault}
use Rattle.file_search.specs.InputFiles.{text_at, input_file, input_len, total_before, reading_fault_at, file_or_none}
use Rattle.file_search.specs.FileNames.{tried_names}
use Rattle.file_search.specs.Reading.{Tries, GivesNamed, ReadsNamed, GivesInputs, ReadsInputs, file_found, files_found}
use Rattle.file_search.specs.declared.found.FoundFile.{FoundFile as Found}
use Rattle.file_search.proofs.FindLemmas.{untouched_further}

abbrev pub file_len : FoundFile → ℕ
file_len file = length file.bytes

-- the first inputs were read
pub record ReadSoFar (options : LinkOptions) (index total : ℕ) (before after : FilesView) (found : List FoundFile) : Type 0 where
  pub files : AreUntouched before after
  pub within : All (λ file. length file.bytes ≤ FILE_LIMIT) found
  pub counted : total ≡ sum_by file_len found
  pub together : total ≤ INPUT_LIMIT
  pub no_fault : ForSome before.store (λ store. first_refusal_below index (reading_fault_at store options) ≡ None)
  pub told : ForSome before.store (λ store. found ≡ map (file_or_none store options) (take index options.inputs))
  pub sum : ForSome before.store (λ store. total ≡ total_before store options index)

pub none_read : (options : LinkOptions) (total : ℕ) (files : FilesView) (found : List FoundFile) → total ≡ 0 → found ≡ [] → ReadSoFar options 0 total files files found
unfolding first_refusal_below
none_read options total files found zero empty = record {
  files = record { store = refl; reads = refl; writes = refl };
  within = All-same (λ (file : FoundFile). length file.bytes ≤ FILE_LIMIT) found [] empty (All-nil (λ (file : FoundFile). length file.bytes ≤ FILE_LIMIT));
  counted = zero ∙ ap (sum_by file_len) (sym empty);
  together = omega (arith, zero);
  no_fault = λ store is. refl;
  told = λ store is. empty;
  sum = λ store is. zero;
}

-- ---- the next input

fault_here : (options : LinkOptions) (index total : ℕ) (store : Store) (name : List ℕ) → name ≡ text_at options.inputs index → total ≡ total_before store options index → reading_fault_at store options index ≡ read_fault name total (input_file store options.lib_paths name)
fault_here options index total store name named sum =
    sym (ap (λ (n : List ℕ). read_fault n total (input_file store options.lib_paths n)) named
    ∙ ap (λ (t : ℕ). read_fault (text_at options.inputs index) t (input_file store options.lib_paths (text_at options.inputs index))) sum)

file_here : (options : LinkOptions) (index : ℕ) (store : Store) (name : List ℕ) (found : FoundFile) → name ≡ text_at options.inputs index → input_file store options.lib_paths name ≡ Some found → found ≡ file_or_none store options (text_at options.inputs index)
file_here options index store name found named told =
    ap (λ (o : Option FoundFile). unwrap_or o no_file) (sym told) ∙ ap (file_or_none store options) named

files_more : (options : LinkOptions) (index : ℕ) (store : Store) (all : List FoundFile) (found : FoundFile) → index < length options.inputs → all ≡ map (file_or_none store options) (take index options.inputs) → found ≡ file_or_none store options (text_at options.inputs index) → all ++ found ∷ [] ≡ map (file_or_none store options) (take (index + 1) options.inputs)
files_more options index store all found lt so_far here =
    ap (λ (before : List FoundFile). before ++ found ∷ []) so_far
    ∙ ap (λ (last : FoundFile). map (file_or_none store options) (take index options.inputs) ++ last ∷ []) here
    ∙ sym (map-append (file_or_none store options) (take index options.inputs) (text_at options.inputs index ∷ []))
    ∙ ap (map (file_or_none store options)) (sym (take_more options.inputs index [] lt))

total_more : (options : LinkOptions) (index total : ℕ) (store : Store) (found : FoundFile) → index < length options.inputs → total ≡ total_before store options index → found ≡ file_or_none store options (text_at options.inputs index) → total + length found.bytes ≡ total_before store options (index + 1)
total_more options index total store found lt so_far here =
    ap (λ (before : ℕ). before + length found.bytes) so_far
    ∙ ap (λ (last : FoundFile). total_before store options index + length last.bytes) here
    ∙ sym (sum_by_push (input_len store options.lib_paths) (take index options.inputs) (text_at options.inputs index))
    ∙ ap (sum_by (input_len store options.lib_paths)) (sym (take_more options.inputs index [] lt))

-- it was read too
more : (options : LinkOptions) (index total after_total : ℕ) (before after later : FilesView) (all : List FoundFile) (name : List ℕ) (found : FoundFile) → index < length options.inputs → name ≡ text_at options.inputs index → ReadSoFar options index total before after all → GivesNamed options.lib_paths name total after_total after later found → ReadSoFar options (index + 1) after_total before later (all ++ found ∷ [])
more options index total after_total before after later all name found lt named so_far gives =
    let here = λ (store : Store) (is : before.store ≡ Some store). file_here options index store name found named (gives.told store (so_far.files.store ∙ is)) in
    record {
      files = untouched_further before after later so_far.files gives.files;
      within = All-push (λ (file : FoundFile). length file.bytes ≤ FILE_LIMIT) all found so_far.within gives.within;
      counted = gives.total_is ∙ ap (λ (sum : ℕ). sum + length found.bytes) so_far.counted ∙ sym (sum_by_push file_len all found);
      together = gives.together;
      no_fault = λ store is.
          first_refusal_below-more index (reading_fault_at store options) (so_far.no_fault store is)
          (fault_here options index total store name named (so_far.sum store is) ∙ gives.no_fault store (so_far.files.store ∙ is));
      told = λ store is. files_more options index store all found lt (so_far.told store is) (here store is);
      sum = λ store is. gives.total_is ∙ total_more options index total store found lt (so_far.sum store is) (here store is);
    }

-- or it stops the reading
stops : (A : Type 0) (options : LinkOptions) (index total after_total : ℕ) (before after later : FilesView) (all : List FoundFile) (name : List ℕ) (error : Stop) → index < length options.inputs → name ≡ text_at options.inputs index → ReadSoFar options index total before after all → ReadsNamed options.lib_paths name total after_total after later (Err error) → ReadsInputs {A = A} options after_total before later (Err error)
stops A options index total after_total before after later all name (stop.Fault fault) lt named so_far faults = record {
  files = untouched_further before after later so_far.files faults.files;
  told = λ store is.
      first_refusal_below-found index (length options.inputs) (reading_fault_at store options) fault lt (so_far.no_fault store is)
      (fault_here options index total store name named (so_far.sum store is) ∙ faults.told store (so_far.files.store ∙ is));
}
stops A options index total after_total before after later all name (stop.Read failed) lt named so_far fails = record {
  files = record {
    store = fails.files.store ∙ so_far.files.store;
    reads = omega (arith, fails.files.reads, so_far.files.reads);
    writes = fails.files.writes ∙ so_far.files.writes;
  };
  told = λ store is. record {
    input = index;
    within = lt;
    read = so_far.no_fault store is;
    tries = subst (λ (n : List ℕ). Tries store (tried_names options.lib_paths n) failed) named (fails.told store (so_far.files.store ∙ is));
  };
}
stops A options index total after_total before after later all name stop.Memory lt named so_far leaves = record {
  store = leaves.store ∙ so_far.files.store;
  writes = leaves.writes ∙ so_far.files.writes;
}

-- ---- the names and the folders as the program holds them

name_at : {X : Type 0} (text_of : X → List ℕ) (items : List X) (names : List (List ℕ)) (index : ℕ) (default : X) → map text_of items ≡ names → index < length items → (index < length names) × (text_of (get_or items index default) ≡ text_at names index)
name_at text_of items names index default same lt =
    subst (λ (list : List (List ℕ)). (index < length list) × (text_of (get_or items index default) ≡ text_at list index)) same
    (omega (arith, length-map items text_of), sym (get_or-map text_of items index default [] lt))

pub read_more : {X : Type 0} (text_of : X → List ℕ) (items : List X) (default : X) (options : LinkOptions) (folders : List (List ℕ)) (index total after_total : ℕ) (before after later : FilesView) (all : List FoundFile) (found : FoundFile) → map text_of items ≡ options.inputs → folders ≡ options.lib_paths → index < length items → ReadSoFar options index total before after all → GivesNamed folders (text_of (get_or items index default)) total after_total after later found → ReadSoFar options (index + 1) after_total before later (all ++ found ∷ [])
read_more text_of items default options folders index total after_total before after later all found same folders_are lt so_far gives =
    let name = text_of (get_or items index default) in
    let at = name_at text_of items options.inputs index default same lt in
    more options index total after_total before after later all name found at.0 at.1 so_far
    (subst (λ (list : List (List ℕ)). GivesNamed list name total after_total after later found) folders_are gives)

pub reading_stops : {X : Type 0} (A : Type 0) (text_of : X → List ℕ) (items : List X) (default : X) (options : LinkOptions) (folders : List (List ℕ)) (index total after_total : ℕ) (before after later : FilesView) (all : List FoundFile) (error : Stop) → map text_of items ≡ options.inputs → folders ≡ options.lib_paths → index < length items → ReadSoFar options index total before after all → ReadsNamed folders (text_of (get_or items index default)) total after_total after later (Err error) → ReadsInputs {A = A} options after_total before later (Err error)
reading_stops A text_of items default options folders index total after_total before after later all error same folders_are lt so_far reads =
    let name = text_of (get_or items index default) in
    let at = name_at text_of items options.inputs index default same lt in
    stops A options index total after_total before after later all name error at.0 at.1 so_far
    (subst (λ (list : List (List ℕ)). ReadsNamed list name total after_total after later (Err error)) folders_are reads)

pub found_more : (all later : List Found) (found : Found) → later ≡ all ++ found ∷ [] → files_found later ≡ files_found all ++ file_found found ∷ []
found_more all later found pushed =
    ap files_found pushed ∙ map-append file_found all (found ∷ [])

-- ---- all of them

pub all_read : {X : Type 0} (text_of : X → List ℕ) (items : List X) (options : LinkOptions) (index total : ℕ) (before after : FilesView) (found : List FoundFile) → map text_of items ≡ options.inputs → index ≤ length items → length items ≤ index → ReadSoFar options index total before after found → GivesInputs options total before after found
all_read text_of items options index total before after found same le ge so_far =
    let end : index ≡ length options.inputs = omega (arith, length-map items text_of, ap length same) in
    record {
      files = so_far.files;
      within = so_far.within;
      together = omega (arith, so_far.counted, so_far.together);
      no_fault = λ store is.
          ap (λ (n : ℕ). first_refusal_below n (reading_fault_at store options)) (sym end) ∙ so_far.no_fault store is;
      told = λ store is.
          so_far.told store is
          ∙ ap (λ (n : ℕ). map (file_or_none store options) (take n options.inputs)) end
          ∙ ap (map (file_or_none store options)) (take-length options.inputs);
      total_is = λ store is. so_far.sum store is ∙ ap (total_before store options) end;
    }
