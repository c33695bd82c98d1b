-- Names that are tried one after the other, and the first under which a file is there.
use Rattle.std.proofs.Common.{◌≡◌, ◌<◌, ◌≤◌, ◌+◌, ℕ, zero, suc, Bool, true, false, List, [], ◌∷◌, length, map, get_or, Option, Some, None, Err, refl, sym, ap, ◌∙◌, subst, inl, inr, add-one, arith, le-ltb}
use Rattle.std.specs.Prelude.{is_some, unwrap_or, option_map}
use Rattle.std.specs.Option.{ForSome}
use Rattle.std.specs.List.{find}
use Rattle.std.proofs.lemmas.Bool.{cases_lt}
use Rattle.std.proofs.lemmas.List.{length-map, get_or-map}
use Rattle.memchr.specs.Find.{IsFirstByte}
use Rattle.directives.specs.Text.{has}
use Rattle.link_words.specs.Extension.{is_slash}
use Rattle.link_base.specs.Limits.{FILE_LIMIT, INPUT_LIMIT}
use Rattle.link_base.specs.declared.fault.Fault.{Fault}
use Rattle.link_base.specs.declared.fault.Fault.TheVariants.{NotFound}
use Rattle.link_base.specs.declared.stop.Stop.{Stop}
use Rattle.link_base.specs.declared.stop.Stop.TheVariants as stop
use Rattle.link_base.proofs.FoundLemmas.{first_place}
use Rattle.link_files.specs.Store.{Store, file_of}
use Rattle.link_files.specs.Outside.{FilesView, AreUntouched}
use Rattle.file_search.specs.FileNames.{in_folder, tried_names}
use Rattle.file_search.specs.FoundFiles.{FoundFile, is_there, file_named, found_file, size_fault, read_fault}
use Rattle.file_search.specs.InputFiles.{text_at, input_file}
use Rattle.file_search.specs.Reading.{GivesTried, LacksTried, TriesName, GivesNamed, FaultsNamed, ReadsNamed}

-- ---- slashes, and the names that are tried

pub has_by_place : (test : ℕ → Bool) (text : List ℕ) (place : Option ℕ) (b : Bool) → b ≡ is_some place → IsFirstByte test text place → b ≡ has test text
has_by_place test text place b is found = is ∙ ap is_some (first_place test text place found)

pub tried_as_given : (folders : List (List ℕ)) (name : List ℕ) → has is_slash name ≡ true → name ∷ [] ≡ tried_names folders name
unfolding tried_names
tried_as_given folders name slash = rw slash refl

pub tried_in_folders : (folders : List (List ℕ)) (name : List ℕ) → has is_slash name ≡ false → name ∷ map (in_folder name) folders ≡ tried_names folders name
unfolding tried_names
tried_in_folders folders name none = rw none refl

-- the first is the name as it is given
pub tried_first : (folders : List (List ℕ)) (name : List ℕ) → (0 < length (tried_names folders name)) × (name ≡ text_at (tried_names folders name) 0)
tried_first folders name = go (has is_slash name) refl
  where
    go : (b : Bool) → has is_slash name ≡ b → (0 < length (tried_names folders name)) × (name ≡ text_at (tried_names folders name) 0)
    go true slash = subst (λ (names : List (List ℕ)). (0 < length names) × (name ≡ text_at names 0)) (tried_as_given folders name slash) (omega arith, refl)
    go false none = subst (λ (names : List (List ℕ)). (0 < length names) × (name ≡ text_at names 0)) (tried_in_folders folders name none) (omega arith, refl)

pub within_folders : {X : Type 0} (text_of : X → List ℕ) (folders : List X) (name : List ℕ) (index : ℕ) → index < length folders → index + 1 < length (name ∷ map (in_folder name) (map text_of folders))
within_folders text_of folders name index lt =
    omega (arith, length-map (map text_of folders) (in_folder name), length-map folders text_of)

pub names_no_more : {X : Type 0} (text_of : X → List ℕ) (folders : List X) (name : List ℕ) (index : ℕ) → length folders ≤ index → length (name ∷ map (in_folder name) (map text_of folders)) ≤ index + 1
names_no_more text_of folders name index le =
    omega (arith, length-map (map text_of folders) (in_folder name), length-map folders text_of)

pub folder_named : {X : Type 0} (text_of : X → List ℕ) (folders : List X) (name : List ℕ) (index : ℕ) (default : X) → index < length folders → in_folder name (text_of (get_or folders index default)) ≡ text_at (name ∷ map (in_folder name) (map text_of folders)) (index + 1)
folder_named text_of folders name index default lt =
    ap (in_folder name) (sym (get_or-map text_of folders index default [] lt))
    ∙ sym (get_or-map (in_folder name) (map text_of folders) index [] [] (omega (arith, length-map folders text_of)))
    ∙ ap (λ (k : ℕ). text_at (name ∷ map (in_folder name) (map text_of folders)) k) (sym (add-one index))

-- ---- the first element that passes

find_first : {X : Type 0} (test : X → Bool) (xs : List X) (default : X) (place : ℕ) → place < length xs → ((k : ℕ) → k < place → test (get_or xs k default) ≡ false) → test (get_or xs place default) ≡ true → find test xs ≡ Some (get_or xs place default)
find_first test [] default place lt earlier here = absurd (omega arith)
find_first test (x ∷ xs) default zero lt earlier here = rw here refl
find_first test (x ∷ xs) default (suc place) lt earlier here =
    let fails : test x ≡ false = earlier zero (omega arith) in
    rw fails (find_first test xs default place (omega arith) (λ k below. earlier (suc k) (omega arith)) here)

find_none : {X : Type 0} (test : X → Bool) (xs : List X) (default : X) → ((k : ℕ) → k < length xs → test (get_or xs k default) ≡ false) → find test xs ≡ None
find_none test [] default fails = refl
find_none test (x ∷ xs) default fails =
    let here : test x ≡ false = fails zero (omega arith) in
    rw here (find_none test xs default (λ k below. fails (suc k) (omega arith)))

-- ---- the names that were tried

-- under none of the first names a file is there
pub record NoneThere (names : List (List ℕ)) (place : ℕ) (before_total after_total : ℕ) (before after : FilesView) : Type 0 where
  pub files : AreUntouched before after
  pub total_kept : after_total ≡ before_total
  pub told : ForSome before.store (λ store. (k : ℕ) → k < place → is_there store (text_at names k) ≡ false)

pub none_tried : (names : List (List ℕ)) (total : ℕ) (files : FilesView) → NoneThere names 0 total total files files
none_tried names total files = record {
  files = record { store = refl; reads = refl; writes = refl };
  total_kept = refl;
  told = λ store is k lt. absurd (omega arith);
}

pub untouched_further : (before after later : FilesView) → AreUntouched before after → AreUntouched after later → AreUntouched before later
untouched_further before after later first second = record {
  store = second.store ∙ first.store;
  reads = second.reads ∙ first.reads;
  writes = second.writes ∙ first.writes;
}

-- under the next name none is there either
pub none_further : (names : List (List ℕ)) (place before_total mid_total after_total : ℕ) (before after later : FilesView) (name : List ℕ) → name ≡ text_at names place → NoneThere names place before_total mid_total before after → LacksTried name mid_total after_total after later → NoneThere names (place + 1) before_total after_total before later
none_further names place before_total mid_total after_total before after later name named so_far lacks = record {
  files = untouched_further before after later so_far.files lacks.files;
  total_kept = lacks.total_kept ∙ so_far.total_kept;
  told = λ store is k lt. elim (cases_lt k place) [
    | inl below ↦ so_far.told store is k below
    | inr above ↦
        let same : k ≡ place = omega arith in
        ap (λ (n : ℕ). is_there store (text_at names n)) same
        ∙ ap (is_there store) (sym named)
        ∙ lacks.told store (so_far.files.store ∙ is)
  ];
}

-- ---- the name under which a file is there

find_here : (store : Store) (names : List (List ℕ)) (place : ℕ) (name : List ℕ) → place < length names → name ≡ text_at names place → ((k : ℕ) → k < place → is_there store (text_at names k) ≡ false) → is_there store name ≡ true → found_file store names ≡ Some (file_named store name)
find_here store names place name lt named earlier there =
    ap (option_map (file_named store)) (find_first (is_there store) names [] place lt earlier (ap (is_there store) (sym named) ∙ there))
    ∙ ap (λ (n : List ℕ). Some (file_named store n)) (sym named)

found_is : (store : Store) (name : List ℕ) (found : FoundFile) → found.file ≡ name → file_of store name ≡ Some found.bytes → file_named store name ≡ found
found_is store name found named told =
    ap (λ (n : List ℕ). record { file = n; bytes = unwrap_or (file_of store name) [] }) (sym named)
    ∙ ap (λ (o : Option (List ℕ)). record { file = found.file; bytes = unwrap_or o [] }) told

no_size_fault : (total : ℕ) (found : FoundFile) → length found.bytes ≤ FILE_LIMIT → total + length found.bytes ≤ INPUT_LIMIT → size_fault total found ≡ None
no_size_fault total found within together =
    rw (le-ltb FILE_LIMIT (length found.bytes) within, le-ltb INPUT_LIMIT (total + length found.bytes) together) refl

pub gives_here : (folders : List (List ℕ)) (given : List ℕ) (names : List (List ℕ)) (place before_total mid_total after_total : ℕ) (before after later : FilesView) (name : List ℕ) (found : FoundFile) → names ≡ tried_names folders given → place < length names → name ≡ text_at names place → NoneThere names place before_total mid_total before after → GivesTried name mid_total after_total after later found → GivesNamed folders given before_total after_total before later found
gives_here folders given names place before_total mid_total after_total before after later name found names_are lt named so_far gives =
    let there : (store : Store) → before.store ≡ Some store → input_file store folders given ≡ Some found = λ store is.
    let told = gives.told store (so_far.files.store ∙ is) in
    ap (found_file store) (sym names_are)
    ∙ find_here store names place name lt named (so_far.told store is) (ap is_some told)
    ∙ ap Some (found_is store name found gives.named told) in
    record {
      files = untouched_further before after later so_far.files gives.files;
      total_is = gives.total_is ∙ ap (λ (total : ℕ). total + length found.bytes) so_far.total_kept;
      within = gives.within;
      together = gives.together;
      told = there;
      no_fault = λ store is.
          ap (read_fault given before_total) (there store is)
          ∙ no_size_fault before_total found gives.within (omega (arith, gives.together, gives.total_is, so_far.total_kept));
    }

-- or it is not read
pub stops_here : (folders : List (List ℕ)) (given : List ℕ) (names : List (List ℕ)) (place before_total mid_total after_total : ℕ) (before after later : FilesView) (name : List ℕ) (error : Stop) → names ≡ tried_names folders given → place < length names → name ≡ text_at names place → NoneThere names place before_total mid_total before after → TriesName name mid_total after_total after later (Err error) → ReadsNamed folders given before_total after_total before later (Err error)
stops_here folders given names place before_total mid_total after_total before after later name (stop.Fault fault) names_are lt named so_far faults = record {
  files = untouched_further before after later so_far.files faults.files;
  told = λ store is.
      ap (read_fault given before_total) (ap (found_file store) (sym names_are) ∙ find_here store names place name lt named (so_far.told store is) (faults.there store (so_far.files.store ∙ is)))
      ∙ ap (λ (total : ℕ). size_fault total (file_named store name)) (sym so_far.total_kept)
      ∙ faults.told store (so_far.files.store ∙ is);
}
stops_here folders given names place before_total mid_total after_total before after later name (stop.Read failed) names_are lt named so_far fails = record {
  files = record {
    store = fails.files.store ∙ so_far.files.store;
    reads = omega (arith, fails.files.reads, so_far.files.reads);
    writes = fails.files.writes ∙ so_far.files.writes;
  };
  told = λ store is. record {
    place = place;
    within = subst (λ (list : List (List ℕ)). place < length list) names_are lt;
    named = fails.named ∙ named ∙ ap (λ (list : List (List ℕ)). text_at list place) names_are;
    earlier = λ k below. ap (λ (list : List (List ℕ)). is_there store (text_at list k)) (sym names_are) ∙ so_far.told store is k below;
  };
}
stops_here folders given names place before_total mid_total after_total before after later name stop.Memory names_are lt named so_far leaves = record {
  store = leaves.store ∙ so_far.files.store;
  writes = leaves.writes ∙ so_far.files.writes;
}

-- ---- no name

pub found_nowhere : (folders : List (List ℕ)) (given : List ℕ) (names : List (List ℕ)) (place before_total after_total : ℕ) (before after : FilesView) (fault : Fault) → names ≡ tried_names folders given → length names ≤ place → fault ≡ NotFound given None → NoneThere names place before_total after_total before after → FaultsNamed folders given before_total before after fault
found_nowhere folders given names place before_total after_total before after fault names_are le is_fault so_far = record {
  files = so_far.files;
  told = λ store is.
      ap (read_fault given before_total) (ap (found_file store) (sym names_are) ∙ ap (option_map (file_named store)) (find_none (is_there store) names [] (λ k lt. so_far.told store is k (omega arith))))
      ∙ ap Some (sym is_fault);
}
