-- A loading begins with its inputs, and comes to its end.
use Rattle.std.proofs.Common.{◌≡◌, ℕ, ◌<◌, ◌≤◌, List, length, map, get_or, Some, None, Err, Ok, Result, sym, ap, subst, ◌∙◌, inl, inr, arith}
use Rattle.std.specs.Prelude.{All}
use Rattle.std.proofs.lemmas.List.{length-map, get_or-map}
use Rattle.link_base.specs.Limits.{FILE_LIMIT}
use Rattle.link_base.specs.Refusals.{stop_of}
use Rattle.link_base.specs.declared.fault.Fault.{Fault}
use Rattle.link_base.specs.declared.stop.Refusal.{Refusal}
use Rattle.link_base.specs.declared.stop.Refusal.TheVariants as refusal
use Rattle.link_base.specs.declared.stop.Stop.{Stop}
use Rattle.link_base.specs.declared.stop.Stop.TheVariants as stop
use Rattle.link_files.specs.Store.{Store}
use Rattle.link_files.specs.Outside.{FilesView}
use Rattle.link_words.specs.Outcome.{LinkOptions}
use Rattle.file_search.specs.declared.found.FoundFile.{FoundFile as Found}
use Rattle.file_search.specs.FoundFiles.{FoundFile}
use Rattle.file_search.specs.InputFiles.{input_files}
use Rattle.file_search.specs.Reading.{file_found, files_found, GivesInputs, ReadsInputs}
use Rattle.res_merge.specs.declared.resource.Resource.{Resource}
use Rattle.res_merge.specs.Entries.{entry_of}
use Rattle.res_merge.specs.Order.{AreMergeable}
use Rattle.res_merge.specs.Found.{AreNumbered}
use Rattle.resource_files.specs.SaidFaults.{fault_said, RefusesSaid}
use Rattle.resource_files.specs.Held.{entries_among}
use Rattle.lib_search.specs.declared.link_list.LinkList.{LinkList}
use Rattle.lib_search.specs.Inputs.{opening_fault}
use Rattle.lib_search.specs.SearchSteps.{SearchState}
use Rattle.lib_search.specs.Loading.{inputs_state, state_after, Reaches, HasLoadingFault, AtRead, AtOpening, Loads}
use Rattle.lib_search.specs.LoadingSteps.{GivesFrom, CompletesFrom}
use Rattle.lib_search.specs.Completion.{GivesList, Completes}
use Rattle.lib_search.proofs.SaidLemmas.{loading_plain}
use Rattle.lib_search.proofs.LoadingLemmas.{untouched_further, failed_further, left_further}

-- each file that was read is short enough
pub short_files : (files items : List Found) → items ≡ files → All (λ file. length file.bytes ≤ FILE_LIMIT) (files_found files) → (k : ℕ) (d : Found) → k < length items → length (get_or items k d).bytes.now ≤ FILE_LIMIT
short_files files items same within k d lt =
    let long = ap (λ (fs : List Found). length fs) same in
    let inside : k < length files = omega (arith, lt, long) in
    let item : get_or (files_found files) k (file_found d) ≡ file_found (get_or items k d) =
    get_or-map file_found files k d (file_found d) inside ∙ ap (λ (fs : List Found). file_found (get_or fs k d)) (sym same) in
    let len = ap (λ (f : FoundFile). length f.bytes) item in
    omega (arith, within k (file_found d) (omega (arith, inside, length-map files file_found)), len)

-- a fault is what it says
as_said : (store : Store) (options : LinkOptions) (fault : Fault) → HasLoadingFault store options fault → HasLoadingFault store options (fault_said fault)
as_said store options fault has = subst (HasLoadingFault store options) (sym (loading_plain store options fault has)) has

-- they are not all read
pub stops_reading : (A : Type 0) (options : LinkOptions) (total : ℕ) (before after : FilesView) (error : Stop) → ReadsInputs {A = A} options total before after (Err error) → Completes options before after (Err error)
stops_reading A options total before after (stop.Fault fault) faults = record {
  files = faults.files;
  told = λ store is. as_said store options fault (AtRead (faults.told store is));
}
stops_reading A options total before after (stop.Read failed) fails = record { files = fails.files; told = λ store is. inl (fails.told store is) }
stops_reading A options total before after stop.Memory leaves = leaves

-- they do not all open
pub stops_opening : (options : LinkOptions) (total : ℕ) (before after : FilesView) (found : List FoundFile) (refused : Refusal) → GivesInputs options total before after found → RefusesSaid (opening_fault found) refused → Completes options before after (Err (stop_of refused))
stops_opening options total before after found (refusal.Fault fault) gives bad = record {
  files = gives.files;
  told = λ store is. AtOpening (gives.no_fault store is) (ap opening_fault (sym (gives.told store is)) ∙ bad);
}
stops_opening options total before after found refusal.Memory gives bad = record { store = gives.files.store; writes = gives.files.writes }

-- the search begins with them
begins : (store : Store) (options : LinkOptions) (total : ℕ) (before after : FilesView) (found : List FoundFile) (state : SearchState) → before.store ≡ Some store → GivesInputs options total before after found → opening_fault found ≡ None → state ≡ inputs_state options found total → Reaches store options state
unfolding state_after
begins store options total before after found state is gives opened state_is = record {
  read = gives.no_fault store is;
  opened = ap opening_fault (sym (gives.told store is)) ∙ opened;
  steps = 0;
  is =
      ap Some
      (ap (inputs_state options (input_files store options)) (sym (gives.total_is store is))
      ∙ ap (λ (files : List FoundFile). inputs_state options files total) (sym (gives.told store is))
      ∙ sym state_is);
}

-- and ends
module _ (options : LinkOptions) (total : ℕ) (before after later : FilesView) (found : List FoundFile) (state : SearchState) (resources : List Resource) (gives : GivesInputs options total before after found) (opened : opening_fault found ≡ None) (state_is : state ≡ inputs_state options found total) (resources_are : map entry_of resources ≡ entries_among found) where
  reached : (store : Store) → before.store ≡ Some store → Reaches store options state
  reached store is = begins store options total before after found state is gives opened state_is

  ended : (list : LinkList) → AreMergeable (map entry_of resources) → AreNumbered (map entry_of resources) → GivesFrom options state resources after later list → GivesList options before later list
  ended list mergeable numbered ends =
      let same : map entry_of resources ≡ map entry_of list.resources.items = ap (map entry_of) (sym ends.resources_are) in
      record {
        files = untouched_further before after later gives.files ends.files;
        few = ends.few;
        names_are = ends.names_are;
        mergeable = subst AreMergeable same mergeable;
        numbered = subst AreNumbered same numbered;
        told = λ store is.
            subst (Loads store options list.modules.items) (ap entries_among (sym (gives.told store is)) ∙ sym resources_are ∙ same)
            (ends.told store (gives.files.store ∙ is) (reached store is));
      }

  pub ends_loading : (result : Result LinkList Stop) → AreMergeable (map entry_of resources) → AreNumbered (map entry_of resources) → CompletesFrom options state resources after later result → Completes options before later result
  ends_loading (Ok list) mergeable numbered ends = ended list mergeable numbered ends
  ends_loading (Err (stop.Fault fault)) mergeable numbered ends = record {
    files = untouched_further before after later gives.files ends.files;
    told = λ store is. as_said store options fault (ends.told store (gives.files.store ∙ is) (reached store is));
  }
  ends_loading (Err (stop.Read failed)) mergeable numbered ends = record {
    files = failed_further before after later gives.files ends.files;
    told = λ store is. inr (ends.told store (gives.files.store ∙ is) (reached store is));
  }
  ends_loading (Err stop.Memory) mergeable numbered ends = left_further before after later gives.files ends
