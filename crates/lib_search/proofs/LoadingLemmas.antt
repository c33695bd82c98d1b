-- The steps of a loading.
use Rattle.std.proofs.Common.{◌≡◌, ℕ, suc, ◌+◌, ◌<◌, ◌≤◌, Bool, true, false, cond, List, [], ◌∷◌, ◌++◌, length, Option, Some, None, Err, refl, sym, ap, subst, ◌∙◌, lt-ltb, le-ltb, arith}
use Rattle.std.specs.Prelude.{unwrap_or}
use Rattle.std.specs.Option.{option_or}
use Rattle.std.proofs.lemmas.List.{length-append}
use Rattle.link_base.specs.Limits.{MODULE_LIMIT}
use Rattle.link_base.specs.declared.fault.Fault.{Fault}
use Rattle.link_base.specs.Refusals.{RefusesFor, stop_of}
use Rattle.link_base.specs.declared.stop.Refusal.{Refusal}
use Rattle.link_base.specs.declared.stop.Refusal.TheVariants as refusal
use Rattle.link_base.specs.declared.stop.Stop.{Stop}
use Rattle.link_base.specs.declared.stop.Stop.TheVariants as stop
use Rattle.link_files.specs.Store.{Store}
use Rattle.link_files.specs.Outside.{FilesView, AreUntouched, ReadFailed}
use Rattle.link_words.specs.Outcome.{LinkOptions}
use Rattle.module_view.specs.Module.{ModuleView}
use Rattle.symbol_names.specs.LinkView.{LinkView}
use Rattle.file_search.specs.declared.default_libraries.DefaultLibraries.{DefaultLibraries}
use Rattle.file_search.specs.FileNames.{tried_names}
use Rattle.file_search.specs.FoundFiles.{FoundFile, no_file, read_fault}
use Rattle.file_search.specs.InputFiles.{text_at, input_file}
use Rattle.file_search.specs.DefaultLibraries.{default_names, default_libraries}
use Rattle.file_search.specs.DefaultSteps.{KeepsDefaults, wanted_by}
use Rattle.file_search.specs.Reading.{LeavesFiles, Tries, GivesNamed, ReadsNamed}
use Rattle.lib_search.specs.declared.loading.Loading.{Loading}
use Rattle.lib_search.specs.declared.search.Search.{Search}
use Rattle.lib_search.specs.LinkOf.{link_of}
use Rattle.lib_search.specs.LibraryFaults.{no_library}
use Rattle.lib_search.specs.SearchSteps.{MemberPlace, Searched, SearchState, Faults, Goes, goes_unless, member_at, with_module, with_member, with_library, after_default, default_step_as, default_step, join_step, wants_library, next_default, next_member, next_step}
use Rattle.lib_search.specs.Loading.{state_in, state_after_one, state_after, Reaches, HasLoadingFault, AtStep}
use Rattle.lib_search.specs.AlternateParts.{KeepsSearch}
use Rattle.lib_search.specs.LoadingSteps.{state_now, modules_now, KeepsLoading, ReadsNext, ReadsDefault}

-- ---- files that stay as they are

pub untouched_further : (before after later : FilesView) → AreUntouched before after → AreUntouched after later → AreUntouched before later
untouched_further before after later first second = record {
  store = second.store ∙ first.store;
  reads = second.reads ∙ first.reads;
  writes = second.writes ∙ first.writes;
}

pub failed_further : (before after later : FilesView) → AreUntouched before after → ReadFailed after later → ReadFailed before later
failed_further before after later first second = record {
  store = second.store ∙ first.store;
  reads = omega (arith, second.reads, first.reads);
  writes = second.writes ∙ first.writes;
}

pub left_further : (before after later : FilesView) → AreUntouched before after → LeavesFiles after later → LeavesFiles before later
left_further before after later first second = record {
  store = second.store ∙ first.store;
  writes = second.writes ∙ first.writes;
}

-- ---- one step

wants_default : (store : Store) (options : LinkOptions) (state : SearchState) → wants_library options state ≡ true → next_step store options state ≡ default_step store options (next_default options state) state
unfolding next_step
wants_default store options state wants =
    ap (λ (b : Bool). cond b (default_step store options (next_default options state) state) (join_step state (next_member state.searched))) wants

pub wants_member : (store : Store) (options : LinkOptions) (state : SearchState) → wants_library options state ≡ false → next_step store options state ≡ join_step state (next_member state.searched)
unfolding next_step
wants_member store options state wants =
    ap (λ (b : Bool). cond b (default_step store options (next_default options state) state) (join_step state (next_member state.searched))) wants

default_as : (store : Store) (options : LinkOptions) (state : SearchState) (name : List ℕ) (found : Option FoundFile) → wants_library options state ≡ true → name ≡ next_default options state → input_file store options.lib_paths name ≡ found → next_step store options state ≡ default_step_as name state found
default_as store options state name found wants named is =
    wants_default store options state wants
    ∙ ap (λ (n : List ℕ). default_step store options n state) (sym named)
    ∙ ap (default_step_as name state) is

-- the next default library is read
default_goes : (store : Store) (options : LinkOptions) (state : SearchState) (name : List ℕ) (found : FoundFile) → wants_library options state ≡ true → name ≡ next_default options state → input_file store options.lib_paths name ≡ Some found → read_fault name state.total (input_file store options.lib_paths name) ≡ None → no_library found ≡ None → next_step store options state ≡ Goes (after_default state found)
default_goes store options state name found wants named is unread well =
    let read : read_fault name state.total (Some found) ≡ None = ap (read_fault name state.total) (sym is) ∙ unread in
    default_as store options state name (Some found) wants named is
    ∙ ap (λ (o : Option Fault). goes_unless (option_or o (no_library found)) (after_default state found)) read
    ∙ ap (λ (o : Option Fault). goes_unless o (after_default state found)) well

-- it is not read
default_unread : (store : Store) (options : LinkOptions) (state : SearchState) (name : List ℕ) (fault : Fault) → wants_library options state ≡ true → name ≡ next_default options state → read_fault name state.total (input_file store options.lib_paths name) ≡ Some fault → next_step store options state ≡ Faults fault
default_unread store options state name fault wants named unread =
    let found = input_file store options.lib_paths name in
    default_as store options state name found wants named refl
    ∙ ap (λ (o : Option Fault). goes_unless (option_or o (no_library (unwrap_or found no_file))) (after_default state (unwrap_or found no_file))) unread

-- it is no library
default_bad : (store : Store) (options : LinkOptions) (state : SearchState) (name : List ℕ) (found : FoundFile) (fault : Fault) → wants_library options state ≡ true → name ≡ next_default options state → input_file store options.lib_paths name ≡ Some found → read_fault name state.total (input_file store options.lib_paths name) ≡ None → no_library found ≡ Some fault → next_step store options state ≡ Faults fault
default_bad store options state name found fault wants named is unread bad =
    let read : read_fault name state.total (Some found) ≡ None = ap (read_fault name state.total) (sym is) ∙ unread in
    default_as store options state name (Some found) wants named is
    ∙ ap (λ (o : Option Fault). goes_unless (option_or o (no_library found)) (after_default state found)) read
    ∙ ap (λ (o : Option Fault). goes_unless o (after_default state found)) bad

-- ---- what a loading keeps

pub next_named : (options : LinkOptions) (loading : Loading) (total : ℕ) → KeepsLoading options loading → text_at (wanted_by loading.defaults) loading.read ≡ next_default options (state_now loading total)
next_named options loading total keeps = ap (λ (names : List (List ℕ)). text_at names loading.read) keeps.defaults.wanted

pub next_wanted : (options : LinkOptions) (loading : Loading) (total : ℕ) → KeepsLoading options loading → loading.read < length (wanted_by loading.defaults) → wants_library options (state_now loading total) ≡ true
next_wanted options loading total keeps lt =
    let long = ap (λ (names : List (List ℕ)). length names) keeps.defaults.wanted in
    lt-ltb loading.read (length (default_libraries options (modules_now loading))) (omega (arith, lt, long))

pub none_wanted : (options : LinkOptions) (loading : Loading) (total : ℕ) → KeepsLoading options loading → length (wanted_by loading.defaults) ≤ loading.read → wants_library options (state_now loading total) ≡ false
none_wanted options loading total keeps le =
    let long = ap (λ (names : List (List ℕ)). length names) keeps.defaults.wanted in
    le-ltb loading.read (length (default_libraries options (modules_now loading))) (omega (arith, le, long))

abbrev pub state_of : Searched → ℕ → ℕ → SearchState
state_of searched total defaults = record { searched = searched; total = total; defaults = defaults }

-- the same modules with more libraries
keeps_library : (options : LinkOptions) (loading later : Loading) (found : FoundFile) → later.search.searched ≡ with_library loading.search.searched found → later.defaults ≡ loading.defaults → KeepsSearch later.search → KeepsLoading options loading → KeepsLoading options later
keeps_library options loading later found search defaults together keeps =
    let link : later.search.searched.link ≡ loading.search.searched.link = ap (λ (s : Searched). s.link) search in
    record {
      search = together;
      link_is = link ∙ keeps.link_is ∙ ap (λ (l : LinkView). link_of options l.modules) (sym link);
      few = let long = ap (λ (l : LinkView). length l.modules) link in omega (arith, long, keeps.few);
      defaults =
          subst (λ (l : LinkView). KeepsDefaults options (default_names options l.modules) later.defaults) (sym link)
          (subst (KeepsDefaults options (default_names options (modules_now loading))) (sym defaults) keeps.defaults);
    }

-- another search that stands where this one does
pub keeps_search : (options : LinkOptions) (loading : Loading) (search : Search) → search.searched ≡ loading.search.searched → KeepsSearch search → KeepsLoading options loading → KeepsLoading options (record loading { search = search })
keeps_search options loading search same together keeps =
    let link : search.searched.link ≡ loading.search.searched.link = ap (λ (s : Searched). s.link) same in
    record {
      search = together;
      link_is = link ∙ keeps.link_is ∙ ap (λ (l : LinkView). link_of options l.modules) (sym link);
      few = let long = ap (λ (l : LinkView). length l.modules) link in omega (arith, long, keeps.few);
      defaults = subst (λ (l : LinkView). KeepsDefaults options (default_names options l.modules) loading.defaults) (sym link) keeps.defaults;
    }

-- a member joined
pub keeps_member : (options : LinkOptions) (loading : Loading) (now : Search) (place : MemberPlace) (view : ModuleView) (defaults : DefaultLibraries) (read : ℕ) → now.searched ≡ with_member loading.search.searched place → view ≡ member_at loading.search.searched place → length (modules_now loading) < MODULE_LIMIT → KeepsDefaults options (default_names options (modules_now loading ++ view ∷ [])) defaults → KeepsSearch now → KeepsLoading options loading → KeepsLoading options (record { search = now; defaults = defaults; read = read })
keeps_member options loading now place view defaults read now_is view_is few names together keeps =
    let modules = modules_now loading in
    let member = member_at loading.search.searched place in
    let link : now.searched.link ≡ with_module loading.search.searched.link member = ap (λ (s : Searched). s.link) now_is in
    let joined : now.searched.link.modules ≡ modules ++ view ∷ [] =
    ap (λ (l : LinkView). l.modules) link ∙ ap (λ (v : ModuleView). modules ++ v ∷ []) (sym view_is) in
    record {
      search = together;
      link_is =
          link
          ∙ ap (λ (l : LinkView). with_module l member) keeps.link_is
          ∙ ap (link_of options) (ap (λ (v : ModuleView). modules ++ v ∷ []) (sym view_is) ∙ sym joined);
      few = let long = ap (λ (ms : List ModuleView). length ms) joined ∙ length-append modules (view ∷ []) in omega (arith, long, few);
      defaults = subst (λ (ms : List ModuleView). KeepsDefaults options (default_names options ms) defaults) (sym joined) names;
    }

-- ---- a default library is read

pub reads_next : (options : LinkOptions) (loading later : Loading) (total after_total : ℕ) (folders : List (List ℕ)) (name : List ℕ) (before after : FilesView) (found : FoundFile) → KeepsLoading options loading → wants_library options (state_now loading total) ≡ true → folders ≡ options.lib_paths → name ≡ next_default options (state_now loading total) → GivesNamed folders name total after_total before after found → later.search.searched ≡ with_library loading.search.searched found → later.defaults ≡ loading.defaults → later.read ≡ loading.read + 1 → KeepsSearch later.search → no_library found ≡ None → ReadsNext options (state_now loading total) after_total before after later
reads_next options loading later total after_total folders name before after found keeps wants folders_are named gives search defaults read together well = record {
  files = gives.files;
  kept = keeps_library options loading later found search defaults together keeps;
  link_kept = ap (λ (s : Searched). s.link) search;
  one_more = read;
  told = λ store is.
      default_goes store options (state_now loading total) name found wants named
      (ap (λ (fs : List (List ℕ)). input_file store fs name) (sym folders_are) ∙ gives.told store is)
      (ap (λ (fs : List (List ℕ)). read_fault name total (input_file store fs name)) (sym folders_are) ∙ gives.no_fault store is)
      well
      ∙ ap Goes
      (ap (λ (s : Searched). state_of s (total + length found.bytes) (loading.read + 1)) (sym search)
      ∙ ap (λ (t : ℕ). state_of later.search.searched t (loading.read + 1)) (sym gives.total_is)
      ∙ ap (state_of later.search.searched after_total) (sym read));
}

pub bad_next : (options : LinkOptions) (loading : Loading) (total after_total : ℕ) (folders : List (List ℕ)) (name : List ℕ) (before after : FilesView) (found : FoundFile) (refused : Refusal) → wants_library options (state_now loading total) ≡ true → folders ≡ options.lib_paths → name ≡ next_default options (state_now loading total) → GivesNamed folders name total after_total before after found → RefusesFor (no_library found) refused → ReadsDefault options (state_now loading total) after_total before after (Err (stop_of refused))
bad_next options loading total after_total folders name before after found (refusal.Fault fault) wants folders_are named gives bad = record {
  files = gives.files;
  told = λ store is.
      default_bad store options (state_now loading total) name found fault wants named
      (ap (λ (fs : List (List ℕ)). input_file store fs name) (sym folders_are) ∙ gives.told store is)
      (ap (λ (fs : List (List ℕ)). read_fault name total (input_file store fs name)) (sym folders_are) ∙ gives.no_fault store is)
      bad;
}
bad_next options loading total after_total folders name before after found refusal.Memory wants folders_are named gives bad = record {
  store = gives.files.store;
  writes = gives.files.writes;
}

pub stops_next : (options : LinkOptions) (loading : Loading) (total after_total : ℕ) (folders : List (List ℕ)) (name : List ℕ) (before after : FilesView) (stop : Stop) → wants_library options (state_now loading total) ≡ true → folders ≡ options.lib_paths → name ≡ next_default options (state_now loading total) → ReadsNamed folders name total after_total before after (Err stop) → ReadsDefault options (state_now loading total) after_total before after (Err stop)
stops_next options loading total after_total folders name before after (stop.Fault fault) wants folders_are named faults = record {
  files = faults.files;
  told = λ store is.
      default_unread store options (state_now loading total) name fault wants named
      (ap (λ (fs : List (List ℕ)). read_fault name total (input_file store fs name)) (sym folders_are) ∙ faults.told store is);
}
stops_next options loading total after_total folders name before after (stop.Read failed) wants folders_are named fails = record {
  files = fails.files;
  told = λ store is.
      subst (λ (n : List ℕ). Tries store (tried_names options.lib_paths n) failed) named
      (subst (λ (fs : List (List ℕ)). Tries store (tried_names fs name) failed) folders_are (fails.told store is));
}
stops_next options loading total after_total folders name before after stop.Memory wants folders_are named leaves = leaves

-- ---- a state that is reached

pub reaches_next : (store : Store) (options : LinkOptions) (state later : SearchState) → Reaches store options state → next_step store options state ≡ Goes later → Reaches store options later
unfolding state_after
reaches_next store options state later reached next = record {
  read = reached.read;
  opened = reached.opened;
  steps = suc reached.steps;
  is =
      ap (state_after_one store options) reached.is
      ∙ ap state_in next;
}

pub faults_there : (store : Store) (options : LinkOptions) (state : SearchState) (fault : Fault) → Reaches store options state → next_step store options state ≡ Faults fault → HasLoadingFault store options fault
faults_there store options state fault reached next = AtStep state (record { reached = reached; next = next })
