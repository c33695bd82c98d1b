-- A loading that has gone on from a state, and how it goes on from there or ends.
use Rattle.std.proofs.Common.{◌≡◌, ℕ, ◌+◌, ◌-◌, ◌*◌, ◌^◌, ◌<◌, Bool, true, false, cond, nat_lt, List, length, Option, Some, None, Err, refl, sym, ap, ◌∙◌, lt-ltb, arith}
use Rattle.std.specs.Option.{ForSome}
use Rattle.link_base.specs.Limits.{MODULE_LIMIT}
use Rattle.link_base.specs.declared.fault.Fault.{Fault}
use Rattle.link_base.specs.declared.stop.Refusal.{Refusal}
use Rattle.link_base.specs.declared.stop.Refusal.TheVariants as refusal
use Rattle.link_base.specs.declared.stop.Stop.{Stop}
use Rattle.link_base.specs.declared.stop.Stop.TheVariants as stop
use Rattle.link_base.specs.Refusals.{RefusesFor, stop_of}
use Rattle.link_files.specs.Store.{Store}
use Rattle.link_files.specs.Outside.{FilesView, AreUntouched}
use Rattle.link_words.specs.Outcome.{LinkOptions}
use Rattle.symbol_names.specs.LinkView.{LinkView}
use Rattle.file_search.specs.DefaultLibraries.{default_libraries}
use Rattle.file_search.specs.DefaultSteps.{wanted_by}
use Rattle.res_merge.specs.declared.resource.Resource.{Resource}
use Rattle.lib_search.specs.declared.link_list.LinkList.{LinkList}
use Rattle.lib_search.specs.declared.loading.Loading.{Loading}
use Rattle.lib_search.specs.SearchSteps.{MemberPlace, Searched, SearchState, Goes, goes_unless, with_member, join_fault, join_step, next_member, next_step, wants_library}
use Rattle.lib_search.specs.Loading.{Reaches}
use Rattle.lib_search.specs.LinkOf.{link_of}
use Rattle.lib_search.specs.LoadingSteps.{state_now, modules_now, KeepsLoading, ReadsNext, ReadsDefault, GivesFrom, CompletesFrom}
use Rattle.lib_search.proofs.LoadingLemmas.{untouched_further, failed_further, left_further, state_of, wants_member, reaches_next, faults_there}

pub record GoneOn (options : LinkOptions) (state : SearchState) (before after : FilesView) (loading : Loading) (total : ℕ) : Type 0 where
  pub files : AreUntouched before after
  pub kept : KeepsLoading options loading
  pub told : ForSome before.store (λ store. Reaches store options state → Reaches store options (state_now loading total))

-- ---- default libraries

-- one was read
pub gone_read : (options : LinkOptions) (state : SearchState) (before after later : FilesView) (loading more : Loading) (total after_total : ℕ) → GoneOn options state before after loading total → ReadsNext options (state_now loading total) after_total after later more → GoneOn options state before later more after_total
gone_read options state before after later loading more total after_total gone reads = record {
  files = untouched_further before after later gone.files reads.files;
  kept = reads.kept;
  told = λ store is reached.
      reaches_next store options (state_now loading total) (state_now more after_total) (gone.told store is reached) (reads.told store (gone.files.store ∙ is));
}

-- one stops it
pub gone_stops : (options : LinkOptions) (state : SearchState) (before after later : FilesView) (loading : Loading) (total after_total : ℕ) (resources : List Resource) (stop : Stop) → GoneOn options state before after loading total → wants_library options (state_now loading total) ≡ true → ReadsDefault options (state_now loading total) after_total after later (Err stop) → CompletesFrom options state resources before later (Err stop)
gone_stops options state before after later loading total after_total resources (stop.Fault fault) gone wants faults = record {
  files = untouched_further before after later gone.files faults.files;
  told = λ store is reached.
      faults_there store options (state_now loading total) fault (gone.told store is reached) (faults.told store (gone.files.store ∙ is));
}
gone_stops options state before after later loading total after_total resources (stop.Read failed) gone wants fails = record {
  files = failed_further before after later gone.files fails.files;
  told = λ store is reached. record {
    state = state_now loading total;
    reached = gone.told store is reached;
    wants = wants;
    tries = fails.told store (gone.files.store ∙ is);
  };
}
gone_stops options state before after later loading total after_total resources stop.Memory gone wants leaves = left_further before after later gone.files leaves

-- ---- what is left to do

-- a number below 2 ^ 64, or else 0
abbrev pub capped : ℕ → ℕ
capped n = cond (nat_lt n (2 ^ 64)) n 0

capped_is : (n : ℕ) → n < 2 ^ 64 → capped n ≡ n
capped_is n lt = ap (λ (b : Bool). cond b n 0) (lt-ltb n (2 ^ 64) lt)

-- as many modules as may still join, and then the default libraries that are still to be read
abbrev pub left_to_do : Loading → ℕ
left_to_do loading = (MODULE_LIMIT + 1 - length (modules_now loading)) * 2 ^ 64 + capped (length (wanted_by loading.defaults) - loading.read)

pub less_to_read : (options : LinkOptions) (loading more : Loading) (total after_total : ℕ) (before after : FilesView) → KeepsLoading options loading → loading.read < length (wanted_by loading.defaults) → length (wanted_by loading.defaults) < 2 ^ 64 → ReadsNext options (state_now loading total) after_total before after more → left_to_do more < left_to_do loading
less_to_read options loading more total after_total before after keeps lt few reads =
    let same : length (wanted_by more.defaults) ≡ length (wanted_by loading.defaults) =
    ap (λ (names : List (List ℕ)). length names) reads.kept.defaults.wanted
    ∙ ap (λ link. length (default_libraries options link.modules)) reads.link_kept
    ∙ sym (ap (λ (names : List (List ℕ)). length names) keeps.defaults.wanted) in
    let modules = ap (λ (link : LinkView). length link.modules) reads.link_kept in
    let now = capped_is (length (wanted_by loading.defaults) - loading.read) (omega (arith, few)) in
    let later = capped_is (length (wanted_by more.defaults) - more.read) (omega (arith, same, few)) in
    omega (arith, same, modules, now, later, reads.one_more, lt)

-- ---- the search

member_step : (options : LinkOptions) (store : Store) (loading : Loading) (total : ℕ) (next : Option MemberPlace) → wants_library options (state_now loading total) ≡ false → next_member loading.search.searched ≡ next → next_step store options (state_now loading total) ≡ join_step (state_now loading total) next
member_step options store loading total next none is =
    wants_member store options (state_now loading total) none ∙ ap (join_step (state_now loading total)) is

-- a member joins
pub gone_joins : (options : LinkOptions) (state : SearchState) (before after : FilesView) (loading more : Loading) (total : ℕ) (place : MemberPlace) → GoneOn options state before after loading total → wants_library options (state_now loading total) ≡ false → next_member loading.search.searched ≡ Some place → join_fault loading.search.searched place ≡ None → more.search.searched ≡ with_member loading.search.searched place → more.read ≡ loading.read → KeepsLoading options more → GoneOn options state before after more total
gone_joins options state before after loading more total place gone none is well search read keeps = record {
  files = gone.files;
  kept = keeps;
  told = λ store told reached.
      reaches_next store options (state_now loading total) (state_now more total) (gone.told store told reached)
      (member_step options store loading total (Some place) none is
      ∙ ap (λ (o : Option Fault). goes_unless o (state_of (with_member loading.search.searched place) total loading.read)) well
      ∙ ap Goes
      (ap (λ (s : Searched). state_of s total loading.read) (sym search)
      ∙ ap (state_of more.search.searched total) (sym read)));
}

-- a member does not open
pub gone_refused : (options : LinkOptions) (state : SearchState) (before after : FilesView) (loading : Loading) (search : Searched) (total : ℕ) (place : MemberPlace) (resources : List Resource) (refused : Refusal) → GoneOn options state before after loading total → wants_library options (state_now loading total) ≡ false → next_member loading.search.searched ≡ Some place → search ≡ loading.search.searched → RefusesFor (join_fault search place) refused → CompletesFrom options state resources before after (Err (stop_of refused))
gone_refused options state before after loading search total place resources (refusal.Fault fault) gone none is same bad = record {
  files = gone.files;
  told = λ store told reached.
      faults_there store options (state_now loading total) fault (gone.told store told reached)
      (member_step options store loading total (Some place) none is
      ∙ ap (λ (o : Option Fault). goes_unless o (state_of (with_member loading.search.searched place) total loading.read))
      (ap (λ (s : Searched). join_fault s place) (sym same) ∙ bad));
}
gone_refused options state before after loading search total place resources refusal.Memory gone none is same bad = record {
  store = gone.files.store;
  writes = gone.files.writes;
}

-- nothing is left to join
pub gone_ends : (options : LinkOptions) (state : SearchState) (before after : FilesView) (loading : Loading) (total : ℕ) (resources : List Resource) (list : LinkList) → GoneOn options state before after loading total → wants_library options (state_now loading total) ≡ false → next_member loading.search.searched ≡ None → list.modules.items ≡ modules_now loading → list.table ≡ loading.search.searched.link → list.resources.items ≡ resources → GivesFrom options state resources before after list
gone_ends options state before after loading total resources list gone none is modules_are table_is resources_are = record {
  files = gone.files;
  few = let long = ap (λ ms. length ms) modules_are in omega (arith, long, gone.kept.few);
  names_are = table_is ∙ gone.kept.link_is ∙ ap (link_of options) (sym modules_are);
  resources_are = resources_are;
  told = λ store told reached. record {
    state = state_now loading total;
    ends = record {
      reached = gone.told store told reached;
      next = member_step options store loading total None none is;
    };
    modules_are = modules_are;
    entries_are = refl;
  };
}
