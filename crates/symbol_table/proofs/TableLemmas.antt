-- One more module, and what the names of all mean.
use Rattle.std.proofs.Common.{◌≡◌, ℕ, ◌<◌, Bool, List, [], ◌∷◌, ◌++◌, ◌||◌, true, false, length, map, get_or, Option, refl, sym, ap, subst, ◌∙◌, append_assoc, arith}
use Rattle.std.specs.List.{All, AllZip, IsDistinct, list_any, flat_map}
use Rattle.std.proofs.lemmas.List.{append-nil, length-append, map-append, get_or_default}
use Rattle.std.proofs.lemmas.List.Folds.{list_any-append}
use Rattle.std.proofs.lemmas.Grind.{flat_map-append}
use Rattle.std.proofs.lemmas.List.Elements.{All-nil, All-push, All-weaker}
use Rattle.std.proofs.lemmas.Option.{slice_get-get_or}
use Rattle.link_base.specs.Limits.{MODULE_LIMIT}
use Rattle.link_base.specs.NameText.{same_name}
use Rattle.module_view.specs.Opening.{IsOpened}
use Rattle.short_import.specs.declared.import.Import.{Import}
use Rattle.module_view.specs.Module.{ModuleView}
use Rattle.module_view.specs.ImportModule.{definitions_with, module_definitions}
use Rattle.module_view.specs.SymbolLists.{commons_of, weaks_of}
use Rattle.symbol_table.specs.declared.link.Link.{Link}
use Rattle.symbol_table.specs.declared.link.Link.TheVariants as link
use Rattle.symbol_names.specs.declared.noted.ModuleNames.{ModuleNames}
use Rattle.symbol_table.specs.Resolution.{Step, Ends, Leads, step}
use Rattle.symbol_names.specs.Interning.{Numbers, KeepsNumbers, NotesDefinition, NotesCommon, NotesAlternate, NotesWeak, NotesAsked, NotesLists, NotesModule, AreRecords}
use Rattle.symbol_names.specs.References.{Asked, asked_by_name, asked_by, all_asked}
use Rattle.symbol_names.specs.Flags.{names_definition, names_common, seeks, flag_of}
use Rattle.symbol_table.specs.AskedParts.{kept_definitions, kept_commons, KeepsParts, AddsLists, AreWithin}
use Rattle.symbol_table.specs.declared.lives.FirstLive.{FirstLive}
use Rattle.symbol_table.specs.declared.greatest.GreatestCommon.{GreatestCommon}
use Rattle.symbol_table.specs.declared.first_weak.FirstWeak.{FirstWeak}
use Rattle.symbol_names.specs.declared.noted.NotedAlternate.{NotedAlternate}
use Rattle.symbol_names.specs.declared.noted.NotedCommon.{NotedCommon}
use Rattle.symbol_names.specs.declared.noted.NotedDefinition.{NotedDefinition}
use Rattle.symbol_names.specs.declared.noted.NotedLists.{NotedLists}
use Rattle.symbol_table.specs.declared.asked.AskedNames.{AskedNames}
use Rattle.symbol_names.specs.declared.given.GivenNames.{GivenNames}
use Rattle.symbol_names.specs.LinkView.{LinkView}
use Rattle.symbol_names.specs.Alternates.{alternates_by, all_alternates}
use Rattle.symbol_names.specs.Lists.{of_all, live_definitions, all_commons, all_weaks}
use Rattle.symbol_names.specs.Kept.{noted_view}
use Rattle.symbol_table.specs.Passes.{AreFirst, TellsGreatest, TellsWeaks, TellsAlternates}
use Rattle.symbol_table.specs.Links.{IsStep, no_link, link_at, LeadsBelow, AreSteps}
use Rattle.symbol_table.specs.TableParts.{link_view, IsOfOneKind, IsNumbered, KeepsLink, KeepsTable}
use Rattle.symbol_names.proofs.NumberLemmas.{number_within, definition_kept, common_kept, weak_kept, alternate_kept, asked_kept, records_kept, asked_within, zip_map, zip_append, zip_right}
use Rattle.symbol_table.proofs.PassLemmas.{of_all_push}
use Rattle.symbol_table.proofs.AbsentLemmas.{zip_left}

-- ---- a table whose names grow

noted_grows : (before after : List (List ℕ)) (noted : ModuleNames) → KeepsNumbers before after → NotesModule before noted → NotesModule after noted
noted_grows before after noted kept is = record {
  definitions = zip_map (NotesDefinition before) (NotesDefinition after) (module_definitions (noted_view noted)) noted.definitions.items (definition_kept before after kept) is.definitions;
  commons = zip_map (NotesCommon before) (NotesCommon after) (commons_of noted.bytes.now) noted.commons.items (common_kept before after kept) is.commons;
  weaks = zip_map (NotesWeak before noted.bytes.now) (NotesWeak after noted.bytes.now) (weaks_of noted.bytes.now) noted.weaks.items (weak_kept before after kept noted.bytes.now) is.weaks;
  alternates = zip_map (NotesAlternate before) (NotesAlternate after) (alternates_by 0 noted.bytes.now) noted.alternates.items (alternate_kept before after kept) is.alternates;
  records = records_kept before after kept noted.bytes.now noted.records.items is.records;
}

pub keeps_grow : (before after : List (List ℕ)) (given : GivenNames) (kept : List ModuleNames) → KeepsNumbers before after → KeepsLink before given kept → KeepsLink after given kept
keeps_grow before after given kept grown is = record {
  alternates = zip_map (NotesAlternate before) (NotesAlternate after) given.pairs.items given.noted.items (alternate_kept before after grown) is.alternates;
  modules = record {
    noted = All-weaker (NotesModule before) (NotesModule after) (λ m noted. noted_grows before after m grown noted) kept is.modules.noted;
    opened = is.modules.opened;
    alone = is.modules.alone;
    few = is.modules.few;
  };
}

pub keeps_push : (names : List (List ℕ)) (given : GivenNames) (kept now : List ModuleNames) (noted : ModuleNames) → KeepsLink names given kept → length kept < MODULE_LIMIT → NotesModule names noted → IsOpened (noted_view noted) → IsOfOneKind (noted_view noted) → now ≡ kept ++ noted ∷ [] → KeepsLink names given now
keeps_push names given kept now noted is room there opened alone same =
    subst (KeepsLink names given) (sym same) (record {
      alternates = is.alternates;
      modules = record {
        noted = All-push (NotesModule names) kept noted is.modules.noted there;
        opened = subst (All IsOpened) (sym (map-append noted_view kept (noted ∷ []))) (All-push IsOpened (map noted_view kept) (noted_view noted) is.modules.opened opened);
        alone = subst (All IsOfOneKind) (sym (map-append noted_view kept (noted ∷ []))) (All-push IsOfOneKind (map noted_view kept) (noted_view noted) is.modules.alone alone);
        few = omega (arith, length-append kept (noted ∷ []));
      };
    })

-- ---- with what is asked for

pub table_grows : (before after : List (List ℕ)) (given : GivenNames) (kept : List ModuleNames) (asked : AskedNames) → KeepsNumbers before after → IsDistinct same_name after → KeepsTable before given kept asked → KeepsTable after given kept asked
table_grows before after given kept asked grown distinct is = record {
  distinct = distinct;
  whole = keeps_grow before after given kept grown is.whole;
  asked_for = record {
    list = zip_map (NotesAsked before) (NotesAsked after) (all_asked (link_view given kept)) asked.list.items (asked_kept before after grown) is.asked_for.list;
    provided = is.asked_for.provided;
    sought = is.asked_for.sought;
  };
}

pub table_same : (names : List (List ℕ)) (given : GivenNames) (kept : List ModuleNames) (asked now : AskedNames) → KeepsParts asked now → KeepsTable names given kept asked → KeepsTable names given kept now
table_same names given kept asked now same is = record {
  distinct = is.distinct;
  whole = is.whole;
  asked_for = record {
    list = subst (AllZip (NotesAsked names) (all_asked (link_view given kept))) (sym same.list) is.asked_for.list;
    provided = λ number. same.provided number ∙ is.asked_for.provided number;
    sought = λ number. same.sought number ∙ is.asked_for.sought number ∙ ap (list_any (seeks number)) (sym same.list);
  };
}

-- a table of no modules
pub table_begins : (before names : List (List ℕ)) (given : GivenNames) (kept : List ModuleNames) (asked : AskedNames) (words : List (List ℕ)) → KeepsNumbers before names → IsDistinct same_name names → kept ≡ [] → given.words.items ≡ words → AllZip (NotesAlternate before) given.pairs.items given.noted.items → AllZip (NotesAsked names) (map asked_by_name words) asked.list.items → asked.provided.items ≡ [] → ((number : ℕ) → flag_of asked.sought.items number ≡ list_any (seeks number) asked.list.items) → KeepsTable names given kept asked
table_begins before names given kept asked words grown distinct none same alternates list provided sought =
    subst (λ (ms : List ModuleNames). KeepsTable names given ms asked) (sym none) (record {
      distinct = distinct;
      whole = record {
        alternates = zip_map (NotesAlternate before) (NotesAlternate names) given.pairs.items given.noted.items (alternate_kept before names grown) alternates;
        modules = record { noted = All-nil (NotesModule names); opened = All-nil IsOpened; alone = All-nil IsOfOneKind; few = omega arith };
      };
      asked_for = record {
        list = subst (λ (asked_for : List Asked). AllZip (NotesAsked names) asked_for asked.list.items)
            (ap (λ (ws : List (List ℕ)). map asked_by_name ws) (sym same) ∙ sym (append-nil (map asked_by_name given.words.items))) list;
        provided = λ number. ap (λ (flags : List Bool). flag_of flags number) provided;
        sought = sought;
      };
    })

any_pushed : {B : Type 0} (pick : ModuleNames → List B) (test : B → Bool) (kept : List ModuleNames) (m : ModuleNames) → list_any test (flat_map pick (kept ++ m ∷ [])) ≡ (list_any test (flat_map pick kept) || list_any test (pick m))
any_pushed {B} pick test kept m =
    ap (list_any test) (flat_map-append pick kept (m ∷ []) ∙ ap (λ (ys : List B). flat_map pick kept ++ ys) (append-nil (pick m)))
    ∙ list_any-append test (flat_map pick kept) (pick m)

by_pairs : (a b c d : Bool) → (((a || b) || c) || d) ≡ ((a || c) || (b || d))
by_pairs true b c d = refl
by_pairs false true true d = refl
by_pairs false true false d = refl
by_pairs false false c d = refl

-- what a module provides and asks for is added
pub table_push : (names : List (List ℕ)) (given : GivenNames) (kept now : List ModuleNames) (noted : ModuleNames) (lists : NotedLists) (asked after : AskedNames) → KeepsTable names given kept asked → length kept < MODULE_LIMIT → NotesModule names noted → IsOpened (noted_view noted) → IsOfOneKind (noted_view noted) → AllZip (NotesAsked names) (asked_by 0 noted.bytes.now) lists.asked.items → noted.definitions.items ≡ lists.definitions.items → noted.commons.items ≡ lists.commons.items → AddsLists lists asked after → now ≡ kept ++ noted ∷ [] → KeepsTable names given now after
table_push names given kept now noted lists asked after is room notes opened alone asks definitions commons added same =
    subst (λ (ms : List ModuleNames). KeepsTable names given ms after) (sym same) (record {
      distinct = is.distinct;
      whole = keeps_push names given kept (kept ++ noted ∷ []) noted is.whole room notes opened alone refl;
      asked_for = record {
        list =
            subst (AllZip (NotesAsked names) (all_asked (link_view given (kept ++ noted ∷ [])))) (sym added.list)
            (subst (λ (asked_for : List Asked). AllZip (NotesAsked names) asked_for (asked.list.items ++ lists.asked.items))
            (append_assoc words (of_all asked_by (map noted_view kept)) (asked_by 0 noted.bytes.now)
            ∙ ap (λ (later : List Asked). words ++ later) (sym (of_all_push asked_by kept noted)))
            (zip_append (NotesAsked names) (all_asked (link_view given kept)) (asked_by 0 noted.bytes.now) asked.list.items lists.asked.items is.asked_for.list asks));
        provided = λ number.
            let defined = list_any (names_definition number) in
            let shared = list_any (names_common number) in
            added.provided number
            ∙ ap (λ (b : Bool). (b || defined lists.definitions.items) || shared lists.commons.items) (is.asked_for.provided number)
            ∙ by_pairs (defined (flat_map kept_definitions kept)) (shared (flat_map kept_commons kept)) (defined lists.definitions.items) (shared lists.commons.items)
            ∙ ap (λ (ds : List NotedDefinition). (defined (flat_map kept_definitions kept) || defined ds) || (shared (flat_map kept_commons kept) || shared lists.commons.items)) (sym definitions)
            ∙ ap (λ (cs : List NotedCommon). (defined (flat_map kept_definitions kept) || defined noted.definitions.items) || (shared (flat_map kept_commons kept) || shared cs)) (sym commons)
            ∙ ap (λ (b : Bool). b || (shared (flat_map kept_commons kept) || shared noted.commons.items)) (sym (any_pushed kept_definitions (names_definition number) kept noted))
            ∙ ap (λ (b : Bool). defined (flat_map kept_definitions (kept ++ noted ∷ [])) || b) (sym (any_pushed kept_commons (names_common number) kept noted));
        sought = λ number.
            added.sought number
            ∙ ap (λ (b : Bool). b || list_any (seeks number) lists.asked.items) (is.asked_for.sought number)
            ∙ sym (list_any-append (seeks number) asked.list.items lists.asked.items)
            ∙ ap (list_any (seeks number)) (sym added.list);
      };
    })
  where
    words : List Asked
    words = map asked_by_name given.words.items

-- each name that was asked for has a number, also among more names
pub asked_numbered : (before after : List (List ℕ)) (given : GivenNames) (kept : List ModuleNames) (asked : AskedNames) → KeepsNumbers before after → KeepsTable before given kept asked → All (IsNumbered after) (all_asked (link_view given kept))
asked_numbered before after given kept asked grown is =
    zip_left (NotesAsked before) (IsNumbered after) (all_asked (link_view given kept)) asked.list.items is.asked_for.list (λ a n notes. (n.name, grown n.name a.name notes.named))

-- ---- the lists of a module

-- its numbers are those of names
pub lists_within : (names : List (List ℕ)) (view : ModuleView) (lists : NotedLists) → NotesLists names view lists → AreWithin (length names) lists
lists_within names view lists is = record {
  definitions = zip_right (NotesDefinition names) (λ noted. noted.name < length names) (module_definitions view) lists.definitions.items (λ d n notes. number_within names n.name d.name notes.named) is.definitions;
  commons = zip_right (NotesCommon names) (λ noted. noted.name < length names) (commons_of view.bytes) lists.commons.items (λ d n notes. number_within names n.name d.name notes.named) is.commons;
  asked = asked_within names (asked_by 0 view.bytes) lists.asked.items is.asked;
}

-- what is kept of it
pub notes_module : (names : List (List ℕ)) (noted : ModuleNames) (view : ModuleView) → noted.bytes.now ≡ view.bytes → noted.imported ≡ view.imported → AllZip (NotesDefinition names) (module_definitions view) noted.definitions.items → AllZip (NotesCommon names) (commons_of view.bytes) noted.commons.items → AllZip (NotesWeak names view.bytes) (weaks_of view.bytes) noted.weaks.items → AllZip (NotesAlternate names) (alternates_by 0 view.bytes) noted.alternates.items → AreRecords names view.bytes noted.records.items → NotesModule names noted
notes_module names noted view same imported definitions commons weaks alternates records = record {
  definitions = subst (λ (b : List ℕ). AllZip (NotesDefinition names) (definitions_with b noted.imported) noted.definitions.items) (sym same)
      (subst (λ (i : Option Import). AllZip (NotesDefinition names) (definitions_with view.bytes i) noted.definitions.items) (sym imported) definitions);
  commons = subst (λ (b : List ℕ). AllZip (NotesCommon names) (commons_of b) noted.commons.items) (sym same) commons;
  weaks = subst (λ (b : List ℕ). AllZip (NotesWeak names b) (weaks_of b) noted.weaks.items) (sym same) weaks;
  alternates = subst (λ (b : List ℕ). AllZip (NotesAlternate names) (alternates_by 0 b) noted.alternates.items) (sym same) alternates;
  records = subst (λ (b : List ℕ). AreRecords names b noted.records.items) (sym same) records;
}

-- ---- where names lead

-- each link that leads on leads to a name
pub steps_below : (view : LinkView) (chosen : List (List Bool)) (names : List (List ℕ)) (links : List Link) → AreSteps view chosen names links → All (LeadsBelow (length links)) links
steps_below view chosen names links steps = λ k d lt.
    let name = get_or names k [] in
    let numbered : Numbers names k name = slice_get-get_or names k [] (omega (arith, lt, steps.long)) in
    subst (LeadsBelow (length links)) (get_or_default links k no_link d lt)
    (below (step view chosen name) (link_at links k) (steps.each k name numbered))
  where
    below : (s : Step) (l : Link) → IsStep names s l → LeadsBelow (length links) l
    below (Ends end) (link.Ends other) is = tt
    below (Leads slot name) (link.Leads number slotted) is = omega (arith, number_within names number name is.1, steps.long)
    below (Ends end) (link.Leads number slotted) is = absurd is
    below (Leads slot name) (link.Ends other) is = absurd is

-- the steps of all names, by what the passes say of the modules
pub steps_hold : (names : List (List ℕ)) (given : GivenNames) (kept : List ModuleNames) (chosen : List (List Bool)) (firsts : List (Option FirstLive))
    (noted : List NotedAlternate) (commons commons' : List (Option GreatestCommon)) (weaks weaks' : List (Option FirstWeak)) (alternates alternates' : List (Option ℕ)) (links : List Link)
    → KeepsLink names given kept → noted ≡ given.noted.items → commons' ≡ commons → weaks' ≡ weaks → alternates' ≡ alternates
    → AreFirst names (live_definitions (map noted_view kept) chosen) firsts
    → TellsGreatest names (all_commons (map noted_view kept)) commons
    → TellsWeaks names (all_weaks (map noted_view kept)) weaks
    → ((pairs : List (List ℕ × List ℕ)) → AllZip (NotesAlternate names) pairs noted → TellsAlternates names (pairs ++ of_all alternates_by (map noted_view kept)) alternates)
    → ((view : LinkView) → AreFirst names (live_definitions view.modules chosen) firsts → TellsGreatest names (all_commons view.modules) commons' → TellsWeaks names (all_weaks view.modules) weaks'
    → TellsAlternates names (all_alternates view) alternates' → AreSteps view chosen names links)
    → AreSteps (link_view given kept) chosen names links
steps_hold names given kept chosen firsts noted commons commons' weaks weaks' alternates alternates' links is same c w a first greatest weak alternate each =
    let view = link_view given kept in
    let stand = alternate given.pairs.items (subst (AllZip (NotesAlternate names) given.pairs.items) (sym same) is.alternates) in
    each view first
    (subst (TellsGreatest names (all_commons view.modules)) (sym c) greatest)
    (subst (TellsWeaks names (all_weaks view.modules)) (sym w) weak)
    (subst (TellsAlternates names (all_alternates view)) (sym a) stand)
