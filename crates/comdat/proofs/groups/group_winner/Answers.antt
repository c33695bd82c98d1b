use Rattle.std.proofs.Common.{◌≡◌, ◌<◌, Some, List, length, get_or, sym, ap, ◌∙◌, arith, rules}
use Rattle.std.specs.Prelude.{option_map}
use Rattle.std.proofs.lemmas.List.{get_or_read, length-map}
use Rattle.symbol_names.proofs.NumberLemmas.{number_within, one_name}
use Rattle.comdat.specs.declared.candidate.Candidate.{Candidate}
use Rattle.comdat.specs.declared.error.ChooseError.TheVariants as error
use Rattle.comdat.specs.Choice.{no_candidate, chosen_place, conflict_place}
use Rattle.comdat.specs.Entries.{no_entry, named_by}
use Rattle.comdat.specs.Groups.{Named, name_at, module_in}
use Rattle.comdat.specs.Numbering.{candidate_at, candidates_at}
use Rattle.comdat.specs.Plain.{plain}
use Rattle.comdat.proofs.ChoiceLemmas.{any_chosen, any_agree, second_within}
use Rattle.comdat.proofs.EntryLemmas.{named_at, any_at}
use Rattle.comdat.proofs.GroupLemmas.{chosen_at}
use Rattle.comdat.proofs.PlainLemmas.{chosen_plain, conflict_plain, module_plain}
use Rattle.comdat.proofs.groups.group_winner.Goals as goal

pub returns-then-are_all_any-clause-chosen : goal.returns-then-are_all_any-clause-chosen
returns-then-are_all_any-clause-chosen c =
    let entries = c.args.entries.now in
    let places = c.args.places.now in
    let any = sym (any_at c.args.modules.now entries places (λ k d lt. (c.requires.kept k d lt).section) c.requires.places) ∙ sym c.are_all_any.ensures ∙ c.if-are_all_any.true in
    let named = named_by c.args.modules.now entries in
    (chosen_at named places 0 c.requires.some (any_chosen (candidates_at named places) any)).1

pub returns-then-are_all_any-clause-accepted : goal.returns-then-are_all_any-clause-accepted
returns-then-are_all_any-clause-accepted c =
    let entries = c.args.entries.now in
    let places = c.args.places.now in
    let any = sym (any_at c.args.modules.now entries places (λ k d lt. (c.requires.kept k d lt).section) c.requires.places) ∙ sym c.are_all_any.ensures ∙ c.if-are_all_any.true in
    any_agree (candidates_at (named_by c.args.modules.now entries) places) any

pub offset_bounds-places-place : goal.offset_bounds-places-place
offset_bounds-places-place c =
    let group = c.gather.new.group.items in
    let chosen = ap chosen_place (sym c.in_ok-gather.ensures) ∙ chosen_plain group ∙ ap chosen_place (sym c.deref.ensures.value) ∙ c.in-Ok.ensures.chosen in
    let within : c.in-Ok.place < length c.args.places.now = (chosen_at (named_by c.args.modules.now c.args.entries.now) c.args.places.now c.in-Ok.place c.requires.some chosen).0 in
    search rules

pub bounds-places-place : goal.bounds-places-place
bounds-places-place c =
    let group = c.gather.new.group.items in
    let chosen = ap chosen_place (sym c.in_ok-gather.ensures) ∙ chosen_plain group ∙ ap chosen_place (sym c.deref.ensures.value) ∙ c.in-Ok.ensures.chosen in
    (chosen_at (named_by c.args.modules.now c.args.entries.now) c.args.places.now c.in-Ok.place c.requires.some chosen).0

pub name_at-requires : goal.name_at-requires
name_at-requires c =
    let first = get_or c.args.places.now 0 0 in
    let lt : first < length c.args.entries.now = c.requires.places 0 0 c.requires.some in
    number_within c.args.names.now.keys (get_or c.args.entries.now first no_entry).number _ (c.requires.kept first no_entry lt).number

pub index-requires-in-Err : goal.index-requires-in-Err
index-requires-in-Err c =
    omega (arith, second_within c.deref.result.now c.in-Err.conflict.second c.in-Err.ensures.conflict, c.deref.ensures.len)

pub returns-in-Ok-clause-chosen : goal.returns-in-Ok-clause-chosen
returns-in-Ok-clause-chosen c =
    let group = c.gather.new.group.items in
    let chosen = ap chosen_place (sym c.in_ok-gather.ensures) ∙ chosen_plain group ∙ ap chosen_place (sym c.deref.ensures.value) ∙ c.in-Ok.ensures.chosen in
    (chosen_at (named_by c.args.modules.now c.args.entries.now) c.args.places.now c.in-Ok.place c.requires.some chosen).1

pub returns-in-Ok-clause-accepted : goal.returns-in-Ok-clause-accepted
returns-in-Ok-clause-accepted c =
    ap conflict_place (sym c.in_ok-gather.ensures) ∙ conflict_plain c.gather.new.group.items ∙ ap conflict_place (sym c.deref.ensures.value) ∙ c.in-Ok.ensures.accepted

pub returns-in-Err-clause-refused : goal.returns-in-Err-clause-refused
returns-in-Err-clause-refused c =
    let entries = c.args.entries.now in
    let places = c.args.places.now in
    let named = named_by c.args.modules.now entries in
    let list = candidates_at named places in
    let group = c.gather.new.group.items in
    let second = c.in-Err.conflict.second in
    let first = get_or places 0 0 in
    let lt : first < length entries = c.requires.places 0 0 c.requires.some in
    let conflict : conflict_place group ≡ Some second = ap conflict_place (sym c.deref.ensures.value) ∙ c.in-Err.ensures.conflict in
    let told : conflict_place list ≡ Some second = ap conflict_place (sym c.in_ok-gather.ensures) ∙ conflict_plain group ∙ conflict in
    let name : name_at named first ≡ c.name_at.result =
    ap (λ (entry : Named). entry.name) (named_at c.args.modules.now entries first lt)
    ∙ one_name c.args.names.now.keys (get_or entries first no_entry).number _ c.name_at.result (c.requires.kept first no_entry lt).number c.name_at.ensures in
    let some : 0 < length group =
    omega (arith, c.requires.some, ap length c.in_ok-gather.ensures, length-map group plain, length-map places (candidate_at named)) in
    let one : module_in list 0 ≡ c.index.result.now.«module» =
    ap (λ (cs : List Candidate). module_in cs 0) (sym c.in_ok-gather.ensures) ∙ module_plain group 0
    ∙ ap (λ (e : Candidate). e.«module») (sym (get_or_read group 0 c.index.result.now some c.index.ensures no_candidate)) in
    let other : module_in list second ≡ c.index-in-Err.result.now.«module» =
    ap (λ (cs : List Candidate). module_in cs second) (sym c.in_ok-gather.ensures) ∙ module_plain group second
    ∙ ap (λ (e : Candidate). e.«module») (sym (get_or_read group second c.index-in-Err.result.now (second_within group second conflict) c.index-in-Err.ensures no_candidate)) in
    ap (option_map (λ place. error.Conflict (name_at named first) (module_in list 0) (module_in list place))) told
    ∙ (λ i. Some (error.Conflict (name i) (one i) (other i)))
