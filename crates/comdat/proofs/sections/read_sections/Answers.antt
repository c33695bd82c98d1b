use Rattle.std.proofs.Common.{◌≡◌, ◌<◌, ◌++◌, List, length, refl, sym, ap, subst, ◌∙◌, arith}
use Rattle.std.specs.List.{range_with_len, flat_map}
use Rattle.std.proofs.lemmas.List.{get_or_default}
use Rattle.link_base.proofs.RangeLemmas.{joined_grows}
use Rattle.module_view.specs.Module.{ModuleView, no_module, module_at}
use Rattle.module_view.specs.ImportModule.{module_definitions}
use Rattle.symbol_names.specs.Interning.{NotesDefinition}
use Rattle.symbol_names.proofs.NumberLemmas.{zip_length}
use Rattle.comdat.specs.Entries.{KeepsEntries}
use Rattle.comdat.specs.Groups.{Named}
use Rattle.comdat.specs.Selection.{entries_of}
use Rattle.comdat.proofs.NotedLemmas.{notes_at}
use Rattle.comdat.proofs.sections.read_sections.Goals as goal

pub read_module-requires : goal.read_module-requires
read_module-requires c =
    let names = c.args.names.now.keys in
    let notes = notes_at names c.args.modules.now c.args.noted.now c.loop-position.position c.index-modules-position.result c.index-noted-position.result c.deref.result.now c.requires.modules c.requires.noted (omega arith) c.index-modules-position.is c.deref.ensures.value in
    sym (zip_length (NotesDefinition names) (module_definitions c.index-modules-position.result) c.deref.result.now notes)

pub loop-position-preserved : goal.loop-position-preserved
loop-position-preserved c =
    let modules = c.args.modules.now in
    let names = c.args.names.now.keys in
    let k = c.loop-position.position in
    let m = c.index-modules-position.result in
    let lt : k < length modules = omega arith in
    let read : m ≡ module_at modules k = c.index-modules-position.is ∙ get_or_default modules k m no_module lt in
    let notes = notes_at names modules c.args.noted.now k m c.index-noted-position.result c.deref.result.now c.requires.modules c.requires.noted lt c.index-modules-position.is c.deref.ensures.value in
    let before = flat_map (λ n. entries_of n (module_at modules n).bytes) (range_with_len 0 k) in
    subst (λ (all : List Named). KeepsEntries names modules all c.read_module.new.entries.items)
    (joined_grows (λ n. entries_of n (module_at modules n).bytes) 0 k k before (before ++ entries_of k m.bytes) (entries_of k m.bytes) (omega arith) refl refl (ap (λ (view : ModuleView). entries_of k view.bytes) read))
    (c.in_ok-read_module.ensures names modules before lt (sym read) notes c.loop-position.invariant)
