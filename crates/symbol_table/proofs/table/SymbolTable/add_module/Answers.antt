use Rattle.std.proofs.Common.{◌≡◌, [], ℕ, List, length, refl, sym, ap, ◌∙◌, subst, arith}
use Rattle.std.specs.List.{AllZip}
use Rattle.std.specs.Option.{IfSome}
use Rattle.module_view.specs.SymbolLists.{definitions_of}
use Rattle.std.proofs.lemmas.List.{length-map}
use Rattle.module_view.specs.Opening.{opening_error}
use Rattle.symbol_names.specs.declared.noted.ModuleNames.{ModuleNames}
use Rattle.symbol_names.specs.LinkView.{LinkView}
use Rattle.symbol_names.specs.References.{asked_by}
use Rattle.symbol_names.specs.Interning.{NotesAsked}
use Rattle.symbol_table.specs.AskedParts.{AreWithin}
use Rattle.symbol_table.specs.TableParts.{KeepsTable}
use Rattle.symbol_names.specs.Kept.{noted_view}
use Rattle.symbol_table.proofs.TableLemmas.{table_grows, table_same, table_push, lists_within, notes_module}
use Rattle.symbol_table.proofs.table.SymbolTable.add_module.Goals as goal

pub invariant_of-self : goal.invariant_of-self
invariant_of-self c =
    table_grows _ _ _ _ _ c.note_lists-noted.ensures.kept c.len-count.ensures.unique c.self.invariant

pub invariant_of-self-in_err-reserve : goal.invariant_of-self-in_err-reserve
invariant_of-self-in_err-reserve c =
    let names = c.note_lists-noted.new.names.keys in
    subst (λ (ms : List ModuleNames). KeepsTable names c.self.inside.given ms c.self.inside.asked) (sym c.reserve.ensures.items)
    (table_grows _ _ _ _ _ c.note_lists-noted.ensures.kept c.len-count.ensures.unique c.self.invariant)

pub add_lists-requires : goal.add_lists-requires
add_lists-requires c =
    subst (λ (count : ℕ). AreWithin count c.in_ok-lists.lists) (sym c.len-count.ensures.len)
    (lists_within c.note_lists-noted.new.names.keys c.args.«module».now c.in_ok-lists.lists c.in_ok-lists.ensures.noted)

pub invariant_of-self-in_err-add_lists : goal.invariant_of-self-in_err-add_lists
invariant_of-self-in_err-add_lists c =
    let names = c.note_lists-noted.new.names.keys in
    subst (λ (ms : List ModuleNames). KeepsTable names c.self.inside.given ms c.add_lists.new.asked) (sym c.reserve.ensures.items)
    (table_same _ _ _ _ _ c.in_err-add_lists.ensures.unchanged (table_grows _ _ _ _ _ c.note_lists-noted.ensures.kept c.len-count.ensures.unique c.self.invariant))

pub invariant_of-self-in_err-push : goal.invariant_of-self-in_err-push
invariant_of-self-in_err-push c = absurd (omega (arith, c.in_err-push.ensures.full, c.in_ok-reserve.ensures.ok))

pub invariant_of-self-2 : goal.invariant_of-self-2
invariant_of-self-2 c =
    let names = c.note_lists-noted.new.names.keys in
    let given = c.self.inside.given in
    let kept = c.self.inside.modules.items in
    let lists = c.in_ok-lists.lists in
    let notes = c.in_ok-lists.ensures.noted in
    let grown = subst (λ (ms : List ModuleNames). KeepsTable names given ms c.self.inside.asked) (sym c.reserve.ensures.items) (table_grows _ _ _ _ _ c.note_lists-noted.ensures.kept c.len-count.ensures.unique c.self.invariant) in
    table_push names given c.reserve.new.self.items c.push.new.self.items _ lists c.self.inside.asked c.add_lists.new.asked grown
    (omega (arith, c.requires, ap (λ (v : LinkView). length v.modules) c.self.view_is, length-map kept noted_view, ap length c.reserve.ensures.items))
    (notes_module names _ c.args.«module».now c.bytes.ensures.bytes c.import_again.ensures.imported notes.definitions notes.commons notes.weaks notes.alternates notes.records)
    (ap opening_error c.bytes.ensures.bytes ∙ c.bytes.ensures.opened)
    (subst (λ (b : List ℕ). IfSome c.import_again.result (λ import. definitions_of b ≡ [])) (sym c.bytes.ensures.bytes) c.import_again.ensures.alone)
    (subst (λ (b : List ℕ). AllZip (NotesAsked names) (asked_by 0 b) lists.asked.items) (sym c.bytes.ensures.bytes) notes.asked)
    refl refl c.in_ok-add_lists.ensures.added c.in_ok-push.ensures.items
