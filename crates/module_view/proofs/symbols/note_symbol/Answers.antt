use Rattle.std.proofs.Common.{Bool, true, false, ◌∷◌, ◌++◌, [], sym, ap, ◌∙◌}
use Rattle.coff_records.specs.SymbolRecord.{name_in}
use Rattle.module_view.specs.SymbolLists.{is_reference, is_weak, is_common}
use Rattle.module_view.proofs.SymbolLemmas.{none_more, one_more, reference_by, definition_alone, undefined_no_weak, undefined_no_common, undefined_asks, common_no_weak}
use Rattle.module_view.proofs.symbols.note_symbol.Goals as goal

pub returns-in-Some-clause-references : goal.returns-in-Some-clause-references
returns-in-Some-clause-references c =
    none_more c.args.lists.now.references.items _ (is_reference c.args.symbol.now) (definition_alone c.args.symbol.now (sym c.in-Some.ensures.is)).reference

pub returns-in-Some-clause-weaks : goal.returns-in-Some-clause-weaks
returns-in-Some-clause-weaks c =
    none_more c.args.lists.now.weaks.items _ (is_weak c.args.symbol.now) (definition_alone c.args.symbol.now (sym c.in-Some.ensures.is)).weak

pub returns-in-Some-clause-commons : goal.returns-in-Some-clause-commons
returns-in-Some-clause-commons c =
    none_more c.args.lists.now.commons.items _ (is_common c.args.symbol.now) (definition_alone c.args.symbol.now (sym c.in-Some.ensures.is)).common

pub returns-then-is_undefined-clause-references :
    goal.returns-then-is_undefined-clause-references
returns-then-is_undefined-clause-references c =
    let symbol = c.args.symbol.now in
    let undefined = sym c.is_undefined.ensures ∙ c.if-is_undefined.true in
    let before = c.args.lists.now.references.items in
    one_more before c.push_undefined.new.references.items _ (is_reference symbol) (reference_by symbol true false undefined (undefined_no_weak symbol undefined))
    (c.in_ok-push_undefined.ensures ∙ ap (λ (search : Bool). before ++ record { name = name_in symbol; symbol = c.args.index; search = search } ∷ []) (sym (undefined_asks c.args.object.now c.args.index symbol undefined)))

pub returns-then-is_undefined-clause-weaks : goal.returns-then-is_undefined-clause-weaks
returns-then-is_undefined-clause-weaks c =
    none_more c.args.lists.now.weaks.items _ (is_weak c.args.symbol.now) (undefined_no_weak c.args.symbol.now (sym c.is_undefined.ensures ∙ c.if-is_undefined.true))

pub returns-then-is_undefined-clause-commons : goal.returns-then-is_undefined-clause-commons
returns-then-is_undefined-clause-commons c =
    none_more c.args.lists.now.commons.items _ (is_common c.args.symbol.now) (undefined_no_common c.args.symbol.now (sym c.is_undefined.ensures ∙ c.if-is_undefined.true))

pub returns-then-is_common-clause-references : goal.returns-then-is_common-clause-references
returns-then-is_common-clause-references c =
    let symbol = c.args.symbol.now in
    let weak = common_no_weak symbol (sym c.is_common.ensures ∙ c.if-is_common.true) in
    none_more c.args.lists.now.references.items _ (is_reference symbol) (reference_by symbol false false (sym c.is_undefined.ensures ∙ c.if-is_undefined.false) weak)

pub returns-then-is_common-clause-weaks : goal.returns-then-is_common-clause-weaks
returns-then-is_common-clause-weaks c =
    none_more c.args.lists.now.weaks.items _ (is_weak c.args.symbol.now) (common_no_weak c.args.symbol.now (sym c.is_common.ensures ∙ c.if-is_common.true))

pub returns-in_ok-push_weak-clause-references : goal.returns-in_ok-push_weak-clause-references
returns-in_ok-push_weak-clause-references c =
    let symbol = c.args.symbol.now in
    one_more c.args.lists.now.references.items c.push_weak.new.references.items _ (is_reference symbol) (reference_by symbol false true (sym c.is_undefined.ensures ∙ c.if-is_undefined.false) (sym c.is_weak.ensures ∙ c.if-is_weak.true)) c.in_ok-push_weak.ensures.references

pub returns-else-is_weak-clause-references : goal.returns-else-is_weak-clause-references
returns-else-is_weak-clause-references c =
    let symbol = c.args.symbol.now in
    none_more c.args.lists.now.references.items _ (is_reference symbol) (reference_by symbol false false (sym c.is_undefined.ensures ∙ c.if-is_undefined.false) (sym c.is_weak.ensures ∙ c.if-is_weak.false))
