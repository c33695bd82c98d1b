use Rattle.std.proofs.Common.{◌+◌, ℕ, List, get_or, ap, ◌∙◌, eqb-true, sym, length, arith}
use Rattle.std.proofs.lemmas.List.{get_or_default}
use Rattle.module_view.specs.Module.{no_module}
use Rattle.link_imports.proofs.RowLemmas.{offsets_more, all_offsets, without_slots}
use Rattle.link_imports.proofs.imports.slot_offsets.Goals as goal

pub returns-then-is_empty : goal.returns-then-is_empty
returns-then-is_empty c = λ position.
    without_slots c.args.modules.now c.args.kept.now c.args.slots.now c.new-offsets.result.items position c.requires (eqb-true (length c.args.slots.now) 0 (sym c.is_empty.ensures ∙ c.if-is_empty.true)) c.new-offsets.ensures.items

pub loop-position-preserved : goal.loop-position-preserved
loop-position-preserved c =
    let k = c.loop-position.position in
    let m = c.index-modules-position.result in
    let before = c.loop-position.before in
    offsets_more c.args.modules.now c.args.kept.now k m c.is_kept.result before (before + c.rows_by-before.result) c.slot_at.result c.loop-position.offsets.items c.push.new.self.items
    (c.index-modules-position.is ∙ get_or_default c.args.modules.now k m no_module (omega arith))
    c.is_kept.ensures
    (c.slot_at.ensures ∙ ap (λ (slots : List ℕ). get_or slots before 0) c.requires)
    c.in_ok-push.ensures.items
    (ap (λ (n : ℕ). before + n) c.rows_by-before.ensures.count)
    c.loop-position.invariant

pub returns : goal.returns
returns c = λ position.
    all_offsets c.args.modules.now c.args.kept.now c.loop-position.position c.loop-position.before position c.loop-position.offsets.items (omega arith) c.loop-position.invariant
