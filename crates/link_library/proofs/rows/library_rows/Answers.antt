use Rattle.std.proofs.Common.{◌≡◌, ◌<◌, not, List, Vec, length, get_or, sym, ap, ◌∙◌, subst, arith}
use Rattle.std.specs.declared.alloc.Global.{Global}
use Rattle.std.proofs.lemmas.List.{get_or_read}
use Rattle.directives.specs.declared.item.Export.{Export}
use Rattle.export_tables.specs.Ordinals.{no_export, row_at}
use Rattle.export_tables.specs.NameOrder.{name_order}
use Rattle.implib.specs.declared.row.LibraryRow.{LibraryRow}
use Rattle.implib.specs.Rows.{AreRows}
use Rattle.link_library.specs.LinkLibrary.{is_listed}
use Rattle.link_library.proofs.RowLemmas.{listed_more, passed_more, index_within, all_rows, rows_are}
use Rattle.link_library.proofs.rows.library_rows.Goals as goal
use Rattle.link_library.proofs.rows.library_rows.Goals.{then-not-rows-index+in_ok-push, else-not-rows-index}

pub bounds-rows-index : goal.bounds-rows-index
bounds-rows-index c =
    subst (λ (rows : List Export). c.from-index.result < length rows) (sym c.rows-in-loop-index.ensures)
    (index_within c.args.exports.now c.in_ok-order.order.items c.deref-index-items.result.now c.loop-index.index-index c.from-index.result (c.in_ok-order.ensures ∙ ap name_order c.rows.ensures) c.deref-index-items.ensures.value c.loop-index-test.true c.from-index.ensures)

pub bounds-rows-index-in-loop-index : goal.bounds-rows-index-in-loop-index
bounds-rows-index-in-loop-index c =
    subst (λ (rows : List Export). c.from-index.result < length rows) (sym c.rows-in-loop-index.ensures)
    (index_within c.args.exports.now c.in_ok-order.order.items c.deref-index-items.result.now c.loop-index.index-index c.from-index.result (c.in_ok-order.ensures ∙ ap name_order c.rows.ensures) c.deref-index-items.ensures.value c.loop-index-test.true c.from-index.ensures)

pub row_of-requires-clause-there : goal.row_of-requires-clause-there
row_of-requires-clause-there c =
    index_within c.args.exports.now c.in_ok-order.order.items c.deref-index-items.result.now c.loop-index.index-index c.from-index.result (c.in_ok-order.ensures ∙ ap name_order c.rows.ensures) c.deref-index-items.ensures.value c.loop-index-test.true c.from-index.ensures

pub loop-index-preserved : goal.loop-index-preserved
loop-index-preserved c =
    let exports = c.args.exports.now in
    let view = c.deref-index-items.result.now in
    let slice = c.rows-in-loop-index.result.now in
    let k = c.loop-index.index-index in
    let index = c.from-index.result in
    let within : index < length slice =
    subst (λ (rows : List Export). index < length rows) (sym c.rows-in-loop-index.ensures)
    (index_within exports c.in_ok-order.order.items view k index (c.in_ok-order.ensures ∙ ap name_order c.rows.ensures) c.deref-index-items.ensures.value c.loop-index-test.true c.from-index.ensures) in
    let row : row_at exports.rows index ≡ c.index-rows-index.result =
    ap (λ (rows : List Export). row_at rows index) (sym c.rows-in-loop-index.ensures) ∙ sym (get_or_read slice index c.index-rows-index.result within c.index-rows-index.is no_export) in
    let listed : is_listed exports.rows index ≡ not (get_or slice index c.index-rows-index.result).private = ap (λ (r : Export). not r.private) (row ∙ c.index-rows-index.is) in
    elim c.if-not-rows-index.branch [
      | then-not-rows-index+in_ok-push w ↦
          listed_more exports view k index 0 c.loop-index.rows.items c.if-not-rows-index.rows.items w.row_of.result c.loop-index-test.true c.from-index.ensures (listed ∙ ap not w.if-not-rows-index.true) w.row_of.ensures c.loop-index.invariant
          (ap (λ (v : Vec LibraryRow Global). v.items) w.rows-is ∙ w.in_ok-push.ensures.items)
      | else-not-rows-index w ↦
          passed_more exports view k index 0 c.loop-index.rows.items c.if-not-rows-index.rows.items c.loop-index-test.true c.from-index.ensures (listed ∙ ap not w.if-not-rows-index.false) c.loop-index.invariant
          (ap (λ (v : Vec LibraryRow Global). v.items) w.rows-is)
    ]

pub returns-clause-sound : goal.returns-clause-sound
returns-clause-sound c =
    let exports = c.args.exports.now in
    subst AreRows (sym (all_rows exports c.in_ok-order.order.items c.deref-index-items.result.now c.loop-index.index-index c.loop-index.rows.items (c.in_ok-order.ensures ∙ ap name_order c.rows.ensures) c.deref-index-items.ensures.value (omega (arith, c.loop-index-test.false)) c.loop-index.invariant))
    (rows_are exports c.requires.told c.requires.unrefused c.requires.numbered)
