use Rattle.std.proofs.Common.{◌≡◌, ◌-◌, ◌<◌, ℕ, List, Option, Some, get_or, set, length, take, sym, ap, ◌∙◌, arith}
use Rattle.std.proofs.lemmas.List.{get_or_read}
use Rattle.export_tables.specs.declared.row.ExportRow.{ExportRow}
use Rattle.export_tables.specs.declared.row.ExportTo.{ExportTo}
use Rattle.export_tables.specs.ExportTable.{no_row, row_at, least, address_count, targets_in}
use Rattle.export_tables.proofs.TargetLemmas.{least_below, place_within, set_target, length_targets}
use Rattle.export_tables.proofs.targets.targets_of.Goals as goal

pub overflow_sub-ordinals : goal.overflow_sub-ordinals
overflow_sub-ordinals c = omega (arith, c.least-base.ensures, least_below c.args.ordinals.now c.loop-index.index (omega (arith, c.loop-index-test.true, c.requires.same_many)))

pub index_mut-requires : goal.index_mut-requires
index_mut-requires c =
    let within : c.loop-index.index < length c.args.ordinals.now = omega (arith, c.loop-index-test.true, c.requires.same_many) in
    let len = ap length c.loop-index.invariant ∙ length_targets c.args.rows.now (least c.args.ordinals.now) (address_count c.args.ordinals.now) (take c.loop-index.index c.args.ordinals.now) in
    omega (arith, len, c.from-place.ensures, c.least-base.ensures, place_within c.args.ordinals.now c.loop-index.index within)

pub loop-index-preserved : goal.loop-index-preserved
loop-index-preserved c =
    let rows = c.args.rows.now in
    let ordinals = c.args.ordinals.now in
    let within : c.loop-index.index < length ordinals = omega (arith, c.loop-index-test.true, c.requires.same_many) in
    let row : c.index-rows-index.result ≡ row_at rows c.loop-index.index = get_or_read rows c.loop-index.index c.index-rows-index.result c.loop-index-test.true c.index-rows-index.is no_row in
    let what : c.again.result ≡ (row_at rows c.loop-index.index).what = c.again.ensures ∙ ap (λ (r : ExportRow). r.what) (sym c.index-rows-index.is ∙ row) in
    let place : c.from-place.result ≡ get_or ordinals c.loop-index.index 0 - least ordinals = c.from-place.ensures ∙ ap (λ (n : ℕ). get_or ordinals c.loop-index.index 0 - n) c.least-base.ensures in
    ap (λ (ts : List (Option ExportTo)). set ts c.from-place.result (Some c.again.result)) c.loop-index.invariant
    ∙ ap (λ (n : ℕ). set (targets_in rows (least ordinals) (address_count ordinals) (take c.loop-index.index ordinals)) n (Some c.again.result)) place
    ∙ ap (λ (w : ExportTo). set (targets_in rows (least ordinals) (address_count ordinals) (take c.loop-index.index ordinals)) (get_or ordinals c.loop-index.index 0 - least ordinals) (Some w)) what
    ∙ set_target rows (least ordinals) ordinals c.loop-index.index within (address_count ordinals) c.requires.differ (least_below ordinals c.loop-index.index within) (place_within ordinals c.loop-index.index within)
