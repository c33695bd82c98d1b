use Rattle.std.proofs.Common.{◌≡◌, ◌-◌, ◌<◌, ℕ, List, Option, get_or, set, length, take, ap, ◌∙◌, arith}
use Rattle.std.proofs.lemmas.List.{get_or_read}
use Rattle.export_tables.specs.declared.row.ExportRow.{ExportRow}
use Rattle.export_tables.specs.declared.names.NameEntry.{NameEntry}
use Rattle.export_tables.specs.ExportTable.{no_row, row_at, least, address_count, entry_of, entry_at, places_in}
use Rattle.export_tables.proofs.TargetLemmas.{least_below, place_within}
use Rattle.export_tables.proofs.PlaceLemmas.{set_place, length_places}
use Rattle.export_tables.proofs.names.places_of.Goals as goal

pub overflow_sub-place : goal.overflow_sub-place
overflow_sub-place c = omega (arith, c.least-base.ensures, least_below c.args.ordinals.now c.loop-index.index (omega (arith, c.loop-index-test.true, c.requires.same_many)))

pub index_mut-requires : goal.index_mut-requires
index_mut-requires c =
    let within : c.loop-index.index < length c.args.ordinals.now = omega (arith, c.loop-index-test.true, c.requires.same_many) in
    let len = ap length c.loop-index.invariant ∙ length_places c.args.rows.now c.args.ordinals.now (address_count c.args.ordinals.now) (take c.loop-index.index c.args.ordinals.now) in
    omega (arith, len, c.from.ensures, c.least-base.ensures, place_within c.args.ordinals.now c.loop-index.index within)

pub loop-index-preserved : goal.loop-index-preserved
loop-index-preserved c =
    let rows = c.args.rows.now in
    let ordinals = c.args.ordinals.now in
    let index = c.loop-index.index in
    let within : index < length ordinals = omega (arith, c.loop-index-test.true, c.requires.same_many) in
    let row : c.index-rows-index.result ≡ row_at rows index = get_or_read rows index c.index-rows-index.result c.loop-index-test.true c.index-rows-index.is no_row in
    let number : get_or ordinals index 0 - c.least-base.result ≡ get_or ordinals index 0 - least ordinals = ap (λ (n : ℕ). get_or ordinals index 0 - n) c.least-base.ensures in
    let place : c.from.result ≡ get_or ordinals index 0 - least ordinals = c.from.ensures ∙ number in
    let entry : c.entry_of.result ≡ entry_at rows ordinals index =
    c.entry_of.ensures
    ∙ ap (λ (r : ExportRow). entry_of r (get_or ordinals index 0 - c.least-base.result)) row
    ∙ ap (λ (n : ℕ). entry_of (row_at rows index) n) number in
    ap (λ (ps : List (Option NameEntry)). set ps c.from.result c.entry_of.result) c.loop-index.invariant
    ∙ ap (λ (n : ℕ). set (places_in rows ordinals (address_count ordinals) (take index ordinals)) n c.entry_of.result) place
    ∙ ap (λ (e : Option NameEntry). set (places_in rows ordinals (address_count ordinals) (take index ordinals)) (get_or ordinals index 0 - least ordinals) e) entry
    ∙ set_place rows ordinals c.requires.differ index within
