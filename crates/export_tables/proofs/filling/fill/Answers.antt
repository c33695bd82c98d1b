use Rattle.std.proofs.Common.{length, ap, ◌∙◌, arith}
use Rattle.std.specs.List.{sum_by}
use Rattle.export_tables.specs.ExportTable.{name_size, target_size, tables_end}
use Rattle.export_tables.proofs.FillLemmas.{parts_size}
use Rattle.export_tables.proofs.filling.fill.Goals as goal

pub directory_of-directory-requires : goal.directory_of-directory-requires
directory_of-directory-requires c =
    let count = ap length c.in_ok-names.ensures in
    omega (arith, count, c.len.ensures, parts_size c.args.rows.now c.args.ordinals.now c.args.dll c.requires.rows, c.requires.fits)

pub push_table-requires : goal.push_table-requires
push_table-requires c =
    let count = ap length c.in_ok-names.ensures in
    let names = ap (sum_by name_size) (c.deref-2.ensures.value ∙ c.in_ok-names.ensures) in
    let targets = ap (sum_by target_size) (c.deref.ensures.value ∙ c.in_ok-targets.ensures) in
    let end = ap tables_end c.directory_of-directory.ensures in
    omega (arith, count, c.len.ensures, names, targets, end, parts_size c.args.rows.now c.args.ordinals.now c.args.dll c.requires.rows, c.requires.fits)
