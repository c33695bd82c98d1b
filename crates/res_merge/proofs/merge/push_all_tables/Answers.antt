use Rattle.std.proofs.Common.{ℕ, List, ◌++◌, length, map, sym, ap, ◌∙◌, append_assoc, arith}
use Rattle.res_merge.specs.declared.rows.Row.{Row}
use Rattle.res_merge.specs.Entries.{entry_of}
use Rattle.res_merge.specs.Runs.{Run, kinds_of, kind_of_run, name_of_run}
use Rattle.res_merge.specs.Levels.{run_of}
use Rattle.res_merge.specs.Tree.{table, tables, language_rows, kind_rows, name_rows, leaves_place, all_tables}
use Rattle.res_merge.proofs.PlaceLemmas.{whole_small, names_count, names_few, types_count, types_few, type_rows_are, name_rows_are, leaves_are, rows_length, language_length, length_said, grown}
use Rattle.res_merge.proofs.merge.push_all_tables.Goals as goal

pub rows-requires-clause-texts : goal.rows-requires-clause-texts
rows-requires-clause-texts c = omega (arith, whole_small c.args.resources.now (map run_of c.args.names.now) (map run_of c.args.types.now) c.requires.parts, c.requires.places.type_texts)

pub rows-requires-clause-tables : goal.rows-requires-clause-tables
rows-requires-clause-tables c = omega (arith, whole_small c.args.resources.now (map run_of c.args.names.now) (map run_of c.args.types.now) c.requires.parts, c.requires.places.name_tables)

pub rows-requires-2-clause-texts : goal.rows-requires-2-clause-texts
rows-requires-2-clause-texts c = omega (arith, whole_small c.args.resources.now (map run_of c.args.names.now) (map run_of c.args.types.now) c.requires.parts, c.requires.places.name_texts)

pub rows-requires-2-clause-tables : goal.rows-requires-2-clause-tables
rows-requires-2-clause-tables c = omega (arith, whole_small c.args.resources.now (map run_of c.args.names.now) (map run_of c.args.types.now) c.requires.parts, c.requires.places.language_tables)

pub language_rows-requires : goal.language_rows-requires
language_rows-requires c = omega (arith, whole_small c.args.resources.now (map run_of c.args.names.now) (map run_of c.args.types.now) c.requires.parts, c.requires.places.leaves)

pub push_table-requires : goal.push_table-requires
push_table-requires c =
    omega (arith, ap length (c.deref.ensures.value ∙ c.in_ok-type_rows.ensures), rows_length kind_of_run c.args.places.texts c.args.places.names (map run_of c.args.types.now), types_few c.args.resources.now (map run_of c.args.names.now) (map run_of c.args.types.now) c.requires.parts)

pub push_tables-requires-clause-few : goal.push_tables-requires-clause-few
push_tables-requires-clause-few c =
    omega (arith, ap length (c.deref-2.ensures.value ∙ c.in_ok-name_rows.ensures), rows_length name_of_run c.args.places.name_texts c.args.places.languages (map run_of c.args.names.now), names_few c.args.resources.now (map run_of c.args.names.now) (map run_of c.args.types.now) c.requires.parts)

pub push_tables-requires-clause-counts : goal.push_tables-requires-clause-counts
push_tables-requires-clause-counts c =
    types_count c.args.resources.now (map run_of c.args.names.now) (map run_of c.args.types.now) c.requires.parts
    ∙ sym (ap length (c.deref-2.ensures.value ∙ c.in_ok-name_rows.ensures) ∙ rows_length name_of_run c.args.places.name_texts c.args.places.languages (map run_of c.args.names.now))

pub push_tables-requires-2-clause-few : goal.push_tables-requires-2-clause-few
push_tables-requires-2-clause-few c =
    omega (arith, ap length (c.deref-3.ensures.value ∙ c.in_ok-language_rows.ensures), language_length c.args.places.leaves (map entry_of c.args.resources.now), c.requires.parts.few)

pub push_tables-requires-2-clause-counts : goal.push_tables-requires-2-clause-counts
push_tables-requires-2-clause-counts c =
    names_count c.args.resources.now (map run_of c.args.names.now) (map run_of c.args.types.now) c.requires.parts
    ∙ omega (arith, ap length (c.deref-3.ensures.value ∙ c.in_ok-language_rows.ensures), language_length c.args.places.leaves (map entry_of c.args.resources.now), length_said c.args.resources.now)

pub returns : goal.returns
unfolding all_tables
returns c =
    let list = c.args.resources.now in
    let names = map run_of c.args.names.now in
    let types = map run_of c.args.types.now in
    let old = c.args.out.now.items in
    let type_rows = c.deref.ensures.value ∙ c.in_ok-type_rows.ensures ∙ type_rows_are list names types c.requires.parts c.args.places c.requires.places in
    let name_rows_is = c.deref-2.ensures.value ∙ c.in_ok-name_rows.ensures ∙ name_rows_are list names types c.requires.parts c.args.places c.requires.places in
    let languages = c.deref-3.ensures.value ∙ c.in_ok-language_rows.ensures ∙ ap (λ (n : ℕ). language_rows n (map entry_of list)) (leaves_are list names types c.requires.parts c.args.places c.requires.places) in
    let first = c.in_ok-push_table.ensures ∙ ap (λ (rows : List Row). old ++ table c.args.time rows) type_rows in
    let second = grown _ _ _ _ _ c.in_ok-push_tables.ensures first (ap (tables c.args.time types) name_rows_is ∙ ap (λ (runs : List Run). tables c.args.time runs (name_rows (map entry_of list))) c.requires.parts.types_are) in
    let third = grown _ _ _ _ _ c.in_ok-push_tables-2.ensures second (ap (tables c.args.time names) languages ∙ ap (λ (runs : List Run). tables c.args.time runs (language_rows (leaves_place (map entry_of list)) (map entry_of list))) c.requires.parts.names_are) in
    third ∙ append_assoc (old ++ table c.args.time (kind_rows (map entry_of list))) (tables c.args.time (kinds_of (map entry_of list)) (name_rows (map entry_of list))) _ ∙ append_assoc old (table c.args.time (kind_rows (map entry_of list))) _
