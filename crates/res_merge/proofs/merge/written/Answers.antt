use Rattle.std.proofs.Common.{ℕ, ◌+◌, List, ◌++◌, map, ap, ◌∙◌, append_assoc, arith}
use Rattle.res_merge.specs.Entries.{Entry, entry_of}
use Rattle.res_merge.specs.Runs.{names_of, kinds_of, kind_of_run, name_of_run}
use Rattle.res_merge.specs.Levels.{run_of}
use Rattle.res_merge.specs.Tree.{leaves, texts, data_from, data_place, all_tables, tree_of}
use Rattle.res_merge.proofs.PlaceLemmas.{whole_is, whole_small, data_are, grown, names_short, types_short}
use Rattle.res_merge.proofs.merge.written.Goals as goal

pub places_of-places-requires : goal.places_of-places-requires
places_of-places-requires c = omega (arith, whole_small c.args.resources.now (map run_of c.args.names.now) (map run_of c.args.types.now) c.requires.parts)

pub data_len-requires : goal.data_len-requires
data_len-requires c = omega (arith, whole_small c.args.resources.now (map run_of c.args.names.now) (map run_of c.args.types.now) c.requires.parts)

pub overflow_add-places : goal.overflow_add-places
overflow_add-places c = omega (arith, whole_small c.args.resources.now (map run_of c.args.names.now) (map run_of c.args.types.now) c.requires.parts, c.places_of-places.ensures.body, c.data_len.ensures)

pub push_leaves-requires-clause-small : goal.push_leaves-requires-clause-small
push_leaves-requires-clause-small c = omega (arith, whole_is c.args.resources.now (map run_of c.args.names.now) (map run_of c.args.types.now) c.requires.parts, c.places_of-places.ensures.body, c.requires.fits)

pub push_leaves-requires-clause-fits : goal.push_leaves-requires-clause-fits
push_leaves-requires-clause-fits c = omega (arith, whole_is c.args.resources.now (map run_of c.args.names.now) (map run_of c.args.types.now) c.requires.parts, c.places_of-places.ensures.body, c.requires.fits)

pub push_texts-requires : goal.push_texts-requires
push_texts-requires c = λ k d lt. (types_short c.args.resources.now (map run_of c.args.names.now) c.args.types.now c.requires.parts k d lt).0

pub push_texts-requires-2 : goal.push_texts-requires-2
push_texts-requires-2 c = λ k d lt. (names_short c.args.resources.now c.args.names.now (map run_of c.args.types.now) c.requires.parts k d lt).1

pub returns : goal.returns
unfolding tree_of
returns c =
    let list = c.args.resources.now in
    let entries : List Entry = map entry_of list in
    let names = map run_of c.args.names.now in
    let types = map run_of c.args.types.now in
    let tables = c.in_ok-push_all_tables.ensures ∙ ap (λ (out : List ℕ). out ++ all_tables c.args.time entries) c.in_ok-out.ensures.items in
    let second = grown _ _ _ _ _ c.in_ok-push_leaves.ensures tables (ap (λ (n : ℕ). leaves (c.args.rva + n) entries) (data_are list names types c.requires.parts _ c.places_of-places.ensures)) in
    let third = grown _ _ _ _ _ c.in_ok-push_texts.ensures second (ap (texts kind_of_run) c.requires.parts.types_are) in
    let fourth = grown _ _ _ _ _ c.in_ok-push_texts-2.ensures third (ap (texts name_of_run) c.requires.parts.names_are) in
    c.in_ok-push_data.ensures ∙ ap (λ (out : List ℕ). out ++ data_from 0 entries) fourth
    ∙ append_assoc (((all_tables c.args.time entries) ++ leaves (c.args.rva + data_place entries) entries) ++ texts kind_of_run (kinds_of entries)) (texts name_of_run (names_of entries)) _
    ∙ append_assoc ((all_tables c.args.time entries) ++ leaves (c.args.rva + data_place entries) entries) (texts kind_of_run (kinds_of entries)) _
    ∙ append_assoc (all_tables c.args.time entries) (leaves (c.args.rva + data_place entries) entries) _
