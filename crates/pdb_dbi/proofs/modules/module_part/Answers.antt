use Rattle.std.proofs.Common.{None, refl, ap, ◌∙◌, length, arith}
use Rattle.std.proofs.lemmas.List.{get_or_default}
use Rattle.std.proofs.lemmas.List.FromFn.{length-map-range_with_len}
use Rattle.std.specs.List.{find}
use Rattle.pdb_dbi.specs.ModuleInfo.{is_of}
use Rattle.pdb_dbi.proofs.ModuleLemmas.{records_grow}
use Rattle.pdb_dbi.proofs.modules.module_part.Goals as goal

pub index-requires : goal.index-requires
index-requires c =
    let long = ap length c.in_ok-firsts.ensures in
    let count = length-map-range_with_len (λ position. find (is_of position) c.args.list.now) 0 (length c.args.modules.now) in
    omega (arith, long, count, c.loop-position-test.true)

pub loop-position-preserved : goal.loop-position-preserved
loop-position-preserved c =
    records_grow (length c.args.modules.now) c.loop-position.position c.args.list.now c.args.modules.now c.in_ok-firsts.firsts.items c.unwrap_or-first.result c.no_contribution.result c.index.result.now c.index-modules-position.result c.loop-position.out.items c.push_module.new.out.items
    c.loop-position-test.true refl c.in_ok-firsts.ensures c.unwrap_or-first.ensures (c.index.ensures ∙ get_or_default c.in_ok-firsts.firsts.items c.loop-position.position _ None (let long = ap length c.in_ok-firsts.ensures in let count = length-map-range_with_len (λ position. find (is_of position) c.args.list.now) 0 (length c.args.modules.now) in omega (arith, long, count, c.loop-position-test.true))) c.no_contribution.ensures c.index-modules-position.is c.loop-position.invariant c.in_ok-push_module.ensures
