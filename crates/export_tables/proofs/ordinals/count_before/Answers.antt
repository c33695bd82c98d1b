use Rattle.std.proofs.Common.{rules, of_calls}
use Rattle.std.proofs.lemmas.Fn.{always_returns_same}
use Rattle.export_tables.specs.Ordinals.{comes_before}
use Rattle.export_tables.proofs.OrdinalLemmas.{parted, counted}
use Rattle.export_tables.proofs.ordinals.count_before.Goals as goal

pub returns-clause-count : goal.returns-clause-count
returns-clause-count c =
    let names = c.args.names.now in
    let name = c.args.name.now in
    counted (comes_before name) names c.partition_point.result c.partition_point.ensures.bound
    (c.partition_point.ensures.partitioned (comes_before name) (always_returns_same _ _ _ (λ a r f k. search (rules, of_calls))) (parted name names c.requires))
