use Rattle.std.proofs.Common.{sym, ◌∙◌}
use Rattle.link_keeping.proofs.KeepLemmas.{reached}
use Rattle.link_keeping.proofs.keeping.kept_if.Goals as goal

pub returns-then-drops : goal.returns-then-drops
returns-then-drops c = λ options link same counted edges roots.
    reached options link c.in_ok-flags.flags.items c.args.graph.now.pieces c.args.graph.now.edges.items c.args.roots.now (sym same ∙ c.if-drops.true) counted edges roots c.in_ok-flags.ensures.length c.in_ok-flags.ensures.kept c.in_ok-flags.ensures.only
