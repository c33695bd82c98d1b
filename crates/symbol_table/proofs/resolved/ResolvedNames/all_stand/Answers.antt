use Rattle.std.proofs.Common.{◌≡◌, true, List, length, ap, subst, arith}
use Rattle.symbol_table.specs.declared.link.Link.{Link}
use Rattle.symbol_table.specs.Links.{link_at, end_of}
use Rattle.symbol_names.specs.Kept.{rows_of}
use Rattle.symbol_table.specs.Meant.{is_standing, AllStand}
use Rattle.symbol_table.specs.TableParts.{ResolvedView}
use Rattle.symbol_table.proofs.MeantLemmas.{all_stand}
use Rattle.symbol_table.proofs.resolved.ResolvedNames.all_stand.Goals as goal

pub returns : goal.returns
returns c = λ _.
    subst (λ (v : ResolvedView). AllStand v.link v.chosen) c.self.view_is
    (all_stand c.self.inside.names.keys c.self.inside.given c.self.inside.modules.items (rows_of c.self.inside.chosen.items) c.self.inside.links.items c.self.inside.clash c.self.invariant (λ n lt.
    subst (λ (links : List Link). is_standing (end_of (link_at links n)) ≡ true) c.deref-link-items.ensures.value
    (c.loop-link.invariant n (omega (arith, lt, c.loop-link-test.false, ap (λ (links : List Link). length links) c.deref-link-items.ensures.value)))))
