use Rattle.std.proofs.Common.{subst}
use Rattle.std.specs.List.{All}
use Rattle.symbol_table.specs.Meant.{AllStand}
use Rattle.link_pieces.specs.LinkParts.{LinkParts, parts_of}
use Rattle.link_pieces.specs.LocalSlots.{modules_asked}
use Rattle.link_pieces.specs.NameMeaning.{StandsIn}
use Rattle.link_pieces.proofs.StandLemmas.{asked_stand}
use Rattle.link_pieces.proofs.names.LinkNames.all_stand.Goals as goal

pub returns : goal.returns
returns c = λ yes.
    subst (λ (link : LinkParts). All (StandsIn link) (modules_asked link)) c.self.view_is
    (asked_stand (parts_of c.self.inside.names.link c.self.inside.exports c.self.inside.debug c.self.inside.resources)
    (subst (AllStand c.self.inside.names.link) c.self.invariant (c.all_stand.ensures yes)))
