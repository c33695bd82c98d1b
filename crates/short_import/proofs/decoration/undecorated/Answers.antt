use Rattle.std.proofs.Common.{◌∙◌, ap}
use Rattle.std.specs.List.{before_first}
use Rattle.short_import.specs.Decoration.{is_at_sign}
use Rattle.link_base.proofs.FoundLemmas.{before_place, before_none}
use Rattle.short_import.proofs.decoration.undecorated.Goals as goal

pub returns-in-Some : goal.returns-in-Some
returns-in-Some c =
    before_place is_at_sign _ c.in-Some.len c.in-Some.ensures ∙ ap (before_first is_at_sign) c.no_prefix-bare.ensures

pub returns-in-None : goal.returns-in-None
returns-in-None c =
    before_none is_at_sign _ c.in-None.ensures ∙ ap (before_first is_at_sign) c.no_prefix-bare.ensures
