use Rattle.std.proofs.Common.{sym, ap, subst, ◌∙◌}
use Rattle.std.specs.List.{AllPairs}
use Rattle.comdat.specs.Entries.{AreApart, named_by}
use Rattle.comdat.proofs.ApartLemmas.{entries_apart}
use Rattle.comdat.proofs.selection.choose_all.Goals as goal

pub select-requires-clause-apart : goal.select-requires-clause-apart
select-requires-clause-apart c =
    let stand_for = ap (named_by c.args.modules.now) c.deref.ensures.value ∙ c.in_ok-entries.ensures.stand_for in
    subst (AllPairs AreApart) (sym stand_for) (entries_apart c.args.modules.now)
