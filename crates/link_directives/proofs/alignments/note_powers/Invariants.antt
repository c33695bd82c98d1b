use Rattle.std.proofs.Common.{◌≡◌, ℕ, List, take, max, fold}
use Rattle.indexmap.specs.IndexMap.{get}
use Rattle.link_base.specs.NameText.{same_name}
use Rattle.link_directives.specs.Alignments.{raised_by}
use Rattle.link_directives.specs.LinkDirectives.{asked_by}
use Rattle.link_directives.proofs.PassLemmas.{picked}
use Rattle.link_directives.proofs.alignments.note_powers.Given as goal

abbrev pub invariant-loop-directive : goal.invariant-loop-directive
invariant-loop-directive l =
    (name : List ℕ) (alignment : ℕ) → raised_by (get same_name l.powers name) alignment
    ≡ fold max (raised_by (get same_name l.initial.powers name) alignment) (picked (asked_by name) (take l.directive-index l.directives))
