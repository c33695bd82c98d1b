use Rattle.std.proofs.Common.{◌≡◌, ℕ, List, take}
use Rattle.indexmap.specs.IndexMap.{get}
use Rattle.link_base.specs.NameText.{same_name}
use Rattle.link_directives.specs.Alignments.{raised_by}
use Rattle.link_directives.specs.LinkDirectives.{raised_alignment}
use Rattle.link_directives.proofs.alignments.CommonAlignments.of.Given as goal

abbrev pub invariant-loop-module : goal.invariant-loop-module
invariant-loop-module l =
    (name : List ℕ) (alignment : ℕ) → raised_by (get same_name l.powers name) alignment ≡ raised_alignment (take l.module-index l.modules) name alignment
