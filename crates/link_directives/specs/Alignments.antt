-- What the greatest alignments of names say, by the exponents that are kept. They decide nothing.
use Rattle.std.specs.Prelude.{◌≡◌, ℕ, List, Option, Some, None, max}
use Rattle.module_view.specs.Module.{ModuleView}
use Rattle.indexmap.specs.IndexMap.{get}
use Rattle.link_base.specs.NameText.{same_name}
use Rattle.link_directives.specs.declared.alignments.CommonAlignments.{CommonAlignments}
use Rattle.link_directives.specs.LinkDirectives.{asked_alignment, raised_alignment}

abbrev pub raised_by : Option ℕ → ℕ → ℕ
raised_by None alignment = alignment
raised_by (Some log) alignment = max alignment (asked_alignment log)

-- they raise as the directives of these modules do
pub record AreAsked (modules : List ModuleView) (alignments : CommonAlignments) : Type 0 where
  pub raises : (name : List ℕ) (alignment : ℕ) → raised_by (get same_name alignments.powers name) alignment ≡ raised_alignment modules name alignment
