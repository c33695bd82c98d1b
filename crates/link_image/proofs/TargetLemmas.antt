-- What each of some exports stands for, by a list that tells it of all.
use Rattle.std.proofs.Common.{◌≡◌, ℕ, ◌<◌, List, Option, length, map, get_or, sym, ap, ◌∙◌, arith}
use Rattle.std.proofs.lemmas.List.{get_or-map, length-map}
use Rattle.directives.specs.declared.item.Export.{Export}
use Rattle.relocate.specs.declared.fix.Target.{Target}
use Rattle.link_pieces.specs.TablePieces.{KeptParts}
use Rattle.link_fields.specs.ExportTargets.{export_target}
use Rattle.link_plan.specs.Planned.{planned_target}
use Rattle.link_image.specs.Steps.{targets_of}

pub target_here : (link : KeptParts) (rows : List Export) (targets : List (Option Target)) (k : ℕ) (row : Export) (d : Option Target) → k < length rows → row ≡ get_or rows k row → targets ≡ targets_of link rows → get_or targets k d ≡ planned_target link (export_target link.parts row)
target_here link rows targets k row d lt here are =
    ap (λ (ts : List (Option Target)). get_or ts k d) are
    ∙ get_or-map (planned_target link) (map (export_target link.parts) rows) k (export_target link.parts row) d (omega (arith, lt, length-map rows (export_target link.parts)))
    ∙ ap (planned_target link) (get_or-map (export_target link.parts) rows k row (export_target link.parts row) lt)
    ∙ ap (λ (r : Export). planned_target link (export_target link.parts r)) (sym here)
