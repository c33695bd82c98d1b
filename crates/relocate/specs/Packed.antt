-- What the symbol of a packed relocation means. Own.
use Rattle.std.specs.Prelude.{ℕ, Option, Some, None, Result, Ok, Err}
use Rattle.link_base.specs.declared.kinds.target.TargetFault.{TargetFault}
use Rattle.relocate.specs.declared.fix.Target.{Target}
use Rattle.relocate.specs.declared.fix.Target.TheVariants as target
use Rattle.relocate.specs.declared.packed.Choice.{Choice}
use Rattle.relocate.specs.declared.packed.Choice.TheVariants as choice

-- a choice, with the numbers that stand beside it
abbrev pub meant : Choice → ℕ → ℕ → Option (Result Target TargetFault)
meant choice.Nothing first second = None
meant choice.Piece first second = Some (Ok (target.Piece first second))
meant choice.Absolute first second = Some (Ok (target.Absolute first))
meant choice.ImageBase first second = Some (Ok target.ImageBase)
meant (choice.Fault fault) first second = Some (Err fault)
