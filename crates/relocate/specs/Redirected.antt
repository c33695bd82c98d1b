-- Targets that are given other places: those in pieces that stand at the places of others, and those in pieces from one on,
-- which stand for offsets in a single piece. Own.
use Rattle.std.specs.Prelude.{ℕ, ◌-◌, nat_lt, if◌then◌else◌, List, slice_index_or, option_map, Result, Ok, Err}
use Rattle.link_base.specs.declared.kinds.target.TargetFault.{TargetFault}
use Rattle.relocate.specs.declared.fix.Fix.{Fix}
use Rattle.relocate.specs.declared.fix.Target.{Target}
use Rattle.relocate.specs.declared.fix.Target.TheVariants as target

-- the piece at whose place a piece stands: its own, behind the end of the list
abbrev pub place_of : List ℕ → ℕ → ℕ
place_of places piece = slice_index_or places piece piece

-- a piece before the first stands where a list says, and at its own place where the list does not reach; one from the first on
-- stands for the offset of its number among them, in that one piece
abbrev pub redirected : List ℕ → ℕ → ℕ → List ℕ → Target → Target
redirected places first home offsets (target.Piece piece value) =
    if nat_lt piece first then target.Piece (place_of places piece) value else target.Piece home (slice_index_or offsets (piece - first) 0)
redirected places first home offsets (target.Absolute value) = target.Absolute value
redirected places first home offsets target.ImageBase = target.ImageBase

abbrev pub redirected_if : List ℕ → ℕ → ℕ → List ℕ → Result Target TargetFault → Result Target TargetFault
redirected_if places first home offsets (Ok target) = Ok (redirected places first home offsets target)
redirected_if places first home offsets (Err fault) = Err fault

-- the relocation with the place that its target stands for
abbrev pub redirected_fix : List ℕ → ℕ → ℕ → List ℕ → Fix → Fix
redirected_fix places first home offsets fix = record fix { target = option_map (redirected_if places first home offsets) fix.target }
