-- The public symbols of what is kept of a link. Own.
use Rattle.std.specs.Prelude.{ℕ, Bool, false, if◌then◌else◌, List, slice_index_or, Option, Some, None}
use Rattle.relocate.specs.declared.fix.Target.{Target}
use Rattle.relocate.specs.declared.fix.Target.TheVariants as target
use Rattle.relocate.specs.Redirected.{place_of, redirected}
use Rattle.debug_rows.specs.declared.link_publics.PublicPlace.{PublicPlace}

-- one with another place
abbrev pub at_target : PublicPlace → Target → Option PublicPlace
at_target public (target.Piece piece value) = Some (record public { piece = piece; value = value })
at_target public (target.Absolute value) = None
at_target public target.ImageBase = None

-- one of a piece that stands at the place of one that is kept, or of an import that is: the slot of an import stands in the table
-- of slots, at the offset of the import
abbrev pub kept_public : List Bool → List ℕ → ℕ → ℕ → List ℕ → PublicPlace → Option PublicPlace
kept_public kept places first table offsets public =
    if slice_index_or kept (place_of places public.piece) false
    then at_target public (redirected places first table offsets (target.Piece public.piece public.value))
    else None
