-- Which pieces of a link stand in the image: those that are kept, where equal functions fold but for those that stand at the places
-- of others (MSVC linker reference, "/OPT"). Own.
use Rattle.std.specs.Prelude.{◌≡◌, ℕ, Bool, true, false, List, []}
use Rattle.link_words.specs.Outcome.{LinkOptions}
use Rattle.link_pieces.specs.LinkParts.{LinkParts}
use Rattle.link_pieces.specs.TablePieces.{KeptParts}
use Rattle.link_folding.specs.Places.{IsFolded, standing}
use Rattle.link_keeping.specs.Reach.{AreKept}

-- the places by the folding, where it is asked for; else each piece stands at its own
abbrev pub FoldsTo : Bool → LinkParts → List Bool → List ℕ → Type 0
FoldsTo true link reached places = IsFolded link reached places
FoldsTo false link reached places = places ≡ []

-- what paths come to, without what stands at the place of another
pub record AreStanding (options : LinkOptions) (link : KeptParts) : Type 0 where
  pub reached : List Bool
  pub reached_are : AreKept options link.parts reached
  pub places_are : FoldsTo options.icf link.parts reached link.places
  pub kept_are : link.kept ≡ standing reached link.places
