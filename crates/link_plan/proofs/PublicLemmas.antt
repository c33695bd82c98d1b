-- The public symbols of what is kept, as the code places them.
use Rattle.std.proofs.Common.{◌≡◌, ℕ, false, cond, List, [], ◌∷◌, length, get_or, None, refl, ap, ◌∙◌}
use Rattle.std.specs.List.{filter_map}
use Rattle.relocate.specs.declared.fix.Target.{Target}
use Rattle.relocate.specs.declared.fix.Target.TheVariants as target
use Rattle.relocate.specs.Redirected.{place_of, redirected}
use Rattle.link_pieces.specs.Pieces.{link_pieces}
use Rattle.link_pieces.specs.TablePieces.{KeptParts}
use Rattle.debug_rows.specs.declared.link_publics.PublicPlace.{PublicPlace}
use Rattle.debug_rows.specs.Publics.{publics_of}
use Rattle.debug_rows.specs.KeptPublics.{at_target, kept_public}
use Rattle.link_plan.specs.Planned.{slot_offsets, slot_table}
use Rattle.link_plan.specs.LinkPublics.{link_publics}
use Rattle.link_plan.proofs.LaidLemmas.{ArePlaces, target_placed}

-- one of them
public_placed : (link : KeptParts) (spots : List ℕ) (first home : ℕ) (offsets : List ℕ) (public : PublicPlace) → ArePlaces link spots first home offsets → kept_public link.kept spots first home offsets public ≡ kept_public link.kept link.places (length (link_pieces link.parts)) (slot_table link) (slot_offsets link) public
public_placed link spots first home offsets public places =
    ap (λ (ps : List ℕ). cond (get_or link.kept (place_of ps public.piece) false) (at_target public (redirected spots first home offsets (target.Piece public.piece public.value))) None) places.spots_are
    ∙ ap (λ (place : Target). cond (get_or link.kept (place_of link.places public.piece) false) (at_target public place) None) (target_placed link spots first home offsets (target.Piece public.piece public.value) places)

all_placed : (link : KeptParts) (spots : List ℕ) (first home : ℕ) (offsets : List ℕ) (publics : List PublicPlace) → ArePlaces link spots first home offsets → filter_map (kept_public link.kept spots first home offsets) publics ≡ filter_map (kept_public link.kept link.places (length (link_pieces link.parts)) (slot_table link) (slot_offsets link)) publics
all_placed link spots first home offsets [] places = refl
all_placed link spots first home offsets (public ∷ publics) places =
    rw (public_placed link spots first home offsets public places, all_placed link spots first home offsets publics places) refl

pub publics_planned : (link : KeptParts) (spots : List ℕ) (first home : ℕ) (offsets : List ℕ) (listed kept : List PublicPlace) → ArePlaces link spots first home offsets → listed ≡ publics_of link.parts → kept ≡ filter_map (kept_public link.kept spots first home offsets) listed → kept ≡ link_publics link
unfolding link_publics
publics_planned link spots first home offsets listed kept places all is =
    is
    ∙ all_placed link spots first home offsets listed places
    ∙ ap (filter_map (kept_public link.kept link.places (length (link_pieces link.parts)) (slot_table link) (slot_offsets link))) all
