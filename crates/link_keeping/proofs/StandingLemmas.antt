-- Which pieces of a link stand in the image, and where those stand that fold.
use Rattle.std.proofs.Common.{◌≡◌, ℕ, ◌<◌, ◌≤◌, Bool, true, false, ◌&&◌, eqb, List, length, get_or, inl, inr, refl, sym, ap, subst, ◌∙◌, eq-eqb, arith}
use Rattle.std.specs.List.{Contains}
use Rattle.std.proofs.lemmas.Bool.{cases_lt, and_parts}
use Rattle.std.proofs.lemmas.List.{get_or_past}
use Rattle.std.proofs.lemmas.List.FromFn.{get_or-map-range_with_len, length-map-range_with_len}
use Rattle.reach.proofs.CallerLemmas.{root_kept, next_kept}
use Rattle.relocate.specs.Redirected.{place_of}
use Rattle.link_words.specs.Outcome.{LinkOptions}
use Rattle.link_pieces.specs.LinkParts.{LinkParts}
use Rattle.link_pieces.specs.Pieces.{link_pieces}
use Rattle.link_pieces.specs.TablePieces.{KeptParts}
use Rattle.link_fields.specs.Fixes.{piece_at}
use Rattle.link_folding.specs.Places.{stands_alone, standing}
use Rattle.link_folding.proofs.CallerLemmas.{one_folding, place_stands, place_within, place_size, place_beyond}
use Rattle.link_keeping.specs.Reach.{AreKept, IsToKeep, node_count, link_edges, link_roots, drops}
use Rattle.link_keeping.specs.Standing.{FoldsTo, AreStanding}

-- ---- the list

pub length_standing : (reached : List Bool) (places : List ℕ) → length (standing reached places) ≡ length reached
length_standing reached places = length-map-range_with_len (stands_alone reached places) 0 (length reached)

pub standing_at : (reached : List Bool) (places : List ℕ) (k : ℕ) → get_or (standing reached places) k false ≡ stands_alone reached places k
standing_at reached places k =
    elim (cases_lt k (length reached)) [
      | inl inside ↦ get_or-map-range_with_len (stands_alone reached places) 0 (length reached) k k false inside (omega arith)
      | inr past ↦
          get_or_past (standing reached places) k false (omega (arith, past, length_standing reached places))
          ∙ sym (ap (λ (b : Bool). b && eqb (place_of places k) k) (get_or_past reached k false past))
    ]

-- ---- the places, whether equal functions fold or not

-- what is reached stands at a place that is kept
place_alone : (folds : Bool) (link : LinkParts) (reached : List Bool) (places : List ℕ) (k : ℕ) → FoldsTo folds link reached places → get_or reached k false ≡ true → stands_alone reached places (place_of places k) ≡ true
place_alone true link reached places k folded is = place_stands link reached places k folded is
place_alone false link reached places k none is =
    subst (λ (ps : List ℕ). stands_alone reached ps (place_of ps k) ≡ true) (sym none)
    (ap (λ (b : Bool). b && eqb k k) is ∙ eq-eqb k k refl)

-- a piece of the link at that of one
place_in : (folds : Bool) (link : LinkParts) (reached : List Bool) (places : List ℕ) (k : ℕ) → FoldsTo folds link reached places → k < length (link_pieces link) → place_of places k < length (link_pieces link)
place_in true link reached places k folded lt = place_within link reached places k folded lt
place_in false link reached places k none lt = subst (λ (ps : List ℕ). place_of ps k < length (link_pieces link)) (sym none) lt

-- of its size
place_sized : (folds : Bool) (link : LinkParts) (reached : List Bool) (places : List ℕ) (k : ℕ) → FoldsTo folds link reached places → k < length (link_pieces link) → (piece_at link (place_of places k)).size ≡ (piece_at link k).size
place_sized true link reached places k folded lt = place_size link reached places k folded lt
place_sized false link reached places k none lt = subst (λ (ps : List ℕ). (piece_at link (place_of ps k)).size ≡ (piece_at link k).size) (sym none) refl

-- an import at its own
place_own : (folds : Bool) (link : LinkParts) (reached : List Bool) (places : List ℕ) (k : ℕ) → FoldsTo folds link reached places → length (link_pieces link) ≤ k → place_of places k ≡ k
place_own true link reached places k folded past = place_beyond link reached places k folded past
place_own false link reached places k none past = subst (λ (ps : List ℕ). place_of ps k ≡ k) (sym none) refl

-- no list is longer than the pieces
pub places_few : (folds : Bool) (link : LinkParts) (reached : List Bool) (places : List ℕ) → FoldsTo folds link reached places → length places ≤ length (link_pieces link)
places_few true link reached places folded = omega (arith, folded.for_each)
places_few false link reached places none = omega (arith, ap length none)

-- and there are no others
pub one_places : (folds : Bool) (link : LinkParts) (reached : List Bool) (a b : List ℕ) → FoldsTo folds link reached a → FoldsTo folds link reached b → a ≡ b
one_places true link reached a b x y = one_folding link reached a b x y
one_places false link reached a b x y = x ∙ sym y

-- ---- of a link

pub place_inside : (options : LinkOptions) (link : KeptParts) (k : ℕ) → AreStanding options link → k < length (link_pieces link.parts) → place_of link.places k < length (link_pieces link.parts)
place_inside options link k are lt = place_in options.icf link.parts are.reached link.places k are.places_are lt

pub place_as_long : (options : LinkOptions) (link : KeptParts) (k : ℕ) → AreStanding options link → k < length (link_pieces link.parts) → (piece_at link.parts (place_of link.places k)).size ≡ (piece_at link.parts k).size
place_as_long options link k are lt = place_sized options.icf link.parts are.reached link.places k are.places_are lt

pub place_behind : (options : LinkOptions) (link : KeptParts) (k : ℕ) → AreStanding options link → length (link_pieces link.parts) ≤ k → place_of link.places k ≡ k
place_behind options link k are past = place_own options.icf link.parts are.reached link.places k are.places_are past

-- a piece that stands at that of the link is one of the link
pub place_from : (options : LinkOptions) (link : KeptParts) (k : ℕ) → AreStanding options link → place_of link.places k < length (link_pieces link.parts) → k < length (link_pieces link.parts)
place_from options link k are lt =
    elim (cases_lt k (length (link_pieces link.parts))) [
      | inl inside ↦ inside
      | inr past ↦ absurd (omega (arith, lt, past, place_behind options link k are past))
    ]

-- what is reached is kept where it stands
reached_stands : (options : LinkOptions) (link : KeptParts) (k : ℕ) (are : AreStanding options link) → get_or are.reached k false ≡ true → get_or link.kept (place_of link.places k) false ≡ true
reached_stands options link k are is =
    ap (λ (flags : List Bool). get_or flags (place_of link.places k) false) are.kept_are
    ∙ standing_at are.reached link.places (place_of link.places k)
    ∙ place_alone options.icf link.parts are.reached link.places k are.places_are is

-- what is kept is reached
kept_reached : (options : LinkOptions) (link : KeptParts) (k : ℕ) (are : AreStanding options link) → get_or link.kept k false ≡ true → get_or are.reached k false ≡ true
kept_reached options link k are is =
    (and_parts (get_or are.reached k false) (eqb (place_of link.places k) k)
    (sym (standing_at are.reached link.places k) ∙ sym (ap (λ (flags : List Bool). get_or flags k false) are.kept_are) ∙ is)).0

-- ---- what is kept leads to what is kept

-- what an edge leads to from what is reached
reached_next : (options : LinkOptions) (link : LinkParts) (kept : List Bool) (k next : ℕ) → AreKept options link kept → get_or kept k false ≡ true → Contains (link_edges link) (k, next) → next < node_count link → get_or kept next false ≡ true
reached_next options link kept k next are here edge within = are.kept next (by (drops options) (are.only k here))
  where
    by : (b : Bool) → IsToKeep b options link k → IsToKeep b options link next
    by true path = next_kept (node_count link) (link_edges link) (link_roots options link) k next path edge within
    by false inside = within

reached_root : (options : LinkOptions) (link : LinkParts) (kept : List Bool) (root : ℕ) → AreKept options link kept → Contains (link_roots options link) root → root < node_count link → get_or kept root false ≡ true
reached_root options link kept root are there within = are.kept root (by (drops options))
  where
    by : (b : Bool) → IsToKeep b options link root
    by true = root_kept (node_count link) (link_edges link) (link_roots options link) root there within
    by false = within

-- what an edge leads to from what is kept, where it stands
pub next_stands : (options : LinkOptions) (link : KeptParts) (k next : ℕ) → AreStanding options link → get_or link.kept k false ≡ true → Contains (link_edges link.parts) (k, next) → next < node_count link.parts → get_or link.kept (place_of link.places next) false ≡ true
next_stands options link k next are here edge within =
    reached_stands options link next are
    (reached_next options link.parts are.reached k next are.reached_are (kept_reached options link k are here) edge within)

-- a root, where it stands
pub root_stands : (options : LinkOptions) (link : KeptParts) (root : ℕ) → AreStanding options link → Contains (link_roots options link.parts) root → root < node_count link.parts → get_or link.kept (place_of link.places root) false ≡ true
root_stands options link root are there within =
    reached_stands options link root are (reached_root options link.parts are.reached root are.reached_are there within)
