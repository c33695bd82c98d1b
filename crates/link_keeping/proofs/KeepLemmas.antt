-- What is kept, as paths say it.
use Rattle.std.proofs.Common.{◌≡◌, ℕ, ◌<◌, Bool, true, false, List, length, get_or, Some, inl, inr, sym, ap, subst, ◌∙◌}
use Rattle.std.specs.Cmp.{both_ways}
use Rattle.std.specs.List.{Contains, slice_get}
use Rattle.std.proofs.lemmas.Bool.{cases_lt, false≢true}
use Rattle.std.proofs.lemmas.List.{get_or_past, ext_get_or}
use Rattle.std.proofs.lemmas.Option.{get_or_from_slice_get, slice_get-get_or}
use Rattle.reach.specs.Paths.{IsKept}
use Rattle.link_words.specs.Outcome.{LinkOptions}
use Rattle.link_pieces.specs.LinkParts.{LinkParts}
use Rattle.link_fields.specs.Fixes.{HasSameEdges}
use Rattle.link_pieces.specs.TablePieces.{KeptParts}
use Rattle.link_folding.specs.Places.{standing}
use Rattle.link_keeping.specs.Reach.{node_count, link_edges, link_roots, drops, IsToKeep, AreKept}
use Rattle.link_keeping.specs.Standing.{FoldsTo, AreStanding}
use Rattle.link_keeping.proofs.StandingLemmas.{one_places}

-- the same pairs lead along the same paths
kept_by_same : (count : ℕ) (from to : List (ℕ × ℕ)) (roots : List ℕ) (node : ℕ) → ((edge : ℕ × ℕ) → Contains from edge → Contains to edge) → IsKept count from roots node → IsKept count to roots node
kept_by_same count from to roots node all kept = record {
  path = kept.path;
  is_path = record {
    of_pieces = kept.is_path.of_pieces;
    led = λ k d lt. all _ (kept.is_path.led k d lt);
  };
  root = kept.root;
  is_root = kept.is_root;
  first = kept.first;
  last = kept.last;
}

-- where unreferenced sections are dropped
pub reached : (options : LinkOptions) (link : LinkParts) (kept : List Bool) (count : ℕ) (edges : List (ℕ × ℕ)) (roots : List ℕ) → drops options ≡ true → count ≡ node_count link → HasSameEdges (link_edges link) edges → roots ≡ link_roots options link → length kept ≡ count → ((node : ℕ) → IsKept count edges roots node → slice_get kept node ≡ Some true) → ((node : ℕ) → slice_get kept node ≡ Some true → IsKept count edges roots node) → AreKept options link kept
reached options link kept count edges roots dropped counted same roots_are long all only = record {
  for_each = long ∙ counted;
  kept = λ node path.
      get_or_from_slice_get kept node true false (all node (back (subst (λ (b : Bool). IsToKeep b options link node) dropped path)));
  only = λ node is.
      subst (λ (b : Bool). IsToKeep b options link node) (sym dropped) (forth (only node (slice_get-get_or kept node false (inside node is) ∙ ap Some is)));
}
  where
    inside : (node : ℕ) → get_or kept node false ≡ true → node < length kept
    inside node is =
        elim (cases_lt node (length kept)) [
          | inl lt ↦ lt
          | inr past ↦ absurd (false≢true (sym (get_or_past kept node false past) ∙ is))
        ]

    back : {node : ℕ} → IsKept (node_count link) (link_edges link) (link_roots options link) node → IsKept count edges roots node
    back {node} path = rw (counted, roots_are) (kept_by_same (node_count link) (link_edges link) edges (link_roots options link) node same.there path)

    forth : {node : ℕ} → IsKept count edges roots node → IsKept (node_count link) (link_edges link) (link_roots options link) node
    forth {node} path = kept_by_same (node_count link) edges (link_edges link) (link_roots options link) node same.only (rw (sym counted, sym roots_are) path)

-- a list that is kept is the only one
pub one_kept : (options : LinkOptions) (link : LinkParts) (a b : List Bool) → AreKept options link a → AreKept options link b → a ≡ b
one_kept options link a b x y =
    ext_get_or false a b (x.for_each ∙ sym y.for_each) (λ node lt.
    both_ways (get_or a node false) (get_or b node false) (λ is. y.kept node (x.only node is)) (λ is. x.kept node (y.only node is)))

-- and so is a link of which it is known what stands
pub one_standing : (options : LinkOptions) (a b : KeptParts) → a.parts ≡ b.parts → AreStanding options a → AreStanding options b → a ≡ b
one_standing options a b same x y =
    let reached : x.reached ≡ y.reached =
    one_kept options b.parts x.reached y.reached (subst (λ (l : LinkParts). AreKept options l x.reached) same x.reached_are) y.reached_are in
    let folded : FoldsTo options.icf b.parts y.reached a.places =
    subst (λ (l : LinkParts). FoldsTo options.icf l y.reached a.places) same
    (subst (λ (flags : List Bool). FoldsTo options.icf a.parts flags a.places) reached x.places_are) in
    let places : a.places ≡ b.places = one_places options.icf b.parts y.reached a.places b.places folded y.places_are in
    let kept : a.kept ≡ b.kept =
    x.kept_are
    ∙ ap (λ (flags : List Bool). standing flags a.places) reached
    ∙ ap (standing y.reached) places
    ∙ sym y.kept_are in
    ap (λ (l : LinkParts). record a { parts = l }) same
    ∙ ap (λ (flags : List Bool). record a { parts = b.parts; kept = flags }) kept
    ∙ ap (λ (ps : List ℕ). record b { places = ps }) places
