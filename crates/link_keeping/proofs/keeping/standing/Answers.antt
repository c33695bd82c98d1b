use Rattle.std.proofs.Common.{◌≡◌, ℕ, ◌&&◌, eqb, Bool, false, List, [], ◌∷◌, ◌++◌, map, sym, ap, ◌∙◌, arith}
use Rattle.std.specs.List.{range_with_len}
use Rattle.std.proofs.lemmas.List.{get_or_default}
use Rattle.std.proofs.lemmas.List.FromFn.{map-range_with_len_more}
use Rattle.relocate.specs.Redirected.{place_of}
use Rattle.link_folding.specs.Places.{stands_alone}
use Rattle.link_keeping.proofs.keeping.standing.Goals as goal

pub loop-k-preserved : goal.loop-k-preserved
loop-k-preserved c =
    let reached = c.args.reached.now in
    let places = c.args.places.now in
    let k = c.loop-k.k in
    let test = stands_alone reached places in
    let here : c.stands_alone.result ≡ test k =
    c.stands_alone.ensures
    ∙ ap (λ (b : Bool). b && eqb (place_of places k) k) (get_or_default reached k _ false (omega arith)) in
    c.in_ok-push.ensures.items
    ∙ ap (λ (flags : List Bool). flags ++ c.stands_alone.result ∷ []) c.loop-k.invariant
    ∙ ap (λ (b : Bool). map test (range_with_len 0 k) ++ b ∷ []) here
    ∙ sym (map-range_with_len_more test 0 k k (omega arith))

pub returns : goal.returns
returns c =
    c.loop-k.invariant ∙ ap (λ (n : ℕ). map (stands_alone c.args.reached.now c.args.places.now) (range_with_len 0 n)) (omega arith)
