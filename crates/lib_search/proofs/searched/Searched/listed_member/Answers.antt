use Rattle.std.proofs.Common.{◌≡◌, Bool, true, false, cond, List, Some, None, sym, ap, ◌∙◌}
use Rattle.std.specs.Prelude.{option_and_then}
use Rattle.std.specs.List.{list_any}
use Rattle.file_search.specs.FoundFiles.{FoundFile}
use Rattle.lib_search.specs.SearchSteps.{Searched, is_place, unless_joined, first_listing}
use Rattle.lib_search.proofs.searched.Searched.listed_member.Goals as goal

pub returns-then-contains : goal.returns-then-contains
returns-then-contains c =
    let s = c.args.self.now in
    let name = c.args.name.now in
    let place = c.in_ok-place.place in
    let libraries = ap (λ (v : Searched). v.libraries) c.self.view_is in
    let listed = ap (λ (ls : List FoundFile). first_listing ls name) (sym libraries) ∙ sym c.first_listing.ensures ∙ c.in_ok-place.was in
    let has : list_any (is_place place) s.joined ≡ true =
    ap (λ (v : Searched). list_any (is_place place) v.joined) (sym c.self.view_is) ∙ sym c.contains.ensures ∙ c.if-contains.true in
    sym (ap (option_and_then (unless_joined s.joined)) listed ∙ ap (λ (b : Bool). cond b None (Some place)) has)

pub returns : goal.returns
returns c =
    let s = c.args.self.now in
    let name = c.args.name.now in
    let place = c.in_ok-place.place in
    let libraries = ap (λ (v : Searched). v.libraries) c.self.view_is in
    let listed = ap (λ (ls : List FoundFile). first_listing ls name) (sym libraries) ∙ sym c.first_listing.ensures ∙ c.in_ok-place.was in
    let has : list_any (is_place place) s.joined ≡ false =
    ap (λ (v : Searched). list_any (is_place place) v.joined) (sym c.self.view_is) ∙ sym c.contains.ensures ∙ c.if-contains.false in
    sym (ap (option_and_then (unless_joined s.joined)) listed ∙ ap (λ (b : Bool). cond b None (Some place)) has)
