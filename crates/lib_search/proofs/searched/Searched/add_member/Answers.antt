use Rattle.std.proofs.Common.{◌≡◌, false, refl, sym, ap, ◌∙◌}
use Rattle.std.specs.List.{list_any}
use Rattle.lib_search.specs.SearchSteps.{Searched, is_place, member_at, with_member}
use Rattle.lib_search.proofs.PassedLemmas.{searched_of, joins_now, fresh_joined}
use Rattle.lib_search.proofs.searched.Searched.add_member.Goals as goal

pub returns : goal.returns
returns c =
    let inside = c.self.inside in
    let s = searched_of inside.table inside.libraries inside.merges inside.joined.keys in
    let place = c.args.place in
    let fresh : list_any (is_place place) s.joined ≡ false = ap (λ (v : Searched). list_any (is_place place) v.joined) c.self.view_is ∙ c.requires.fresh.fresh in
    let view : c.args.«module».now ≡ member_at s place = c.requires.member ∙ ap (λ (v : Searched). member_at v place) (sym c.self.view_is) in
    joins_now s place c.args.«module».now c.add_module.new.self inside.libraries inside.merges c.insert.new.self.keys c.in_ok-add_module.ensures.added view refl refl
    (c.in_ok-insert.ensures.keys ∙ fresh_joined s.joined place fresh)
    ∙ ap (λ (v : Searched). with_member v place) c.self.view_is
