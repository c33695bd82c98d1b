use Rattle.std.proofs.Common.{◌≡◌, ◌∷◌, [], ◌++◌, length, ◌∙◌}
use Rattle.indexmap.specs.IndexMap.{get}
use Rattle.link_base.specs.NameText.{same_name}
use Rattle.lib_search.proofs.LibraryLemmas.{lists_more, lists_now, last_library}
use Rattle.lib_search.proofs.library.Libraries.with.Goals as goal

pub invariant_of-result : goal.invariant_of-result
invariant_of-result c =
    let old = c.self.inside.list.items in
    let library = c.args.library in
    let count : c.len.result ≡ length old = c.len.ensures ∙ c.self.inside.list.ok.0 in
    lists_now old c.push_library.new.libraries.items library c.len.result (get same_name c.note_listings.new.places) count c.in_ok-push_library.ensures
    (c.in_ok-note_listings.ensures (old ++ library ∷ []) (last_library old library c.len.result count)
    (lists_more old library c.len.result (get same_name c.self.inside.places) count c.self.invariant))
