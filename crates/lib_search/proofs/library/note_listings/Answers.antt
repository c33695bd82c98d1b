use Rattle.std.proofs.Common.{List, sym, ap, subst, ◌∙◌}
use Rattle.indexmap.specs.IndexMap.{get}
use Rattle.link_base.specs.NameText.{same_name}
use Rattle.lib_reader.specs.Listing.{Entry}
use Rattle.lib_reader.specs.LibraryWalk.{listing_of}
use Rattle.file_search.specs.FoundFiles.{FoundFile}
use Rattle.lib_search.specs.OpenLibraries.{ListsSoFar}
use Rattle.lib_search.proofs.LibraryLemmas.{lists_begin, lists_noted, lists_end}
use Rattle.lib_search.proofs.library.note_listings.Goals as goal

pub loop-name-init : goal.loop-name-init
loop-name-init c =
    let all = c.into_iter-name-iterator.ensures.into_iter_gives ∙ c.listings-name-items.ensures ∙ ap (λ (l : FoundFile). listing_of l.bytes) c.library.view_is in
    record {
      can = tt;
      ends = tt;
      lists = λ libraries is below.
          subst (λ (left : List Entry). ListsSoFar (get same_name c.args.places.now) c.args.index left libraries) (sym all)
          (lists_begin libraries c.args.index c.args.library.now (get same_name c.args.places.now) is below);
    }

pub loop-name-preserved : goal.loop-name-preserved
loop-name-preserved c =
    record {
      can = tt;
      ends = tt;
      lists = λ libraries is below.
          lists_noted c.in-Some.name (c.args.index, c.in-Some.at) c.next.new.self libraries (get same_name c.loop-name.places) (get same_name c.note_listing.new.places) c.in_ok-note_listing.ensures
          (subst (λ (left : List Entry). ListsSoFar (get same_name c.loop-name.places) c.args.index left libraries) c.in-Some.ensures.steps (c.loop-name.invariant.lists libraries is below));
    }

pub returns : goal.returns
returns c = λ libraries is below.
    lists_end libraries c.args.index (get same_name c.loop-name.places)
    (subst (λ (left : List Entry). ListsSoFar (get same_name c.loop-name.places) c.args.index left libraries) c.in-None.ensures.steps.0 (c.loop-name.invariant.lists libraries is below))
