-- What is kept of the libraries that are searched. Own.
use Rattle.std.specs.Prelude.{◌≡◌, ℕ, List, Option, option_map}
use Rattle.std.specs.Option.{option_or}
use Rattle.link_base.specs.Refusals.{first_refusal_below}
use Rattle.lib_reader.specs.Listing.{Entry, first_of_name}
use Rattle.file_search.specs.FoundFiles.{FoundFile}
use Rattle.lib_search.specs.SearchSteps.{MemberPlace, place_in, listing_at}

-- each name has the place of its first listing in the libraries below a number
pub record ListsBelow (place_of : List ℕ → Option MemberPlace) (count : ℕ) (libraries : List FoundFile) : Type 0 where
  pub first : (name : List ℕ) → place_of name ≡ first_refusal_below count (listing_at libraries name)

-- the libraries below a number were gone through, and of the next one these listings are left
pub record ListsSoFar (place_of : List ℕ → Option MemberPlace) (count : ℕ) (left : List Entry) (libraries : List FoundFile) : Type 0 where
  pub first : (name : List ℕ) → option_or (place_of name) (option_map (place_in count) (first_of_name name left)) ≡ option_or (first_refusal_below count (listing_at libraries name)) (listing_at libraries name count)
