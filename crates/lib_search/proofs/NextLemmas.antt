-- The member that joins next is one of a library that is searched, and has not joined.
use Rattle.std.proofs.Common.{◌≡◌, ℕ, zero, suc, ◌<◌, Bool, true, false, cond, List, [], ◌∷◌, length, map, Option, Some, None, refl, sym, ap, ◌∙◌, arith}
use Rattle.std.proofs.lemmas.Option.{same_Some}
use Rattle.std.specs.Prelude.{IfSome, option_map, option_and_then}
use Rattle.std.specs.List.{list_any}
use Rattle.std.specs.Option.{option_or}
use Rattle.link_base.specs.Refusals.{first_standing, first_refusal_below}
use Rattle.lib_reader.specs.Listing.{first_of_name}
use Rattle.lib_reader.specs.LibraryWalk.{listing_of}
use Rattle.symbol_names.specs.References.{all_asked}
use Rattle.symbol_table.specs.OpenNames.{asked_at, is_open_at}
use Rattle.symbol_names.specs.Alternates.{all_alternates}
use Rattle.file_search.specs.FoundFiles.{FoundFile}
use Rattle.lib_search.specs.SearchSteps.{MemberPlace, Searched, place_in, library_at, listing_at, first_listing, is_place, unless_joined, listed_member, asked_member, member_by_reference, stands_in, alternate_member, member_by_alternate, next_member}
use Rattle.lib_search.specs.SearchParts.{IsFresh}

-- ---- where the first comes from

found_below : {A : Type 0} (n : ℕ) (f : ℕ → Option A) (x : A) → first_refusal_below n f ≡ Some x → (k : ℕ) × ((k < n) × (f k ≡ Some x))
unfolding first_refusal_below
found_below zero f x is = absurd cc
found_below {A} (suc n) f x is = go (first_refusal_below n f) refl is (found_below n f x)
  where
    go : (o : Option A) → first_refusal_below n f ≡ o → option_or o (f n) ≡ Some x → (first_refusal_below n f ≡ Some x → (k : ℕ) × ((k < n) × (f k ≡ Some x))) → (k : ℕ) × ((k < suc n) × (f k ≡ Some x))
    go None e here rest = (n, (omega arith, here))
    go (Some y) e here rest = let before = rest (e ∙ here) in (before.0, (omega (arith, before.1.0), before.1.1))

found_standing : {X A : Type 0} (f : X → Option A) (xs : List X) (x : A) → first_standing (map f xs) ≡ Some x → (y : X) × (f y ≡ Some x)
found_standing f [] x is = absurd cc
found_standing {X} {A} f (y ∷ ys) x is = go (f y) refl is (found_standing f ys x)
  where
    go : (o : Option A) → f y ≡ o → option_or o (first_standing (map f ys)) ≡ Some x → (first_standing (map f ys) ≡ Some x → (z : X) × (f z ≡ Some x)) → (z : X) × (f z ≡ Some x)
    go None e here rest = rest here
    go (Some z) e here rest = (y, e ∙ here)

-- ---- a listed member

listing_within : (libraries : List FoundFile) (name : List ℕ) (place : MemberPlace) → first_listing libraries name ≡ Some place → place.0 < length libraries
unfolding first_listing
listing_within libraries name place is =
    let found = found_below (length libraries) (listing_at libraries name) place is in
    let k : ℕ = found.0 in
    go k found.1.0 (first_of_name name (listing_of (library_at libraries k).bytes)) found.1.1
  where
    go : (k : ℕ) → k < length libraries → (o : Option ℕ) → option_map (place_in k) o ≡ Some place → place.0 < length libraries
    go k lt None e = absurd cc
    go k lt (Some at) e = let same = ap (λ (p : MemberPlace). p.0) (same_Some (place_in k at) place e) in omega (arith, lt, same)

listed_fresh : (s : Searched) (name : List ℕ) (place : MemberPlace) → listed_member s name ≡ Some place → IsFresh s place
listed_fresh s name place is = go (first_listing s.libraries name) refl is
  where
    unjoined : (other : MemberPlace) (b : Bool) → list_any (is_place other) s.joined ≡ b → cond b None (Some other) ≡ Some place → (other ≡ place) × (list_any (is_place other) s.joined ≡ false)
    unjoined other true e some = absurd cc
    unjoined other false e some = (same_Some other place some, e)

    go : (o : Option MemberPlace) → first_listing s.libraries name ≡ o → option_and_then (unless_joined s.joined) o ≡ Some place → IsFresh s place
    go None e some = absurd cc
    go (Some other) e some =
        let both = unjoined other (list_any (is_place other) s.joined) refl some in
        let same = both.0 in
        record {
          within = listing_within s.libraries name place (e ∙ ap Some same);
          fresh = ap (λ (p : MemberPlace). list_any (is_place p) s.joined) (sym same) ∙ both.1;
        }

asked_fresh : (s : Searched) (k : ℕ) (place : MemberPlace) → asked_member s k ≡ Some place → IsFresh s place
asked_fresh s k place is = go (is_open_at s.link k) is
  where
    go : (b : Bool) → cond b (listed_member s (asked_at s.link k).name) None ≡ Some place → IsFresh s place
    go true e = listed_fresh s (asked_at s.link k).name place e
    go false e = absurd cc

alternate_fresh : (s : Searched) (pair : List ℕ × List ℕ) (place : MemberPlace) → alternate_member s pair ≡ Some place → IsFresh s place
alternate_fresh s pair place is = go (stands_in s.link pair) is
  where
    go : (b : Bool) → cond b (listed_member s pair.1) None ≡ Some place → IsFresh s place
    go true e = listed_fresh s pair.1 place e
    go false e = absurd cc

-- ---- the next one

pub next_place : (s : Searched) (place : MemberPlace) → next_member s ≡ Some place → IsFresh s place
unfolding member_by_reference member_by_alternate
next_place s place is = go (member_by_reference s) refl is
  where
    go : (o : Option MemberPlace) → member_by_reference s ≡ o → option_or o (member_by_alternate s) ≡ Some place → IsFresh s place
    go None e some =
        let found = found_standing (alternate_member s) (all_alternates s.link) place some in
        alternate_fresh s found.0 place found.1
    go (Some other) e some =
        let found = found_below (length (all_asked s.link)) (asked_member s) place (e ∙ some) in
        asked_fresh s found.0 place found.1.1

pub next_fresh : (s : Searched) (next : Option MemberPlace) → next ≡ next_member s → IfSome next (IsFresh s)
next_fresh s None is = tt
next_fresh s (Some place) is = next_place s place (sym is)
