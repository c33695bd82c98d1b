-- The sections that definitions stand in, in a loop over definitions.
use Rattle.std.proofs.Common.{◌≡◌, ℕ, ◌<◌, ◌≤◌, List, ◌++◌, length, take, get_or, None, sym, ap, subst, ◌∙◌, arith}
use Rattle.std.specs.List.{list_any, All}
use Rattle.std.proofs.lemmas.List.{take_all}
use Rattle.std.proofs.Math.Seq.{take-append_seam}
use Rattle.coff_records.specs.ObjectFile.{section_total}
use Rattle.module_view.specs.declared.definition.Definition.{Definition}
use Rattle.module_view.specs.declared.definition.Place.{Place}
use Rattle.module_view.specs.declared.definition.Place.TheVariants as place
use Rattle.module_view.specs.Opening.{opening_error}
use Rattle.module_view.proofs.CallerLemmas.{IsPlaceIn, definitions_stand}
use Rattle.link_pieces.specs.Steps.{IsWithin}
use Rattle.link_pieces.specs.Pieces.{stands_in, is_named}
use Rattle.module_view.specs.SymbolLists.{definitions_of}

-- a list whose slice was written
pub written : {X : Type 0} (n : ℕ) (xs ys : List X) → n ≡ length xs → take n (xs ++ ys) ≡ xs
written n xs ys is = ap (λ (k : ℕ). take k (xs ++ ys)) is ∙ take-append_seam xs ys

pub all_marked : (bytes : List ℕ) (section i : ℕ) (definitions : List Definition) → definitions ≡ definitions_of bytes → length definitions ≤ i → list_any (stands_in section) (take i definitions) ≡ is_named bytes section
unfolding is_named
all_marked bytes section i definitions is all =
    ap (list_any (stands_in section)) (take_all i definitions all ∙ is)

-- ---- a definition's section is one of the marks

place_within : (bytes : List ℕ) (count : ℕ) (p : Place) → section_total bytes < count → IsPlaceIn bytes p → IsWithin count p
place_within bytes count (place.Section section value) room stands = omega (arith, stands.last)
place_within bytes count (place.Absolute value) room stands = tt
place_within bytes count place.Slot room stands = tt
place_within bytes count place.Thunk room stands = tt

pub within_marks : (bytes : List ℕ) (definitions : List Definition) (i : ℕ) (definition : Definition) (count : ℕ) → opening_error bytes ≡ None → definitions ≡ definitions_of bytes → i < length definitions → definition ≡ get_or definitions i definition → section_total bytes < count → IsWithin count definition.place
within_marks bytes definitions i definition count opened is lt read room =
    let all = subst (All (λ (d : Definition). IsPlaceIn bytes d.place)) (sym is) (definitions_stand bytes opened) in
    place_within bytes count definition.place room (subst (λ (d : Definition). IsPlaceIn bytes d.place) (sym read) (all i definition lt))
