-- The place of a public symbol.
use Rattle.std.proofs.Common.{◌≡◌, ℕ, List, Option, Some, None, Result, Ok, Err, refl, ap, ◌∙◌}
use Rattle.link_base.specs.declared.fault.Fault.{Fault}
use Rattle.link_base.specs.declared.kinds.database.PdbKind.{PdbKind}
use Rattle.pdb_msf.specs.BlockFile.{msf_fault}
use Rattle.pdb_publics.specs.declared.rows.Public.{Public}
use Rattle.pdb_publics.specs.Lookup.{found}
use Rattle.image_show.specs.SymbolPlace.{public_place, found_place, searched_place, symbol_place}
use Rattle.image_show.specs.ShownBytes.{memory_shown, place_shown}

-- the place goes by what is told of the sections alone
found_alike : (name : List ℕ) (these those : ℕ → Option (ℕ × ℕ)) → ((number : ℕ) → these number ≡ those number) → (answer : Result (Option Public) PdbKind) → found_place name these answer ≡ found_place name those answer
found_alike name these those alike (Ok (Some public)) = ap (λ (section : Option (ℕ × ℕ)). public_place name section public.offset) (alike public.section)
found_alike name these those alike (Ok None) = refl
found_alike name these those alike (Err kind) = refl

pub place_alike : (pdb name : List ℕ) (these those : ℕ → Option (ℕ × ℕ)) → ((number : ℕ) → these number ≡ those number) → symbol_place these pdb name ≡ symbol_place those pdb name
place_alike pdb name these those alike = ap (searched_place (msf_fault pdb)) (found_alike name these those alike (found pdb name))

-- a memory and a place that are there, and a place that is not
pub shown_there : (base len : ℕ) (memory : Result (List ℕ) Fault) (place : Result ℕ Fault) (bytes : List ℕ) (rva : ℕ) → memory ≡ Ok bytes → place ≡ Ok rva → place_shown base len memory place ≡ memory_shown base rva len bytes
shown_there base len memory place bytes rva there at =
    ap (λ (m : Result (List ℕ) Fault). place_shown base len m place) there
    ∙ ap (place_shown base len (Ok bytes)) at

pub refused_place : (base len : ℕ) (memory : Result (List ℕ) Fault) (place : Result ℕ Fault) (bytes : List ℕ) (fault : Fault) → memory ≡ Ok bytes → place ≡ Err fault → place_shown base len memory place ≡ Err fault
refused_place base len memory place bytes fault there at =
    ap (λ (m : Result (List ℕ) Fault). place_shown base len m place) there
    ∙ ap (place_shown base len (Ok bytes)) at
