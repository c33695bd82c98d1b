-- Worked values of what is shown.
use Rattle.std.proofs.Common.{◌≡◌, ◌∷◌, [], ◌++◌, Some, Ok, Err, refl}
use Rattle.std.specs.Prelude.{codes}
use Rattle.hex.specs.Hex.{encode_with}
use Rattle.link_base.specs.declared.fault.Fault.TheVariants as faults
use Rattle.link_base.specs.declared.kinds.database.PdbKind.TheVariants.{Hash}
use Rattle.image_show.specs.SymbolPlace.{public_place, searched_place}
use Rattle.image_show.specs.ShownBytes.{memory_shown, place_shown}

-- two bytes from RVA 1 on of a memory of four
inside : memory_shown 0x140000000 1 2 (0x0A ∷ 0xFF ∷ 0x1B ∷ 0 ∷ []) ≡ Ok (codes "0000000140000001 ff1b" ++ (10 ∷ []))
unfolding encode_with
inside = refl

-- no bytes at the end of the memory
nothing : memory_shown 0x180000000 4 0 (1 ∷ 2 ∷ 3 ∷ 4 ∷ []) ≡ Ok (codes "0000000180000004 " ++ (10 ∷ []))
unfolding encode_with
nothing = refl

-- one byte more than there is
outside : memory_shown 0x140000000 3 2 (1 ∷ 2 ∷ 3 ∷ 4 ∷ []) ≡ Err (faults.LengthRange 5)
outside = refl

-- an offset that leads beyond 32 bits does not wrap
beyond : place_shown 0x140000000 8 (Ok (1 ∷ 2 ∷ [])) (public_place (codes "f") (Some (0x1000, 0x20)) 0xFFFFFFFF) ≡ Err (faults.LengthRange 0x100001007)
beyond = refl

-- the image is judged before the program database
first : place_shown 0x140000001 8 (Err (faults.BasePermit 0x140000001)) (searched_place (Some Hash) (Ok 0)) ≡ Err (faults.BasePermit 0x140000001)
first = refl
