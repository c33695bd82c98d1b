-- The relocations that are left, one after the other.
use Rattle.std.proofs.Common.{◌≡◌, ℕ, zero, suc, ◌+◌, ◌-◌, ◌*◌, ◌<◌, List, [], ◌∷◌, refl, arith}
use Rattle.coff_records.specs.Relocations.{relocation_at, relocations_from}

pub relocations_from-none : (file : List ℕ) (place index count : ℕ) → count ≡ 0 → relocations_from file place index count ≡ []
unfolding relocations_from
relocations_from-none file place index count none = rw none refl

pub relocations_from-more : (file : List ℕ) (place index count : ℕ) → 0 < count → relocations_from file place index count ≡ relocation_at file (place + 10 * index) ∷ relocations_from file place (index + 1) (count - 1)
unfolding relocations_from
relocations_from-more file place index zero some = absurd (omega arith)
relocations_from-more file place index (suc count) some =
    let before : suc count - 1 ≡ count = omega arith in rw before refl
