-- What the debug directory of a small image holds: the entry of 30 bytes at the RVA 0x201C, which are at 0x41C in the file,
-- and these bytes, for a PDB with the name `a.pdb` and an identifier of sixteen bytes 7.
use Rattle.std.proofs.Common.{◌≡◌, [], ◌∷◌, ◌++◌, replicate, refl}
use Rattle.std.specs.Prelude.{codes}
use Rattle.link_base.specs.Bytes.{number_bytes}
use Rattle.debug_entry.specs.DebugDirectory.{debug_entry, debug_data}

pub an_entry : debug_entry 0 30 0x201C 0x41C ≡ replicate 12 0 ++ (2 ∷ 0 ∷ 0 ∷ 0 ∷ 30 ∷ 0 ∷ 0 ∷ 0 ∷ 0x1C ∷ 0x20 ∷ 0 ∷ 0 ∷ 0x1C ∷ 0x04 ∷ 0 ∷ 0 ∷ [])
unfolding debug_entry number_bytes
an_entry = refl

pub its_data : debug_data (replicate 16 7) (codes "a.pdb") ≡ codes "RSDS" ++ (replicate 16 7 ++ (1 ∷ 0 ∷ 0 ∷ 0 ∷ 97 ∷ 46 ∷ 112 ∷ 100 ∷ 98 ∷ 0 ∷ []))
unfolding debug_data number_bytes
its_data = refl
