-- What the first byte tells: that of an object for x64 begins none of the forms that are not read.
use Rattle.std.proofs.Common.{◌≡◌, ◌<◌, ℕ, List, [], ◌∷◌, length, slice_index, None, refl, arith}
use Rattle.coff_object.specs.Forms.{form_shown, resource_start}

pub no_form : (bytes : List ℕ) → 0 < length bytes → slice_index bytes 0 ≡ 0x64 → form_shown bytes ≡ None
unfolding form_shown resource_start
no_form [] some is = absurd (omega arith)
no_form (byte ∷ rest) some is = let first : byte ≡ 0x64 = is in rw first refl
