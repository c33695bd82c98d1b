-- What the first byte tells: a short import begins with 0.
use Rattle.std.proofs.Common.{◌≡◌, ◌≢◌, ◌<◌, ℕ, Bool, ◌&&◌, false, List, [], ◌∷◌, length, slice_index, ap, sym, arith}
use Rattle.std.proofs.lemmas.Bool.{ne_eqb}
use Rattle.link_base.specs.NameText.{begins}
use Rattle.module_view.specs.ImportModule.{is_short_import}

pub no_short_import : (bytes : List ℕ) → 0 < length bytes → slice_index bytes 0 ≢ 0 → is_short_import bytes ≡ false
no_short_import [] some other = absurd (omega arith)
no_short_import (byte ∷ rest) some other =
    ap (λ (first : Bool). first && begins rest (0 ∷ 0xFF ∷ 0xFF ∷ 0 ∷ 0 ∷ [])) (ne_eqb 0 byte (λ e. other (sym e)))
