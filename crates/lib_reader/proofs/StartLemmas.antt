-- A library begins with an exclamation mark.
use Rattle.std.proofs.Common.{◌≡◌, ◌≢◌, ◌<◌, ℕ, Bool, ◌&&◌, nat_eq, false, List, [], ◌∷◌, drop, length, slice_index, ap, sym, arith}
use Rattle.std.specs.List.{starts_with}
use Rattle.std.proofs.lemmas.Bool.{ne_eqb}
use Rattle.lib_reader.specs.Constants.{ARCHIVE_START}
use Rattle.lib_reader.specs.LibraryWalk.{has_magic}

pub no_library : (bytes : List ℕ) → 0 < length bytes → slice_index bytes 0 ≢ 0x21 → has_magic bytes ≡ false
no_library [] some other = absurd (omega arith)
no_library (byte ∷ rest) some other =
    ap (λ (first : Bool). first && starts_with nat_eq rest (drop 1 ARCHIVE_START)) (ne_eqb 0x21 byte (λ e. other (sym e)))
