-- The length of an identifier.
use Rattle.std.proofs.Common.{◌≡◌, ℕ, List, length, refl}
use Rattle.sha1.specs.Sha1.{sha1, digest_bytes}
use Rattle.debug_entry.specs.Identifier.{image_identifier}

pub length-identifier : (image : List ℕ) → length (image_identifier image) ≡ 16
unfolding image_identifier sha1 digest_bytes
length-identifier image = refl
