-- The identifier of an image: one of version 5, of the file as a name in a namespace of its own (RFC 9562, section 5.5; the
-- namespace is own).
use Rattle.std.specs.Prelude.{ℕ, List, [], ◌∷◌, ◌++◌, take}
use Rattle.sha1.specs.Sha1.{sha1}
use Rattle.uuid.specs.Parts.{with_version, with_variant}
use Rattle.uuid.specs.declared.Variant.TheVariants.{RFC4122}
use Rattle.uuid.specs.declared.Version.TheVariants.{Sha1}

abbrev pub image_namespace : List ℕ
image_namespace = 0 ∷ 1 ∷ 2 ∷ 3 ∷ 4 ∷ 5 ∷ 6 ∷ 7 ∷ 8 ∷ 9 ∷ 10 ∷ 11 ∷ 12 ∷ 13 ∷ 14 ∷ 15 ∷ []

unfoldable pub image_identifier : List ℕ → List ℕ
image_identifier image = with_version (with_variant (take 16 (sha1 (image_namespace ++ image))) RFC4122) Sha1
