use Rattle.std.proofs.Common.{ℕ, List, ◌++◌, take, ap, ◌∙◌}
use Rattle.sha1.specs.Sha1.{sha1}
use Rattle.uuid.specs.Parts.{with_version, with_variant}
use Rattle.uuid.specs.declared.Variant.TheVariants.{RFC4122}
use Rattle.uuid.specs.declared.Version.TheVariants.{Sha1}
use Rattle.debug_entry.specs.Identifier.{image_identifier}
use Rattle.debug_entry.proofs.identity.image_identifier.Goals as goal

pub returns : goal.returns
unfolding image_identifier
returns c =
    c.into_bytes.ensures ∙ c.new_v5.ensures.value
    ∙ ap (λ (namespace : List ℕ). with_version (with_variant (take 16 (sha1 (namespace ++ c.args.image.now))) RFC4122) Sha1) c.from_bytes-namespace.ensures
