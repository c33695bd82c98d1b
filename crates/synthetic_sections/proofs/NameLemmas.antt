-- The prefix of a name has no NUL.
use Rattle.std.proofs.Common.{◌≡◌, ℕ, Bool, true, false, List, refl, ap, ◌∙◌}
use Rattle.std.specs.List.{list_any}
use Rattle.link_base.specs.Bytes.{is_nul}
use Rattle.link_base.specs.NameText.{begins_import, behind_import, with_import}
use Rattle.link_base.proofs.SectionNameLemmas.{text_made}

pub plain_name : (name : List ℕ) → list_any is_nul name ≡ list_any is_nul (behind_import name)
plain_name name = ap (list_any is_nul) (text_made name) ∙ by_prefix (begins_import name)
  where
    by_prefix : (b : Bool) → list_any is_nul (with_import b (behind_import name)) ≡ list_any is_nul (behind_import name)
    by_prefix true = refl
    by_prefix false = refl
