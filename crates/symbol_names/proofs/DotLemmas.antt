-- The import prefix has no dot.
use Rattle.std.proofs.Common.{◌≡◌, ℕ, Bool, true, false, List, refl, sym, ap, ◌∙◌}
use Rattle.std.specs.List.{list_any}
use Rattle.link_base.specs.NameText.{begins_import, behind_import, with_import}
use Rattle.link_base.proofs.SectionNameLemmas.{text_made}
use Rattle.symbol_names.specs.Exports.{is_dot}

pub dot_behind : (name : List ℕ) → list_any is_dot (behind_import name) ≡ list_any is_dot name
dot_behind name = sym (ap (list_any is_dot) (text_made name) ∙ by_prefix (begins_import name))
  where
    by_prefix : (b : Bool) → list_any is_dot (with_import b (behind_import name)) ≡ list_any is_dot (behind_import name)
    by_prefix true = refl
    by_prefix false = refl
