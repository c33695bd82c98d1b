use Rattle.std.proofs.Common.{List, ℕ, ap, ◌∙◌}
use Rattle.std.specs.List.{before_first}
use Rattle.lib_reader.specs.MemberName.{ends_long_name}
use Rattle.link_base.proofs.FoundLemmas.{before_place, before_none}
use Rattle.lib_reader.proofs.long_name.text_from.Goals as goal

pub returns-in_default : goal.returns-in_default
returns-in_default c =
    before_none ends_long_name c.split_at.result.1.now c.in_default.ensures
    ∙ ap (λ (text : List ℕ). before_first ends_long_name text) c.split_at.ensures.back

pub returns : goal.returns
returns c =
    c.split_at-2.ensures.front
    ∙ (before_place ends_long_name c.split_at.result.1.now c.in-Some.len c.in-Some.ensures
    ∙ ap (λ (text : List ℕ). before_first ends_long_name text) c.split_at.ensures.back)
