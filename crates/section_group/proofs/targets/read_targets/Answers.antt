use Rattle.std.proofs.Common.{List, ℕ, Option, ap, sym, ◌∙◌}
use Rattle.std.specs.Map.{lookup}
use Rattle.section_group.specs.Merging.{target, preset_merges}
use Rattle.section_group.specs.Merging.{same_name}
use Rattle.section_group.specs.Chains.{target_among}
use Rattle.std.specs.Option.{option_or}
use Rattle.section_group.proofs.ChainLemmas.{target_among-append}
use Rattle.section_group.proofs.targets.read_targets.Goals as goal

pub returns : goal.returns
unfolding target
returns c = λ q.
    let merges = c.args.merges.now in
    c.in_ok-add_targets-2.ensures q
    ∙ ap (λ (o : Option (List ℕ)). option_or o (target_among c.presets.result q)) (c.in_ok-add_targets.ensures q ∙ ap (λ (es : List (List ℕ × List ℕ)). option_or (lookup (same_name q) es) (target_among merges q)) c.new-targets.ensures.empty)
    ∙ ap (λ (p : List (List ℕ × List ℕ)). option_or (target_among merges q) (target_among p q)) c.presets.ensures
    ∙ sym (target_among-append merges preset_merges q)
