use Rattle.std.proofs.Common.{sym, ◌∙◌}
use Rattle.section_rules.proofs.BaseNameLemmas.{not_debug}
use Rattle.section_rules.proofs.placed_section.is_debug_section.Goals as goal

pub returns-then-not-begins_debug : goal.returns-then-not-begins_debug
returns-then-not-begins_debug c = sym (not_debug c.args.name.now (sym c.begins_debug.ensures ∙ c.if-not-begins_debug.true))
