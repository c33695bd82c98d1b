use Rattle.std.proofs.Common.{sym, ◌∙◌}
use Rattle.section_rules.proofs.BaseNameLemmas.{not_cut, not_import}
use Rattle.section_rules.proofs.base_name.has_base_name.Goals as goal

pub returns-then-is_import : goal.returns-then-is_import
returns-then-is_import c =
    sym (not_import c.args.name.now c.args.base.now (sym c.is_import.ensures ∙ c.if-is_import.true) c.requires)

pub returns-then-not-starts_with : goal.returns-then-not-starts_with
returns-then-not-starts_with c =
    sym (not_cut c.args.name.now c.args.base.now c.rest.result.now c.starts_with.result (sym c.is_import.ensures ∙ c.if-is_import.false) c.rest.ensures c.starts_with.ensures.value c.if-not-starts_with.true)
