use Rattle.std.proofs.Common.{sym, subst}
use Rattle.std.proofs.lemmas.Bool.{not-true, ne_eqb}
use Rattle.link_base.specs.Bytes.{is_nul}
use Rattle.section_rules.specs.SoughtNames.{BeginsOtherwise}
use Rattle.section_rules.proofs.SoughtLemmas.{otherwise_before}
use Rattle.module_view.proofs.sections.is_plain.Goals as goal

pub returns-then-field-ne47-clause-otherwise : goal.returns-then-field-ne47-clause-otherwise
returns-then-field-ne47-clause-otherwise c =
    λ other. subst BeginsOtherwise (sym (c.section_name_field-field.ensures.name (ne_eqb _ 47 c.if-field-ne47.true))) (otherwise_before is_nul c.section_name_field-field.result.now (c.begins_sought.ensures.other (not-true c.begins_sought.result other)))
