use Rattle.std.proofs.Common.{sym, ap, subst, ◌∙◌, lit≤}
use Rattle.std.proofs.lemmas.Bool.{false≢true}
use Rattle.section_rules.specs.SoughtNames.{is_linker_section, BeginsOtherwise}
use Rattle.section_rules.proofs.SoughtLemmas.{is_linker_section-take}
use Rattle.module_view.proofs.sections.section_form.Goals as goal

pub returns-then-is_long_section : goal.returns-then-is_long_section
returns-then-is_long_section c = record {
  linker = c.is_linker_section.ensures ∙ ap is_linker_section c.section_name_start-name.ensures ∙ is_linker_section-take 7 _ (lit≤ tt);
  long = sym c.if-is_long_section.true ∙ c.is_long_section.ensures;
  comdat = λ short. absurd (false≢true (sym short));
  directives = λ short. absurd (false≢true (sym short));
  resources = λ short. absurd (false≢true (sym short));
}

pub plain_form-requires-clause-otherwise : goal.plain_form-requires-clause-otherwise
plain_form-requires-clause-otherwise c =
    subst BeginsOtherwise c.section_name_start.ensures (c.may_be_sought.ensures c.if-not-may_be_sought.true)
