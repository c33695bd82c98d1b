use Rattle.std.proofs.Common.{ℕ, ap, ◌+◌, ◌<◌, refl, sym, ◌∙◌, arith}
use Rattle.coff_records.specs.ObjectFile.{section_total, section_name_of}
use Rattle.link_base.specs.Bytes.{has_flag}
use Rattle.link_base.specs.PeFormat.{SCN_LNK_COMDAT}
use Rattle.link_base.proofs.TestLemmas.{or_left, or_right}
use Rattle.coff_aux.specs.Comdats.{is_comdat}
use Rattle.module_view.specs.ModuleDirectives.{holds_directives}
use Rattle.module_view.specs.Resources.{holds_resources}
use Rattle.section_rules.specs.SoughtNames.{is_linker_section}
use Rattle.section_rules.proofs.SoughtLemmas.{otherwise_start}
use Rattle.module_view.specs.Opening.{is_long}
use Rattle.module_view.specs.Steps.{section_form}
use Rattle.module_view.proofs.SectionLemmas.{some_section, same_sections, no_section, any_section, plain_shows}
use Rattle.module_view.proofs.sections.judge_sections.Goals as goal

pub returns-then-form-clause-refused : goal.returns-then-form-clause-refused
unfolding section_form
returns-then-form-clause-refused c =
    let bytes = c.args.object.now in
    let i = c.loop-index.index in
    let within : i < section_total bytes = omega (arith, c.section_count-index-end.ensures) in
    rw (some_section (λ section. is_linker_section (section_name_of bytes section)) i (section_total bytes) (i + 1) (omega arith) within (sym c.section_form-form.ensures.linker ∙ c.if-form.true)) refl

pub loop-index-preserved-then-is_plain : goal.loop-index-preserved-then-is_plain
loop-index-preserved-then-is_plain c =
    let bytes = c.args.object.now in
    let i = c.loop-index.index in
    let name = section_name_of bytes (i + 1) in
    let marked = c.is_comdat-has_comdat.ensures ∙ ap (λ (flags : ℕ). has_flag flags SCN_LNK_COMDAT) c.section_flags.ensures in
    let shown = plain_shows bytes (i + 1) c.is_comdat-has_comdat.result (c.is_plain.ensures.short c.if-is_plain.true) (otherwise_start name (c.is_plain.ensures.otherwise c.if-is_plain.true)) marked in
    record {
      linker = no_section (λ section. is_linker_section (section_name_of bytes section)) i (i + 1) (omega arith) c.loop-index.invariant.linker (sym shown.linker);
      long = same_sections (λ section. is_long (section_name_of bytes section)) i (i + 1) c.loop-index.long (omega arith) c.loop-index.invariant.long (sym shown.long);
      comdat = λ short. any_section (is_comdat bytes) i (i + 1) c.loop-index.has_comdat c.is_comdat-has_comdat.result (omega arith) (c.loop-index.invariant.comdat short) (shown.comdat refl);
      directives = λ short. same_sections (holds_directives bytes) i (i + 1) c.loop-index.has_directives (omega arith) (c.loop-index.invariant.directives short) (sym (shown.directives refl));
      resources = λ short. same_sections (holds_resources bytes) i (i + 1) c.loop-index.has_resources (omega arith) (c.loop-index.invariant.resources short) (sym (shown.resources refl));
    }

pub loop-index-preserved : goal.loop-index-preserved
loop-index-preserved c =
    let bytes = c.args.object.now in
    let i = c.loop-index.index in
    let form = c.section_form-form.result in
    record {
      linker = no_section (λ section. is_linker_section (section_name_of bytes section)) i (i + 1) (omega arith) c.loop-index.invariant.linker (sym c.section_form-form.ensures.linker ∙ c.if-form.false);
      long = any_section (λ section. is_long (section_name_of bytes section)) i (i + 1) c.loop-index.long form.is_long (omega arith) c.loop-index.invariant.long c.section_form-form.ensures.long;
      comdat = λ short. any_section (is_comdat bytes) i (i + 1) c.loop-index.has_comdat form.is_comdat (omega arith) (c.loop-index.invariant.comdat (or_left c.loop-index.long form.is_long short)) (c.section_form-form.ensures.comdat (or_right c.loop-index.long form.is_long short));
      directives = λ short. any_section (holds_directives bytes) i (i + 1) c.loop-index.has_directives form.holds_directives (omega arith) (c.loop-index.invariant.directives (or_left c.loop-index.long form.is_long short)) (c.section_form-form.ensures.directives (or_right c.loop-index.long form.is_long short));
      resources = λ short. any_section (holds_resources bytes) i (i + 1) c.loop-index.has_resources form.holds_resources (omega arith) (c.loop-index.invariant.resources (or_left c.loop-index.long form.is_long short)) (c.section_form-form.ensures.resources (or_right c.loop-index.long form.is_long short));
    }
