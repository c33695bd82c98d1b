use Rattle.std.proofs.Common.{ℕ, ap, ◌∙◌}
use Rattle.link_base.specs.Bytes.{has_flag}
use Rattle.link_base.specs.PeFormat.{SCN_LNK_COMDAT}
use Rattle.module_view.proofs.SectionLemmas.{plain_shows}
use Rattle.module_view.proofs.sections.plain_form.Goals as goal

pub returns : goal.returns
returns c =
    plain_shows c.args.object.now c.args.number c.is_comdat.result c.requires.short c.requires.otherwise (c.is_comdat.ensures ∙ ap (λ (flags : ℕ). has_flag flags SCN_LNK_COMDAT) c.section_flags.ensures)
