use Rattle.std.proofs.Common.{ℕ, [], take, max, fold, sym, ap, ◌∙◌, arith}
use Rattle.std.specs.Map.{lookup}
use Rattle.std.proofs.lemmas.List.Sums.{fold-append}
use Rattle.link_base.specs.NameText.{same_name}
use Rattle.link_directives.specs.Alignments.{raised_by}
use Rattle.link_directives.specs.LinkDirectives.{asked_by, asked_alignments, raised_alignment}
use Rattle.link_directives.proofs.PassLemmas.{picked, picked_of_more}
use Rattle.link_directives.proofs.alignments.CommonAlignments.of.Goals as goal

pub loop-module-init : goal.loop-module-init
unfolding raised_alignment
loop-module-init c = λ name alignment. ap (λ entries. raised_by (lookup (same_name name) entries) alignment) c.new-powers.ensures.empty

pub loop-module-preserved : goal.loop-module-preserved
unfolding raised_alignment
loop-module-preserved c = λ name alignment.
    let modules = c.args.modules.now in
    let i = c.loop-module.module-index in
    let directives = c.directives.result.now in
    c.in_ok-note_powers.ensures name alignment
    ∙ ap (λ (n : ℕ). fold max n (picked (asked_by name) directives)) (c.loop-module.invariant name alignment)
    ∙ sym (fold-append max alignment (asked_alignments (take i modules) name) (picked (asked_by name) directives))
    ∙ ap (fold max alignment) (picked_of_more (asked_by name) [] modules i c.module-item.result directives (omega arith) c.module-item.is c.directives.ensures.directives)
