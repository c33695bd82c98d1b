use Rattle.std.proofs.Common.{ℕ, [], ◌∷◌, take, max, fold, sym, ap, ◌∙◌, arith}
use Rattle.std.specs.List.{filter_map}
use Rattle.std.proofs.lemmas.List.Sums.{fold-append}
use Rattle.indexmap.specs.IndexMap.{get}
use Rattle.link_base.specs.NameText.{same_name}
use Rattle.directives.specs.Said.{said}
use Rattle.link_directives.specs.Alignments.{raised_by}
use Rattle.link_directives.specs.LinkDirectives.{asked_by}
use Rattle.link_directives.proofs.PassLemmas.{picked, picked_more}
use Rattle.link_directives.proofs.alignments.note_powers.Goals as goal

pub loop-directive-preserved : goal.loop-directive-preserved
loop-directive-preserved c = λ name alignment.
    let directives = c.args.directives.now in
    let i = c.loop-directive.directive-index in
    let one = c.directive-item.result in
    let start = raised_by (get same_name c.args.powers.now name) alignment in
    let last = filter_map (asked_by name) (said one ∷ []) in
    c.in_ok-note_directive.ensures name alignment
    ∙ ap (λ (n : ℕ). fold max n last) (c.loop-directive.invariant name alignment)
    ∙ sym (fold-append max start (picked (asked_by name) (take i directives)) last)
    ∙ ap (fold max start) (picked_more (asked_by name) [] directives i one (omega arith) c.directive-item.is)
