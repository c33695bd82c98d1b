use Rattle.std.proofs.Common.{◌+◌, ◌∷◌, [], ◌++◌, List, map, filter_map, ap, ◌∙◌, arith}
use Rattle.std.proofs.lemmas.Result.{err_from_is_err_and}
use Rattle.directives.specs.Said.{said}
use Rattle.directives.specs.declared.item.Directive.{Directive}
use Rattle.module_view.specs.ModuleDirectives.{sections_say, module_directives, bad_directive, well_formed}
use Rattle.module_view.proofs.DirectiveLemmas.{first_bad, sections_left, all_left, one_left, said_more, bad_later, part_refused}
use Rattle.module_view.proofs.directive_list.read_sections.Goals as goal

pub loop-index-init : goal.loop-index-init
loop-index-init c =
    let bytes = c.args.object.now in
    let all = all_left bytes in
    record {
      directives = ap (λ (ds : List Directive). map said ds ++ filter_map well_formed (sections_say bytes (sections_left bytes 0))) c.new-list.ensures.items ∙ ap (filter_map well_formed) all;
      bad = ap first_bad all;
    }

pub returns-in_err-append_section-clause-refused :
    goal.returns-in_err-append_section-clause-refused
returns-in_err-append_section-clause-refused c =
    let bytes = c.args.object.now in
    let k = c.loop-index.index in
    let next = one_left bytes k (omega (arith, c.section_count-index-end.ensures)) in
    let given = err_from_is_err_and c.from_residual.result c.from_residual.ensures.1 in
    rw (given.1, given.2)
    (part_refused (sections_say bytes (sections_left bytes k)) (sections_say bytes ((k + 1) ∷ [])) (sections_say bytes (sections_left bytes (k + 1))) (bad_directive bytes) c.in_err-append_section.field-0.0 next c.loop-index.invariant.bad c.in_err-append_section.ensures.refused)

pub loop-index-preserved : goal.loop-index-preserved
loop-index-preserved c =
    let bytes = c.args.object.now in
    let k = c.loop-index.index in
    let before = sections_say bytes (sections_left bytes k) in
    let here = sections_say bytes ((k + 1) ∷ []) in
    let after = sections_say bytes (sections_left bytes (k + 1)) in
    let next = one_left bytes k (omega (arith, c.section_count-index-end.ensures)) in
    record {
      directives = said_more before here after (map said c.loop-index.list.items) (map said c.append_section.new.list.items) (module_directives bytes) next c.loop-index.invariant.directives c.in_ok-append_section.ensures.directives;
      bad = bad_later before here after (bad_directive bytes) next c.loop-index.invariant.bad c.in_ok-append_section.ensures.accepted;
    }
