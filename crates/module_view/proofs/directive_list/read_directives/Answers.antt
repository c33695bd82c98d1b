use Rattle.std.proofs.Common.{map, filter_map, sym, ap, ◌∙◌}
use Rattle.directives.specs.Said.{said}
use Rattle.module_view.specs.ModuleDirectives.{well_formed}
use Rattle.module_view.proofs.DirectiveLemmas.{first_bad, nothing_said}
use Rattle.module_view.proofs.directive_list.read_directives.Goals as goal

pub returns-then-not-has_any-clause-directives : goal.returns-then-not-has_any-clause-directives
returns-then-not-has_any-clause-directives c =
    ap (map said) c.new.ensures.items
    ∙ ap (filter_map well_formed) (sym (nothing_said c.args.object.now (sym c.requires ∙ c.if-not-has_any.true)))

pub returns-then-not-has_any-clause-accepted : goal.returns-then-not-has_any-clause-accepted
returns-then-not-has_any-clause-accepted c =
    ap first_bad (nothing_said c.args.object.now (sym c.requires ∙ c.if-not-has_any.true))
