use Rattle.std.proofs.Common.{◌≡◌, ℕ, ◌<◌, false, List, length, map, get_or, None, refl, sym, ap, ◌∙◌, subst}
use Rattle.std.specs.List.{All}
use Rattle.section_group.specs.SectionOrder.{no_piece}
use Rattle.section_group.specs.PieceContents.{HasItsBytes}
use Rattle.module_view.specs.Opening.{IsOpened}
use Rattle.link_imports.specs.Imports.{AreImports}
use Rattle.link_pieces.specs.TablePieces.{kept_imports, is_table}
use Rattle.std.proofs.lemmas.Result.{err_from_is_err_and}
use Rattle.link_base.specs.Refusals.{RefusesFor}
use Rattle.module_view.specs.Module.{ModuleView}
use Rattle.res_merge.specs.Entries.{entry_of}
use Rattle.res_merge.specs.Order.{AreMergeable}
use Rattle.res_merge.specs.Found.{AreNumbered}
use Rattle.link_pieces.specs.LinkParts.{LinkParts}
use Rattle.link_directives.specs.LinkDirectives.{link_merges}
use Rattle.link_words.specs.Outcome.{options_said}
use Rattle.link_pieces.specs.ChoiceFaults.{conflict_fault, clash_fault}
use Rattle.link_plan.specs.PlanFaults.{mismatch_fault, meaning_fault, fields_fault, plan_fault}
use Rattle.link_exports.specs.Exports.{AreTold}
use Rattle.link_plan.specs.Laid.{laid_link}
use Rattle.link_plan.specs.Plan.{link_parts}
use Rattle.link_plan.proofs.PlanningLemmas.{names_so, resources_so, own_parts}
use Rattle.link_plan.proofs.StageLemmas.{mismatch_stage, conflict_stage, clash_stage, meaning_stage, fields_stage, no_stage, chosen_so}
use Rattle.link_plan.proofs.planning.plan_of.Goals as goal

pub returns-in_err-check_mismatch-clause-refused :
    goal.returns-in_err-check_mismatch-clause-refused
returns-in_err-check_mismatch-clause-refused c =
    let options = options_said c.args.options.now in
    let link = link_parts options c.args.list.modules.items (map entry_of c.args.list.resources.items) in
    let given = err_from_is_err_and c.from_residual.result c.from_residual.ensures.1 in
    rw (given.1, given.2)
    (mismatch_stage options link c.in_err-check_mismatch.field-0.0
    (subst (λ (ms : List ModuleView). RefusesFor (mismatch_fault ms) c.in_err-check_mismatch.field-0.0) c.deref.ensures.value c.in_err-check_mismatch.ensures.refused))

pub returns-in_err-names-clause-refused : goal.returns-in_err-names-clause-refused
returns-in_err-names-clause-refused c =
    let options = options_said c.args.options.now in
    let link = link_parts options c.args.list.modules.items (map entry_of c.args.list.resources.items) in
    let given = err_from_is_err_and c.from_residual-in_err-names.result c.from_residual-in_err-names.ensures.1 in
    rw (given.1, given.2)
    (conflict_stage options link c.in_err-names.field-0.0
    (ap mismatch_fault (sym c.deref.ensures.value) ∙ c.in_ok-check_mismatch.ensures.accepted)
    (subst (λ (ms : List ModuleView). RefusesFor (conflict_fault ms) c.in_err-names.field-0.0) c.deref-3.ensures.value c.in_err-names.ensures.refused))

pub returns-in_err-check_clash-clause-refused : goal.returns-in_err-check_clash-clause-refused
returns-in_err-check_clash-clause-refused c =
    let options = options_said c.args.options.now in
    let link = link_parts options c.args.list.modules.items (map entry_of c.args.list.resources.items) in
    let names_are = names_so (options_said c.args.options.now) c.args.list.modules.items c.deref-2.result.now (map entry_of c.args.list.resources.items) _ _ _ _ c.in_ok-names.names c.in_ok-names.ensures.names c.requires.names c.in_ok-exports.ensures.exports c.in_ok-debug.ensures c.in_ok-resources.ensures c.deref-2.ensures.value in
    let given = err_from_is_err_and c.from_residual-in_err-check_clash.result c.from_residual-in_err-check_clash.ensures.1 in
    rw (given.1, given.2)
    (clash_stage options link c.in_err-check_clash.field-0.0
    (ap mismatch_fault (sym c.deref.ensures.value) ∙ c.in_ok-check_mismatch.ensures.accepted)
    (ap conflict_fault (sym c.deref-3.ensures.value) ∙ c.in_ok-names.ensures.accepted)
    (ap (λ (l : LinkParts). clash_fault l.modules) (sym names_are) ∙ c.in_err-check_clash.ensures.refused))

pub returns-in_err-exports-clause-refused : goal.returns-in_err-exports-clause-refused
returns-in_err-exports-clause-refused c =
    let given = err_from_is_err_and c.from_residual-in_err-exports.result c.from_residual-in_err-exports.ensures.1 in
    rw (given.1, given.2) tt

pub returns-in_err-debug-clause-refused : goal.returns-in_err-debug-clause-refused
returns-in_err-debug-clause-refused c =
    let given = err_from_is_err_and c.from_residual-in_err-debug.result c.from_residual-in_err-debug.ensures.1 in
    rw (given.1, given.2) tt

pub returns-in_err-resources-clause-refused : goal.returns-in_err-resources-clause-refused
returns-in_err-resources-clause-refused c =
    let given = err_from_is_err_and c.from_residual-in_err-resources.result c.from_residual-in_err-resources.ensures.1 in
    rw (given.1, given.2) tt

pub meanings_of-requires-clause-same : goal.meanings_of-requires-clause-same
meanings_of-requires-clause-same c =
    ap (λ (l : LinkParts). l.modules) (names_so (options_said c.args.options.now) c.args.list.modules.items c.deref-2.result.now (map entry_of c.args.list.resources.items) _ _ _ _ c.in_ok-names.names c.in_ok-names.ensures.names c.requires.names c.in_ok-exports.ensures.exports c.in_ok-debug.ensures c.in_ok-resources.ensures c.deref-2.ensures.value) ∙ sym c.deref-4.ensures.value

pub meanings_of-requires-clause-words : goal.meanings_of-requires-clause-words
meanings_of-requires-clause-words c = ap (λ (l : LinkParts). l.words) (names_so (options_said c.args.options.now) c.args.list.modules.items c.deref-2.result.now (map entry_of c.args.list.resources.items) _ _ _ _ c.in_ok-names.names c.in_ok-names.ensures.names c.requires.names c.in_ok-exports.ensures.exports c.in_ok-debug.ensures c.in_ok-resources.ensures c.deref-2.ensures.value)

pub returns-in_err-meant-clause-refused : goal.returns-in_err-meant-clause-refused
returns-in_err-meant-clause-refused c =
    let options = options_said c.args.options.now in
    let link = link_parts options c.args.list.modules.items (map entry_of c.args.list.resources.items) in
    let names_are = names_so (options_said c.args.options.now) c.args.list.modules.items c.deref-2.result.now (map entry_of c.args.list.resources.items) _ _ _ _ c.in_ok-names.names c.in_ok-names.ensures.names c.requires.names c.in_ok-exports.ensures.exports c.in_ok-debug.ensures c.in_ok-resources.ensures c.deref-2.ensures.value in
    let well =
    chosen_so link c.in_ok-names.names c.deref.result.now c.deref-3.result.now names_are c.deref.ensures.value c.in_ok-check_mismatch.ensures.accepted c.deref-3.ensures.value c.in_ok-names.ensures.accepted c.in_ok-check_clash.ensures.accepted in
    let given = err_from_is_err_and c.from_residual-in_err-meant.result c.from_residual-in_err-meant.ensures.1 in
    rw (given.1, given.2)
    (meaning_stage options link c.in_err-meant.field-0.0 well
    (subst (λ (l : LinkParts). RefusesFor (meaning_fault options l) c.in_err-meant.field-0.0) names_are c.in_err-meant.ensures.refused))

pub lay_pieces-requires-clause-same : goal.lay_pieces-requires-clause-same
lay_pieces-requires-clause-same c =
    ap (λ (l : LinkParts). l.modules) (names_so (options_said c.args.options.now) c.args.list.modules.items c.deref-2.result.now (map entry_of c.args.list.resources.items) _ _ _ _ c.in_ok-names.names c.in_ok-names.ensures.names c.requires.names c.in_ok-exports.ensures.exports c.in_ok-debug.ensures c.in_ok-resources.ensures c.deref-2.ensures.value) ∙ sym c.deref-5.ensures.value

pub returns-in_err-link-clause-refused : goal.returns-in_err-link-clause-refused
returns-in_err-link-clause-refused c =
    let options = options_said c.args.options.now in
    let link = link_parts options c.args.list.modules.items (map entry_of c.args.list.resources.items) in
    let names_are = names_so (options_said c.args.options.now) c.args.list.modules.items c.deref-2.result.now (map entry_of c.args.list.resources.items) _ _ _ _ c.in_ok-names.names c.in_ok-names.ensures.names c.requires.names c.in_ok-exports.ensures.exports c.in_ok-debug.ensures c.in_ok-resources.ensures c.deref-2.ensures.value in
    let well =
    chosen_so link c.in_ok-names.names c.deref.result.now c.deref-3.result.now names_are c.deref.ensures.value c.in_ok-check_mismatch.ensures.accepted c.deref-3.ensures.value c.in_ok-names.ensures.accepted c.in_ok-check_clash.ensures.accepted in
    let meant = ap (meaning_fault options) (sym names_are) ∙ c.in_ok-meant.ensures.accepted in
    let given = err_from_is_err_and c.from_residual-in_err-link.result c.from_residual-in_err-link.ensures.1 in
    rw (given.1, given.2)
    (fields_stage options link c.in_err-link.field-0.0 well meant
    (subst (λ (l : LinkParts). RefusesFor (fields_fault options l) c.in_err-link.field-0.0) names_are c.in_err-link.ensures.refused))

pub returns-in_err-merges-clause-refused : goal.returns-in_err-merges-clause-refused
returns-in_err-merges-clause-refused c =
    let given = err_from_is_err_and c.from_residual-in_err-merges.result c.from_residual-in_err-merges.ensures.1 in
    rw (given.1, given.2) tt

pub returns-clause-planned : goal.returns-clause-planned
returns-clause-planned c =
    let options = options_said c.args.options.now in
    let link = link_parts options c.args.list.modules.items (map entry_of c.args.list.resources.items) in
    let names_are = names_so (options_said c.args.options.now) c.args.list.modules.items c.deref-2.result.now (map entry_of c.args.list.resources.items) _ _ _ _ c.in_ok-names.names c.in_ok-names.ensures.names c.requires.names c.in_ok-exports.ensures.exports c.in_ok-debug.ensures c.in_ok-resources.ensures c.deref-2.ensures.value in
    let well =
    chosen_so link c.in_ok-names.names c.deref.result.now c.deref-3.result.now names_are c.deref.ensures.value c.in_ok-check_mismatch.ensures.accepted c.deref-3.ensures.value c.in_ok-names.ensures.accepted c.in_ok-check_clash.ensures.accepted in
    let meant = ap (meaning_fault options) (sym names_are) ∙ c.in_ok-meant.ensures.accepted in
    let laid = c.in_ok-link.ensures.laid in
    let planned = laid.planned in
    let own = ap (λ (l : LinkParts). l.modules) names_are in
    record {
      opened = subst (All IsOpened) own laid.opened;
      modules_are = refl;
      link_is = record { parts_are = own_parts options c.args.list.modules.items (map entry_of c.args.list.resources.items) c.in_ok-names.names names_are; kept_are = planned.kept_are };
      pieces_are = planned.pieces_are;
      contents_are = planned.contents_are;
      aligned = planned.aligned;
      bodies = subst (λ (ms : List ModuleView). (k : ℕ) → k < length c.in_ok-link.link.laid.pieces.items → is_table (length ms) (get_or c.in_ok-link.link.laid.pieces.items k no_piece) ≡ false → HasItsBytes c.in_ok-link.link.laid.pieces.items k) own planned.bodies;
      few = planned.few;
      fields = planned.fields;
      imports = subst (λ (ms : List ModuleView). AreImports ms (kept_imports (laid_link c.in_ok-names.names c.in_ok-link.link.laid)) c.in_ok-link.link.laid.imports) own planned.imports;
      told = subst AreTold (sym (ap (λ (l : LinkParts). l.exports) c.in_ok-names.ensures.names)) c.in_ok-exports.ensures.told;
      few_modules = c.requires.few;
      mergeable = subst AreMergeable (sym (resources_so options c.args.list.modules.items (map entry_of c.args.list.resources.items) c.in_ok-names.names names_are)) c.requires.mergeable;
      numbered = subst AreNumbered (sym (resources_so options c.args.list.modules.items (map entry_of c.args.list.resources.items) c.in_ok-names.names names_are)) c.requires.numbered;
      merges_are = c.in_ok-merges.ensures ∙ ap (λ (given : List (List ℕ × List ℕ)). link_merges given c.deref-7.result.now) c.deref-6.ensures.value ∙ ap (link_merges options.merges) (c.deref-7.ensures.value ∙ sym own);
      entry_is = planned.entry_is;
      stands = laid.stands;
      tls_is = planned.tls_is;
      tls_stands = laid.tls_stands;
      load_config_is = planned.load_config_is;
      load_config_stands = laid.load_config_stands;
      exported_are = planned.exported_are;
      publics_are = c.in_ok-link.ensures.publics;
      no_fault = ap (plan_fault options) names_are ∙ no_stage options link well meant (subst (λ (l : LinkParts). fields_fault options l ≡ None) names_are laid.no_fault);
    }

pub returns-clause-resources : goal.returns-clause-resources
returns-clause-resources c =
    resources_so (options_said c.args.options.now) c.args.list.modules.items (map entry_of c.args.list.resources.items) c.in_ok-names.names
    (names_so (options_said c.args.options.now) c.args.list.modules.items c.deref-2.result.now (map entry_of c.args.list.resources.items) _ _ _ _ c.in_ok-names.names c.in_ok-names.ensures.names c.requires.names c.in_ok-exports.ensures.exports c.in_ok-debug.ensures c.in_ok-resources.ensures c.deref-2.ensures.value)
