use Rattle.std.proofs.Common.{ℕ, List, subst, sym, ap, ◌∙◌}
use Rattle.std.specs.Prelude.{option_map}
use Rattle.link_base.specs.declared.kinds.form.Kind.TheVariants as form
use Rattle.coff_records.specs.ObjectFile.{starts_symbol}
use Rattle.module_view.specs.declared.definition.Definition.{Definition}
use Rattle.module_view.specs.declared.error.ModuleError.TheVariants as error
use Rattle.module_view.specs.SymbolLists.{definitions_of, references_of, weaks_of, commons_of}
use Rattle.coff_aux.specs.AuxFaults.{aux_fault}
use Rattle.module_view.specs.ModuleDirectives.{module_directives, bad_directive}
use Rattle.module_view.specs.Choices.{AreChoices}
use Rattle.module_view.specs.Opening.{RefusesToOpen, unsupported, has_long_symbol_name, directive_error}
use Rattle.module_view.specs.Steps.{section_form}
use Rattle.module_view.specs.Resources.{has_resources}
use Rattle.module_view.proofs.OpeningLemmas.{refused_form, refused_object, refused_sections, refused_symbols, refused_aux, refused_directive, opens}
use Rattle.module_view.proofs.opening.open_object.Goals as goal

pub returns-in-Some-clause-refused : goal.returns-in-Some-clause-refused
returns-in-Some-clause-refused c = refused_form c.args.bytes.now c.in-Some.kind (ap (option_map error.Unsupported) c.in-Some.ensures)

pub returns-in-Err-clause-refused : goal.returns-in-Err-clause-refused
returns-in-Err-clause-refused c =
    refused_object c.args.bytes.now c.in-Err.error (ap (option_map error.Unsupported) c.in_default.ensures) c.in-Err.ensures.refused

pub returns-in-Err-judge_sections-clause-refused :
    goal.returns-in-Err-judge_sections-clause-refused
returns-in-Err-judge_sections-clause-refused c =
    refused_sections c.args.bytes.now c.in-Err-judge_sections.kind (ap (option_map error.Unsupported) c.in_default.ensures) c.in-Ok.ensures.well_formed (ap section_form (sym c.in-Ok.ensures.same_bytes) ∙ c.in-Err-judge_sections.ensures.refused)

pub returns-in-Err-read_symbols-clause-refused : goal.returns-in-Err-read_symbols-clause-refused
returns-in-Err-read_symbols-clause-refused c =
    let same = c.in-Ok.ensures.same_bytes in
    refused_symbols c.args.bytes.now c.in-Err-read_symbols.error (ap (option_map error.Unsupported) c.in_default.ensures) c.in-Ok.ensures.well_formed (ap section_form (sym same) ∙ c.in-Ok-judge_sections.ensures.accepted)
    (subst (λ (bytes : List ℕ). RefusesToOpen (unsupported (has_long_symbol_name bytes) form.LongName) c.in-Err-read_symbols.error) same c.in-Err-read_symbols.ensures.refused)

pub returns-in-Err-judge_aux-clause-refused : goal.returns-in-Err-judge_aux-clause-refused
returns-in-Err-judge_aux-clause-refused c =
    let same = c.in-Ok.ensures.same_bytes in
    refused_aux c.args.bytes.now c.in-Err-judge_aux.error (ap (option_map error.Unsupported) c.in_default.ensures) c.in-Ok.ensures.well_formed (ap section_form (sym same) ∙ c.in-Ok-judge_sections.ensures.accepted) (ap has_long_symbol_name (sym same) ∙ c.in-Ok-read_symbols.ensures.accepted)
    (subst (λ (bytes : List ℕ). RefusesToOpen (option_map error.Object (aux_fault bytes)) c.in-Err-judge_aux.error) same c.in-Err-judge_aux.ensures.refused)

pub returns-in-Err-read_directives-clause-refused :
    goal.returns-in-Err-read_directives-clause-refused
returns-in-Err-read_directives-clause-refused c =
    let same = c.in-Ok.ensures.same_bytes in
    refused_directive c.args.bytes.now c.in-Err-read_directives.error (ap (option_map error.Unsupported) c.in_default.ensures) c.in-Ok.ensures.well_formed (ap section_form (sym same) ∙ c.in-Ok-judge_sections.ensures.accepted) (ap has_long_symbol_name (sym same) ∙ c.in-Ok-read_symbols.ensures.accepted) (ap aux_fault (sym same) ∙ c.in-Ok-judge_aux.ensures.accepted)
    (subst (λ (bytes : List ℕ). RefusesToOpen (directive_error bytes) c.in-Err-read_directives.error) same c.in-Err-read_directives.ensures.refused)

pub invariant_of-result : goal.invariant_of-result
invariant_of-result c =
    let same = c.in-Ok.ensures.same_bytes in
    let lists = c.in-Ok-read_symbols.ensures in
    let listed = c.in-Ok-read_directives.ensures.directives ∙ ap module_directives same in
    record {
      opened = opens c.args.bytes.now (ap (option_map error.Unsupported) c.in_default.ensures) c.in-Ok.ensures.well_formed (ap section_form (sym same) ∙ c.in-Ok-judge_sections.ensures.accepted) (ap has_long_symbol_name (sym same) ∙ c.in-Ok-read_symbols.ensures.accepted) (ap aux_fault (sym same) ∙ c.in-Ok-judge_aux.ensures.accepted) (ap bad_directive (sym same) ∙ c.in-Ok-read_directives.ensures.accepted);
      viewed = same;
      defined = lists.definitions ∙ ap definitions_of same;
      referred = lists.references ∙ ap references_of same;
      weak = lists.weaks ∙ ap weaks_of same;
      common = lists.commons ∙ ap commons_of same;
      started = λ some j. lists.starts some j ∙ ap (λ (bytes : List ℕ). starts_symbol bytes j) same;
      comdats = subst (λ (ds : List Definition). AreChoices c.args.bytes.now ds c.in-Ok-judge_aux.comdats.items) (sym (lists.definitions ∙ ap definitions_of same)) (subst (λ (bytes : List ℕ). AreChoices bytes (definitions_of bytes) c.in-Ok-judge_aux.comdats.items) same c.in-Ok-judge_aux.ensures.comdats);
      said_are = listed;
      resources_are = c.in-Ok-judge_sections.ensures.resources ∙ ap has_resources same;
    }

pub returns-clause-accepted : goal.returns-clause-accepted
returns-clause-accepted c =
    let same = c.in-Ok.ensures.same_bytes in
    opens c.args.bytes.now (ap (option_map error.Unsupported) c.in_default.ensures) c.in-Ok.ensures.well_formed (ap section_form (sym same) ∙ c.in-Ok-judge_sections.ensures.accepted) (ap has_long_symbol_name (sym same) ∙ c.in-Ok-read_symbols.ensures.accepted) (ap aux_fault (sym same) ∙ c.in-Ok-judge_aux.ensures.accepted) (ap bad_directive (sym same) ∙ c.in-Ok-read_directives.ensures.accepted)
