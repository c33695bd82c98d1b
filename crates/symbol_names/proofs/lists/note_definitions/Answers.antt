use Rattle.std.proofs.Common.{List, [], subst, sym, refl, arith}
use Rattle.std.specs.List.{AllZip}
use Rattle.std.proofs.lemmas.List.{take_all}
use Rattle.module_view.specs.declared.definition.Definition.{Definition}
use Rattle.symbol_names.specs.Interning.{IsNamedSo, NotesDefinition}
use Rattle.symbol_names.proofs.NumberLemmas.{definition_kept, zip_more, all_item}
use Rattle.symbol_names.proofs.lists.note_definitions.Goals as goal

pub loop-definition-init : goal.loop-definition-init
loop-definition-init c = record {
  kept = λ number name is. is;
  noted = subst (AllZip (NotesDefinition c.args.names.now.keys) []) (sym c.in_ok-noted.ensures.items) tt;
  records = λ bytes named are. are;
}

pub returns-in_err-name-clause-kept : goal.returns-in_err-name-clause-kept
returns-in_err-name-clause-kept c = λ number name is. c.number_symbol.ensures.kept number name (c.loop-definition.invariant.kept number name is)

pub returns-in_err-push-clause-kept : goal.returns-in_err-push-clause-kept
returns-in_err-push-clause-kept c = λ number name is. c.number_symbol.ensures.kept number name (c.loop-definition.invariant.kept number name is)

pub loop-definition-preserved : goal.loop-definition-preserved
loop-definition-preserved c =
    let before = c.loop-definition.names.keys in
    let after = c.number_symbol.new.names.keys in
    record {
      kept = λ number name is. c.number_symbol.ensures.kept number name (c.loop-definition.invariant.kept number name is);
      noted = zip_more (NotesDefinition before) (NotesDefinition after) c.args.definitions.now c.loop-definition.definition-index c.definition-item.result c.loop-definition.noted.items c.push.new.self.items _ (definition_kept before after c.number_symbol.ensures.kept) (omega arith) c.definition-item.is c.loop-definition.invariant.noted (record { named = c.in_ok-name.ensures.numbered; place_is = refl }) c.in_ok-push.ensures.items;
      records = λ bytes named are.
          c.in_ok-name.ensures.records bytes
          (all_item (λ (d : Definition). IsNamedSo bytes d.symbol d.name) c.args.definitions.now c.loop-definition.definition-index c.definition-item.result named (omega arith) c.definition-item.is)
          (c.loop-definition.invariant.records bytes named are);
    }

pub returns-clause-kept : goal.returns-clause-kept
returns-clause-kept c = c.loop-definition.invariant.kept

pub returns-clause-noted : goal.returns-clause-noted
returns-clause-noted c =
    subst (λ (ds : List Definition). AllZip (NotesDefinition c.loop-definition.names.keys) ds c.loop-definition.noted.items) (take_all c.loop-definition.definition-index c.args.definitions.now (omega arith)) c.loop-definition.invariant.noted

pub returns-clause-records : goal.returns-clause-records
returns-clause-records c = c.loop-definition.invariant.records
