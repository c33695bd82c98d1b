use Rattle.std.proofs.Common.{List, [], subst, sym, refl, arith}
use Rattle.std.specs.List.{AllZip}
use Rattle.std.proofs.lemmas.List.{take_all}
use Rattle.module_view.specs.declared.definition.Common.{Common}
use Rattle.symbol_names.specs.Interning.{IsNamedSo, NotesCommon}
use Rattle.symbol_names.proofs.NumberLemmas.{common_kept, zip_more, all_item}
use Rattle.symbol_names.proofs.lists.note_commons.Goals as goal

pub loop-common-init : goal.loop-common-init
loop-common-init c = record {
  kept = λ number name is. is;
  noted = subst (AllZip (NotesCommon c.args.names.now.keys) []) (sym c.in_ok-noted.ensures.items) tt;
  records = λ bytes named are. are;
}

pub returns-in_err-name-clause-kept : goal.returns-in_err-name-clause-kept
returns-in_err-name-clause-kept c = λ number name is. c.number_symbol.ensures.kept number name (c.loop-common.invariant.kept number name is)

pub returns-in_err-push-clause-kept : goal.returns-in_err-push-clause-kept
returns-in_err-push-clause-kept c = λ number name is. c.number_symbol.ensures.kept number name (c.loop-common.invariant.kept number name is)

pub loop-common-preserved : goal.loop-common-preserved
loop-common-preserved c =
    let before = c.loop-common.names.keys in
    let after = c.number_symbol.new.names.keys in
    record {
      kept = λ number name is. c.number_symbol.ensures.kept number name (c.loop-common.invariant.kept number name is);
      noted = zip_more (NotesCommon before) (NotesCommon after) c.args.commons.now c.loop-common.common-index c.common-item.result c.loop-common.noted.items c.push.new.self.items _ (common_kept before after c.number_symbol.ensures.kept) (omega arith) c.common-item.is c.loop-common.invariant.noted (record { named = c.in_ok-name.ensures.numbered; symbol_is = refl; size_is = refl }) c.in_ok-push.ensures.items;
      records = λ bytes named are.
          c.in_ok-name.ensures.records bytes
          (all_item (λ (d : Common). IsNamedSo bytes d.symbol d.name) c.args.commons.now c.loop-common.common-index c.common-item.result named (omega arith) c.common-item.is)
          (c.loop-common.invariant.records bytes named are);
    }

pub returns-clause-kept : goal.returns-clause-kept
returns-clause-kept c = c.loop-common.invariant.kept

pub returns-clause-noted : goal.returns-clause-noted
returns-clause-noted c =
    subst (λ (ds : List Common). AllZip (NotesCommon c.loop-common.names.keys) ds c.loop-common.noted.items) (take_all c.loop-common.common-index c.args.commons.now (omega arith)) c.loop-common.invariant.noted

pub returns-clause-records : goal.returns-clause-records
returns-clause-records c = c.loop-common.invariant.records
