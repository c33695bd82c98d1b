use Rattle.std.proofs.Common.{List, [], ◌∙◌, subst, sym, arith}
use Rattle.std.specs.List.{All, AllZip}
use Rattle.std.proofs.lemmas.List.{take_all}
use Rattle.module_view.specs.declared.reference.Weak.{Weak}
use Rattle.symbol_names.specs.declared.weak_default.WeakDefault.{WeakDefault}
use Rattle.symbol_names.specs.Interning.{KeepsNumbers, IsNamedSo, NotesDefault, NotesWeak}
use Rattle.symbol_names.proofs.NumberLemmas.{weak_kept, records_kept, zip_more, all_item}
use Rattle.symbol_names.proofs.RecordLemmas.{weaks_named}
use Rattle.symbol_names.proofs.lists.note_weaks.Goals as goal

pub loop-weak-init : goal.loop-weak-init
loop-weak-init c = record {
  kept = λ number name is. is;
  noted = subst (AllZip (NotesWeak c.args.names.now.keys c.args.«module».now.bytes) []) (sym c.in_ok-noted.ensures.items) tt;
  records = λ are. are;
}

pub returns-in_err-name-clause-kept : goal.returns-in_err-name-clause-kept
returns-in_err-name-clause-kept c = λ number name is. c.number_symbol.ensures.kept number name (c.loop-weak.invariant.kept number name is)

pub returns-in_err-default-clause-kept : goal.returns-in_err-default-clause-kept
returns-in_err-default-clause-kept c = λ number name is. c.note_default.ensures.kept number name (c.number_symbol.ensures.kept number name (c.loop-weak.invariant.kept number name is))

pub returns-in_err-push-clause-kept : goal.returns-in_err-push-clause-kept
returns-in_err-push-clause-kept c = λ number name is. c.note_default.ensures.kept number name (c.number_symbol.ensures.kept number name (c.loop-weak.invariant.kept number name is))

pub loop-weak-preserved : goal.loop-weak-preserved
loop-weak-preserved c =
    let bytes = c.args.«module».now.bytes in
    let before = c.loop-weak.names.keys in
    let after = c.note_default.new.names.keys in
    let kept : KeepsNumbers before after = λ number name is. c.note_default.ensures.kept number name (c.number_symbol.ensures.kept number name is) in
    record {
      kept = λ number name is. kept number name (c.loop-weak.invariant.kept number name is);
      noted = zip_more (NotesWeak before bytes) (NotesWeak after bytes) c.weaks-weaks.result.now c.loop-weak.weak-index c.weak-item.result c.loop-weak.noted.items c.push.new.self.items _ (weak_kept before after kept bytes) (omega arith) c.weak-item.is c.loop-weak.invariant.noted
          (record {
            named = c.note_default.ensures.kept _ _ c.in_ok-name.ensures.numbered;
            default_is = subst (λ (d : WeakDefault). NotesDefault after d c.in_ok-default.default) c.default_of.ensures c.in_ok-default.ensures.noted;
          }) c.in_ok-push.ensures.items;
      records = λ are.
          records_kept _ after c.note_default.ensures.kept bytes _
          (c.in_ok-name.ensures.records bytes
          (all_item (λ (w : Weak). IsNamedSo bytes w.symbol w.name) c.weaks-weaks.result.now c.loop-weak.weak-index c.weak-item.result
          (subst (λ (ws : List Weak). All (λ w. IsNamedSo bytes w.symbol w.name) ws) (sym c.weaks-weaks.ensures.weaks) (weaks_named bytes)) (omega arith) c.weak-item.is)
          (c.loop-weak.invariant.records are));
    }

pub returns-clause-kept : goal.returns-clause-kept
returns-clause-kept c = c.loop-weak.invariant.kept

pub returns-clause-noted : goal.returns-clause-noted
returns-clause-noted c =
    subst (λ (ws : List Weak). AllZip (NotesWeak c.loop-weak.names.keys c.args.«module».now.bytes) ws c.loop-weak.noted.items) (take_all c.loop-weak.weak-index c.weaks-weaks.result.now (omega arith) ∙ c.weaks-weaks.ensures.weaks) c.loop-weak.invariant.noted

pub returns-clause-records : goal.returns-clause-records
returns-clause-records c = c.loop-weak.invariant.records
