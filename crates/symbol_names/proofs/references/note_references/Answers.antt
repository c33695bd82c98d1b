use Rattle.std.proofs.Common.{List, ◌++◌, map, subst, sym, refl, arith}
use Rattle.std.specs.List.{AllZip}
use Rattle.std.proofs.lemmas.List.{append-nil, take_all}
use Rattle.module_view.specs.declared.reference.Reference.{Reference}
use Rattle.symbol_names.specs.References.{Asked, asked_by_symbol}
use Rattle.symbol_names.specs.Interning.{IsNamedSo, NotesAsked}
use Rattle.symbol_names.proofs.NumberLemmas.{all_item, keeps_both}
use Rattle.symbol_names.proofs.NotedLemmas.{asked_more}
use Rattle.symbol_names.proofs.references.note_references.Goals as goal

pub loop-reference-init : goal.loop-reference-init
loop-reference-init c = record {
  kept = λ number name is. is;
  noted = λ earlier was. subst (λ (l : List Asked). AllZip (NotesAsked c.args.names.now.keys) l c.args.noted.now.items) (sym (append-nil earlier)) was;
  records = λ bytes named are. are;
}

pub returns-in_err-name-clause-kept : goal.returns-in_err-name-clause-kept
returns-in_err-name-clause-kept c = keeps_both _ _ _ c.loop-reference.invariant.kept c.number_symbol.ensures.kept

pub returns-in_err-push-clause-kept : goal.returns-in_err-push-clause-kept
returns-in_err-push-clause-kept c = keeps_both _ _ _ c.loop-reference.invariant.kept c.number_symbol.ensures.kept

pub loop-reference-preserved : goal.loop-reference-preserved
loop-reference-preserved c =
    let i = c.loop-reference.reference-index in
    let item = c.reference-item.result in
    record {
      kept = keeps_both _ _ _ c.loop-reference.invariant.kept c.number_symbol.ensures.kept;
      noted = λ earlier was.
          asked_more asked_by_symbol c.loop-reference.names.keys c.number_symbol.new.names.keys c.number_symbol.ensures.kept earlier c.args.references.now i item c.loop-reference.noted.items c.push.new.self.items _ (omega arith) c.reference-item.is (c.loop-reference.invariant.noted earlier was) (record { named = c.in_ok-name.ensures.numbered; search_is = refl }) c.in_ok-push.ensures.items;
      records = λ bytes named are.
          c.in_ok-name.ensures.records bytes
          (all_item (λ (r : Reference). IsNamedSo bytes r.symbol r.name) c.args.references.now i item named (omega arith) c.reference-item.is)
          (c.loop-reference.invariant.records bytes named are);
    }

pub returns-clause-kept : goal.returns-clause-kept
returns-clause-kept c = c.loop-reference.invariant.kept

pub returns-clause-noted : goal.returns-clause-noted
returns-clause-noted c = λ earlier was.
    subst (λ (rs : List Reference). AllZip (NotesAsked c.loop-reference.names.keys) (earlier ++ map asked_by_symbol rs) c.loop-reference.noted.items) (take_all c.loop-reference.reference-index c.args.references.now (omega arith)) (c.loop-reference.invariant.noted earlier was)

pub returns-clause-records : goal.returns-clause-records
returns-clause-records c = c.loop-reference.invariant.records
