use Rattle.std.proofs.Common.{List, ◌++◌, take, subst, sym, arith}
use Rattle.std.specs.List.{AllZip}
use Rattle.std.proofs.lemmas.List.{append-nil, take_all}
use Rattle.directives.specs.declared.item.Directive.{Directive}
use Rattle.symbol_names.specs.References.{Asked}
use Rattle.symbol_names.specs.Interning.{NotesAsked}
use Rattle.symbol_names.proofs.NotedLemmas.{included, included_more}
use Rattle.symbol_names.proofs.NumberLemmas.{keeps_both}
use Rattle.symbol_names.proofs.references.note_names.Goals as goal

pub loop-directive-init : goal.loop-directive-init
loop-directive-init c = record {
  kept = λ number name is. is;
  noted = λ earlier was. subst (λ (l : List Asked). AllZip (NotesAsked c.args.names.now.keys) l c.args.noted.now.items) (sym (append-nil earlier)) was;
}

pub returns-in_err-note_name-clause-kept : goal.returns-in_err-note_name-clause-kept
returns-in_err-note_name-clause-kept c = keeps_both _ _ _ c.loop-directive.invariant.kept c.note_name.ensures.kept

pub loop-directive-preserved : goal.loop-directive-preserved
loop-directive-preserved c =
    let i = c.loop-directive.directive-index in
    let item = c.directive-item.result in
    record {
      kept = keeps_both _ _ _ c.loop-directive.invariant.kept c.note_name.ensures.kept;
      noted = λ earlier was.
          subst (λ (l : List Asked). AllZip (NotesAsked c.note_name.new.names.keys) l c.note_name.new.noted.items)
          (sym (included_more earlier c.args.directives.now i item (omega arith) c.directive-item.is))
          (c.in_ok-note_name.ensures.noted (earlier ++ included (take i c.args.directives.now)) (c.loop-directive.invariant.noted earlier was));
    }

pub returns-clause-kept : goal.returns-clause-kept
returns-clause-kept c = c.loop-directive.invariant.kept

pub returns-clause-noted : goal.returns-clause-noted
returns-clause-noted c = λ earlier was.
    subst (λ (ds : List Directive). AllZip (NotesAsked c.loop-directive.names.keys) (earlier ++ included ds) c.loop-directive.noted.items) (take_all c.loop-directive.directive-index c.args.directives.now (omega arith)) (c.loop-directive.invariant.noted earlier was)
