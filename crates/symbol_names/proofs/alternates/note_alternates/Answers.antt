use Rattle.std.proofs.Common.{ℕ, List, [], subst, sym, arith}
use Rattle.std.specs.List.{AllZip}
use Rattle.std.proofs.lemmas.List.{take_all}
use Rattle.symbol_names.specs.Interning.{NotesAlternate}
use Rattle.symbol_names.proofs.NumberLemmas.{alternate_kept, zip_more, keeps_both}
use Rattle.symbol_names.proofs.alternates.note_alternates.Goals as goal

pub loop-pair-init : goal.loop-pair-init
loop-pair-init c = record {
  kept = λ number name is. is;
  noted = subst (AllZip (NotesAlternate c.args.names.now.keys) []) (sym c.in_ok-noted.ensures.items) tt;
}

pub returns-in_err-one-clause-kept : goal.returns-in_err-one-clause-kept
returns-in_err-one-clause-kept c = keeps_both _ _ _ c.loop-pair.invariant.kept c.note_pair.ensures.kept

pub returns-in_err-push-clause-kept : goal.returns-in_err-push-clause-kept
returns-in_err-push-clause-kept c = keeps_both _ _ _ c.loop-pair.invariant.kept c.note_pair.ensures.kept

pub loop-pair-preserved : goal.loop-pair-preserved
loop-pair-preserved c =
    let before = c.loop-pair.names.keys in
    let after = c.note_pair.new.names.keys in
    record {
      kept = keeps_both _ _ _ c.loop-pair.invariant.kept c.note_pair.ensures.kept;
      noted = zip_more (NotesAlternate before) (NotesAlternate after) c.args.pairs.now c.loop-pair.pair-index c.pair-item.result c.loop-pair.noted.items c.push.new.self.items _ (alternate_kept before after c.note_pair.ensures.kept) (omega arith) c.pair-item.is c.loop-pair.invariant.noted c.in_ok-one.ensures.noted c.in_ok-push.ensures.items;
    }

pub returns-clause-kept : goal.returns-clause-kept
returns-clause-kept c = c.loop-pair.invariant.kept

pub returns-clause-noted : goal.returns-clause-noted
returns-clause-noted c =
    subst (λ (ps : List (List ℕ × List ℕ)). AllZip (NotesAlternate c.loop-pair.names.keys) ps c.loop-pair.noted.items) (take_all c.loop-pair.pair-index c.args.pairs.now (omega arith)) c.loop-pair.invariant.noted
