use Rattle.std.proofs.Common.{ℕ, List, [], map, subst, sym, refl, arith}
use Rattle.std.specs.List.{AllZip}
use Rattle.std.proofs.lemmas.List.{take_all}
use Rattle.symbol_names.specs.References.{asked_by_name}
use Rattle.symbol_names.specs.Interning.{NotesAsked}
use Rattle.symbol_names.proofs.NotedLemmas.{asked_more}
use Rattle.symbol_names.proofs.NumberLemmas.{keeps_both}
use Rattle.symbol_names.proofs.references.note_words.Goals as goal

pub loop-word-init : goal.loop-word-init
loop-word-init c = record {
  kept = λ number name is. is;
  noted = subst (AllZip (NotesAsked c.args.names.now.keys) []) (sym c.in_ok-noted.ensures.items) tt;
}

pub returns-in_err-name-clause-kept : goal.returns-in_err-name-clause-kept
returns-in_err-name-clause-kept c = keeps_both _ _ _ c.loop-word.invariant.kept c.number_of.ensures.kept

pub returns-in_err-push-clause-kept : goal.returns-in_err-push-clause-kept
returns-in_err-push-clause-kept c = keeps_both _ _ _ c.loop-word.invariant.kept c.number_of.ensures.kept

pub loop-word-preserved : goal.loop-word-preserved
loop-word-preserved c = record {
  kept = keeps_both _ _ _ c.loop-word.invariant.kept c.number_of.ensures.kept;
  noted = asked_more asked_by_name c.loop-word.names.keys c.number_of.new.names.keys c.number_of.ensures.kept [] c.args.words.now c.loop-word.word-index c.word-item.result c.loop-word.noted.items c.push.new.self.items _ (omega arith) c.word-item.is c.loop-word.invariant.noted (record { named = c.in_ok-name.ensures.numbered; search_is = refl }) c.in_ok-push.ensures.items;
}

pub returns-clause-kept : goal.returns-clause-kept
returns-clause-kept c = c.loop-word.invariant.kept

pub returns-clause-noted : goal.returns-clause-noted
returns-clause-noted c =
    subst (λ (ws : List (List ℕ)). AllZip (NotesAsked c.loop-word.names.keys) (map asked_by_name ws) c.loop-word.noted.items) (take_all c.loop-word.word-index c.args.words.now (omega arith)) c.loop-word.invariant.noted
