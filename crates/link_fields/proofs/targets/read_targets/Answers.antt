use Rattle.std.proofs.Common.{ℕ, List, None, Some, cond, eqb, slice_index_or, length, ap, ◌∙◌, option_map, arith}
use Rattle.std.specs.List.{find}
use Rattle.std.specs.Option.{option_or}
use Rattle.std.proofs.lemmas.List.{length-replicate}
use Rattle.coff_records.specs.ObjectFile.{SymbolEntry, symbol_at}
use Rattle.coff_object.proofs.CallerLemmas.{symbols_left-all, symbols_left-step}
use Rattle.link_fields.specs.Targets.{symbol_target, is_record}
use Rattle.link_fields.proofs.TargetLemmas.{nothing_noted, noted_more}
use Rattle.link_fields.proofs.targets.read_targets.Goals as goal

pub loop-at-init : goal.loop-at-init
loop-at-init c =
    let bytes = c.args.object.now in
    let all = c.into_iter-at-iterator.ensures.into_iter_gives ∙ c.symbols-at-items.ensures in
    record {
      can = tt;
      ends = tt;
      left = symbols_left-all bytes c.into_iter-at-iterator.result all;
      count = ap length c.in_ok-put_nothing.ensures ∙ length-replicate c.record_count.result _ ∙ c.record_count.ensures;
      noted = λ other.
          ap (λ o. option_or o (option_map (λ (e : SymbolEntry). symbol_target c.args.names.now c.args.position e.1) (find (is_record other) c.into_iter-at-iterator.result))) (nothing_noted c.put_nothing.new.targets.items c.record_count.result other c.in_ok-put_nothing.ensures)
          ∙ ap (λ (es : List SymbolEntry). option_map (λ (e : SymbolEntry). symbol_target c.args.names.now c.args.position e.1) (find (is_record other) es)) all;
    }

pub symbol_target-target-requires-clause-here : goal.symbol_target-target-requires-clause-here
symbol_target-target-requires-clause-here c =
    (symbols_left-step c.args.object.now c.loop-at.at-iterator c.next.new.self c.in-Some.at c.in-Some.symbol c.loop-at.invariant.left c.in-Some.ensures.steps).is
    ∙ ap (λ (bytes : List ℕ). symbol_at bytes c.in-Some.at) c.requires.here

pub note-requires : goal.note-requires
note-requires c =
    let step = symbols_left-step c.args.object.now c.loop-at.at-iterator c.next.new.self c.in-Some.at c.in-Some.symbol c.loop-at.invariant.left c.in-Some.ensures.steps in
    omega (arith, step.below, c.loop-at.invariant.count)

pub loop-at-preserved : goal.loop-at-preserved
loop-at-preserved c =
    let step = symbols_left-step c.args.object.now c.loop-at.at-iterator c.next.new.self c.in-Some.at c.in-Some.symbol c.loop-at.invariant.left c.in-Some.ensures.steps in
    record {
      can = tt;
      ends = tt;
      left = step.left;
      count = c.note.ensures.len ∙ c.loop-at.invariant.count;
      noted = λ other.
          noted_more (λ (e : SymbolEntry). symbol_target c.args.names.now c.args.position e.1) c.loop-at.at-iterator c.next.new.self (c.in-Some.at, c.in-Some.symbol) other _ _ _ c.in-Some.ensures.steps
          (c.note.ensures.noted other ∙ ap (λ t. option_or (slice_index_or c.loop-at.targets.items other None) (cond (eqb c.in-Some.at other) (Some t) None)) c.symbol_target-target.ensures)
          (c.loop-at.invariant.noted other);
    }
