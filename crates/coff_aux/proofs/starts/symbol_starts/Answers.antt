use Rattle.std.proofs.Common.{◌<◌, Bool, eqb, ◌||◌, length, ap, ◌∙◌, arith}
use Rattle.std.specs.List.{list_any}
use Rattle.std.proofs.lemmas.List.{length-set}
use Rattle.coff_records.specs.ObjectFile.{SymbolEntry}
use Rattle.coff_object.proofs.CallerLemmas.{symbols_left-all, symbols_left-step}
use Rattle.coff_aux.proofs.StartLemmas.{starts_among, unmarked, marks_more}
use Rattle.coff_aux.proofs.starts.symbol_starts.Goals as goal

pub loop-index-init : goal.loop-index-init
loop-index-init c =
    let bytes = c.args.object.now in
    let all = c.into_iter-index-iterator.ensures.into_iter_gives ∙ c.symbols-index-items.ensures in
    let entries = c.into_iter-index-iterator.result in
    record {
      can = tt;
      ends = tt;
      left = symbols_left-all bytes entries all;
      count = omega (arith, c.in_ok-starts.ensures.len, c.record_count.ensures);
      starts = λ j.
          ap (λ (b : Bool). b || list_any (λ (e : SymbolEntry). eqb e.0 j) entries) (unmarked c.in_ok-starts.starts.items _ j (c.in_ok-starts.ensures.items_if_clones_equal (λ y e. e)))
          ∙ ap (list_any (λ (e : SymbolEntry). eqb e.0 j)) all ∙ starts_among bytes j;
    }

pub index_mut-requires : goal.index_mut-requires
index_mut-requires c =
    let step = symbols_left-step c.args.object.now c.loop-index.index-iterator c.next.new.self c.in-Some.index c.in-Some.field-0-1 c.loop-index.invariant.left c.in-Some.ensures.steps in
    omega (arith, step.below, c.loop-index.invariant.count)

pub loop-index-preserved : goal.loop-index-preserved
loop-index-preserved c =
    let bytes = c.args.object.now in
    let before = c.loop-index.index-iterator in
    let after = c.next.new.self in
    let entry : SymbolEntry = (c.in-Some.index, c.in-Some.field-0-1) in
    let steps = c.in-Some.ensures.steps in
    let step = symbols_left-step bytes before after c.in-Some.index c.in-Some.field-0-1 c.loop-index.invariant.left steps in
    let marks = c.loop-index.starts.items in
    let within : c.in-Some.index < length marks = omega (arith, step.below, c.loop-index.invariant.count) in
    record {
      can = tt;
      ends = tt;
      left = step.left;
      count = length-set marks c.in-Some.index _ ∙ c.loop-index.invariant.count;
      starts = λ j. marks_more before after entry marks j _ steps within (c.loop-index.invariant.starts j);
    }
