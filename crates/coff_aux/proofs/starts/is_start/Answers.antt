use Rattle.std.proofs.Common.{eqb, refl, sym, ap, ◌∙◌}
use Rattle.std.specs.List.{list_any}
use Rattle.std.proofs.lemmas.Bool.{eq-eqb, ne_eqb}
use Rattle.coff_records.specs.ObjectFile.{SymbolEntry}
use Rattle.coff_aux.proofs.StartLemmas.{starts_among, still_none, found_among}
use Rattle.coff_aux.proofs.starts.is_start.Goals as goal

pub loop-index-init : goal.loop-index-init
loop-index-init c =
    let all = c.into_iter-index-iterator.ensures.into_iter_gives ∙ c.symbols-index-items.ensures in
    record {
      can = tt;
      ends = tt;
      left = ap (list_any (λ (e : SymbolEntry). eqb e.0 c.args.j)) all ∙ starts_among c.args.object.now c.args.j;
    }

pub returns-then-index-j : goal.returns-then-index-j
returns-then-index-j c =
    sym (found_among (λ (e : SymbolEntry). eqb e.0 c.args.j) c.loop-index.index-iterator c.next.new.self (c.in-Some.index, c.in-Some.field-0-1) _ (eqb c.in-Some.index c.args.j) c.in-Some.ensures.steps c.loop-index.invariant.left refl (eq-eqb c.in-Some.index c.args.j c.if-index-j.true))

pub loop-index-preserved : goal.loop-index-preserved
loop-index-preserved c = record {
  can = tt;
  ends = tt;
  left = still_none (λ (e : SymbolEntry). eqb e.0 c.args.j) c.loop-index.index-iterator c.next.new.self (c.in-Some.index, c.in-Some.field-0-1) _ (eqb c.in-Some.index c.args.j) c.in-Some.ensures.steps c.loop-index.invariant.left refl (ne_eqb c.in-Some.index c.args.j c.if-index-j.false);
}
