use Rattle.std.proofs.Common.{◌<◌, refl, ap, ◌∙◌, length, get_or, arith, not, Option, None, Vec, Global}
use Rattle.std.proofs.lemmas.List.{length-set, get_or_default}
use Rattle.std.proofs.lemmas.List.Elements.{All-get_or}
use Rattle.pdb_dbi.specs.declared.rows.Contribution.{Contribution}
use Rattle.pdb_dbi.proofs.ModuleLemmas.{first_noted, first_stays, firsts_are, none_by, some_by}
use Rattle.pdb_dbi.proofs.modules.first_contributions.Goals as goal
use Rattle.pdb_dbi.proofs.modules.first_contributions.Goals.{then-is_none, else-is_none}

-- what an index beyond the list would give
abbrev zeros : Contribution
zeros = record { section = 0; offset = 0; size = 0; flags = 0; «module» = 0; coff = 0 }

pub loop-row-preserved : goal.loop-row-preserved
loop-row-preserved c =
    let row = get_or c.args.list.now c.loop-row.row-index zeros in
    let below : row.«module» < c.args.count = All-get_or (λ x. x.«module» < c.args.count) c.args.list.now c.loop-row.row-index zeros c.loop-row-test.true c.requires in
    let read = c.index.ensures ∙ get_or_default c.loop-row.firsts.items row.«module» c.index.result.now None (omega (arith, below, c.loop-row.invariant.long)) in
    elim c.if-is_none.branch [
      | then-is_none w ↦
          let items = ap (λ (v : Vec (Option Contribution) Global). v.items) w.firsts-is in
          record {
            long = ap length items ∙ length-set c.loop-row.firsts.items _ _ ∙ c.loop-row.invariant.long;
            each = first_noted c.args.count c.loop-row.row-index c.args.list.now row zeros c.loop-row.firsts.items c.if-is_none.firsts.items c.loop-row-test.true refl c.loop-row.invariant.long below c.loop-row.invariant.each (none_by c.index.result.now _ read (c.is_none.ensures ∙ ap not w.if-is_none.true)) items;
          }
      | else-is_none w ↦
          let items = ap (λ (v : Vec (Option Contribution) Global). v.items) w.firsts-is in
          record {
            long = ap length items ∙ c.loop-row.invariant.long;
            each = λ k lt. ap (λ (v : Vec (Option Contribution) Global). get_or v.items k None) w.firsts-is ∙ first_stays c.args.count c.loop-row.row-index c.args.list.now row zeros c.loop-row.firsts.items c.loop-row-test.true refl c.loop-row.invariant.each (some_by c.index.result.now _ read (c.is_none.ensures ∙ ap not w.if-is_none.false)) k lt;
          }
    ]

pub returns : goal.returns
returns c =
    firsts_are c.args.count c.loop-row.row-index c.args.list.now c.loop-row.firsts.items c.loop-row-test.false c.loop-row.invariant.long c.loop-row.invariant.each
