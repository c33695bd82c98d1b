use Rattle.std.proofs.Common.{◌++◌, ◌∷◌, [], List, length, ap, sym, ◌∙◌, append-nil, arith}
use Rattle.coff_records.specs.declared.relocation.Relocation.{Relocation}
use Rattle.relocate.specs.declared.fix.Fix.{Fix}
use Rattle.link_fields.specs.Fixes.{fixes_from}
use Rattle.link_fields.proofs.FixLemmas.{relocations_count, fixes_more, no_more, fix_read, no_relocations}
use Rattle.link_fields.proofs.fixes.section_fixes.Goals as goal

pub returns-then-count-eq0-clause-fixes :
    goal.returns-then-count-eq0-clause-fixes
returns-then-count-eq0-clause-fixes c =
    c.new.ensures.items
    ∙ sym (no_relocations c.args.names.now c.args.position c.args.object.now c.args.section (sym c.relocation_count-count.ensures ∙ c.if-count-eq0.true))

pub loop-relocation-init : goal.loop-relocation-init
loop-relocation-init c =
    let bytes = c.args.object.now in
    let all = c.into_iter-relocation-iterator.ensures.into_iter_gives ∙ c.relocations-relocation-items.ensures in
    record {
      can = tt;
      ends = tt;
      count = let len = ap length all ∙ relocations_count bytes c.args.section in omega (arith, len);
      fixes =
          ap (λ (fs : List Fix). fs ++ fixes_from c.args.names.now c.args.position bytes 0 c.into_iter-relocation-iterator.result) c.in_ok-fixes.ensures.items
          ∙ ap (fixes_from c.args.names.now c.args.position bytes 0) all;
      held = c.in_ok-read_unless_few.ensures;
    }

pub loop-relocation-preserved : goal.loop-relocation-preserved
loop-relocation-preserved c =
    let bytes = c.args.object.now in
    let steps = c.in-Some.ensures.steps in
    let before : List Relocation = c.loop-relocation.relocation-iterator in
    record {
      can = tt;
      ends = tt;
      count = let was = c.loop-relocation.invariant.count in let len = ap length steps in omega (arith, was, len);
      fixes =
          fixes_more c.args.names.now c.args.position bytes c.loop-relocation.number before c.next.new.self c.in-Some.relocation c.loop-relocation.fixes.items c.push.new.self.items _ steps
          c.loop-relocation.invariant.fixes
          (c.in_ok-push.ensures.items ∙ ap (λ (fix : Fix). c.loop-relocation.fixes.items ++ fix ∷ []) (c.of.ensures ∙ fix_read c.args.names.now c.args.position bytes c.loop-relocation.number c.in-Some.relocation _ c.in_ok-target.ensures.target));
      held = c.in_ok-target.ensures.held;
    }

pub returns-clause-fixes : goal.returns-clause-fixes
returns-clause-fixes c =
    sym (append-nil c.loop-relocation.fixes.items)
    ∙ no_more c.args.names.now c.args.position c.args.object.now c.loop-relocation.number c.loop-relocation.relocation-iterator c.loop-relocation.fixes.items _ c.in-None.ensures.steps.0 c.loop-relocation.invariant.fixes
