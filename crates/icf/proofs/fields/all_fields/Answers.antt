use Rattle.std.proofs.Common.{ℕ, List, Vec, sym, subst, arith}
use Rattle.std.specs.declared.alloc.Global.{Global}
use Rattle.icf.specs.declared.field.Field.{Field}
use Rattle.icf.specs.Sections.{sections_at}
use Rattle.icf.specs.Fields.{AreFields}
use Rattle.icf.proofs.SectionLemmas.{sections_read, within_there}
use Rattle.icf.proofs.ListLemmas.{each_more, size_more}
use Rattle.icf.proofs.fields.all_fields.Goals as goal

pub fields_of-requires-clause-within : goal.fields_of-requires-clause-within
fields_of-requires-clause-within c =
    within_there c.args.candidates.now _ c.requires.within c.loop-candidate.candidate-index c.candidate-item.result (omega arith) c.candidate-item.is

pub loop-candidate-preserved : goal.loop-candidate-preserved
loop-candidate-preserved c =
    let candidates = c.args.candidates.now in
    let owners = c.args.owners.now in
    let fixes = c.args.fixes.now in
    let number = c.loop-candidate.candidate-index in
    let is = c.in_ok-push.ensures.items in
    let same = c.loop-candidate.invariant.same_length in
    let own = sections_read candidates number c.candidate-item.result (omega arith) c.candidate-item.is in
    record {
      same_length = size_more (λ n v. Unit {0}) c.loop-candidate.lists.items c.in_ok-fields.fields number same c.push.new.self.items is;
      each =
          each_more (λ (n : ℕ) (v : Vec Field Global). AreFields owners fixes (sections_at candidates n) v.items) c.loop-candidate.lists.items c.in_ok-fields.fields number same c.loop-candidate.invariant.each
          (subst (λ (sections : List ℕ). AreFields owners fixes sections c.in_ok-fields.fields.items) (sym own) c.in_ok-fields.ensures) c.push.new.self.items is;
    }
