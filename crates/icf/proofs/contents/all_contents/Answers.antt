use Rattle.std.proofs.Common.{◌≡◌, ℕ, Vec, ap, sym, ◌∙◌, arith}
use Rattle.std.specs.declared.alloc.Global.{Global}
use Rattle.icf.specs.declared.contents.Contents.{Contents}
use Rattle.icf.specs.Sections.{sections_at}
use Rattle.icf.specs.Contents.{all_contents}
use Rattle.icf.proofs.SectionLemmas.{sections_read, within_there}
use Rattle.icf.proofs.ListLemmas.{each_more, size_more}
use Rattle.icf.proofs.contents.all_contents.Goals as goal

pub contents_of-requires : goal.contents_of-requires
contents_of-requires c =
    within_there c.args.candidates.now _ c.requires c.loop-candidate.candidate-index c.candidate-item.result (omega arith) c.candidate-item.is

pub loop-candidate-preserved : goal.loop-candidate-preserved
loop-candidate-preserved c =
    let candidates = c.args.candidates.now in
    let number = c.loop-candidate.candidate-index in
    let is = c.in_ok-push.ensures.items in
    let same = c.loop-candidate.invariant.same_length in
    let own = sections_read candidates number c.candidate-item.result (omega arith) c.candidate-item.is in
    record {
      same_length = size_more (λ n v. Unit {0}) c.loop-candidate.keys.items c.in_ok-contents.contents number same c.push.new.self.items is;
      each =
          each_more (λ (n : ℕ) (v : Vec Contents Global). v.items ≡ all_contents c.args.pieces.now (sections_at candidates n)) c.loop-candidate.keys.items c.in_ok-contents.contents number same c.loop-candidate.invariant.each
          (c.in_ok-contents.ensures ∙ ap (all_contents c.args.pieces.now) (sym own)) c.push.new.self.items is;
    }
