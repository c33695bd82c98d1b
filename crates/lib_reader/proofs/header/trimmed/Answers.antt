use Rattle.std.proofs.Common.{◌≡◌, ℕ, take, sym, ap, ◌∙◌, arith}
use Rattle.lib_reader.specs.ArchiveMember.{trimmed, trimmed_length}
use Rattle.lib_reader.proofs.HeaderLemmas.{trimmed_length-blank, trimmed_length-kept, trimmed_length-none}
use Rattle.lib_reader.proofs.header.trimmed.Goals as goal
use Rattle.lib_reader.proofs.header.trimmed.Goals.{then-loop-len-test+else-text-len-eq32, else-loop-len-test}

pub loop-len-preserved : goal.loop-len-preserved
loop-len-preserved c = record {
  inside = omega arith;
  same = c.loop-len.invariant.same ∙ trimmed_length-blank c.args.text.now c.loop-len.len (omega arith) c.if-text-len-eq32.true;
}

pub returns-clause-text : goal.returns-clause-text
unfolding trimmed
returns-clause-text c =
    let kept : trimmed_length c.args.text.now c.loop-len.len ≡ c.loop-len.len =
    elim c.loop-len-test.branch [
      | then-loop-len-test+else-text-len-eq32 w ↦ trimmed_length-kept c.args.text.now c.loop-len.len (omega arith) w.if-text-len-eq32.false
      | else-loop-len-test w ↦ trimmed_length-none c.args.text.now c.loop-len.len (omega arith)
    ] in
    c.split_at.ensures.front ∙ ap (λ (n : ℕ). take n c.args.text.now) (sym (c.loop-len.invariant.same ∙ kept))
