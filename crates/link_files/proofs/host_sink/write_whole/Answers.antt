use Rattle.std.proofs.Common.{◌++◌, List, ℕ, take, drop, sym, ap, ◌∙◌}
use Rattle.std.proofs.lemmas.Bool.{eqb-true}
use Rattle.std.proofs.KnownBytes.{Appends-trans, Appends-kept}
use Rattle.link_files.proofs.HostLemmas.{first_bytes, moves_over, flushed_whole}
use Rattle.link_files.proofs.host_sink.write_whole.Goals as goal

pub returns-in-Ok-eq0 : goal.returns-in-Ok-eq0
returns-in-Ok-eq0 g c =
    let (done, split, appended) = c.loop-rest.invariant in
    let rest = c.loop-rest.rest.now in
    let n = c.in-Ok-eq0.field-0 in
    first_bytes _ (done ++ take n rest) (drop n rest) _ _ (moves_over _ done rest n split) (Appends-trans _ _ _ _ _ appended c.in-Ok-eq0.ensures.bytes)

pub loop-rest-preserved : goal.loop-rest-preserved
loop-rest-preserved g c =
    let (done, split, appended) = c.loop-rest.invariant in
    let rest = c.loop-rest.rest.now in
    let n = c.in-Ok.count in
    (done ++ take n rest, moves_over _ done rest n split ∙ ap (λ (l : List ℕ). (done ++ take n rest) ++ l) (sym c.split_at.ensures.back), Appends-trans _ _ _ _ _ appended c.in-Ok.ensures.bytes)

pub returns-in-Err : goal.returns-in-Err
returns-in-Err g c =
    let (done, split, appended) = c.loop-rest.invariant in
    first_bytes _ done c.loop-rest.rest.now _ _ split (Appends-kept _ _ _ done appended c.in-Err.ensures.bytes)

pub returns : goal.returns
returns g c =
    let (done, split, appended) = c.loop-rest.invariant in
    flushed_whole _ done c.loop-rest.rest.now _ _ c.flush_answer.result split (eqb-true _ 0 (sym c.loop-rest-test.ensures)) (Appends-kept _ _ _ done appended c.flush.ensures.bytes) c.flush_answer.ensures.fault
