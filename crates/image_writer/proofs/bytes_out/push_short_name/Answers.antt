use Rattle.std.proofs.Common.{arith, vec_len}
use Rattle.image_writer.proofs.BufferLemmas.{short_name_after}
use Rattle.image_writer.proofs.bytes_out.push_short_name.Goals as goal

pub returns : goal.returns
returns c =
    rw (c.in_ok-resize.ensures.items, c.in_ok-push_to.ensures) (
    short_name_after c.args.out.now.items c.args.name.now c.len-start.result (vec_len c.push_to.new.out)
    (omega (arith, c.len-start.ensures, c.args.out.now.ok.0))
    (rw (← c.in_ok-push_to.ensures) (omega (arith, c.push_to.new.out.ok.0))))
