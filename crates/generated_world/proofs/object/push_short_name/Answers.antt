use Rattle.std.proofs.Common.{arith, vec_len}
use Rattle.generated_world.proofs.WorldLemmas.{short_name_after}
use Rattle.generated_world.proofs.object.push_short_name.Goals as goal

pub returns : goal.returns
returns c =
    rw (c.in_ok-resize.ensures.items, c.in_ok-extend_from_slice.ensures.items, c.as_bytes.ensures.value) (
    short_name_after c.args.out.now.items c.args.name.now c.len-start.result (vec_len c.extend_from_slice.new.self)
    (omega (arith, c.len-start.ensures, c.args.out.now.ok.0))
    (rw (← c.as_bytes.ensures.value, ← c.in_ok-extend_from_slice.ensures.items) (omega (arith, c.extend_from_slice.new.self.ok.0))))
