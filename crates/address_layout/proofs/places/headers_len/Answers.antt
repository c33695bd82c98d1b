use Rattle.std.proofs.Common.{◌+◌, ◌*◌, arith}
use Rattle.address_layout.proofs.RoundLemmas.{rounded_bound}
use Rattle.address_layout.proofs.places.headers_len.Goals as goal

pub returns-clause-small : goal.returns-clause-small
returns-clause-small c =
    let high = rounded_bound 512 (328 + 40 * c.args.count) (omega arith) in
    let value = c.round_up.ensures in
    omega (arith, high, value)
