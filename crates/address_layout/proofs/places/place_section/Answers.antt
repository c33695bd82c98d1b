use Rattle.std.proofs.Common.{◌*◌, ◌-◌, length, arith}
use Rattle.address_layout.proofs.RoundLemmas.{rounded_bound}
use Rattle.address_layout.proofs.ExtentLemmas.{size_bound}
use Rattle.address_layout.proofs.places.place_section.Goals as goal

pub place_pieces-extent-requires-clause-few : goal.place_pieces-extent-requires-clause-few
place_pieces-extent-requires-clause-few c =
    let high = rounded_bound 4096 c.args.floor (omega arith) in
    omega (arith, high, c.round_up-start.ensures, c.requires.few)

pub spot_at-requires-clause-fits : goal.spot_at-requires-clause-fits
spot_at-requires-clause-fits c =
    let high = rounded_bound 4096 c.args.floor (omega arith) in
    omega (arith, high, c.round_up-start.ensures, c.requires.few, c.place_pieces-extent.ensures.bound)

pub returns-clause-end_bound : goal.returns-clause-end_bound
returns-clause-end_bound c =
    let high = rounded_bound 4096 c.args.floor (omega arith) in
    let extent = c.place_pieces-extent.result in
    let size = size_bound extent.has_bytes c.round_up-start.result extent.end (length c.args.section.now.pieces.items * 4294975488) c.place_pieces-extent.ensures.bound in
    omega (arith, high, c.round_up-start.ensures, size, c.spot_at.ensures.end)

pub returns-clause-raw_bound : goal.returns-clause-raw_bound
returns-clause-raw_bound c =
    let extent = c.place_pieces-extent.result in
    let high = rounded_bound 512 (extent.initialised_end - c.round_up-start.result) (omega arith) in
    omega (arith, high, c.spot_at.ensures.raw, c.place_pieces-extent.ensures.bound, c.place_pieces-extent.ensures.high, c.place_pieces-extent.ensures.low)
