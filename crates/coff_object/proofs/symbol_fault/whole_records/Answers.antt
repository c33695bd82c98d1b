use Rattle.std.proofs.Common.{ℕ, length, List, ap, arith}
use Rattle.coff_object.proofs.RecordLemmas.{room_of, room_fits, room_ends, beyond_file, torn_none, torn_some}
use Rattle.coff_object.proofs.symbol_fault.whole_records.Goals as goal

pub returns-then-len-start-clause-torn : goal.returns-then-len-start-clause-torn
returns-then-len-start-clause-torn c =
    λ some. torn_some c.args.file.now 0 some (λ index lt. absurd (omega arith)) (beyond_file c.args.file.now (omega (arith, ap (λ (bytes : List ℕ). length bytes) c.bytes-len.ensures)))

pub returns-then-len-start-clause-none : goal.returns-then-len-start-clause-none
returns-then-len-start-clause-none c = λ none. torn_none c.args.file.now (λ index lt. absurd (omega arith))

pub returns-then-whole-count-clause-whole : goal.returns-then-whole-count-clause-whole
returns-then-whole-count-clause-whole c =
    let room = room_of c.args.file.now c.bytes-len.result.now _ _ c.bytes-len.ensures c.symbols_offset-start.ensures c.symbol_size.ensures.size in
    λ index lt. let there = rw room at lt in
    room_fits c.args.file.now index (omega (arith, ap (λ (bytes : List ℕ). length bytes) c.bytes-len.ensures)) there

pub returns-then-whole-count-clause-torn : goal.returns-then-whole-count-clause-torn
returns-then-whole-count-clause-torn c =
    rw (room_of c.args.file.now c.bytes-len.result.now _ _ c.bytes-len.ensures c.symbols_offset-start.ensures c.symbol_size.ensures.size)
    (λ lt. torn_some c.args.file.now _ lt (λ index below. room_fits c.args.file.now index (omega (arith, ap (λ (bytes : List ℕ). length bytes) c.bytes-len.ensures)) below) (room_ends c.args.file.now (omega (arith, ap (λ (bytes : List ℕ). length bytes) c.bytes-len.ensures))))

pub returns-else-whole-count-clause-whole : goal.returns-else-whole-count-clause-whole
returns-else-whole-count-clause-whole c =
    let room = room_of c.args.file.now c.bytes-len.result.now _ _ c.bytes-len.ensures c.symbols_offset-start.ensures c.symbol_size.ensures.size in
    let more = rw room at c.if-whole-count.false in
    λ index lt. room_fits c.args.file.now index (omega (arith, ap (λ (bytes : List ℕ). length bytes) c.bytes-len.ensures)) (omega (arith, lt, more))

pub returns-else-whole-count-clause-none : goal.returns-else-whole-count-clause-none
returns-else-whole-count-clause-none c =
    λ all. torn_none c.args.file.now (λ index lt. returns-else-whole-count-clause-whole c index (omega (arith, all, lt)))
