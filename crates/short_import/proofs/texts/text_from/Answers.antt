use Rattle.std.proofs.Common.{arith}
use Rattle.short_import.proofs.SpanLemmas.{text_at-ended, text_from-ended}
use Rattle.short_import.proofs.texts.text_from.Goals as goal

pub slice_in-requires : goal.slice_in-requires
slice_in-requires c = omega (arith, (text_at-ended c.args.bytes.now c.in-Some.text c.args.at c.in-Some.ensures).inside)

pub returns-in-Some : goal.returns-in-Some
returns-in-Some c =
    text_from-ended c.args.bytes.now c.in-Some.text c.slice_in.result.now c.args.at c.len.result c.in-Some.ensures c.len.ensures c.slice_in.ensures.part
