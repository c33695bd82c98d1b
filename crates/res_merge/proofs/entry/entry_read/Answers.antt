use Rattle.std.proofs.Common.{◌∙◌, sym, arith}
use Rattle.res_merge.proofs.HeaderLemmas.{fields_there, header_long}
use Rattle.res_merge.proofs.entry.entry_read.Goals as goal

pub u16_in-requires : goal.u16_in-requires
u16_in-requires c = omega (arith, fields_there c.args.bytes.now c.args.offset c.in_ok-heading.heading.fields (sym c.header_is_bad.ensures ∙ c.if-header_is_bad.false))

pub returns-clause-behind : goal.returns-clause-behind
returns-clause-behind c = omega (arith, c.in_ok-heading.ensures.behind, c.aligned.ensures.above, c.u32_in.ensures, c.u32_in-data_size.ensures, header_long c.args.bytes.now c.args.offset c.in_ok-heading.heading.fields (sym c.header_is_bad.ensures ∙ c.if-header_is_bad.false))
