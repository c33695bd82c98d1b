use Rattle.std.proofs.Common.{arith}
use Rattle.lib_reader.proofs.TableLemmas.{second_table, member_inside}
use Rattle.lib_reader.proofs.second_directory.second_offset.Goals as goal

pub member_index-requires-clause-counts : goal.member_index-requires-clause-counts
member_index-requires-clause-counts c = (second_table c.args.directory.now c.requires.table).counts

pub overflow_sub-member : goal.overflow_sub-member
overflow_sub-member c =
    omega (arith, member_inside c.args.directory.now c.args.index c.requires.table c.requires.there)

pub u32_in-requires : goal.u32_in-requires
u32_in-requires c =
    omega (arith, member_inside c.args.directory.now c.args.index c.requires.table c.requires.there)
