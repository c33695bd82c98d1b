use Rattle.base_reloc.proofs.RaiseLemmas.{raised_wide, raised_narrow}
use Rattle.base_reloc.proofs.raising.raise.Goals as goal

pub returns-then-field : goal.returns-then-field
returns-then-field c =
    let split = c.split_at_mut-rest.ensures in
    raised_wide c.args.delta c.args.memory.now _ _ _ c.args.field c.read_u64-value.result c.if-field.true split.front split.back c.read_u64-value.ensures c.write_u64.ensures

pub returns-else-field : goal.returns-else-field
returns-else-field c =
    let split = c.split_at_mut-rest.ensures in
    raised_narrow c.args.delta c.args.memory.now _ _ _ c.args.field c.read_u32-value.result c.if-field.false split.front split.back c.read_u32-value.ensures c.write_u32.ensures
