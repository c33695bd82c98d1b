use Rattle.std.proofs.Common.{ap, arith}
use Rattle.address_layout.specs.declared.base.BaseRule.{BaseRule}
use Rattle.pe_loader.proofs.RaiseLemmas.{is_read, none_fine, none_raised, leaves, blocks_fine, blocks_malformed, blocks_raised, memory_small}
use Rattle.pe_loader.proofs.raising.raise_fields.Goals as goal

pub returns-then-size-eq0-clause-fine : goal.returns-then-size-eq0-clause-fine
returns-then-size-eq0-clause-fine c =
    none_fine c.args.image.now c.directory-rva.result c.requires.file c.directory-rva.ensures c.if-size-eq0.true

pub returns-then-size-eq0-clause-raised : goal.returns-then-size-eq0-clause-raised
returns-then-size-eq0-clause-raised c =
    none_raised c.args.image.now c.args.memory.now c.directory-rva.result _ c.requires.copied c.directory-rva.ensures c.if-size-eq0.true

pub returns-then-rva-size-clause-refused : goal.returns-then-rva-size-clause-refused
returns-then-rva-size-clause-refused c =
    leaves c.args.image.now c.args.memory.now c.directory-rva.result c.requires.file c.requires.copied c.directory-rva.ensures c.if-size-eq0.false (omega arith)

pub apply-requires-clause-memory : goal.apply-requires-clause-memory
apply-requires-clause-memory c = memory_small c.args.image.now c.args.memory.now c.requires.file c.requires.copied

pub returns-in-Ok-clause-fine : goal.returns-in-Ok-clause-fine
returns-in-Ok-clause-fine c =
    let read = is_read c.args.image.now c.args.memory.now c.in_ok-blocks.blocks.items c.deref.result.now c.slice_in.result.now c.directory-rva.result c.requires.file c.requires.copied c.directory-rva.ensures c.if-size-eq0.false c.if-rva-size.false c.slice_in.ensures.part c.in_ok-blocks.ensures.items c.deref.ensures.value in
    blocks_fine c.args.image.now c.args.memory.now c.deref.result.now c.directory-rva.result read c.in-Ok.ensures.answer

pub returns-in-Ok-clause-raised : goal.returns-in-Ok-clause-raised
returns-in-Ok-clause-raised c =
    let read = is_read c.args.image.now c.args.memory.now c.in_ok-blocks.blocks.items c.deref.result.now c.slice_in.result.now c.directory-rva.result c.requires.file c.requires.copied c.directory-rva.ensures c.if-size-eq0.false c.if-rva-size.false c.slice_in.ensures.part c.in_ok-blocks.ensures.items c.deref.ensures.value in
    let own = ap (λ (rule : BaseRule). rule.base) c.base_rule.ensures in
    blocks_raised c.args.image.now c.args.memory.now c.deref.result.now c.apply.new.memory c.directory-rva.result c.base_rule.result.base c.args.base read own (omega arith) c.in-Ok.ensures.raised

pub returns-clause-refused : goal.returns-clause-refused
returns-clause-refused c =
    let read = is_read c.args.image.now c.args.memory.now c.in_ok-blocks.blocks.items c.deref.result.now c.slice_in.result.now c.directory-rva.result c.requires.file c.requires.copied c.directory-rva.ensures c.if-size-eq0.false c.if-rva-size.false c.slice_in.ensures.part c.in_ok-blocks.ensures.items c.deref.ensures.value in
    blocks_malformed c.args.image.now c.args.memory.now c.deref.result.now c.directory-rva.result c.in-Err.field-0 read c.in-Err.ensures.answer
