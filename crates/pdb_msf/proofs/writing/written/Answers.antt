use Rattle.std.proofs.Common.{◌+◌, ◌++◌, ℕ, List, ap, ◌∙◌}
use Rattle.pdb_msf.specs.WrittenFile.{parted, block_numbers}
use Rattle.pdb_msf.proofs.WritingLemmas.{parts_are_whole}
use Rattle.pdb_msf.proofs.writing.written.Goals as goal

pub returns : goal.returns
returns c =
    parts_are_whole c.args.lengths.now (parted c.args.joined.now c.args.lengths.now) c.args.extent.total c.args.extent.directory_len (2 + c.args.extent.directory) c.in_ok-out.out.items c.deref.result.now c.deref-2.result.now c.deref-3.result.now c.push_block.new.out.items c.push_block-2.new.out.items c.push_blocks.new.out.items c.push_streams.new.out.items
    c.requires.total c.requires.directory_len (ap (λ (k : ℕ). 2 + k) c.requires.directory)
    (c.deref.ensures.value ∙ c.in_ok-front.ensures)
    (c.deref-2.ensures.value ∙ c.in_ok-push_block_numbers.ensures ∙ ap (λ (xs : List ℕ). xs ++ block_numbers 2 c.args.extent.directory) c.new-numbers.ensures.items ∙ ap (block_numbers 2) c.requires.directory)
    (c.deref-3.ensures.value ∙ c.in_ok-table.ensures)
    c.in_ok-out.ensures.items c.in_ok-push_block.ensures c.in_ok-push_block-2.ensures c.in_ok-push_blocks.ensures c.in_ok-push_streams.ensures
