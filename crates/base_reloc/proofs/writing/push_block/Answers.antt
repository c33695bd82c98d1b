use Rattle.std.proofs.Common.{◌+◌, ◌*◌, ◌%◌, ◌++◌, List, ℕ, length, ap, ◌∙◌}
use Rattle.std.proofs.lemmas.Result.{on_ok_weaker}
use Rattle.std.specs.List.{flat_map}
use Rattle.link_base.specs.Bytes.{number_bytes}
use Rattle.base_reloc.specs.PageBlocks.{filler_words}
use Rattle.base_reloc.proofs.PageLemmas.{first_field, block_written}
use Rattle.base_reloc.proofs.writing.push_block.Goals as goal

pub returns : goal.returns
returns c =
    on_ok_weaker c.push_filler.result (λ new. new
    ∙ ap (λ (xs : List ℕ). xs ++ flat_map (number_bytes 2) (filler_words (length c.args.fields.now))) (c.in_ok-push_entries.ensures)
    ∙ block_written c.args.table.now.items c.push_number-2.new.table.items c.args.fields.now first_field c.page_of.result c.requires.some c.page_of.ensures (c.in_ok-push_number-2.ensures ∙ ap (λ (xs : List ℕ). xs ++ number_bytes 4 (8 + 2 * (length c.args.fields.now + length c.args.fields.now % 2))) c.in_ok-push_number.ensures)) c.push_filler.ensures
