use Rattle.std.proofs.Common.{List, ℕ, sym, ap, ◌∙◌, arith}
use Rattle.coff_records.specs.FileRanges.{is_truncated}
use Rattle.coff_object.specs.ObjectFaults.{object_fault}
use Rattle.coff_records.proofs.CallerLemmas.{file_whole}
use Rattle.coff_object.proofs.WellFormedLemmas.{well_formed}
use Rattle.coff_object.proofs.well_formed.is_well_formed.Goals as goal

pub read-file-requires : goal.read-file-requires
read-file-requires c = file_whole c.args.bytes.now (sym c.is_truncated.ensures ∙ c.if-is_truncated.false)

pub returns-then-sections_pass : goal.returns-then-sections_pass
returns-then-sections_pass c =
    λ passed. let none = well_formed c.read-file.result c.string_table-strings.result.now (ap (λ (file : List ℕ). is_truncated file) c.read-file.ensures ∙ sym c.is_truncated.ensures ∙ c.if-is_truncated.false) (sym c.is_other_machine.ensures ∙ c.if-is_other_machine.false) (c.whole_records.ensures.none (omega (arith, c.record_count.ensures, c.whole_records.ensures.within))) (sym c.table_leaves.ensures ∙ c.if-table_leaves.false) c.string_table-strings.ensures (c.sections_pass.ensures c.if-sections_pass.true) (c.symbols_pass.ensures passed) in ap (λ (file : List ℕ). object_fault file) (sym c.read-file.ensures) ∙ none
