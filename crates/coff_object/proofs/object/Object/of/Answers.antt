use Rattle.std.proofs.Common.{List, ℕ, ap, ◌∙◌}
use Rattle.coff_object.specs.ObjectFaults.{object_fault}
use Rattle.coff_records.proofs.CallerLemmas.{file_whole}
use Rattle.coff_object.proofs.WellFormedLemmas.{no_fault, table_stays}
use Rattle.coff_object.proofs.object.Object.of.Goals as goal

pub read-file-requires : goal.read-file-requires
read-file-requires c = file_whole c.args.bytes.now (no_fault _ c.requires).headers

pub string_table-strings-requires : goal.string_table-strings-requires
string_table-strings-requires c =
    table_stays _ (no_fault c.read-file.result (ap (λ (file : List ℕ). object_fault file) c.read-file.ensures ∙ c.requires)).strings
