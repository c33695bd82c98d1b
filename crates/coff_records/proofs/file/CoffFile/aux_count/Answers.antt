use Rattle.std.proofs.Common.{sym, ◌∙◌}
use Rattle.coff_records.proofs.HeaderLemmas.{size_of_form}
use Rattle.coff_records.proofs.PlaceLemmas.{aux_is}
use Rattle.coff_records.proofs.file.CoffFile.aux_count.Goals as goal

pub of-requires : goal.of-requires
of-requires c = c.record.ensures.len ∙ sym (size_of_form _ _ _ c.self.view_is c.self.invariant.form)

pub returns : goal.returns
returns c =
    aux_is _ c.args.self.now c.record.result.now c.self.inside.header.is_big c.args.index c.aux.result _ c.self.view_is c.self.invariant.form c.record.ensures.part c.of.ensures c.aux.ensures
