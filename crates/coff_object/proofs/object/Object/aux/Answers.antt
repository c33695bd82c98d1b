use Rattle.std.proofs.Common.{sym, subst, List, ℕ, ◌<◌}
use Rattle.coff_records.specs.ObjectFile.{aux_total_of}
use Rattle.coff_object.proofs.Readable.{start_of, aux_whole}
use Rattle.coff_object.proofs.object.Object.aux.Goals as goal

pub aux_record-requires : goal.aux_record-requires
aux_record-requires c =
    aux_whole _ c.args.j c.args.k c.self.invariant.well_formed (start_of _ _ c.args.j c.self.view_is c.requires.symbol) (subst (λ (file : List ℕ). c.args.k < aux_total_of file c.args.j) (sym c.self.view_is) c.requires.there)
