use Rattle.std.proofs.Common.{List, ℕ, ◌+◌, ◌*◌, length, ap, ◌∙◌, arith}
use Rattle.coff_records.proofs.HeaderLemmas.{record_is}
use Rattle.coff_records.proofs.PlaceLemmas.{place_after}
use Rattle.coff_records.proofs.file.CoffFile.aux_record.Goals as goal

pub slice_in-requires : goal.slice_in-requires
slice_in-requires c =
    omega (arith, c.requires, c.symbol_size-size.ensures.size, ap (λ (file : List ℕ). length file) c.self.view_is, ap (λ (place : ℕ). c.record_offset.result + c.symbol_size-size.result * (1 + place)) c.from.ensures, place_after c.args.self.now c.record_offset.result c.symbol_size-size.result c.args.index c.args.place c.record_offset.ensures.place c.symbol_size-size.ensures.size)

pub returns-clause-part : goal.returns-clause-part
returns-clause-part c =
    record_is _ c.args.self.now _ _ _ _ c.self.view_is (ap (λ (place : ℕ). c.record_offset.result + c.symbol_size-size.result * (1 + place)) c.from.ensures ∙ place_after c.args.self.now c.record_offset.result c.symbol_size-size.result c.args.index c.args.place c.record_offset.ensures.place c.symbol_size-size.ensures.size) c.symbol_size-size.ensures.size c.slice_in.ensures.part
