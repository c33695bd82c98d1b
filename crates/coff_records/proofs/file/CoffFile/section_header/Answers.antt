use Rattle.std.proofs.Common.{List, ℕ, length, ap, ◌∙◌, arith}
use Rattle.coff_records.proofs.WholeLemmas.{header_whole}
use Rattle.coff_records.proofs.HeaderLemmas.{header_is}
use Rattle.coff_records.proofs.file.CoffFile.section_header.Goals as goal

pub slice_in-requires : goal.slice_in-requires
slice_in-requires c =
    omega (arith, header_whole c.args.self.now c.args.section c.requires.headers (omega arith) c.requires.last, ap (λ (file : List ℕ). length file) c.self.view_is)

pub returns : goal.returns
returns c =
    c.of.ensures ∙ header_is _ c.args.self.now _ c.section_headers.result c.args.section c.self.view_is c.section_headers.ensures c.slice_in.ensures.part
