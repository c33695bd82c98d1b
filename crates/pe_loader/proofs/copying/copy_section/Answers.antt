use Rattle.std.proofs.Common.{◌-◌, ◌++◌, ℕ, length, replicate, ap, ◌∙◌, arith}
use Rattle.pe_loader.proofs.FaultLemmas.{file_passes, file_raw}
use Rattle.pe_loader.proofs.CopyLemmas.{end_below, section_appended}
use Rattle.pe_loader.proofs.copying.copy_section.Goals as goal

pub push_zeros_to-requires : goal.push_zeros_to-requires
push_zeros_to-requires c =
    omega (arith, c.requires.before.ends, c.section_header.ensures.rva, end_below c.args.image.now c.args.index (file_passes c.args.image.now c.requires.file) c.requires.index)

pub section_bytes-requires-clause-bytes : goal.section_bytes-requires-clause-bytes
section_bytes-requires-clause-bytes c = file_raw c.args.image.now c.args.index c.requires.file c.requires.index

pub returns : goal.returns
returns c =
    section_appended c.args.image.now c.args.memory.now.items c.push_zeros_to.new.memory.items c.section_bytes.result.now c.extend_from_slice.new.self.items c.args.index (file_passes c.args.image.now c.requires.file) c.requires.index c.requires.before
    (c.in_ok-push_zeros_to.ensures ∙ ap (λ (n : ℕ). c.args.memory.now.items ++ replicate (n - length c.args.memory.now.items) 0) c.section_header.ensures.rva)
    c.section_bytes.ensures.part
    c.section_bytes.ensures.len
    c.in_ok-extend_from_slice.ensures.items
