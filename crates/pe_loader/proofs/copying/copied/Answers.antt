use Rattle.std.proofs.Common.{◌≡◌, ◌-◌, ◌≤◌, ◌++◌, ℕ, List, length, replicate, ap, ◌∙◌, arith}
use Rattle.link_base.specs.Bytes.{bytes_at}
use Rattle.pe_loader.specs.LoadedImage.{section_count}
use Rattle.pe_loader.proofs.ImageTests.{headers_lie}
use Rattle.pe_loader.proofs.FaultLemmas.{file_passes}
use Rattle.pe_loader.proofs.CopyLemmas.{end_inside, headers_copied, memory_copied}
use Rattle.pe_loader.proofs.copying.copied.Goals as goal

pub slice_in-requires : goal.slice_in-requires
slice_in-requires c =
    omega (arith, c.headers_size.ensures, (headers_lie c.args.image.now (file_passes c.args.image.now c.requires)).in_file)

pub loop-index-init : goal.loop-index-init
loop-index-init c =
    headers_copied c.args.image.now c.extend_from_slice.new.self.items c.slice_in.result.now (file_passes c.args.image.now c.requires)
    (c.slice_in.ensures.part ∙ ap (bytes_at c.args.image.now 0) c.headers_size.ensures)
    (c.slice_in.ensures.len ∙ c.headers_size.ensures)
    (c.in_ok-extend_from_slice.ensures.items ∙ ap (λ (xs : List ℕ). xs ++ c.slice_in.result.now) c.in_ok-memory.ensures.items)

pub push_zeros_to-requires : goal.push_zeros_to-requires
push_zeros_to-requires c =
    let le : c.loop-index.index ≤ section_count c.args.image.now = omega arith in
    omega (arith, c.loop-index.invariant.ends, c.size_of_image-size.ensures, end_inside c.args.image.now c.loop-index.index (file_passes c.args.image.now c.requires) le)

pub returns : goal.returns
returns c =
    let last : c.loop-index.index ≡ section_count c.args.image.now = omega arith in
    memory_copied c.args.image.now c.loop-index.memory.items c.push_zeros_to.new.memory.items c.loop-index.index (file_passes c.args.image.now c.requires) last c.loop-index.invariant
    (c.in_ok-push_zeros_to.ensures ∙ ap (λ (n : ℕ). c.loop-index.memory.items ++ replicate (n - length c.loop-index.memory.items) 0) c.size_of_image-size.ensures)
