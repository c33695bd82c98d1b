use Rattle.std.proofs.Common.{◌≡◌, true}
use Rattle.link_base.specs.Bytes.{all_below}
use Rattle.pe_loader.specs.LoadedImage.{is_section_in_file}
use Rattle.pe_loader.proofs.file_judging.has_raw_bytes.Given as goal

abbrev pub invariant-loop-index : goal.invariant-loop-index
invariant-loop-index l = all_below l.index (is_section_in_file l.image) ≡ true
