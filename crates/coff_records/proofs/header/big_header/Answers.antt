use Rattle.std.proofs.Common.{refl, sym}
use Rattle.coff_records.specs.ObjectHeader.{machine_of, section_total, section_headers_offset, symbols_offset, record_total}
use Rattle.coff_records.proofs.HeaderLemmas.{counted_is}
use Rattle.coff_records.proofs.header.big_header.Goals as goal

pub returns : goal.returns
unfolding machine_of section_total section_headers_offset symbols_offset record_total
returns c = record {
  form = sym c.requires.form;
  machine = rw c.requires.form c.u16_in.ensures;
  sections = rw c.requires.form c.u32_in.ensures;
  section_headers = rw c.requires.form refl;
  symbols = rw c.requires.form c.u32_in-symbols.ensures;
  records = rw c.requires.form (counted_is _ _ _ _ _ c.counted.ensures c.u32_in-symbols.ensures c.u32_in-2.ensures);
}
