-- What is whole in a file, by the kinds that do not stand.
use Rattle.std.proofs.Common.{◌≡◌, ℕ, ◌+◌, ◌-◌, ◌*◌, ◌<◌, ◌≤◌, false, ltb, List, length, inl, inr, lt-ltb, arith}
use Rattle.std.proofs.lemmas.Bool.{cases_lt, ltb-false}
use Rattle.link_base.proofs.TestLemmas.{or_left, or_right, and_second}
use Rattle.coff_records.specs.ObjectHeader.{header_size, section_total, section_headers_offset}
use Rattle.coff_records.specs.FileRanges.{leaves_file, is_truncated}

-- a range with bytes in it that does not leave the file
pub range_whole : (file : List ℕ) (offset count : ℕ) → leaves_file file offset count ≡ false → 0 < count → offset + count ≤ length file
range_whole file offset count e some =
    ltb-false (length file) (offset + count) (and_second (ltb 0 count) (ltb (length file) (offset + count)) (lt-ltb 0 count some) e)

-- ---- headers

pub file_whole : (file : List ℕ) → is_truncated file ≡ false → header_size file ≤ length file
unfolding is_truncated
file_whole file e = ltb-false (length file) (header_size file) (or_left (ltb (length file) (header_size file)) _ e)

pub header_whole : (file : List ℕ) (section : ℕ) → is_truncated file ≡ false → 0 < section → section ≤ section_total file → section_headers_offset file + 40 * (section - 1) + 40 ≤ length file
unfolding is_truncated
header_whole file section e some le =
    let whole = range_whole file (section_headers_offset file) (40 * section_total file) (or_right (ltb (length file) (header_size file)) _ e) (omega arith) in
    omega (arith, whole)

pub sections_fit : (file : List ℕ) → is_truncated file ≡ false → 40 * section_total file ≤ length file
sections_fit file e =
    elim (cases_lt 0 (section_total file)) [
      | inl some ↦ omega (arith, header_whole file (section_total file) e some (omega arith))
      | inr none ↦ omega arith
    ]
