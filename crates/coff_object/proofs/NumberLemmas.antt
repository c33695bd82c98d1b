-- What section numbers mean.
use Rattle.std.proofs.Common.{◌≡◌, ℕ, ◌≤◌, false, List, ℤ, pos, negsuc, arith}
use Rattle.std.proofs.lemmas.Bool.{ltb-false}
use Rattle.std.specs.Int.Signed.{lt_z}
use Rattle.link_base.proofs.TestLemmas.{or_right}
use Rattle.link_base.specs.PeFormat.{SYM_DEBUG}
use Rattle.coff_records.specs.ObjectHeader.{section_total}
use Rattle.coff_records.specs.SymbolRecord.{SymbolView, section_number_in, section_of_number}
use Rattle.coff_object.specs.ObjectFaults.{has_no_section}

number_low : (total : ℕ) (number : ℤ) → lt_z (pos total) number ≡ false → section_of_number number ≤ total
number_low total (pos n) e = ltb-false total n e
number_low total (negsuc n) e = omega arith

-- a symbol's section number that is that of a section is one of the file's
pub number_inside : (file : List ℕ) (symbol : SymbolView) (number : ℤ) → number ≡ section_number_in symbol → has_no_section file symbol ≡ false → section_of_number number ≤ section_total file
unfolding has_no_section
number_inside file symbol number is e =
    rw is (number_low (section_total file) (section_number_in symbol) (or_right (lt_z (section_number_in symbol) SYM_DEBUG) (lt_z (pos (section_total file)) (section_number_in symbol)) e))
