-- What is whole in bytes that are not cut.
use Rattle.std.proofs.Common.{◌≡◌, ℕ, ◌+◌, ◌≤◌, Bool, true, false, ltb, List, length, Option, None, refl}
use Rattle.std.proofs.lemmas.Bool.{ltb-false}
use Rattle.std.specs.Option.{option_or}
use Rattle.link_base.specs.declared.kinds.import.ImpFault.{ImpFault}
use Rattle.link_base.specs.declared.kinds.import.ImpFault.TheVariants as fault
use Rattle.link_base.specs.Refusals.{shown}
use Rattle.link_base.proofs.TestLemmas.{or_left, or_right}
use Rattle.short_import.specs.ShortImport.{data_size}
use Rattle.short_import.specs.ImportFaults.{is_cut, header_fault}

pub header_whole : (bytes : List ℕ) → is_cut bytes ≡ false → 20 ≤ length bytes
unfolding is_cut
header_whole bytes e = ltb-false (length bytes) 20 (or_left (ltb (length bytes) 20) _ e)

pub data_whole : (bytes : List ℕ) → is_cut bytes ≡ false → 20 + data_size bytes ≤ length bytes
unfolding is_cut
data_whole bytes e = ltb-false (length bytes) (20 + data_size bytes) (or_right (ltb (length bytes) 20) _ e)

uncut : (cut : Bool) (later : Option ImpFault) → option_or (shown cut fault.Length) later ≡ None → cut ≡ false
uncut true later e = absurd cc
uncut false later e = refl

pub header_uncut : (bytes : List ℕ) → header_fault bytes ≡ None → is_cut bytes ≡ false
unfolding header_fault
header_uncut bytes e = uncut (is_cut bytes) _ e

pub header_there : (bytes : List ℕ) → header_fault bytes ≡ None → 20 ≤ length bytes
header_there bytes e = header_whole bytes (header_uncut bytes e)
