-- What callers may cite of bytes that are a short import.
use Rattle.std.proofs.Common.{◌≡◌, ℕ, ◌+◌, ◌<◌, ◌≤◌, Bool, true, false, not, eqb, List, length, slice_index, Option, None, Some, refl, ap, ◌∙◌, arith}
use Rattle.std.specs.Option.{option_or}
use Rattle.std.proofs.lemmas.Bool.{eqb-true, ltb-false, not-false}
use Rattle.std.proofs.lemmas.List.{length-take-le, length-drop}
use Rattle.link_base.specs.Bytes.{bytes_at, is_nul}
use Rattle.link_base.specs.declared.kinds.import.ImpFault.{ImpFault}
use Rattle.link_base.specs.declared.kinds.import.ImpFault.TheVariants as fault
use Rattle.link_base.specs.PeFormat.{FILE_MACHINE_AMD64}
use Rattle.link_base.specs.Refusals.{shown}
use Rattle.link_base.proofs.TestLemmas.{or_left, or_right}
use Rattle.link_base.proofs.NumberLemmas.{above_zero}
use Rattle.link_base.proofs.PartLemmas.{part_of_part}
use Rattle.short_import.specs.Constants.{IMPORT_CONST, IMPORT_NAME_UNDECORATE}
use Rattle.short_import.specs.ShortImport.{machine_of, data_size, import_type, name_type, import_data, symbol_of, dll_of}
use Rattle.short_import.specs.ImportFaults.{is_cut, is_other_machine, has_other_type, has_other_name_type, lacks_text, header_fault, import_fault}
use Rattle.short_import.proofs.WholeLemmas.{data_whole}
use Rattle.short_import.proofs.SpanLemmas.{text_from-span}

pub record IsShortImport (bytes : List ℕ) : Type 0 where
  pub machine : machine_of bytes ≡ FILE_MACHINE_AMD64
  pub type_known : import_type bytes ≤ IMPORT_CONST
  pub name_type_known : name_type bytes ≤ IMPORT_NAME_UNDECORATE
  -- the symbol stands behind the header, and the DLL's name behind it and its NUL
  pub symbol : symbol_of bytes ≡ bytes_at bytes 20 (length (symbol_of bytes))
  pub dll : dll_of bytes ≡ bytes_at bytes (21 + length (symbol_of bytes)) (length (dll_of bytes))
  pub some_symbol : 0 < length (symbol_of bytes)
  pub some_dll : 0 < length (dll_of bytes)
  pub plain_symbol : (k : ℕ) → k < length (symbol_of bytes) → is_nul (slice_index (symbol_of bytes) k) ≡ false
  pub plain_dll : (k : ℕ) → k < length (dll_of bytes) → is_nul (slice_index (dll_of bytes) k) ≡ false
  -- both, with their NULs, are in the data
  pub ended : length (symbol_of bytes) + length (dll_of bytes) + 2 ≤ data_size bytes
  pub whole : 20 + data_size bytes ≤ length bytes

-- ---- the rows that do not stand

stands_not : (stands : Bool) (which : ImpFault) (later : Option ImpFault) → option_or (shown stands which) later ≡ None → (stands ≡ false) × (later ≡ None)
stands_not true which later e = absurd cc
stands_not false which later e = (refl, e)

no_row : (earlier : Option ImpFault) (stands : Bool) → option_or earlier (option_or (shown stands fault.Text) None) ≡ None → (earlier ≡ None) × (stands ≡ false)
no_row None true e = absurd cc
no_row None false e = (refl, refl)
no_row (Some which) stands e = absurd cc

record Passes (bytes : List ℕ) : Type 0 where
  pub cut : is_cut bytes ≡ false
  pub machine : is_other_machine bytes ≡ false
  pub type_known : has_other_type bytes ≡ false
  pub name_type_known : has_other_name_type bytes ≡ false

passes : (bytes : List ℕ) → header_fault bytes ≡ None → Passes bytes
unfolding header_fault
passes bytes e =
    let first = stands_not (is_cut bytes) fault.Length _ e in
    let second = stands_not (is_other_machine bytes) fault.Machine _ first.1 in
    let third = stands_not (has_other_type bytes) fault.Kind _ second.1 in
    let fourth = stands_not (has_other_name_type bytes) fault.NameType None third.1 in
    record { cut = first.0; machine = second.0; type_known = third.0; name_type_known = fourth.0 }

has_text : (bytes : List ℕ) → import_fault bytes ≡ None → (header_fault bytes ≡ None) × (lacks_text bytes ≡ false)
unfolding import_fault
has_text bytes e = no_row (header_fault bytes) (lacks_text bytes) e

same_machine : (n m : ℕ) → not (eqb n m) ≡ false → n ≡ m
same_machine n m e = eqb-true n m (not-false (eqb n m) e)

-- ---- the facts

data_length : (bytes : List ℕ) → is_cut bytes ≡ false → length (import_data bytes) ≡ data_size bytes
data_length bytes e =
    length-take-le (data_size bytes) _ (omega (arith, data_whole bytes e, length-drop 20 bytes))

pub import_read : (bytes : List ℕ) → import_fault bytes ≡ None → IsShortImport bytes
unfolding symbol_of dll_of
import_read bytes e =
    let parts = has_text bytes e in
    let header = passes bytes parts.0 in
    let texts = import_data bytes in
    let size = data_length bytes header.cut in
    let some_symbol = above_zero (length (symbol_of bytes)) (or_left (eqb (length (symbol_of bytes)) 0) _ parts.1) in
    let some_dll = above_zero (length (dll_of bytes)) (or_right (eqb (length (symbol_of bytes)) 0) _ parts.1) in
    let symbol = text_from-span texts 0 in
    let dll = text_from-span texts (length (symbol_of bytes) + 1) in
    let symbol_ended = symbol.ended some_symbol in
    let dll_ended = dll.ended some_dll in
    record {
      machine = same_machine (machine_of bytes) FILE_MACHINE_AMD64 header.machine;
      type_known = ltb-false IMPORT_CONST (import_type bytes) header.type_known;
      name_type_known = ltb-false IMPORT_NAME_UNDECORATE (name_type bytes) header.name_type_known;
      symbol = symbol.part ∙ part_of_part bytes 20 (data_size bytes) 0 (length (symbol_of bytes)) (omega arith);
      dll = dll.part
          ∙ part_of_part bytes 20 (data_size bytes) (length (symbol_of bytes) + 1) (length (dll_of bytes)) (omega arith)
          ∙ ap (λ (n : ℕ). bytes_at bytes n (length (dll_of bytes))) (omega arith);
      some_symbol = some_symbol;
      some_dll = some_dll;
      plain_symbol = symbol.plain;
      plain_dll = dll.plain;
      ended = omega arith;
      whole = data_whole bytes header.cut;
    }
