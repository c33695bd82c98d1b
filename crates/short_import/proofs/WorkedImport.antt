-- The definitions on a short import: the code `_f@4` of `k.dll`, with its decoration off, at the hint 3.
use Rattle.std.proofs.Common.{◌≡◌, ℕ, List, [], ◌∷◌, ◌++◌, take, Some, None, refl}
use Rattle.std.specs.Prelude.{codes}
use Rattle.link_base.specs.Bytes.{number_at}
use Rattle.link_base.specs.declared.kinds.import.ImpFault.TheVariants as fault
use Rattle.short_import.specs.declared.import.ImportKind.TheVariants as kind
use Rattle.short_import.specs.declared.import.ImportBy.TheVariants as by
use Rattle.short_import.specs.Decoration.{no_prefix, undecorated}
use Rattle.short_import.specs.ShortImport.{text_from, symbol_of, dll_of, import_kind, import_by}
use Rattle.short_import.specs.ImportFaults.{is_cut, header_fault, import_fault}

header : List ℕ
header =
    0x00 ∷ 0x00 ∷ 0xFF ∷ 0xFF ∷ 0x00 ∷ 0x00 ∷ 0x64 ∷ 0x86 ∷ 0x00 ∷ 0x00 ∷ 0x00 ∷ 0x00 ∷ 0x0B ∷ 0x00 ∷ 0x00 ∷ 0x00 ∷ 0x03 ∷ 0x00 ∷ 0x0C ∷ 0x00 ∷ []

texts : List ℕ
texts = 0x5F ∷ 0x66 ∷ 0x40 ∷ 0x34 ∷ 0x00 ∷ 0x6B ∷ 0x2E ∷ 0x64 ∷ 0x6C ∷ 0x6C ∷ 0x00 ∷ []

import : List ℕ
import = header ++ texts

import-well_formed : import_fault import ≡ None
unfolding import header texts number_at text_from symbol_of dll_of is_cut header_fault import_fault
import-well_formed = refl

import-symbol : symbol_of import ≡ codes "_f@4"
unfolding import header texts number_at text_from symbol_of
import-symbol = refl

import-dll : dll_of import ≡ codes "k.dll"
unfolding import header texts number_at text_from symbol_of dll_of
import-dll = refl

import-kind : import_kind import ≡ kind.Code
unfolding import header texts number_at import_kind
import-kind = refl

import-by : import_by import ≡ by.Named 3 (codes "f")
unfolding import header texts number_at text_from symbol_of import_by
import-by = refl

-- cut in the header, and in the data
import-cut_header : import_fault (take 19 import) ≡ Some fault.Length
unfolding import header texts number_at text_from symbol_of dll_of is_cut header_fault import_fault
import-cut_header = refl

import-cut_data : import_fault (take 30 import) ≡ Some fault.Length
unfolding import header texts number_at text_from symbol_of dll_of is_cut header_fault import_fault
import-cut_data = refl

-- ---- decorations

no_prefix-question_mark : no_prefix (codes "?x@@3") ≡ codes "x@@3"
no_prefix-question_mark = refl

undecorated-question_mark : undecorated (codes "?x@@3") ≡ codes "x"
undecorated-question_mark = refl

-- one character alone is dropped, and the cut comes after that
undecorated-at_signs : undecorated (codes "@f@8") ≡ codes "f"
undecorated-at_signs = refl

no_prefix-underscores : no_prefix (codes "__a") ≡ codes "_a"
no_prefix-underscores = refl
