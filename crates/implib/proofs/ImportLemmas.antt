-- What is read of the short import of a row.
use Rattle.std.proofs.Common.{◌≡◌, ℕ, ◌+◌, ◌*◌, ◌/◌, ◌%◌, ◌<◌, ◌≤◌, false, eqb, ltb, List, [], ◌∷◌, ◌++◌, length, take, Option, None, unwrap_or, refl, sym, ap, ◌∙◌, append_assoc, le-ltb, lit<, length-append, arith}
use Rattle.std.proofs.lemmas.List.{take_all, drop_at}
use Rattle.std.proofs.lemmas.Bool.{ne_eqb}
use Rattle.link_base.specs.Bytes.{text_at, number_bytes}
use Rattle.link_base.specs.Limits.{NAME_LIMIT}
use Rattle.link_base.specs.PeFormat.{FILE_MACHINE_AMD64}
use Rattle.short_import.specs.declared.import.ImportBy.{ImportBy}
use Rattle.short_import.specs.declared.import.ImportBy.TheVariants.{Ordinal, Named}
use Rattle.short_import.specs.declared.import.ImportKind.{ImportKind}
use Rattle.short_import.specs.declared.import.ImportKind.TheVariants.{Code, Data, Const}
use Rattle.short_import.specs.Constants.{IMPORT_CONST, IMPORT_NAME_UNDECORATE}
use Rattle.short_import.specs.ShortImport.{machine_of, data_size, ordinal_or_hint as field_of, type_field as type_of, import_data, text_from, symbol_of, dll_of, kind_of_type, by_of_type, import_kind, import_by}
use Rattle.short_import.specs.ImportFaults.{is_cut, header_fault, import_fault}
use Rattle.implib.specs.declared.row.LibraryRow.{LibraryRow}
use Rattle.implib.specs.Rows.{DLL_LIMIT, IsText, IsBySymbol}
use Rattle.implib.specs.RowMember.{kind_number, name_type, ordinal_or_hint, type_field, text_bytes, text_size, import_of}
use Rattle.implib.specs.ReadBack.{FitsField, ReadsAs}
use Rattle.implib.proofs.SizeLemmas.{length-import_of, length-text_bytes}
use Rattle.implib.proofs.TextLemmas.{text_here, number_here}

-- ---- numbers that fit their fields

number_fits : (by : ImportBy) → FitsField by → ordinal_or_hint by < 65536
number_fits (Ordinal number) fits = fits
number_fits (Named hint name) fits = fits

type_fits : (kind : ImportKind) (by : ImportBy) → kind_number kind + 4 * name_type by < 65536
type_fits Code (Ordinal number) = lit< tt
type_fits Code (Named hint name) = lit< tt
type_fits Data (Ordinal number) = lit< tt
type_fits Data (Named hint name) = lit< tt
type_fits Const (Ordinal number) = lit< tt
type_fits Const (Named hint name) = lit< tt

-- ---- the fields of the header

abbrev texts : List ℕ → LibraryRow → List ℕ
texts dll row = text_bytes row.symbol ++ text_bytes dll

machine_read : (dll : List ℕ) (time : ℕ) (row : LibraryRow) → machine_of (import_of dll time row) ≡ FILE_MACHINE_AMD64
unfolding import_of number_bytes
machine_read dll time row = number_here 2 6 FILE_MACHINE_AMD64 (import_of dll time row) (number_bytes 4 time ++ (number_bytes 4 (text_size row.symbol + text_size dll) ++ (number_bytes 2 (ordinal_or_hint row.by) ++ (number_bytes 2 (type_field row) ++ texts dll row)))) refl (lit< tt)

size_read : (dll : List ℕ) (time : ℕ) (row : LibraryRow) → length dll ≤ DLL_LIMIT → length row.symbol ≤ NAME_LIMIT → data_size (import_of dll time row) ≡ text_size row.symbol + text_size dll
unfolding import_of number_bytes
size_read dll time row short symbol = number_here 4 12 (text_size row.symbol + text_size dll) (import_of dll time row) (number_bytes 2 (ordinal_or_hint row.by) ++ (number_bytes 2 (type_field row) ++ texts dll row)) refl (omega (arith, short, symbol))

field_read : (dll : List ℕ) (time : ℕ) (row : LibraryRow) → FitsField row.by → field_of (import_of dll time row) ≡ ordinal_or_hint row.by
unfolding import_of number_bytes
field_read dll time row fits = number_here 2 16 (ordinal_or_hint row.by) (import_of dll time row) (number_bytes 2 (type_field row) ++ texts dll row) refl (number_fits row.by fits)

type_read : (dll : List ℕ) (time : ℕ) (row : LibraryRow) → type_of (import_of dll time row) ≡ type_field row
unfolding import_of number_bytes
type_read dll time row = number_here 2 18 (type_field row) (import_of dll time row) (texts dll row) refl (type_fits row.kind row.by)

-- ---- the texts

data_read : (dll : List ℕ) (time : ℕ) (row : LibraryRow) → length dll ≤ DLL_LIMIT → length row.symbol ≤ NAME_LIMIT → import_data (import_of dll time row) ≡ texts dll row
unfolding import_of number_bytes
data_read dll time row short symbol =
    ap (λ (n : ℕ). take n (texts dll row)) (size_read dll time row short symbol)
    ∙ take_all (text_size row.symbol + text_size dll) (texts dll row) (omega (arith, length-append (text_bytes row.symbol) (text_bytes dll), length-text_bytes row.symbol, length-text_bytes dll))

symbol_read : (dll : List ℕ) (time : ℕ) (row : LibraryRow) → length dll ≤ DLL_LIMIT → IsText NAME_LIMIT row.symbol → symbol_of (import_of dll time row) ≡ row.symbol
unfolding symbol_of text_from
symbol_read dll time row short symbol =
    ap (λ (xs : List ℕ). unwrap_or (text_at xs 0) []) (data_read dll time row short symbol.short ∙ append_assoc row.symbol (0 ∷ []) (text_bytes dll))
    ∙ ap (λ (found : Option (List ℕ)). unwrap_or found []) (text_here row.symbol (text_bytes dll) symbol.plain)

dll_read : (dll : List ℕ) (time : ℕ) (row : LibraryRow) → IsText DLL_LIMIT dll → IsText NAME_LIMIT row.symbol → dll_of (import_of dll time row) ≡ dll
unfolding dll_of text_from
dll_read dll time row name symbol =
    ap (λ (xs : List ℕ). unwrap_or (text_at (import_data (import_of dll time row)) (length xs + 1)) []) (symbol_read dll time row name.short symbol)
    ∙ ap (λ (xs : List ℕ). unwrap_or (text_at xs (length row.symbol + 1)) []) (data_read dll time row name.short symbol.short)
    ∙ ap (λ (xs : List ℕ). unwrap_or (text_at xs 0) []) (drop_at (text_bytes row.symbol) (text_bytes dll) (length row.symbol + 1) (length-text_bytes row.symbol))
    ∙ ap (λ (found : Option (List ℕ)). unwrap_or found []) (text_here dll [] name.plain)

-- ---- what the fields mean

kind_is : (kind : ImportKind) (by : ImportBy) → kind_of_type ((kind_number kind + 4 * name_type by) % 4) ≡ kind
kind_is Code (Ordinal number) = refl
kind_is Code (Named hint name) = refl
kind_is Data (Ordinal number) = refl
kind_is Data (Named hint name) = refl
kind_is Const (Ordinal number) = refl
kind_is Const (Named hint name) = refl

by_name_type : (kind : ImportKind) (by : ImportBy) → (kind_number kind + 4 * name_type by) / 4 % 8 ≡ name_type by
by_name_type Code (Ordinal number) = refl
by_name_type Code (Named hint name) = refl
by_name_type Data (Ordinal number) = refl
by_name_type Data (Named hint name) = refl
by_name_type Const (Ordinal number) = refl
by_name_type Const (Named hint name) = refl

by_is : (symbol : List ℕ) (by : ImportBy) → IsBySymbol symbol by → by_of_type (name_type by) (ordinal_or_hint by) symbol ≡ by
by_is symbol (Ordinal number) is = refl
by_is symbol (Named hint name) is = ap (Named hint) (sym is)

kind_known : (kind : ImportKind) (by : ImportBy) → ltb IMPORT_CONST ((kind_number kind + 4 * name_type by) % 4) ≡ false
kind_known Code (Ordinal number) = refl
kind_known Code (Named hint name) = refl
kind_known Data (Ordinal number) = refl
kind_known Data (Named hint name) = refl
kind_known Const (Ordinal number) = refl
kind_known Const (Named hint name) = refl

name_type_known : (by : ImportBy) → ltb IMPORT_NAME_UNDECORATE (name_type by) ≡ false
name_type_known (Ordinal number) = refl
name_type_known (Named hint name) = refl

-- ---- it is read back

some_text : (text : List ℕ) → 0 < length text → eqb (length text) 0 ≡ false
some_text text some = ne_eqb (length text) 0 (λ e. omega (arith, e, some))

header_well : (dll : List ℕ) (time : ℕ) (row : LibraryRow) → length dll ≤ DLL_LIMIT → length row.symbol ≤ NAME_LIMIT → header_fault (import_of dll time row) ≡ None
unfolding header_fault is_cut
header_well dll time row short symbol =
    let bytes = import_of dll time row in
    let long = length-import_of dll time row in
    let size = size_read dll time row short symbol in
    let head : ltb (length bytes) 20 ≡ false = le-ltb _ _ (omega (arith, long)) in
    let whole : ltb (length bytes) (20 + data_size bytes) ≡ false = le-ltb _ _ (omega (arith, long, size)) in
    let kind : ltb IMPORT_CONST (type_of bytes % 4) ≡ false = ap (λ (n : ℕ). ltb IMPORT_CONST (n % 4)) (type_read dll time row) ∙ kind_known row.kind row.by in
    let name : ltb IMPORT_NAME_UNDECORATE (type_of bytes / 4 % 8) ≡ false = ap (λ (n : ℕ). ltb IMPORT_NAME_UNDECORATE (n / 4 % 8)) (type_read dll time row) ∙ ap (ltb IMPORT_NAME_UNDECORATE) (by_name_type row.kind row.by) ∙ name_type_known row.by in
    rw (head, whole, machine_read dll time row, kind, name) refl

pub import_reads : (dll : List ℕ) (time : ℕ) (row : LibraryRow) → IsText DLL_LIMIT dll → IsText NAME_LIMIT row.symbol → IsBySymbol row.symbol row.by → FitsField row.by → ReadsAs (import_of dll time row) row dll
unfolding import_kind import_by import_fault
import_reads dll time row name symbol by fits =
    let bytes = import_of dll time row in
    let symbol_is = symbol_read dll time row name.short symbol in
    let dll_is = dll_read dll time row name symbol in
    record {
      well_formed = rw (header_well dll time row name.short symbol.short, symbol_is, dll_is, some_text row.symbol symbol.some, some_text dll name.some) refl;
      symbol = symbol_is;
      dll_is = dll_is;
      kind = ap (λ (n : ℕ). kind_of_type (n % 4)) (type_read dll time row) ∙ kind_is row.kind row.by;
      by = ap (λ (n : ℕ). by_of_type (n / 4 % 8) (field_of bytes) (symbol_of bytes)) (type_read dll time row)
          ∙ ap (λ (n : ℕ). by_of_type n (field_of bytes) (symbol_of bytes)) (by_name_type row.kind row.by)
          ∙ ap (λ (n : ℕ). by_of_type (name_type row.by) n (symbol_of bytes)) (field_read dll time row fits)
          ∙ ap (by_of_type (name_type row.by) (ordinal_or_hint row.by)) symbol_is
          ∙ by_is row.symbol row.by by;
    }
