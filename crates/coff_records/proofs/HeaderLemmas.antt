-- Which form a header has, and what is read of it.
use Rattle.std.proofs.Common.{◌≡◌, ◌≢◌, ℕ, ◌+◌, ◌-◌, ◌*◌, ◌<◌, Bool, ◌&&◌, cond, eqb, false, List, [], ◌∷◌, drop, length, slice_index, refl, ap, sym, ◌∙◌, arith}
use Rattle.std.proofs.lemmas.Bool.{ne_eqb}
use Rattle.std.proofs.lemmas.List.{drop_all}
use Rattle.link_base.specs.NameText.{begins}
use Rattle.link_base.specs.Bytes.{bytes_at}
use Rattle.coff_records.specs.ObjectHeader.{is_big_object, big_object_class, symbol_size, symbols_offset, section_headers_offset}
use Rattle.coff_records.specs.StringTable.{string_table}
use Rattle.coff_records.specs.SymbolRecord.{SymbolView, record_size}
use Rattle.coff_records.specs.ObjectFile.{section_at, record_offset, record_at, symbol_at}

pub not_big : (bytes : List ℕ) → 0 < length bytes → slice_index bytes 0 ≢ 0 → is_big_object bytes ≡ false
unfolding is_big_object
not_big [] some other = absurd (omega arith)
not_big (byte ∷ rest) some other =
    ap (λ (first : Bool). (first && begins rest (0 ∷ 0xFF ∷ 0xFF ∷ 2 ∷ 0 ∷ [])) && begins (drop 12 (byte ∷ rest)) big_object_class) (ne_eqb 0 byte (λ e. other (sym e)))

pub no_class : (bytes : List ℕ) → length bytes < 12 → begins (drop 12 bytes) big_object_class ≡ false
unfolding big_object_class
no_class bytes lt = rw (drop_all 12 bytes (omega arith)) refl

-- a count of records, by what the pointer and the field are
pub counted_is : (symbols count pointer field r : ℕ) → r ≡ cond (eqb symbols 0) 0 count → symbols ≡ pointer → count ≡ field → r ≡ cond (eqb pointer 0) 0 field
counted_is symbols count pointer field r is same counts = rw (is, same, counts) refl

-- ---- views of a file by its header

pub size_of_form : (inside file : List ℕ) (is_big : Bool) → inside ≡ file → is_big ≡ is_big_object inside → record_size is_big ≡ symbol_size file
unfolding symbol_size
size_of_form inside file is_big same form = rw (form, same) refl

pub record_place : (file : List ℕ) (start size index : ℕ) → start ≡ symbols_offset file → size ≡ symbol_size file → start + size * index ≡ record_offset file index
unfolding record_offset
record_place file start size index starts sizes = rw (starts, sizes) refl

pub record_is : (inside file part : List ℕ) (start size index : ℕ) → inside ≡ file → start ≡ record_offset file index → size ≡ symbol_size file → part ≡ bytes_at inside start size → part ≡ record_at file index
unfolding record_at
record_is inside file part start size index same starts sizes is = is ∙ rw (same, starts, sizes) refl

pub header_is : (inside file part : List ℕ) (start section : ℕ) → inside ≡ file → start ≡ section_headers_offset file → part ≡ bytes_at inside (start + 40 * (section - 1)) 40 → part ≡ section_at file section
unfolding section_at
header_is inside file part start section same starts is = is ∙ rw (same, starts) refl

pub symbol_is : (inside file part strings : List ℕ) (is_big : Bool) (index : ℕ) (symbol : SymbolView) → inside ≡ file → is_big ≡ is_big_object inside → part ≡ record_at file index → strings ≡ string_table file → symbol ≡ record { is_big = is_big; bytes = part; strings = strings } → symbol ≡ symbol_at file index
unfolding symbol_at
symbol_is inside file part strings is_big index symbol same form parts table is = is ∙ rw (form, parts, table, same) refl
