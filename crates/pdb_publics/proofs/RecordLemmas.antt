-- A symbol record as it is read back.
use Rattle.std.proofs.Common.{◌≡◌, ℕ, zero, suc, ◌+◌, ◌-◌, ◌<◌, ◌≤◌, Bool, true, false, eqb, leb, le-leb, lt-ltb, List, [], ◌∷◌, ◌++◌, length, get_or, take, drop, replicate, Some, option_map, refl, sym, ap, ◌∙◌, append_assoc, arith, length-append, length-drop}
use Rattle.std.specs.List.{position, position_or_len}
use Rattle.std.proofs.lemmas.List.{drop-drop, drop_at, take_at, length-replicate, get_or-replicate, get_or_append_left, get_or-append-add}
use Rattle.std.proofs.lemmas.List.Sums.{sum_by-cons, position_or_len_is}
use Rattle.link_base.specs.Bytes.{number_at, number_bytes, bytes_at, is_nul, text_at}
use Rattle.link_base.specs.Fields.{fields, field_bytes}
use Rattle.link_base.specs.declared.numbers.LeNumber.{LeNumber}
use Rattle.link_base.specs.declared.numbers.LeNumber.TheVariants.{U16, U32}
use Rattle.link_base.proofs.CallerLemmas.{number_at-number_bytes, number_at-drop}
use Rattle.link_base.proofs.NumberLemmas.{not_zero}
use Rattle.pdb_publics.specs.declared.rows.PublicRow.{PublicRow}
use Rattle.pdb_publics.specs.PublicOrder.{record_size, extent}
use Rattle.pdb_publics.specs.PublicStreams.{flags_of, record_of, records_of}
use Rattle.pdb_publics.specs.Lookup.{name_at, public_at}
use Rattle.pdb_publics.specs.WrittenPublics.{IsRow, public_of}
use Rattle.pdb_publics.proofs.CountLemmas.{number_behind}
use Rattle.pdb_publics.proofs.StreamLemmas.{width, length_field, length_fields, length_record}

-- ---- numbers in fields

pub first_u32 : (a : ℕ) (table : List LeNumber) (rest : List ℕ) → a < 4294967296 → number_at 4 (fields (U32 a ∷ table) ++ rest) 0 ≡ a
first_u32 a table rest fits =
    ap (λ (xs : List ℕ). number_at 4 xs 0) (append_assoc (number_bytes 4 a) (fields table) rest) ∙ number_at-number_bytes 4 a (fields table ++ rest) fits

pub first_u16 : (a : ℕ) (table : List LeNumber) (rest : List ℕ) → a < 65536 → number_at 2 (fields (U16 a ∷ table) ++ rest) 0 ≡ a
first_u16 a table rest fits =
    ap (λ (xs : List ℕ). number_at 2 xs 0) (append_assoc (number_bytes 2 a) (fields table) rest) ∙ number_at-number_bytes 2 a (fields table ++ rest) fits

pub later_field : (n : ℕ) (field : LeNumber) (table : List LeNumber) (rest : List ℕ) (i at : ℕ) → at ≡ width field + i → number_at n (fields (field ∷ table) ++ rest) at ≡ number_at n (fields table ++ rest) i
later_field n field table rest i at is =
    ap (λ (xs : List ℕ). number_at n xs at) (append_assoc (field_bytes field) (fields table) rest)
    ∙ number_behind n (field_bytes field) (fields table ++ rest) (width field) i at (length_field field) is

-- ---- a record in the stream

pub record_stands : (rows : List PublicRow) (i : ℕ) (d : PublicRow) → i < length rows → drop (extent (take i rows)) (records_of rows) ≡ record_of (get_or rows i d) ++ records_of (drop (i + 1) rows)
record_stands [] i d lt = absurd (omega (arith, lt))
record_stands (row ∷ rows) zero d lt = refl
record_stands (row ∷ rows) (suc i) d lt =
    let size = record_size (length row.name) in
    let more = sum_by-cons (λ (r : PublicRow). record_size (length r.name)) row (take i rows) in
    let whole : extent (take (suc i) (row ∷ rows)) ≡ size + extent (take i rows) = more in
    let place : i + 1 ≡ i + 1 = refl in
    let next : suc i + 1 ≡ suc (i + 1) = omega arith in
    ap (λ (n : ℕ). drop n (records_of (row ∷ rows))) whole
    ∙ sym (drop-drop (extent (take i rows)) size (records_of (row ∷ rows)))
    ∙ ap (drop (extent (take i rows))) (drop_at (record_of row) (records_of rows) size (length_record row))
    ∙ record_stands rows i d (omega (arith, lt))
    ∙ ap (λ (n : ℕ). record_of (get_or rows i d) ++ records_of (drop n (row ∷ rows))) (sym next)

-- ---- what is read at its offset

fields_of : PublicRow → List LeNumber
fields_of row = U16 (record_size (length row.name) - 2) ∷ U16 0x110E ∷ U32 (flags_of row.function) ∷ U32 row.offset ∷ U16 row.section ∷ []

zeros_of : PublicRow → List ℕ
zeros_of row = replicate (record_size (length row.name) - 14 - length row.name) 0

parts : (row : PublicRow) → record_of row ≡ fields (fields_of row) ++ (row.name ++ zeros_of row)
unfolding record_of fields_of zeros_of
parts row = refl

parts_then : (row : PublicRow) (rest : List ℕ) → record_of row ++ rest ≡ fields (fields_of row) ++ ((row.name ++ zeros_of row) ++ rest)
parts_then row rest = ap (λ (xs : List ℕ). xs ++ rest) (parts row) ∙ append_assoc (fields (fields_of row)) (row.name ++ zeros_of row) rest

length_front_of : (row : PublicRow) → length (fields (fields_of row)) ≡ 14
unfolding fields_of
length_front_of row = length_fields (fields_of row)

at_offset : (n offset i : ℕ) (records rest : List ℕ) (row : PublicRow) → drop offset records ≡ record_of row ++ rest → number_at n records (offset + i) ≡ number_at n (fields (fields_of row) ++ ((row.name ++ zeros_of row) ++ rest)) i
at_offset n offset i records rest row stands =
    sym (number_at-drop n offset i records) ∙ ap (λ (xs : List ℕ). number_at n xs i) (stands ∙ parts_then row rest)

flags_small : (function : Bool) → flags_of function < 4294967296
flags_small true = omega arith
flags_small false = omega arith

pub size_read : (offset : ℕ) (records rest : List ℕ) (row : PublicRow) → IsRow row → drop offset records ≡ record_of row ++ rest → number_at 2 records offset ≡ record_size (length row.name) - 2
unfolding fields_of
size_read offset records rest row is stands =
    let e : offset ≡ offset + 0 = omega arith in
    let name = is.name in
    ap (number_at 2 records) e ∙ at_offset 2 offset 0 records rest row stands
    ∙ first_u16 (record_size (length row.name) - 2) (U16 0x110E ∷ U32 (flags_of row.function) ∷ U32 row.offset ∷ U16 row.section ∷ []) ((row.name ++ zeros_of row) ++ rest) (omega (arith, name))

pub public_read : (offset : ℕ) (records rest : List ℕ) (row : PublicRow) → IsRow row → drop offset records ≡ record_of row ++ rest → public_at records offset ≡ public_of row
unfolding public_at fields_of
public_read offset records rest row is stands = λ i. record { section = section i; offset = place i; flags = flags i }
  where
    tail : List ℕ
    tail = (row.name ++ zeros_of row) ++ rest

    flags : number_at 4 records (offset + 4) ≡ flags_of row.function
    flags =
        at_offset 4 offset 4 records rest row stands
        ∙ later_field 4 (U16 (record_size (length row.name) - 2)) (U16 0x110E ∷ U32 (flags_of row.function) ∷ U32 row.offset ∷ U16 row.section ∷ []) tail 2 4 refl
        ∙ later_field 4 (U16 0x110E) (U32 (flags_of row.function) ∷ U32 row.offset ∷ U16 row.section ∷ []) tail 0 2 refl
        ∙ first_u32 (flags_of row.function) (U32 row.offset ∷ U16 row.section ∷ []) tail (flags_small row.function)

    place : number_at 4 records (offset + 8) ≡ row.offset
    place =
        at_offset 4 offset 8 records rest row stands
        ∙ later_field 4 (U16 (record_size (length row.name) - 2)) (U16 0x110E ∷ U32 (flags_of row.function) ∷ U32 row.offset ∷ U16 row.section ∷ []) tail 6 8 refl
        ∙ later_field 4 (U16 0x110E) (U32 (flags_of row.function) ∷ U32 row.offset ∷ U16 row.section ∷ []) tail 4 6 refl
        ∙ later_field 4 (U32 (flags_of row.function)) (U32 row.offset ∷ U16 row.section ∷ []) tail 0 4 refl
        ∙ first_u32 row.offset (U16 row.section ∷ []) tail is.offset

    section : number_at 2 records (offset + 12) ≡ row.section
    section =
        at_offset 2 offset 12 records rest row stands
        ∙ later_field 2 (U16 (record_size (length row.name) - 2)) (U16 0x110E ∷ U32 (flags_of row.function) ∷ U32 row.offset ∷ U16 row.section ∷ []) tail 10 12 refl
        ∙ later_field 2 (U16 0x110E) (U32 (flags_of row.function) ∷ U32 row.offset ∷ U16 row.section ∷ []) tail 8 10 refl
        ∙ later_field 2 (U32 (flags_of row.function)) (U32 row.offset ∷ U16 row.section ∷ []) tail 4 8 refl
        ∙ later_field 2 (U32 row.offset) (U16 row.section ∷ []) tail 0 4 refl
        ∙ first_u16 row.section [] tail is.section

-- ---- its name

name_ends : (row : PublicRow) → IsRow row → position is_nul (row.name ++ zeros_of row) ≡ Some (length row.name)
unfolding zeros_of
name_ends row is =
    let text = row.name ++ zeros_of row in
    let count = record_size (length row.name) - 14 - length row.name in
    let some : 0 < count = omega arith in
    let zeros = length-replicate {A = ℕ} count 0 in
    let both = length-append row.name (zeros_of row) in
    let e : length row.name ≡ length row.name + 0 = omega arith in
    let here : position_or_len is_nul text ≡ length row.name =
    position_or_len_is is_nul text (length row.name) 0 (omega (arith, both))
    (λ k lt. ap (λ (n : ℕ). eqb n 0) (get_or_append_left row.name (zeros_of row) 0 k lt) ∙ not_zero (get_or row.name k 0) (is.no_nul k 0 lt))
    (λ lt. ap (λ (n : ℕ). eqb n 0) (ap (λ (n : ℕ). get_or text n 0) e ∙ get_or-append-add row.name (zeros_of row) 0 0 ∙ get_or-replicate count 0 0 0 some)) in
    rw here (rw (lt-ltb (length row.name) (length text) (omega (arith, both, zeros, some))) refl)

pub name_read : (offset : ℕ) (records rest : List ℕ) (row : PublicRow) → IsRow row → drop offset records ≡ record_of row ++ rest → name_at records offset ≡ Some row.name
unfolding name_at
name_read offset records rest row is stands =
    rw (there 2 (omega arith), size, there (2 + (record_size (length row.name) - 2)) (omega arith)) text
  where
    size : number_at 2 records offset ≡ record_size (length row.name) - 2
    size = size_read offset records rest row is stands

    whole : 2 + (record_size (length row.name) - 2) ≡ record_size (length row.name)
    whole = omega arith

    long : length (record_of row) ≡ record_size (length row.name)
    long = length_record row

    fits : offset + record_size (length row.name) ≤ length records
    fits =
        let left = length-drop offset records in
        let same = ap (λ (xs : List ℕ). length xs) stands in
        let both = length-append (record_of row) rest in
        omega (arith, left, same, both, long)

    there : (n : ℕ) → n ≤ record_size (length row.name) → leb (offset + n) (length records) ≡ true
    there n le = le-leb (offset + n) (length records) (omega (arith, le, fits))

    cut : bytes_at records offset (2 + (record_size (length row.name) - 2)) ≡ record_of row
    cut = ap (λ (n : ℕ). take n (drop offset records)) whole ∙ ap (take (record_size (length row.name))) stands ∙ take_at (record_of row) rest (record_size (length row.name)) long

    tail : drop 14 (record_of row) ≡ row.name ++ zeros_of row
    tail = ap (drop 14) (parts row) ∙ drop_at (fields (fields_of row)) (row.name ++ zeros_of row) 14 (length_front_of row)

    text : text_at (bytes_at records offset (2 + (record_size (length row.name) - 2))) 14 ≡ Some row.name
    text =
        ap (λ (xs : List ℕ). text_at xs 14) cut
        ∙ ap (λ (xs : List ℕ). option_map (λ (n : ℕ). take n xs) (position is_nul xs)) tail
        ∙ ap (option_map (λ (n : ℕ). take n (row.name ++ zeros_of row))) (name_ends row is)
        ∙ ap Some (take_at row.name (zeros_of row) (length row.name) refl)
