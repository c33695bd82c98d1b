-- The lengths of the streams and of their parts.
use Rattle.std.proofs.Common.{◌≡◌, ℕ, ◌-◌, ◌*◌, ◌≤◌, List, [], ◌∷◌, ◌++◌, length, replicate, refl, sym, ap, ◌∙◌, subst, arith, length-append}
use Rattle.std.specs.List.{All, sum_by}
use Rattle.std.proofs.lemmas.List.{length-replicate}
use Rattle.std.proofs.lemmas.List.Sums.{sum_by-cons}
use Rattle.std.proofs.lemmas.List.Sorted.{All-permutation}
use Rattle.link_base.specs.Bytes.{number_bytes}
use Rattle.link_base.specs.Fields.{field_bytes, fields}
use Rattle.link_base.specs.declared.numbers.LeNumber.{LeNumber}
use Rattle.link_base.specs.declared.numbers.LeNumber.TheVariants.{U8, U16, U32, U64}
use Rattle.link_base.proofs.CallerLemmas.{length-number_bytes}
use Rattle.sorted_lists.proofs.CallerLemmas.{order_permutes}
use Rattle.pdb_publics.specs.declared.rows.PublicRow.{PublicRow}
use Rattle.pdb_publics.specs.declared.keys.HashKey.{HashKey}
use Rattle.pdb_publics.specs.declared.keys.PlaceKey.{PlaceKey}
use Rattle.pdb_publics.specs.PublicOrder.{row_cmp, by_name, record_size, extent, by_hash, IsKey}
use Rattle.pdb_publics.specs.PublicStreams.{PUBLIC_NAME_LIMIT, flags_of, record_of, records_of, hash_part, address_map, publics_of}
use Rattle.pdb_publics.proofs.KeyLemmas.{hashed_are_keys, length_by_hash, rows_are_few}

abbrev pub width : LeNumber → ℕ
width (U8 n) = 1
width (U16 n) = 2
width (U32 n) = 4
width (U64 n) = 8

pub length_field : (field : LeNumber) → length (field_bytes field) ≡ width field
length_field (U8 n) = length-number_bytes 1 n
length_field (U16 n) = length-number_bytes 2 n
length_field (U32 n) = length-number_bytes 4 n
length_field (U64 n) = length-number_bytes 8 n

pub length_fields : (table : List LeNumber) → length (fields table) ≡ sum_by width table
length_fields [] = refl
length_fields (field ∷ table) =
    let both = length-append (field_bytes field) (fields table) in
    let first = length_field field in
    let rest = length_fields table in
    let all = sum_by-cons width field table in
    omega (arith, both, first, rest, all)

-- ---- symbol records

pub front : PublicRow → List ℕ
front row = fields (U16 (record_size (length row.name) - 2) ∷ U16 0x110E ∷ U32 (flags_of row.function) ∷ U32 row.offset ∷ U16 row.section ∷ [])

pub length_front : (row : PublicRow) → length (front row) ≡ 14
unfolding front
length_front row = length_fields (U16 (record_size (length row.name) - 2) ∷ U16 0x110E ∷ U32 (flags_of row.function) ∷ U32 row.offset ∷ U16 row.section ∷ [])

pub length_record : (row : PublicRow) → length (record_of row) ≡ record_size (length row.name)
unfolding record_of front
length_record row =
    let zeros = replicate (record_size (length row.name) - 14 - length row.name) 0 in
    let a = length-append (front row) (row.name ++ zeros) in
    let b = length-append row.name zeros in
    let c = length-replicate {A = ℕ} (record_size (length row.name) - 14 - length row.name) 0 in
    let d = length_front row in
    omega (arith, a, b, c, d)

pub length_records : (rows : List PublicRow) → length (records_of rows) ≡ extent rows
length_records [] = refl
length_records (row ∷ rows) =
    let both = length-append (record_of row) (records_of rows) in
    let first = length_record row in
    let rest = length_records rows in
    let all = sum_by-cons (λ (r : PublicRow). record_size (length r.name)) row rows in
    omega (arith, both, first, rest, all)

-- ---- the address map

pub length_map : (keys : List PlaceKey) → length (address_map keys) ≡ 4 * length keys
length_map [] = refl
length_map (key ∷ keys) =
    let both = length-append (number_bytes 4 key.record_offset) (address_map keys) in
    let first = length-number_bytes 4 key.record_offset in
    let rest = length_map keys in
    omega (arith, both, first, rest)

pub map_fits : (hashed : List HashKey) (placed : List PlaceKey) → 4 * length placed ≤ length (publics_of hashed placed)
unfolding publics_of
map_fits hashed placed =
    let all = length-append (fields (U32 (length (hash_part hashed)) ∷ U32 (4 * length placed) ∷ U32 0 ∷ U32 0 ∷ U16 0 ∷ U16 0 ∷ U32 0 ∷ U32 0 ∷ [])) (hash_part hashed ++ address_map placed) in
    let both = length-append (hash_part hashed) (address_map placed) in
    let last = length_map placed in
    omega (arith, all, both, last)

-- ---- what the rows of a stream are

pub extent_fits : (rows taken : List PublicRow) → taken ≡ by_name rows → length (records_of (by_name rows)) ≤ 1073741824 → extent taken ≤ 1073741824
extent_fits rows taken is fits = let size = length_records (by_name rows) in let same = ap extent is in omega (arith, size, same, fits)

pub keys_fit : (rows : List PublicRow) (hashed : List HashKey) → hashed ≡ by_hash rows → extent rows ≤ 1073741824 → All IsKey hashed
keys_fit rows hashed is fits = subst (All IsKey) (sym is) (hashed_are_keys rows fits)

pub keys_are_few : (rows : List PublicRow) (hashed : List HashKey) → hashed ≡ by_hash rows → extent rows ≤ 1073741824 → length hashed ≤ 134217728
keys_are_few rows hashed is fits =
    let few = rows_are_few rows in
    let same = ap length is ∙ length_by_hash rows in
    omega (arith, few, same, fits)

pub names_fit : (rows taken : List PublicRow) → taken ≡ by_name rows → All (λ row. length row.name ≤ PUBLIC_NAME_LIMIT) rows → All (λ row. length row.name ≤ PUBLIC_NAME_LIMIT) taken
names_fit rows taken is each =
    subst (All (λ row. length row.name ≤ PUBLIC_NAME_LIMIT)) (sym is) (All-permutation (λ row. length row.name ≤ PUBLIC_NAME_LIMIT) rows (by_name rows) (order_permutes row_cmp rows) each)
