-- Rows read from the bytes that were written of them, and bytes written of the rows that were read from them.
use Rattle.std.proofs.Common.{◌≡◌, ℕ, zero, suc, ◌+◌, ◌*◌, ◌/◌, ◌%◌, ◌^◌, ◌<◌, ◌≤◌, List, [], ◌∷◌, ◌++◌, length, get_or, map, take, drop, slice_index, inl, inr, refl, sym, ap, ◌∙◌, subst, append_assoc, length-append, arith}
use Rattle.std.specs.List.{All, flat_map, range_with_len}
use Rattle.std.specs.Int.{byte_at, bytes_low_first}
use Rattle.std.proofs.Math.Nat.{div-one, div-div-eq-div-mul, pow-suc}
use Rattle.std.proofs.Math.Seq.{take-add}
use Rattle.std.proofs.lemmas.Bool.{cases_lt}
use Rattle.std.proofs.lemmas.List.{append-nil, drop_at, drop_more, drop-drop, get_or_past, take_all}
use Rattle.std.proofs.lemmas.List.Elements.{All-nil, All-cons, All-append}
use Rattle.std.proofs.lemmas.List.FromFn.{fill_by_all, get_or-map-range_with_len, length-map-range_with_len}
use Rattle.byteorder.specs.Endian.{little_from}
use Rattle.byteorder.specs.Numbers.{little_from-lt}
use Rattle.link_base.specs.Bytes.{number_at, number_bytes, bytes_at}
use Rattle.link_base.proofs.CallerLemmas.{number_at-drop, number_at-number_bytes, length-number_bytes}
use Rattle.pdata_table.specs.declared.row.Row.{Row}
use Rattle.pdata_table.specs.Rows.{HasWholeRows, row_at, rows_of, row_bytes, table_of}

-- ---- rows that were written

-- the numbers of a row have four bytes each
pub record Fits (row : Row) : Type 0 where
  pub begin : row.begin < 256 ^ 4
  pub end : row.end < 256 ^ 4
  pub unwind : row.unwind < 256 ^ 4

pub length_row : (row : Row) → length (row_bytes row) ≡ 12
unfolding row_bytes
length_row row =
    let last = length-append (number_bytes 4 row.unwind) [] in
    let second = length-append (number_bytes 4 row.end) (number_bytes 4 row.unwind ++ []) in
    let all = length-append (number_bytes 4 row.begin) (number_bytes 4 row.end ++ (number_bytes 4 row.unwind ++ [])) in
    omega (arith, last, second, all, length-number_bytes 4 row.begin, length-number_bytes 4 row.end, length-number_bytes 4 row.unwind)

pub length_table : (rows : List Row) → length (table_of rows) ≡ 12 * length rows
length_table [] = refl
length_table (row ∷ rows) =
    let both = length-append (row_bytes row) (table_of rows) in
    omega (arith, both, length_row row, length_table rows)

byte_at-small : (k x : ℕ) → byte_at k x < 256
byte_at-small zero x = omega arith
byte_at-small (suc k) x = omega arith

small_number : (j k x : ℕ) → All (λ byte. byte < 256) (bytes_low_first j k x)
small_number j zero x = All-nil (λ byte. byte < 256)
small_number j (suc k) x = All-cons (λ byte. byte < 256) (byte_at j x) (bytes_low_first (suc j) k x) (byte_at-small j x) (small_number (suc j) k x)

small_numbers : (numbers : List ℕ) → All (λ byte. byte < 256) (flat_map (number_bytes 4) numbers)
unfolding number_bytes
small_numbers [] = All-nil (λ byte. byte < 256)
small_numbers (n ∷ numbers) = All-append (λ byte. byte < 256) (bytes_low_first 0 4 n) (flat_map (number_bytes 4) numbers) (small_number 0 4 n) (small_numbers numbers)

-- the table of any rows is of bytes
pub small_table : (rows : List Row) → All (λ byte. byte < 256) (table_of rows)
unfolding row_bytes
small_table [] = All-nil (λ byte. byte < 256)
small_table (row ∷ rows) = All-append (λ byte. byte < 256) (row_bytes row) (table_of rows) (small_numbers (row.begin ∷ row.end ∷ row.unwind ∷ [])) (small_table rows)

-- a number stands behind a list where it stands in what follows
behind : (offset i place : ℕ) (front rest : List ℕ) → length front ≡ offset → place ≡ offset + i → number_at 4 (front ++ rest) place ≡ number_at 4 rest i
behind offset i place front rest long is =
    ap (number_at 4 (front ++ rest)) is
    ∙ sym (number_at-drop 4 offset i (front ++ rest))
    ∙ ap (λ (xs : List ℕ). number_at 4 xs i) (drop_at front rest offset long)

first_number : (n : ℕ) (more rest : List ℕ) → n < 256 ^ 4 → number_at 4 ((number_bytes 4 n ++ more) ++ rest) 0 ≡ n
first_number n more rest fits =
    ap (λ (xs : List ℕ). number_at 4 xs 0) (append_assoc (number_bytes 4 n) more rest) ∙ number_at-number_bytes 4 n (more ++ rest) fits

later_number : (n i place : ℕ) (more rest : List ℕ) → place ≡ 4 + i → number_at 4 ((number_bytes 4 n ++ more) ++ rest) place ≡ number_at 4 (more ++ rest) i
later_number n i place more rest is =
    ap (λ (xs : List ℕ). number_at 4 xs place) (append_assoc (number_bytes 4 n) more rest)
    ∙ behind 4 i place (number_bytes 4 n) (more ++ rest) (length-number_bytes 4 n) is

first_row : (row : Row) (rest : List ℕ) → Fits row → row_at (row_bytes row ++ rest) 0 ≡ row
unfolding row_bytes
first_row row rest fits = λ i. record { begin = begin i; end = end i; unwind = unwind i }
  where
    last : List ℕ
    last = number_bytes 4 row.unwind ++ []

    begin : number_at 4 (row_bytes row ++ rest) 0 ≡ row.begin
    begin = first_number row.begin (number_bytes 4 row.end ++ (number_bytes 4 row.unwind ++ [])) rest fits.begin

    end : number_at 4 (row_bytes row ++ rest) 4 ≡ row.end
    end =
        later_number row.begin 0 4 (number_bytes 4 row.end ++ (number_bytes 4 row.unwind ++ [])) rest refl
        ∙ first_number row.end (number_bytes 4 row.unwind ++ []) rest fits.end

    unwind : number_at 4 (row_bytes row ++ rest) 8 ≡ row.unwind
    unwind =
        later_number row.begin 4 8 (number_bytes 4 row.end ++ (number_bytes 4 row.unwind ++ [])) rest refl
        ∙ later_number row.end 0 4 (number_bytes 4 row.unwind ++ []) rest refl
        ∙ first_number row.unwind [] rest fits.unwind

later_row : (front rest : List ℕ) (k : ℕ) → length front ≡ 12 → row_at (front ++ rest) (suc k) ≡ row_at rest k
later_row front rest k long = λ i. record { begin = begin i; end = end i; unwind = unwind i }
  where
    begin : number_at 4 (front ++ rest) (12 * suc k) ≡ number_at 4 rest (12 * k)
    begin = behind 12 (12 * k) (12 * suc k) front rest long (omega arith)

    end : number_at 4 (front ++ rest) (12 * suc k + 4) ≡ number_at 4 rest (12 * k + 4)
    end = behind 12 (12 * k + 4) (12 * suc k + 4) front rest long (omega arith)

    unwind : number_at 4 (front ++ rest) (12 * suc k + 8) ≡ number_at 4 rest (12 * k + 8)
    unwind = behind 12 (12 * k + 8) (12 * suc k + 8) front rest long (omega arith)

row_read : (rows : List Row) (k : ℕ) (d : Row) → All Fits rows → k < length rows → get_or rows k d ≡ row_at (table_of rows) k
row_read [] k d fit lt = absurd (omega (arith, lt))
row_read (row ∷ rows) zero d fit lt = sym (first_row row (table_of rows) (fit 0 d (omega arith)))
row_read (row ∷ rows) (suc k) d fit lt =
    row_read rows k d (λ i e low. fit (suc i) e (omega (arith, low))) (omega (arith, lt))
    ∙ sym (later_row (row_bytes row) (table_of rows) k (length_row row))

zeros : Row
zeros = record { begin = 0; end = 0; unwind = 0 }

pub rows_back : (rows : List Row) → All Fits rows → rows_of (table_of rows) ≡ rows
unfolding rows_of
rows_back rows fit =
    let long = length_table rows in
    let count : length rows ≡ length (table_of rows) / 12 = omega (arith, long) in
    sym (fill_by_all (row_at (table_of rows)) rows (length (table_of rows) / 12) zeros count (λ k lt. row_read rows k zeros fit (omega (arith, lt, count))))

-- ---- rows that were read

abbrev pub HaveBytes : List ℕ → Type 0
HaveBytes bytes = (k : ℕ) → slice_index bytes k < 256

-- a list of bytes has bytes, and zeros past its end
pub have_bytes : (bytes : List ℕ) → All (λ byte. byte < 256) bytes → HaveBytes bytes
have_bytes bytes all k =
    elim (cases_lt k (length bytes)) [
      | inl lt ↦ all k 0 lt
      | inr past ↦ let none = get_or_past bytes k 0 past in omega (arith, none)
    ]

pub length_rows_of : (table : List ℕ) → length (rows_of table) ≡ length table / 12
unfolding rows_of
length_rows_of table = length-map-range_with_len (row_at table) 0 (length table / 12)

pub row_of_index : (table : List ℕ) (k : ℕ) (d : Row) → k < length table / 12 → get_or (rows_of table) k d ≡ row_at table k
unfolding rows_of
row_of_index table k d lt = get_or-map-range_with_len (row_at table) 0 (length table / 12) k k d lt (omega arith)

number_fits : (table : List ℕ) (at : ℕ) → HaveBytes table → number_at 4 table at < 256 ^ 4
unfolding number_at
number_fits table at small = little_from-lt at 4 table small

pub rows_fit : (table : List ℕ) → HaveBytes table → All Fits (rows_of table)
rows_fit table small k d lt =
    let count = length_rows_of table in
    subst Fits (sym (row_of_index table k d (omega (arith, lt, count))))
    (record { begin = number_fits table (12 * k) small; end = number_fits table (12 * k + 4) small; unwind = number_fits table (12 * k + 8) small })

byte_at-pow : (k x : ℕ) → byte_at k x ≡ x / 256 ^ k % 256
byte_at-pow zero x = ap (λ (y : ℕ). y % 256) (sym (div-one x))
byte_at-pow (suc k) x = refl

-- the bytes of a number that was read are those that it was read from
bytes_back : (k j x i : ℕ) (xs : List ℕ) → ((n : ℕ) → slice_index xs n < 256) → x / 256 ^ j ≡ little_from i k xs → i + k ≤ length xs → bytes_low_first j k x ≡ take k (drop i xs)
bytes_back zero j x i xs small is fits = refl
bytes_back (suc k) j x i xs small is fits =
    let byte = slice_index xs i in
    let rest = little_from (suc i) k xs in
    let here : byte_at j x ≡ byte = byte_at-pow j x ∙ low (x / 256 ^ j) byte rest is (small i) in
    let shift : x / 256 ^ suc j ≡ rest = ap (λ (p : ℕ). x / p) (pow-suc 256 j) ∙ sym (div-div-eq-div-mul x (256 ^ j) 256) ∙ high (x / 256 ^ j) byte rest is (small i) in
    let next : suc i ≡ i + 1 = omega arith in
    let more = bytes_back k (suc j) x (suc i) xs small shift (omega arith) ∙ ap (λ (n : ℕ). take k (drop n xs)) next in
    ap (λ (n : ℕ). n ∷ bytes_low_first (suc j) k x) here
    ∙ ap (λ (ns : List ℕ). byte ∷ ns) more
    ∙ sym (ap (take (suc k)) (drop_more xs i 0 (omega arith)))
  where
    low : (whole byte rest : ℕ) → whole ≡ byte + 256 * rest → byte < 256 → whole % 256 ≡ byte
    low whole byte rest e lt = omega arith

    high : (whole byte rest : ℕ) → whole ≡ byte + 256 * rest → byte < 256 → whole / 256 ≡ rest
    high whole byte rest e lt = omega arith

number_back : (table : List ℕ) (at : ℕ) → HaveBytes table → at + 4 ≤ length table → number_bytes 4 (number_at 4 table at) ≡ bytes_at table at 4
unfolding number_bytes number_at
number_back table at small fits = bytes_back 4 0 (little_from at 4 table) at table small (div-one (little_from at 4 table)) fits

in_two : (bytes : List ℕ) (at next m n : ℕ) → next ≡ at + m → bytes_at bytes at (m + n) ≡ bytes_at bytes at m ++ bytes_at bytes next n
in_two bytes at next m n is =
    take-add m n (drop at bytes)
    ∙ ap (λ (xs : List ℕ). bytes_at bytes at m ++ take n xs) (drop-drop m at bytes ∙ ap (λ (k : ℕ). drop k bytes) (sym is))

row_back : (table : List ℕ) (k : ℕ) → HaveBytes table → 12 * k + 12 ≤ length table → row_bytes (row_at table k) ≡ bytes_at table (12 * k) 12
unfolding row_bytes
row_back table k small fits =
    ap (λ (xs : List ℕ). number_bytes 4 (number_at 4 table (12 * k)) ++ (number_bytes 4 (number_at 4 table (12 * k + 4)) ++ xs)) (append-nil (number_bytes 4 (number_at 4 table (12 * k + 8))))
    ∙ ap (λ (xs : List ℕ). xs ++ (number_bytes 4 (number_at 4 table (12 * k + 4)) ++ number_bytes 4 (number_at 4 table (12 * k + 8)))) (number_back table (12 * k) small (omega (arith, fits)))
    ∙ ap (λ (xs : List ℕ). bytes_at table (12 * k) 4 ++ (xs ++ number_bytes 4 (number_at 4 table (12 * k + 8)))) (number_back table (12 * k + 4) small (omega (arith, fits)))
    ∙ ap (λ (xs : List ℕ). bytes_at table (12 * k) 4 ++ (bytes_at table (12 * k + 4) 4 ++ xs)) (number_back table (12 * k + 8) small (omega (arith, fits)))
    ∙ sym (ap (λ (xs : List ℕ). bytes_at table (12 * k) 4 ++ xs) (in_two table (12 * k + 4) (12 * k + 8) 4 4 (omega arith)))
    ∙ sym (in_two table (12 * k) (12 * k + 4) 4 8 refl)

rows_back_from : (table : List ℕ) (k n : ℕ) → HaveBytes table → 12 * k + 12 * n ≤ length table → table_of (map (row_at table) (range_with_len k n)) ≡ bytes_at table (12 * k) (12 * n)
rows_back_from table k zero small fits = refl
rows_back_from table k (suc n) small fits =
    let whole : 12 + 12 * n ≡ 12 * suc n = omega arith in
    ap (λ (xs : List ℕ). xs ++ table_of (map (row_at table) (range_with_len (k + 1) n))) (row_back table k small (omega (arith, fits)))
    ∙ ap (λ (xs : List ℕ). bytes_at table (12 * k) 12 ++ xs) (rows_back_from table (k + 1) n small (omega (arith, fits)))
    ∙ sym (in_two table (12 * k) (12 * (k + 1)) 12 (12 * n) (omega arith))
    ∙ ap (bytes_at table (12 * k)) whole

pub table_back : (table : List ℕ) → HaveBytes table → HasWholeRows table → table_of (rows_of table) ≡ table
unfolding rows_of
table_back table small whole =
    rows_back_from table 0 (length table / 12) small (omega (arith, whole))
    ∙ take_all (12 * (length table / 12)) table (omega (arith, whole))
