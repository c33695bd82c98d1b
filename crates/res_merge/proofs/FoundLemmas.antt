-- What is read of a table where it stands.
use Rattle.std.proofs.Common.{◌≡◌, ℕ, ◌+◌, ◌-◌, ◌*◌, ◌/◌, ◌^◌, ◌<◌, min, Bool, true, false, cond, not, List, [], ◌∷◌, ◌++◌, length, drop, map, refl, sym, ap, ◌∙◌, append_assoc, length-append, length-drop, arith}
use Rattle.std.proofs.Math.Seq.{drop-append_seam}
use Rattle.std.specs.Prelude.{count_by}
use Rattle.std.specs.List.{flat_map, range_with_len, AllByRecursion}
use Rattle.std.proofs.lemmas.List.{drop-drop}
use Rattle.std.proofs.lemmas.List.Sums.{sum_by-cons}
use Rattle.link_base.specs.Bytes.{number_bytes, u16_at, u32_at}
use Rattle.link_base.proofs.CallerLemmas.{length-number_bytes}
use Rattle.link_base.proofs.PartLemmas.{number_there}
use Rattle.res_merge.specs.declared.rows.Row.{Row}
use Rattle.res_merge.specs.Tree.{row_bytes, is_text_row, table, table_header}
use Rattle.res_merge.specs.Lookup.{row_at, row_count, rows_at}

-- ---- bytes that stand at a place

-- behind a part stands the rest
pub behind : (bytes part rest : List ℕ) (at size : ℕ) → drop at bytes ≡ part ++ rest → length part ≡ size → drop (at + size) bytes ≡ rest
behind bytes part rest at size is len =
    sym (drop-drop size at bytes) ∙ ap (drop size) is ∙ ap (λ (n : ℕ). drop n (part ++ rest)) (sym len) ∙ drop-append_seam part rest

-- ---- entries of a table

pub row_size : (row : Row) → length (row_bytes row) ≡ 8
row_size row = simp (length-append) (omega (arith, length-number_bytes 4 row.id, length-number_bytes 4 row.target))

row_there : (part rest : List ℕ) (at : ℕ) (row : Row) → drop at part ≡ row_bytes row ++ rest → row.id < 2 ^ 32 → row.target < 2 ^ 32 → (u32_at part at ≡ row.id) × (u32_at part (at + 4) ≡ row.target)
row_there part rest at row is small also =
    let first : drop at part ≡ number_bytes 4 row.id ++ ((number_bytes 4 row.target ++ []) ++ rest) = is ∙ append_assoc (number_bytes 4 row.id) (number_bytes 4 row.target ++ []) rest in
    let second : drop (at + 4) part ≡ number_bytes 4 row.target ++ ([] ++ rest) = behind part (number_bytes 4 row.id) ((number_bytes 4 row.target ++ []) ++ rest) at 4 first (length-number_bytes 4 row.id) ∙ append_assoc (number_bytes 4 row.target) [] rest in
    (number_there 4 row.id at part _ first small, number_there 4 row.target (at + 4) part _ second also)

-- numbers that four bytes can hold
abbrev pub IsSmallRow : Row → Type 0
IsSmallRow row = (row.id < 2 ^ 32) × (row.target < 2 ^ 32)

rows_there : (part rest : List ℕ) (at k : ℕ) (rows : List Row) → drop (at + 16 + 8 * k) part ≡ flat_map row_bytes rows ++ rest → AllByRecursion IsSmallRow rows → map (row_at part at) (range_with_len k (length rows)) ≡ rows
rows_there part rest at k [] is small = refl
rows_there part rest at k (row ∷ rows) is small =
    let first : drop (at + 16 + 8 * k) part ≡ row_bytes row ++ (flat_map row_bytes rows ++ rest) = is ∙ append_assoc (row_bytes row) (flat_map row_bytes rows) rest in
    let numbers = row_there part (flat_map row_bytes rows ++ rest) (at + 16 + 8 * k) row first small.0.0 small.0.1 in
    let place : at + 16 + 8 * k + 8 ≡ at + 16 + 8 * (k + 1) = omega arith in
    let next : drop (at + 16 + 8 * (k + 1)) part ≡ flat_map row_bytes rows ++ rest = ap (λ (n : ℕ). drop n part) (sym place) ∙ behind part (row_bytes row) (flat_map row_bytes rows ++ rest) (at + 16 + 8 * k) 8 first (row_size row) in
    let here : row_at part at k ≡ row = λ i. record { id = numbers.0 i; target = numbers.1 i } in
    ap (λ (r : Row). r ∷ map (row_at part at) (range_with_len (k + 1) (length rows))) here
    ∙ ap (λ (rs : List Row). row ∷ rs) (rows_there part rest at (k + 1) rows next small.1)

-- ---- a table

flat_size : (rows : List Row) → length (flat_map row_bytes rows) ≡ 8 * length rows
flat_size [] = refl
flat_size (row ∷ rows) = omega (arith, length-append (row_bytes row) (flat_map row_bytes rows), row_size row, flat_size rows)

pub table_length : (time : ℕ) (rows : List Row) → length (table time rows) ≡ 16 + 8 * length rows
unfolding table
table_length time rows =
    simp (length-append) (omega (arith, flat_size rows, length-number_bytes 4 0, length-number_bytes 4 time, length-number_bytes 2 0, length-number_bytes 2 (count_by is_text_row rows), length-number_bytes 2 (count_by (λ row. not (is_text_row row)) rows)))

both_counts : (rows : List Row) → count_by is_text_row rows + count_by (λ row. not (is_text_row row)) rows ≡ length rows
both_counts [] = refl
both_counts (row ∷ rows) =
    omega (arith, both_counts rows, one (is_text_row row), sum_by-cons (λ (r : Row). cond (is_text_row r) 1 0) row rows, sum_by-cons (λ (r : Row). cond (not (is_text_row r)) 1 0) row rows)
  where
    one : (b : Bool) → cond b 1 0 + cond (not b) 1 0 ≡ 1
    one true = refl
    one false = refl

front : ℕ → List ℕ
front time = number_bytes 4 0 ++ (number_bytes 4 time ++ (number_bytes 2 0 ++ number_bytes 2 0))

header_parts : (time texts numbers : ℕ) (rest : List ℕ) → table_header time texts numbers ++ rest ≡ front time ++ (number_bytes 2 texts ++ (number_bytes 2 numbers ++ rest))
unfolding front
header_parts time texts numbers rest = simp append_assoc

-- the entries of a table that stands at a place are read there
pub table_read : (part rest : List ℕ) (at time : ℕ) (rows : List Row) → drop at part ≡ table time rows ++ rest → AllByRecursion IsSmallRow rows → length rows < 2 ^ 16 → rows_at part at ≡ rows
unfolding table row_count rows_at front
table_read part rest at time rows is small few =
    let texts : ℕ = count_by is_text_row rows in
    let numbers : ℕ = count_by (λ row. not (is_text_row row)) rows in
    let counts : texts + numbers ≡ length rows = both_counts rows in
    let entries : List ℕ = flat_map row_bytes rows ++ rest in
    let whole : drop at part ≡ front time ++ (number_bytes 2 texts ++ (number_bytes 2 numbers ++ entries)) =
    is ∙ append_assoc (table_header time texts numbers) (flat_map row_bytes rows) rest ∙ header_parts time texts numbers entries in
    let front_size : length (front time) ≡ 12 = simp (length-append) (omega (arith, length-number_bytes 4 0, length-number_bytes 4 time, length-number_bytes 2 0)) in
    let second : drop (at + 12) part ≡ number_bytes 2 texts ++ (number_bytes 2 numbers ++ entries) = behind part (front time) (number_bytes 2 texts ++ (number_bytes 2 numbers ++ entries)) at 12 whole front_size in
    let place : at + 12 + 2 ≡ at + 14 = omega arith in
    let third : drop (at + 14) part ≡ number_bytes 2 numbers ++ entries = ap (λ (n : ℕ). drop n part) (sym place) ∙ behind part (number_bytes 2 texts) (number_bytes 2 numbers ++ entries) (at + 12) 2 second (length-number_bytes 2 texts) in
    let place_rows : at + 14 + 2 ≡ at + 16 = omega arith in
    let place_first : at + 16 ≡ at + 16 + 8 * 0 = omega arith in
    let fourth : drop (at + 16) part ≡ entries = ap (λ (n : ℕ). drop n part) (sym place_rows) ∙ behind part (number_bytes 2 numbers) entries (at + 14) 2 third (length-number_bytes 2 numbers) in
    let read_texts : u16_at part (at + 12) ≡ texts = number_there 2 texts (at + 12) part _ second (omega arith) in
    let read_numbers : u16_at part (at + 14) ≡ numbers = number_there 2 numbers (at + 14) part _ third (omega arith) in
    let size : length part - (at + 16) ≡ 8 * length rows + length rest = sym (length-drop (at + 16) part) ∙ ap length fourth ∙ length-append (flat_map row_bytes rows) rest ∙ ap (λ (n : ℕ). n + length rest) (flat_size rows) in
    let count : min (u16_at part (at + 12) + u16_at part (at + 14)) ((length part - (at + 16)) / 8) ≡ length rows = omega arith in
    ap (λ (n : ℕ). map (row_at part at) (range_with_len 0 n)) count
    ∙ rows_there part rest at 0 rows (ap (λ (n : ℕ). drop n part) (sym place_first) ∙ fourth) small
