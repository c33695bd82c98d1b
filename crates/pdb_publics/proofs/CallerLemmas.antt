-- What callers may cite: how long the streams of some rows are.
use Rattle.std.proofs.Common.{◌≡◌, ℕ, zero, suc, ◌+◌, ◌*◌, ◌≤◌, Bool, true, false, List, length, ap, ◌∙◌, arith}
use Rattle.std.proofs.lemmas.List.Sorted.{length_permutation, sum_by-IsPermutation}
use Rattle.sorted_lists.proofs.CallerLemmas.{order_permutes}
use Rattle.pdb_publics.specs.declared.rows.PublicRow.{PublicRow}
use Rattle.pdb_publics.specs.PublicOrder.{row_cmp, by_name, by_hash, by_place, record_size, extent}
use Rattle.pdb_publics.specs.PublicStreams.{counts, has_some, records_stream, publics_stream}
use Rattle.pdb_publics.specs.Lookup.{passing}
use Rattle.pdb_publics.proofs.KeyLemmas.{length_by_hash, length_by_place}
use Rattle.pdb_publics.proofs.StreamLemmas.{length_records}
use Rattle.pdb_publics.proofs.PartLemmas.{length_counts}
use Rattle.pdb_publics.proofs.CountLemmas.{indicator, length_words}
use Rattle.pdb_publics.proofs.WrittenLemmas.{words_of, length_hash_part, length_publics}

-- the records of the rows in any order
pub length_records_stream : (rows : List PublicRow) → length (records_stream rows) ≡ extent rows
length_records_stream rows =
    length_records (by_name rows) ∙ sum_by-IsPermutation (λ (row : PublicRow). record_size (length row.name)) rows (by_name rows) (order_permutes row_cmp rows)

-- the buckets that have keys
pub filled_buckets : List PublicRow → ℕ
filled_buckets rows = passing 4096 (has_some (counts (by_hash (by_name rows))))

-- twelve bytes for each row, and four for each bucket that has one
pub length_publics_stream : (rows : List PublicRow) → length (publics_stream rows) ≡ 560 + 12 * length rows + 4 * filled_buckets rows
unfolding filled_buckets words_of
length_publics_stream rows =
    let named = by_name rows in
    let keys = by_hash named in
    let all = length_publics keys (by_place named) in
    let part = length_hash_part keys in
    let words = length_words 0 (counts keys) in
    let full = ap (λ (n : ℕ). passing n (has_some (counts keys))) (length_counts keys) in
    let hashed = length_by_hash named in
    let placed = length_by_place named in
    let moved = length_permutation rows named (order_permutes row_cmp rows) in
    omega (arith, all, part, words, full, hashed, placed, moved)

at_most : (n : ℕ) (test : ℕ → Bool) → passing n test ≤ n
unfolding passing
at_most zero test = omega arith
at_most (suc n) test = let rest = at_most n test in let one = bit (test n) in omega (arith, rest, one)
  where
    bit : (b : Bool) → indicator b ≤ 1
    bit true = omega arith
    bit false = omega arith

pub buckets_at_most : (rows : List PublicRow) → filled_buckets rows ≤ 4096
unfolding filled_buckets
buckets_at_most rows = at_most 4096 (has_some (counts (by_hash (by_name rows))))
