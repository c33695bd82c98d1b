use Rattle.std.proofs.Common.{List, ℕ, [], ◌∷◌, length, ap, arith}
use Rattle.pdb_publics.proofs.CallerLemmas.{length_records_stream, length_publics_stream, buckets_at_most}
use Rattle.debug_tests.proofs.tests.publics.three_rows.Goals as goal

pub write_publics-requires-clause-records : goal.write_publics-requires-clause-records
write_publics-requires-clause-records c =
    let size = length_records_stream (c.row.result ∷ c.row-2.result ∷ c.row-3.result ∷ []) in
    let first = ap (λ (xs : List ℕ). length xs) c.row.ensures in
    let second = ap (λ (xs : List ℕ). length xs) c.row-2.ensures in
    let third = ap (λ (xs : List ℕ). length xs) c.row-3.ensures in
    omega (arith, size, first, second, third)

pub write_publics-requires-clause-publics : goal.write_publics-requires-clause-publics
write_publics-requires-clause-publics c =
    let rows = c.row.result ∷ c.row-2.result ∷ c.row-3.result ∷ [] in
    let size = length_publics_stream rows in
    let most = buckets_at_most rows in
    omega (arith, size, most)
