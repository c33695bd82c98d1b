use Rattle.std.proofs.Common.{arith, ap, ◌∙◌, length, sum, List, ℕ}
use Rattle.pdb_publics.proofs.PartLemmas.{sum_counts, length_counts}
use Rattle.pdb_publics.proofs.hash_part.push_hash_part.Goals as goal

pub bucket_words-requires-clause-few : goal.bucket_words-requires-clause-few
bucket_words-requires-clause-few c =
    let most = sum_counts c.args.keys.now in
    let same = ap (λ (xs : List ℕ). sum xs) (c.deref.ensures.value ∙ c.in_ok-counts.ensures) in
    omega (arith, most, same, c.requires.few)

pub bucket_words-requires-clause-buckets : goal.bucket_words-requires-clause-buckets
bucket_words-requires-clause-buckets c = ap (λ (xs : List ℕ). length xs) (c.deref.ensures.value ∙ c.in_ok-counts.ensures) ∙ length_counts c.args.keys.now

pub push_bitmap-requires : goal.push_bitmap-requires
push_bitmap-requires c = ap (λ (xs : List ℕ). length xs) (c.deref-2.ensures.value ∙ c.in_ok-counts.ensures) ∙ length_counts c.args.keys.now
