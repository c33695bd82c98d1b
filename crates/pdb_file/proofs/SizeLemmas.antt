-- The lengths of the streams of a program database, and what the size of the file says of each.
use Rattle.std.proofs.Common.{◌≡◌, ℕ, zero, suc, ◌+◌, ◌*◌, ◌≤◌, ◌<◌, ltb, List, [], ◌∷◌, ◌++◌, length, get_or, map, refl, ap, subst, arith, length-append}
use Rattle.std.proofs.lemmas.List.Sums.{sum_by-cons}
use Rattle.link_base.specs.Bytes.{number_bytes}
use Rattle.link_base.specs.Fields.{fields}
use Rattle.link_base.specs.declared.numbers.LeNumber.TheVariants.{U32}
use Rattle.pdb_msf.specs.BlockFile.{blocks_for}
use Rattle.pdb_msf.specs.WrittenFile.{MSF_LIMIT, stream_total, file_size}
use Rattle.pdb_dbi.specs.FixedStreams.{FEATURE_VC140, named_streams, info_of, types}
use Rattle.pdb_dbi.specs.DbiStream.{dbi_of, STREAM_LIMIT}
use Rattle.pdb_publics.specs.PublicStreams.{counts, has_some, globals_stream, publics_stream, records_stream}
use Rattle.pdb_publics.proofs.PartLemmas.{length_counts, counts_at}
use Rattle.pdb_publics.proofs.CountLemmas.{length_words}
use Rattle.pdb_publics.proofs.WrittenLemmas.{words_of, length_hash_part}
use Rattle.pdb_publics.specs.Lookup.{passing}
use Rattle.pdb_file.specs.PdbFile.{Database, pdb_streams}
use Rattle.pdb_file.proofs.UsedLemmas.{no_number_passes}

-- ---- the streams that hold little

pub length_info : (time : ℕ) (id : List ℕ) → 40 + length id ≡ length (info_of time id)
unfolding info_of named_streams number_bytes
length_info time id =
    let both = length-append id (named_streams ++ fields (U32 FEATURE_VC140 ∷ [])) in
    omega (arith, both)

length_types : 56 ≡ length types
unfolding types number_bytes
length_types = refl

length_globals : 532 ≡ length globals_stream
unfolding words_of
length_globals =
    let part = length_hash_part [] in
    let words = length_words 0 (counts []) in
    let full = ap (λ (n : ℕ). passing n (has_some (counts []))) (length_counts []) in
    let none = no_number_passes 4096 (has_some (counts [])) (λ k lt. ap (λ (n : ℕ). ltb 0 n) (counts_at [] k lt)) in
    omega (arith, part, words, full, none)

-- ---- all streams

pub lengths_are : (pdb : Database) (info dbi publics records headers : ℕ) → info ≡ length (info_of pdb.time pdb.id) → dbi ≡ length (dbi_of pdb.modules pdb.contributions pdb.headers) → publics ≡ length (publics_stream pdb.publics) → records ≡ length (records_stream pdb.publics) → headers ≡ length pdb.headers → (0 ∷ info ∷ 56 ∷ dbi ∷ 56 ∷ 532 ∷ publics ∷ records ∷ headers ∷ []) ≡ map length (pdb_streams pdb)
unfolding pdb_streams
lengths_are pdb info dbi publics records headers is_info is_dbi is_publics is_records is_headers =
    λ i. 0 ∷ is_info i ∷ length_types i ∷ is_dbi i ∷ length_types i ∷ length_globals i ∷ is_publics i ∷ is_records i ∷ is_headers i ∷ []

-- ---- the size of the file

length_within : (sizes : List ℕ) (i d : ℕ) → i < length sizes → get_or sizes i d ≤ 4096 * stream_total sizes
unfolding stream_total
length_within [] i d lt = absurd (omega (arith, lt))
length_within (size ∷ sizes) zero d lt =
    let more = sum_by-cons blocks_for size sizes in
    omega (arith, more)
length_within (size ∷ sizes) (suc i) d lt =
    let more = sum_by-cons blocks_for size sizes in
    let rest = length_within sizes i d (omega (arith, lt)) in
    omega (arith, more, rest)

-- no stream of a file that is not too large is longer than it
pub within_limit : (sizes : List ℕ) (i d : ℕ) → i < length sizes → file_size sizes ≤ MSF_LIMIT → get_or sizes i d ≤ STREAM_LIMIT
within_limit sizes i d lt fits =
    let within = length_within sizes i d lt in
    omega (arith, within, fits)

-- the streams whose lengths those who write them ask for
pub record StreamsFit (pdb : Database) : Type 0 where
  pub dbi : length (dbi_of pdb.modules pdb.contributions pdb.headers) ≤ STREAM_LIMIT
  pub publics : length (publics_stream pdb.publics) ≤ STREAM_LIMIT
  pub records : length (records_stream pdb.publics) ≤ STREAM_LIMIT

pub streams_fit : (pdb : Database) (size : ℕ) → size ≡ file_size (map length (pdb_streams pdb)) → size ≤ MSF_LIMIT → StreamsFit pdb
unfolding pdb_streams
streams_fit pdb size is fits = record {
  dbi = within_limit (map length (pdb_streams pdb)) 3 0 (omega arith) small;
  publics = within_limit (map length (pdb_streams pdb)) 6 0 (omega arith) small;
  records = within_limit (map length (pdb_streams pdb)) 7 0 (omega arith) small;
}
  where
    small : file_size (map length (pdb_streams pdb)) ≤ MSF_LIMIT
    small = subst (λ (n : ℕ). n ≤ MSF_LIMIT) is fits
