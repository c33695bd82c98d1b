-- What is opened from what was written.
use Rattle.std.proofs.Common.{◌≡◌, ℕ, zero, suc, ◌+◌, ◌-◌, ◌*◌, ◌/◌, ◌%◌, ◌<◌, ◌≤◌, true, le-leb, eq-eqb, List, [], ◌∷◌, ◌++◌, length, get_or, take, drop, map, replicate, Some, None, refl, sym, ap, ◌∙◌, inl, inr, append_assoc, arith, length-append, length-drop}
use Rattle.std.specs.List.{flat_map, slice_get}
use Rattle.std.proofs.lemmas.Bool.{cases_lt, and_from}
use Rattle.std.proofs.Math.Seq.{drop-append_seam}
use Rattle.std.proofs.lemmas.List.{append-nil, take_all, length-take, length-map, get_or-take, get_or-drop, get_or_append_left, get_or-append_right}
use Rattle.std.proofs.lemmas.List.FromFn.{get_or-map-range_with_len, length-map-range_with_len}
use Rattle.std.proofs.lemmas.Grind.{same_number_lists}
use Rattle.std.proofs.lemmas.Option.{slice_get-get_or, slice_get_past}
use Rattle.link_base.specs.Bytes.{number_at, bytes_at}
use Rattle.link_base.specs.NameText.{begins}
use Rattle.link_base.proofs.CallerLemmas.{number_at-drop, all_below-from_each}
use Rattle.pdb_msf.specs.BlockFile.{signature, blocks_for, size_of_blocks, block_count, directory_size, map_block as map_block_of, is_block, directory_block, directory_len, entry, stream_count, stream_size, blocks_before, list_of, has_superblock, has_size, has_map, directory_blocks, directory_is_there, listed_len, lists_are_there, has_blocks, has_directory, msf_fault}
use Rattle.pdb_msf.specs.Streams.{stream_block, joined_blocks, stream_bytes, stream_of}
use Rattle.pdb_msf.specs.WrittenFile.{block_number, stream_total, directory_extent, directory_total, block_total, file_size, superblock, block_numbers, directory, cut_block, in_blocks, blocks_of_data, padded, map_block, laid, msf_of}
use Rattle.std.proofs.Math.ListN.{get_or-map}
use Rattle.pdb_msf.proofs.DirectoryLemmas.{listed_there}
use Rattle.pdb_msf.proofs.StreamLemmas.{stream_is, length_block}
use Rattle.pdb_msf.proofs.BlockLemmas.{length_in_blocks, get_in_blocks}
use Rattle.pdb_msf.proofs.WritingLemmas.{length_directory, laid_first, length_in_blocks_of, length_numbers}
use Rattle.pdb_msf.proofs.PlaceLemmas.{AreSmall, length_padded, length_map, map_at_place, length_laid, byte_at_place, number_at_place, numbered_first}
use Rattle.pdb_msf.proofs.DataLemmas.{AreNumbers, listed, length_listed, numbers_from, numbers_listed, number_in_list, entries, directory_listed, length_entries, entry_of_size, entry_of_block, length_cut, byte_in_cut, block_in_blocks, number_in_cut, length_streams, length_directory_blocks, block_of_stream, no_total}
use Rattle.pdb_msf.proofs.ListLemmas.{small_cons, small_append, small_cut, small_streams, number_cons, number_append, are_numbers_from, size_small, total_more, total_within, length_signature, begins_so, none_there}

-- ---- a written file

abbrev pub sizes_of : List (List ℕ) → List ℕ
sizes_of streams = map length streams

abbrev pub total_of : List (List ℕ) → ℕ
total_of streams = block_total (sizes_of streams)

abbrev pub data_of : List (List ℕ) → List (List ℕ)
data_of streams = blocks_of_data (sizes_of streams) streams

abbrev pub file_of : List (List ℕ) → List ℕ
file_of streams = laid (total_of streams) 0 (data_of streams)

module _ (streams : List (List ℕ)) (few : length streams ≤ 64) (fits : file_size (map length streams) ≤ 1073741824) where
  count_is : length (sizes_of streams) ≡ length streams
  count_is = length-map streams length

  -- ---- the blocks of data

  data_long : length (data_of streams) ≡ 2 + directory_total (sizes_of streams) + stream_total (sizes_of streams)
  unfolding blocks_of_data
  data_long =
      let both = length-append (in_blocks (directory (sizes_of streams))) (flat_map in_blocks streams) in
      let first = length_directory_blocks (sizes_of streams) in
      let rest = length_streams streams in
      omega (arith, both, first, rest)

  data_super : get_or (data_of streams) 0 [] ≡ superblock (total_of streams) (directory_extent (sizes_of streams))
  unfolding blocks_of_data
  data_super = refl

  data_map : get_or (data_of streams) 1 [] ≡ block_numbers 2 (directory_total (sizes_of streams))
  unfolding blocks_of_data
  data_map = refl

  data_directory : (k : ℕ) → k < directory_total (sizes_of streams) → get_or (data_of streams) (2 + k) [] ≡ cut_block (directory (sizes_of streams)) k
  unfolding blocks_of_data
  data_directory k lt =
      let first = length_directory_blocks (sizes_of streams) in
      let own = length_in_blocks_of (directory (sizes_of streams)) in
      let place : 2 + k ≡ suc (suc k) = omega arith in
      ap (λ (j : ℕ). get_or (data_of streams) j []) place
      ∙ get_or_append_left (in_blocks (directory (sizes_of streams))) (flat_map in_blocks streams) [] k (omega (arith, first, lt))
      ∙ block_in_blocks (directory (sizes_of streams)) k (omega (arith, first, own, lt))

  data_stream : (i k : ℕ) → i < length streams → k < blocks_for (length (get_or streams i [])) → get_or (data_of streams) (2 + directory_total (sizes_of streams) + (stream_total (take i (sizes_of streams)) + k)) [] ≡ cut_block (get_or streams i []) k
  unfolding blocks_of_data
  data_stream i k lt inside =
      let first = length_directory_blocks (sizes_of streams) in
      let d = directory_total (sizes_of streams) in
      let b = stream_total (take i (sizes_of streams)) + k in
      let place : 2 + d + b ≡ suc (suc (d + b)) = omega arith in
      let rest : d + b - d ≡ b = omega arith in
      ap (λ (j : ℕ). get_or (data_of streams) j []) place
      ∙ get_or-append_right (in_blocks (directory (sizes_of streams))) (flat_map in_blocks streams) d (d + b) [] first (omega arith)
      ∙ ap (λ (j : ℕ). get_or (flat_map in_blocks streams) j []) rest
      ∙ block_of_stream streams i k lt inside

  super_listed : superblock (total_of streams) (directory_extent (sizes_of streams)) ≡ signature ++ listed (4096 ∷ 1 ∷ total_of streams ∷ directory_extent (sizes_of streams) ∷ 0 ∷ 3 ∷ [])
  unfolding superblock
  super_listed = refl

  super_long : length (superblock (total_of streams) (directory_extent (sizes_of streams))) ≡ 56
  super_long =
      let is = ap length super_listed in
      let both = length-append signature (listed (4096 ∷ 1 ∷ total_of streams ∷ directory_extent (sizes_of streams) ∷ 0 ∷ 3 ∷ [])) in
      let front = length_signature in
      let back = length_listed (4096 ∷ 1 ∷ total_of streams ∷ directory_extent (sizes_of streams) ∷ 0 ∷ 3 ∷ []) in
      omega (arith, is, both, front, back)

  small : AreSmall (data_of streams)
  unfolding blocks_of_data
  small =
      let numbers = length_numbers 2 (directory_total (sizes_of streams)) in
      let super = super_long in
      let n = count_is in
      small_cons (superblock (total_of streams) (directory_extent (sizes_of streams))) (block_numbers 2 (directory_total (sizes_of streams)) ∷ (in_blocks (directory (sizes_of streams)) ++ flat_map in_blocks streams)) (omega (arith, super))
      (small_cons (block_numbers 2 (directory_total (sizes_of streams))) (in_blocks (directory (sizes_of streams)) ++ flat_map in_blocks streams) (omega (arith, numbers, few, fits, n))
      (small_append (in_blocks (directory (sizes_of streams))) (flat_map in_blocks streams) (small_cut (directory (sizes_of streams))) (small_streams streams)))

  file_long : length (file_of streams) ≡ 4096 * total_of streams
  file_long =
      let long = length_laid (total_of streams) 0 (data_of streams) small in
      let all = data_long in
      omega (arith, long, all)

  -- a block of data lies in the file
  lies_in : (n : ℕ) → n < 2 + directory_total (sizes_of streams) + stream_total (sizes_of streams) → is_block (file_of streams) (block_number n) ≡ true
  lies_in n lt = let long = file_long in le-leb _ _ (omega (arith, long, lt))

  number_of : (n offset : ℕ) → n < 2 + directory_total (sizes_of streams) + stream_total (sizes_of streams) → offset + 4 ≤ length (get_or (data_of streams) n []) → number_at 4 (file_of streams) (4096 * block_number n + offset) ≡ number_at 4 (get_or (data_of streams) n []) offset
  number_of n offset lt within =
      let all = data_long in
      number_at_place (total_of streams) n offset (data_of streams) small (omega (arith, all, lt)) within

  -- ---- the superblock

  abbrev super_numbers : List ℕ
  super_numbers = 4096 ∷ 1 ∷ total_of streams ∷ directory_extent (sizes_of streams) ∷ 0 ∷ 3 ∷ []

  super_are : AreNumbers super_numbers
  super_are =
      let n = count_is in
      number_cons 4096 (1 ∷ total_of streams ∷ directory_extent (sizes_of streams) ∷ 0 ∷ 3 ∷ []) (omega arith)
      (number_cons 1 (total_of streams ∷ directory_extent (sizes_of streams) ∷ 0 ∷ 3 ∷ []) (omega arith)
      (number_cons (total_of streams) (directory_extent (sizes_of streams) ∷ 0 ∷ 3 ∷ []) (omega (arith, fits))
      (number_cons (directory_extent (sizes_of streams)) (0 ∷ 3 ∷ []) (omega (arith, fits, few, n))
      (number_cons 0 (3 ∷ []) (omega arith) (number_cons 3 [] (omega arith) (λ k lt. absurd (omega (arith, lt))))))))

  super_number : (k : ℕ) → k < 6 → number_at 4 (file_of streams) (32 + 4 * k) ≡ get_or super_numbers k 0
  super_number k lt =
      let place : 32 + 4 * k ≡ 4096 * block_number 0 + (32 + 4 * k) = omega arith in
      let super = ap length data_super in
      let long = super_long in
      ap (number_at 4 (file_of streams)) place
      ∙ number_of 0 (32 + 4 * k) (omega arith) (omega (arith, super, long, lt))
      ∙ ap (λ (xs : List ℕ). number_at 4 xs (32 + 4 * k)) (data_super ∙ super_listed)
      ∙ sym (number_at-drop 4 32 (4 * k) (signature ++ listed super_numbers))
      ∙ ap (λ (xs : List ℕ). number_at 4 xs (4 * k)) (drop_front ∙ sym (append-nil (listed super_numbers)))
      ∙ number_in_list super_numbers [] k super_are lt
    where
      drop_front : drop 32 (signature ++ listed super_numbers) ≡ listed super_numbers
      drop_front = ap (λ (n : ℕ). drop n (signature ++ listed super_numbers)) (sym length_signature) ∙ drop-append_seam signature (listed super_numbers)

  size_is : size_of_blocks (file_of streams) ≡ 4096
  unfolding size_of_blocks
  size_is = super_number 0 (omega arith)

  blocks_are : block_count (file_of streams) ≡ total_of streams
  unfolding block_count
  blocks_are = super_number 2 (omega arith)

  extent_is : directory_size (file_of streams) ≡ directory_extent (sizes_of streams)
  unfolding directory_size
  extent_is = super_number 3 (omega arith)

  map_is : map_block_of (file_of streams) ≡ 3
  unfolding map_block_of
  map_is = super_number 5 (omega arith)

  -- ---- the directory

  directory_block_is : (k : ℕ) → k < directory_total (sizes_of streams) → directory_block (file_of streams) k ≡ block_number (2 + k)
  unfolding directory_block
  directory_block_is k lt =
      let d = directory_total (sizes_of streams) in
      let n = count_is in
      let map = map_is in
      let place : 4096 * map_block_of (file_of streams) + 4 * k ≡ 4096 * block_number 1 + 4 * k = omega (arith, map) in
      let long = length_numbers 2 d in
      let own = ap length data_map in
      ap (number_at 4 (file_of streams)) place
      ∙ number_of 1 (4 * k) (omega arith) (omega (arith, own, long, lt))
      ∙ ap (λ (xs : List ℕ). number_at 4 xs (4 * k)) (data_map ∙ numbers_listed 2 d ∙ sym (append-nil (listed (numbers_from 2 d))))
      ∙ number_in_list (numbers_from 2 d) [] k (are_numbers_from 2 d (omega (arith, fits))) (let count = length-map-range_with_len block_number 2 d in omega (arith, count, lt))
      ∙ get_or-map-range_with_len block_number 2 d k (2 + k) 0 lt refl

  entries_are : AreNumbers (entries (sizes_of streams))
  entries_are =
      let n = count_is in
      number_cons (length (sizes_of streams)) (sizes_of streams ++ numbers_from (2 + directory_total (sizes_of streams)) (stream_total (sizes_of streams))) (omega (arith, few, n))
      (number_append (sizes_of streams) (numbers_from (2 + directory_total (sizes_of streams)) (stream_total (sizes_of streams)))
      (λ k lt. let most = size_small (sizes_of streams) k lt in omega (arith, most, fits))
      (are_numbers_from (2 + directory_total (sizes_of streams)) (stream_total (sizes_of streams)) (omega (arith, fits))))

  entry_is : (k : ℕ) → k < 1 + length streams + stream_total (sizes_of streams) → entry (file_of streams) k ≡ get_or (entries (sizes_of streams)) k 0
  unfolding entry
  entry_is k lt =
      let n = count_is in
      let here : k / 1024 < directory_total (sizes_of streams) = omega (arith, lt, n) in
      let block = directory_block_is (k / 1024) here in
      let own = ap length (data_directory (k / 1024) here) in
      let cut = length_cut (directory (sizes_of streams)) (k / 1024) in
      let long = length_directory (sizes_of streams) in
      let count = length_entries (sizes_of streams) in
      ap (λ (b : ℕ). number_at 4 (file_of streams) (4096 * b + 4 * (k % 1024))) block
      ∙ number_of (2 + k / 1024) (4 * (k % 1024)) (omega (arith, here)) (omega (arith, own, cut, long, lt, n))
      ∙ ap (λ (xs : List ℕ). number_at 4 xs (4 * (k % 1024))) (data_directory (k / 1024) here ∙ ap (λ (xs : List ℕ). cut_block xs (k / 1024)) (directory_listed (sizes_of streams)))
      ∙ number_in_cut (entries (sizes_of streams)) k entries_are (omega (arith, count, lt, n))

  streams_are : stream_count (file_of streams) ≡ length streams
  streams_are = entry_is 0 (omega arith) ∙ count_is

  stream_size_is : (i : ℕ) → i < length streams → stream_size (file_of streams) i ≡ get_or (sizes_of streams) i 0
  stream_size_is i lt =
      let n = count_is in
      entry_is (1 + i) (omega (arith, lt)) ∙ entry_of_size (sizes_of streams) i (omega (arith, n, lt))

  before_is : (i : ℕ) → i ≤ length streams → blocks_before (file_of streams) i ≡ stream_total (take i (sizes_of streams))
  unfolding blocks_before
  before_is zero le = sym no_total
  before_is (suc i) le =
      let n = count_is in
      let rest = before_is i (omega (arith, le)) in
      let size = ap blocks_for (stream_size_is i (omega (arith, le))) in
      let more = total_more (sizes_of streams) i (omega (arith, le, n)) in
      omega (arith, rest, size, more)

  whole_is : blocks_before (file_of streams) (stream_count (file_of streams)) ≡ stream_total (sizes_of streams)
  whole_is =
      let n = count_is in
      ap (blocks_before (file_of streams)) streams_are ∙ before_is (length streams) (omega arith) ∙ ap stream_total (take_all (length streams) (sizes_of streams) (omega (arith, n)))

  -- ---- no test fails

  starts_so : begins (file_of streams) signature ≡ true
  unfolding blocks_of_data
  starts_so =
      let s = superblock (total_of streams) (directory_extent (sizes_of streams)) in
      let tail = block_numbers 2 (directory_total (sizes_of streams)) ∷ (in_blocks (directory (sizes_of streams)) ++ flat_map in_blocks streams) in
      let rest = laid (total_of streams) 1 tail in
      let zeros = replicate {A = ℕ} (4096 - length s) 0 in
      let front : file_of streams ≡ signature ++ (listed super_numbers ++ (zeros ++ rest)) =
      laid_first (total_of streams) 0 s tail
      ∙ ap (λ (xs : List ℕ). xs ++ rest) (numbered_first (total_of streams) s ∙ ap (λ (xs : List ℕ). xs ++ zeros) super_listed)
      ∙ append_assoc (signature ++ listed super_numbers) zeros rest
      ∙ append_assoc signature (listed super_numbers) (zeros ++ rest)
      in
      ap (λ (xs : List ℕ). begins xs signature) front ∙ begins_so (listed super_numbers ++ (zeros ++ rest))

  superblock_passes : has_superblock (file_of streams) ≡ true
  unfolding has_superblock
  superblock_passes =
      let long = file_long in
      and_from _ _ (le-leb _ _ (omega (arith, long))) starts_so

  size_passes : has_size (file_of streams) ≡ true
  unfolding has_size
  size_passes =
      let long = file_long in
      let blocks = blocks_are in
      and_from _ _ (eq-eqb _ _ size_is) (le-leb _ _ (omega (arith, long, blocks)))

  map_passes : has_map (file_of streams) ≡ true
  unfolding has_map
  map_passes =
      let long = file_long in
      let map = map_is in
      and_from _ _ (le-leb (0 + 56) (length (file_of streams)) (omega (arith, long))) (le-leb (4096 * map_block_of (file_of streams) + 4096) (length (file_of streams)) (omega (arith, long, map)))

  directory_passes : directory_is_there (file_of streams) ≡ true
  unfolding directory_is_there
  directory_passes =
      let extent = extent_is in
      and_from _ _ map_passes
      (all_below-from_each (directory_blocks (file_of streams)) (λ (k : ℕ). is_block (file_of streams) (directory_block (file_of streams) k))
      (λ k lt.
      let here : k < directory_total (sizes_of streams) = omega (arith, lt, extent) in
      ap (is_block (file_of streams)) (directory_block_is k here) ∙ lies_in (2 + k) (omega (arith, here))))

  len_is : directory_len (file_of streams) ≡ 1 + length streams + stream_total (sizes_of streams)
  unfolding directory_len
  len_is =
      let extent = extent_is in
      let n = count_is in
      omega (arith, extent, n, fits, few)

  list_block_is : (k : ℕ) → k < stream_total (sizes_of streams) → entry (file_of streams) (1 + length streams + k) ≡ block_number (2 + directory_total (sizes_of streams) + k)
  list_block_is k lt =
      let n = count_is in
      entry_is (1 + length streams + k) (omega (arith, lt))
      ∙ ap (λ (m : ℕ). get_or (entries (sizes_of streams)) (1 + m + k) 0) (sym n)
      ∙ entry_of_block (sizes_of streams) k lt

  lists_pass : lists_are_there (file_of streams) ≡ true
  unfolding lists_are_there
  lists_pass =
      let len = len_is in
      let n = streams_are in
      all_below-from_each (listed_len (file_of streams)) (λ (k : ℕ). is_block (file_of streams) (entry (file_of streams) (1 + stream_count (file_of streams) + k)))
      (λ k lt.
      let there = listed_there (file_of streams) k lt in
      let here : k < stream_total (sizes_of streams) = omega (arith, there.within, len, n) in
      ap (λ (m : ℕ). is_block (file_of streams) (entry (file_of streams) (1 + m + k))) n
      ∙ ap (is_block (file_of streams)) (list_block_is k here)
      ∙ lies_in (2 + directory_total (sizes_of streams) + k) (omega (arith, here)))

  blocks_pass : has_blocks (file_of streams) ≡ true
  unfolding has_blocks
  blocks_pass = and_from _ _ size_passes (and_from _ _ directory_passes lists_pass)

  table_passes : has_directory (file_of streams) ≡ true
  unfolding has_directory
  table_passes =
      let extent = extent_is in
      let len = len_is in
      let n = count_is in
      let streams_n = streams_are in
      let whole = whole_is in
      and_from _ _ (le-leb (directory_size (file_of streams)) 4194304 (omega (arith, extent, n, fits, few))) (le-leb (list_of (file_of streams) (stream_count (file_of streams))) (directory_len (file_of streams)) (omega (arith, len, streams_n, whole)))

  pub opens : msf_fault (msf_of streams) ≡ None
  unfolding msf_fault
  opens = rw (superblock_passes, blocks_pass, table_passes) refl

  -- ---- the streams

  size_of : (i : ℕ) → i < length streams → stream_size (file_of streams) i ≡ length (get_or streams i [])
  size_of i lt = stream_size_is i lt ∙ get_or-map length streams i []

  list_is : (i : ℕ) → i < length streams → list_of (file_of streams) i ≡ 1 + length streams + stream_total (take i (sizes_of streams))
  list_is i lt =
      let n = streams_are in
      let before = before_is i (omega (arith, lt)) in
      omega (arith, n, before)

  byte_is : (i b j : ℕ) → i < length streams → j < 4096 → 4096 * b + j < length (get_or streams i []) → get_or (stream_block (file_of streams) i b) j 0 ≡ get_or (get_or streams i []) (4096 * b + j) 0
  unfolding stream_block
  byte_is i b j lt low inside =
      let s = get_or streams i [] in
      let before = stream_total (take i (sizes_of streams)) in
      let d = directory_total (sizes_of streams) in
      let n = count_is in
      let here : b < blocks_for (length s) = omega (arith, inside) in
      let within = total_within (sizes_of streams) i (omega (arith, lt, n)) in
      let size = get_or-map length streams i [] in
      let last : before + b < stream_total (sizes_of streams) = omega (arith, within, size, here) in
      let place : list_of (file_of streams) i + b ≡ 1 + length streams + (before + b) = (let list = list_is i lt in omega (arith, list)) in
      let number : entry (file_of streams) (list_of (file_of streams) i + b) ≡ block_number (2 + d + (before + b)) = ap (entry (file_of streams)) place ∙ list_block_is (before + b) last in
      let all = data_long in
      let cut = length_cut s b in
      let block = get_or (data_of streams) (2 + d + (before + b)) [] in
      get_or-take 4096 (drop (4096 * entry (file_of streams) (list_of (file_of streams) i + b)) (file_of streams)) j 0 low
      ∙ get_or-drop (4096 * entry (file_of streams) (list_of (file_of streams) i + b)) (file_of streams) j 0
      ∙ ap (λ (m : ℕ). get_or (file_of streams) (4096 * m + j) 0) number
      ∙ byte_at_place (total_of streams) 0 (2 + d + (before + b)) (4096 * block_number (2 + d + (before + b))) j (data_of streams) small (omega (arith, all, last)) low (omega arith)
      ∙ ap (λ (xs : List ℕ). get_or (padded xs) j 0) (data_stream i b lt here)
      ∙ get_or_append_left (cut_block s b) (replicate (4096 - length (cut_block s b)) 0) 0 j (omega (arith, cut, low, inside))
      ∙ byte_in_cut s b j low

  bytes_are : (i : ℕ) → i < length streams → stream_bytes (file_of streams) i ≡ get_or streams i []
  unfolding joined_blocks
  bytes_are i lt =
      let s = get_or streams i [] in
      let size = size_of i lt in
      let n = streams_are in
      let count = blocks_for (stream_size (file_of streams) i) in
      let joined = joined_blocks (file_of streams) i count in
      let each : (k : ℕ) → 0 ≤ k → k < 0 + count → length (stream_block (file_of streams) i k) ≡ 4096 = λ k low high. length_block (file_of streams) i k opens (omega (arith, n, lt)) (omega (arith, high)) in
      let long : length joined ≡ 4096 * count = length_in_blocks (stream_block (file_of streams) i) 0 count each in
      let cut = length-take (stream_size (file_of streams) i) joined in
      same_number_lists (take (stream_size (file_of streams) i) joined) s (omega (arith, cut, long, size))
      (λ k low.
      let inside : k < stream_size (file_of streams) i = omega (arith, cut, long, low) in
      let block : 0 + k / 4096 ≡ k / 4096 = omega arith in
      let place : 4096 * (k / 4096) + k % 4096 ≡ k = omega arith in
      get_or-take (stream_size (file_of streams) i) joined k 0 inside
      ∙ get_in_blocks (stream_block (file_of streams) i) 0 count k each (omega (arith, inside))
      ∙ ap (λ (b : ℕ). get_or (stream_block (file_of streams) i b) (k % 4096) 0) block
      ∙ byte_is i (k / 4096) (k % 4096) lt (omega arith) (omega (arith, inside, size))
      ∙ ap (λ (p : ℕ). get_or s p 0) place)

  pub reads : (i : ℕ) → stream_of (msf_of streams) i ≡ slice_get streams i
  reads i =
      let n = streams_are in
      elim (cases_lt i (length streams)) [
        | inl lt ↦ stream_is (file_of streams) i (omega (arith, n, lt)) ∙ ap Some (bytes_are i lt) ∙ sym (slice_get-get_or streams i [] lt)
        | inr past ↦ none_there (file_of streams) i (omega (arith, n, past)) ∙ sym (slice_get_past streams i past)
      ]

  -- ---- where the blocks stand

  length_at : (offset : ℕ) → offset + 4096 ≤ length (file_of streams) → length (bytes_at (file_of streams) offset 4096) ≡ 4096
  length_at offset within =
      let cut = length-take 4096 (drop offset (file_of streams)) in
      let rest = length-drop offset (file_of streams) in
      omega (arith, cut, rest, within)

  get_at : (offset j : ℕ) → j < 4096 → get_or (bytes_at (file_of streams) offset 4096) j 0 ≡ get_or (file_of streams) (offset + j) 0
  get_at offset j low = get_or-take 4096 (drop offset (file_of streams)) j 0 low ∙ get_or-drop offset (file_of streams) j 0

  pub block_stands : (n : ℕ) → n < length (data_of streams) → bytes_at (msf_of streams) (4096 * block_number n) 4096 ≡ padded (get_or (data_of streams) n [])
  block_stands n lt =
      let all = data_long in
      let long = file_long in
      let own = length_at (4096 * block_number n) (omega (arith, long, all, lt)) in
      let block = get_or (data_of streams) n [] in
      let full = length_padded block (small n lt) in
      same_number_lists (bytes_at (file_of streams) (4096 * block_number n) 4096) (padded block) (omega (arith, own, full))
      (λ j low.
      let here : j < 4096 = omega (arith, low, own) in
      get_at (4096 * block_number n) j here
      ∙ byte_at_place (total_of streams) 0 n (4096 * block_number n) j (data_of streams) small lt here (omega arith))

  map_stands : (index copy : ℕ) → copy < 2 → 4094 * index + 1 < length (data_of streams) → bytes_at (msf_of streams) (4096 * (4096 * index + 1 + copy)) 4096 ≡ map_block (total_of streams) index
  map_stands index copy two lt =
      let all = data_long in
      let long = file_long in
      let k = 4094 * index + 1 in
      let o = 4096 * (4096 * index + 1) in
      let own = length_at (4096 * (4096 * index + 1 + copy)) (omega (arith, long, all, lt, two)) in
      let one = length_map (total_of streams) index in
      let number : k / 4094 ≡ index = omega arith in
      same_number_lists (bytes_at (file_of streams) (4096 * (4096 * index + 1 + copy)) 4096) (map_block (total_of streams) index) (omega (arith, own, one))
      (λ j low.
      let here : j < 4096 = omega (arith, low, own) in
      let place : 4096 * (4096 * index + 1 + copy) + j ≡ o + (4096 * copy + j) = omega arith in
      get_at (4096 * (4096 * index + 1 + copy)) j here
      ∙ ap (λ (p : ℕ). get_or (file_of streams) p 0) place
      ∙ map_at_place (total_of streams) 0 k k o (4096 * copy + j) (data_of streams) small lt (omega arith) (omega arith) (omega (arith, here, two)) (omega arith)
      ∙ ap (λ (i : ℕ). get_or (map_block (total_of streams) i ++ map_block (total_of streams) i) (4096 * copy + j) 0) number
      ∙ either copy j here two)
    where
      either : (copy j : ℕ) → j < 4096 → copy < 2 → get_or (map_block (total_of streams) index ++ map_block (total_of streams) index) (4096 * copy + j) 0 ≡ get_or (map_block (total_of streams) index) j 0
      either zero j low two =
          let one = length_map (total_of streams) index in
          let place : 4096 * 0 + j ≡ j = omega arith in
          ap (λ (p : ℕ). get_or (map_block (total_of streams) index ++ map_block (total_of streams) index) p 0) place
          ∙ get_or_append_left (map_block (total_of streams) index) (map_block (total_of streams) index) 0 j (omega (arith, one, low))
      either (suc zero) j low two =
          let one = length_map (total_of streams) index in
          let place : 4096 * 1 + j - 4096 ≡ j = omega arith in
          get_or-append_right (map_block (total_of streams) index) (map_block (total_of streams) index) 4096 (4096 * 1 + j) 0 one (omega arith)
          ∙ ap (λ (p : ℕ). get_or (map_block (total_of streams) index) p 0) place
      either (suc (suc copy)) j low two = absurd (omega (arith, two))

  pub first_map_stands : (index : ℕ) → 4094 * index + 1 < length (data_of streams) → bytes_at (msf_of streams) (4096 * (4096 * index + 1)) 4096 ≡ map_block (total_of streams) index
  first_map_stands index lt =
      let place : 4096 * (4096 * index + 1) ≡ 4096 * (4096 * index + 1 + 0) = omega arith in
      ap (λ (p : ℕ). bytes_at (file_of streams) p 4096) place ∙ map_stands index 0 (omega arith) lt

  pub second_map_stands : (index : ℕ) → 4094 * index + 1 < length (data_of streams) → bytes_at (msf_of streams) (4096 * (4096 * index + 2)) 4096 ≡ map_block (total_of streams) index
  second_map_stands index lt =
      let place : 4096 * (4096 * index + 2) ≡ 4096 * (4096 * index + 1 + 1) = omega arith in
      ap (λ (p : ℕ). bytes_at (file_of streams) p 4096) place ∙ map_stands index 1 (omega arith) lt
