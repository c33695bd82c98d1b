-- What an opened file holds.
use Rattle.std.proofs.Common.{◌≡◌, ℕ, zero, suc, ◌+◌, ◌-◌, ◌*◌, ◌/◌, ◌%◌, ◌<◌, ◌≤◌, Bool, true, false, cond, ltb, lt-ltb, List, [], ◌++◌, length, get_or, take, Option, Some, None, refl, sym, subst, ap, ◌∙◌, inl, inr, arith, min}
use Rattle.std.proofs.lemmas.List.{length-take, get_or-take}
use Rattle.std.proofs.lemmas.Option.{slice_get-get_or}
use Rattle.link_base.specs.Bytes.{bytes_at, all_below}
use Rattle.link_base.proofs.RangeLemmas.{joined_more}
use Rattle.std.proofs.lemmas.Bool.{and_parts, leb-true, ltb-true, cases_lt}
use Rattle.link_base.proofs.CallerLemmas.{all_below-each}
use Rattle.link_base.specs.declared.kinds.database.PdbKind.TheVariants as bad
use Rattle.link_base.proofs.PartLemmas.{length_part}
use Rattle.pdb_msf.specs.BlockFile.{blocks_for, is_block, directory_len, entry, stream_count, stream_size, blocks_before, list_of, directory_is_there, listed_len, lists_are_there, has_superblock, has_blocks, has_directory, msf_fault}
use Rattle.pdb_msf.specs.Streams.{stream_block, joined_blocks, stream_bytes, stream_of, stream_len, byte_of, stream_byte}
use Rattle.pdb_msf.proofs.BlockLemmas.{length_in_blocks, get_in_blocks}
use Rattle.pdb_msf.proofs.DirectoryLemmas.{directory_of_blocks}

-- ---- the tests that it passed

pub record IsOpened (file : List ℕ) : Type 0 where
  pub superblock : has_superblock file ≡ true
  pub blocks : has_blocks file ≡ true
  pub directory : has_directory file ≡ true

some_none : {A : Type 0} (x : A) → Some x ≡ None → ⊥
some_none x e = cc

pub opened : (file : List ℕ) → msf_fault file ≡ None → IsOpened file
unfolding msf_fault
opened file none = go (has_superblock file) (has_blocks file) (has_directory file) refl refl refl none
  where
    go : (a b c : Bool) → has_superblock file ≡ a → has_blocks file ≡ b → has_directory file ≡ c → cond a (cond b (cond c None (Some bad.Directory)) (Some bad.Blocks)) (Some bad.Superblock) ≡ None → IsOpened file
    go true true true d e f h = record { superblock = d; blocks = e; directory = f }
    go true true false d e f h = absurd (some_none bad.Directory h)
    go true false c d e f h = absurd (some_none bad.Blocks h)
    go false b c d e f h = absurd (some_none bad.Superblock h)

pub directory_of : (file : List ℕ) → msf_fault file ≡ None → directory_is_there file ≡ true
directory_of file none = directory_of_blocks file (opened file none).blocks

-- all of its numbers are there
pub sizes_there : (file : List ℕ) → msf_fault file ≡ None → list_of file (stream_count file) ≤ directory_len file
unfolding has_directory
sizes_there file none = leb-true _ _ (and_parts _ _ (opened file none).directory).1

-- ---- the lists

pub list_grows : (file : List ℕ) (stream streams : ℕ) → stream < streams → blocks_before file stream + blocks_for (stream_size file stream) ≤ blocks_before file streams
unfolding blocks_before
list_grows file stream zero lt = absurd (omega arith)
list_grows file stream (suc streams) lt =
    elim (cases_lt stream streams) [
      | inl below ↦ let rest = list_grows file stream streams below in omega (arith, rest)
      | inr above ↦
          let same : stream ≡ streams = omega arith in
          subst (λ (k : ℕ). blocks_before file k + blocks_for (stream_size file k) ≤ blocks_before file streams + blocks_for (stream_size file streams)) (sym same) (omega arith)
    ]

listed_all : (file : List ℕ) → has_blocks file ≡ true → stream_count file < directory_len file → all_below (min (blocks_before file (stream_count file)) (directory_len file - (1 + stream_count file))) (λ (k : ℕ). is_block file (entry file (1 + stream_count file + k))) ≡ true
unfolding has_blocks lists_are_there listed_len
listed_all file e lt =
    let lists : lists_are_there file ≡ true = (and_parts _ _ (and_parts _ _ e).1).1 in
    let sizes : ltb (stream_count file) (directory_len file) ≡ true = lt-ltb _ _ lt in
    subst (λ (b : Bool). all_below (cond b (min (blocks_before file (stream_count file)) (directory_len file - (1 + stream_count file))) 0) (λ (k : ℕ). is_block file (entry file (1 + stream_count file + k))) ≡ true) sizes lists

-- the block of a number in the lists lies in the file
pub listed_in : (file : List ℕ) (place : ℕ) → msf_fault file ≡ None → 1 + stream_count file ≤ place → place < list_of file (stream_count file) → 4096 * entry file place + 4096 ≤ length file
listed_in file place none first last =
    let long = sizes_there file none in
    let all = listed_all file (opened file none).blocks (omega (arith, long)) in
    let index = place - (1 + stream_count file) in
    let lt : index < min (blocks_before file (stream_count file)) (directory_len file - (1 + stream_count file)) = omega (arith, long, first, last) in
    let each = all_below-each (min (blocks_before file (stream_count file)) (directory_len file - (1 + stream_count file))) (λ (k : ℕ). is_block file (entry file (1 + stream_count file + k))) all index lt in
    let here : 1 + stream_count file + index ≡ place = omega (arith, first) in
    leb-true _ _ (subst (λ (k : ℕ). is_block file (entry file k) ≡ true) here each)

-- the numbers of a stream's blocks stand in the lists
pub list_within : (file : List ℕ) (stream index : ℕ) → stream < stream_count file → index < blocks_for (stream_size file stream) → list_of file stream + index < list_of file (stream_count file)
list_within file stream index lt inside = let grows = list_grows file stream (stream_count file) lt in omega (arith, grows, inside)

pub length_block : (file : List ℕ) (stream index : ℕ) → msf_fault file ≡ None → stream < stream_count file → index < blocks_for (stream_size file stream) → length (stream_block file stream index) ≡ 4096
unfolding stream_block
length_block file stream index none lt inside =
    let within = list_within file stream index lt inside in
    length_part file (4096 * entry file (list_of file stream + index)) 4096 (listed_in file (list_of file stream + index) none (omega arith) within)

-- ---- a stream

pub record HasStream (file : List ℕ) (stream len : ℕ) : Type 0 where
  pub there : stream < stream_count file
  pub len_is : len ≡ stream_size file stream

pub stream_there : (file : List ℕ) (stream len : ℕ) → Some len ≡ stream_len file stream → HasStream file stream len
stream_there file stream len e = go (ltb stream (stream_count file)) refl e
  where
    go : (b : Bool) → ltb stream (stream_count file) ≡ b → Some len ≡ cond b (Some (stream_size file stream)) None → HasStream file stream len
    go true is h = record { there = ltb-true _ _ is; len_is = cc }
    go false is h = absurd (some_none len h)

pub stream_is : (file : List ℕ) (stream : ℕ) → stream < stream_count file → stream_of file stream ≡ Some (stream_bytes file stream)
stream_is file stream lt = rw (lt-ltb _ _ lt) refl

pub one_block_more : (file : List ℕ) (stream count : ℕ) → joined_blocks file stream (count + 1) ≡ joined_blocks file stream count ++ stream_block file stream count
unfolding joined_blocks
one_block_more file stream count = joined_more (stream_block file stream) 0 count count (omega arith)

-- a byte of a stream stands in one of its blocks
pub byte_there : (file : List ℕ) (stream offset : ℕ) (block : List ℕ) → msf_fault file ≡ None → stream < stream_count file → offset < stream_size file stream → block ≡ stream_block file stream (offset / 4096) → Some (get_or block (offset % 4096) 0) ≡ stream_byte file stream offset
unfolding joined_blocks
byte_there file stream offset block none lt inside is =
    let size = stream_size file stream in
    let count = blocks_for size in
    let all = joined_blocks file stream count in
    let each : (k : ℕ) → 0 ≤ k → k < 0 + count → length (stream_block file stream k) ≡ 4096 = λ k low high. length_block file stream k none lt (omega (arith, high)) in
    let long : length all ≡ 4096 * count = length_in_blocks (stream_block file stream) 0 count each in
    let cut = length-take size all in
    let here : offset < length (take size all) = omega (arith, cut, long, inside) in
    let first : 0 + offset / 4096 ≡ offset / 4096 = omega arith in
    ap (λ (b : List ℕ). Some (get_or b (offset % 4096) 0)) is
    ∙ ap Some (sym (get_or-take size all offset 0 inside ∙ get_in_blocks (stream_block file stream) 0 count offset each (omega (arith, inside)) ∙ ap (λ (k : ℕ). get_or (stream_block file stream k) (offset % 4096) 0) first))
    ∙ sym (slice_get-get_or (take size all) offset 0 here)
    ∙ ap (λ (s : Option (List ℕ)). byte_of s offset) (sym (stream_is file stream lt))

pub no_blocks : (file : List ℕ) (stream : ℕ) → joined_blocks file stream 0 ≡ []
unfolding joined_blocks
no_blocks file stream = refl

-- a block appended
pub joined_grows_by : (file : List ℕ) (stream count place : ℕ) (old new block : List ℕ) → place ≡ list_of file stream → old ≡ joined_blocks file stream count → block ≡ bytes_at file (4096 * entry file (place + count)) 4096 → new ≡ old ++ block → new ≡ joined_blocks file stream (count + 1)
unfolding stream_block
joined_grows_by file stream count place old new block is was read grown =
    grown
    ∙ ap (λ (text : List ℕ). text ++ block) was
    ∙ ap (λ (text : List ℕ). joined_blocks file stream count ++ text) (read ∙ ap (λ (k : ℕ). bytes_at file (4096 * entry file (k + count)) 4096) is)
    ∙ sym (one_block_more file stream count)

pub block_is : (file : List ℕ) (stream place index : ℕ) (block : List ℕ) → place ≡ list_of file stream → block ≡ bytes_at file (4096 * entry file (place + index)) 4096 → block ≡ stream_block file stream index
unfolding stream_block
block_is file stream place index block is read = read ∙ ap (λ (k : ℕ). bytes_at file (4096 * entry file (k + index)) 4096) is
