-- What the tests of a file say of the numbers that are read from it.
use Rattle.std.proofs.Common.{◌≡◌, ℕ, ◌+◌, ◌-◌, ◌*◌, ◌/◌, ◌<◌, ◌≤◌, Bool, true, false, ◌&&◌, cond, ltb, List, length, refl, ap, ◌∙◌, add-one, arith, min}
use Rattle.std.proofs.lemmas.Bool.{and_parts, leb-true, ltb-true, and_right}
use Rattle.link_base.specs.Bytes.{all_below}
use Rattle.link_base.proofs.CallerLemmas.{all_below-each, all_below-fails}
use Rattle.pdb_msf.specs.BlockFile.{blocks_for, directory_blocks, is_block, stream_size, has_map, map_block, directory_block, directory_len, entry, stream_count, blocks_before, directory_is_there, listed_len, lists_are_there, has_blocks}

-- ---- the map and the directory

pub record MapIsThere (file : List ℕ) : Type 0 where
  pub superblock : 56 ≤ length file
  pub map : 4096 * map_block file + 4096 ≤ length file

pub map_there : (file : List ℕ) → has_map file ≡ true → MapIsThere file
unfolding has_map
map_there file e =
    let p = and_parts _ _ e in
    let s : 0 + 56 ≤ length file = leb-true _ _ p.0 in
    record { superblock = omega (arith, s); map = leb-true _ _ p.1 }

pub map_of_directory : (file : List ℕ) → directory_is_there file ≡ true → has_map file ≡ true
unfolding directory_is_there
map_of_directory file e = (and_parts _ _ e).0

pub superblock_there : (file : List ℕ) → directory_is_there file ≡ true → 56 ≤ length file
superblock_there file e = (map_there file (map_of_directory file e)).superblock

pub len_most : (file : List ℕ) → directory_len file ≤ 1048576
unfolding directory_len
len_most file = omega arith

pub block_index : (file : List ℕ) (index : ℕ) → index < directory_len file → index / 1024 < 1024
block_index file index lt = let most = len_most file in omega (arith, most, lt)

-- a block of the directory that holds a number lies in the file
pub entry_there : (file : List ℕ) (index : ℕ) → directory_is_there file ≡ true → index < directory_len file → 4096 * directory_block file (index / 1024) + 4096 ≤ length file
unfolding directory_is_there directory_len
entry_there file index e lt =
    let blocks : all_below (directory_blocks file) (λ (k : ℕ). is_block file (directory_block file k)) ≡ true = (and_parts (has_map file) (all_below (directory_blocks file) (λ (k : ℕ). is_block file (directory_block file k))) e).1 in
    let here : index / 1024 < directory_blocks file = omega (arith, lt) in
    leb-true _ _ (all_below-each (directory_blocks file) (λ (k : ℕ). is_block file (directory_block file k)) blocks (index / 1024) here)

-- one block of the directory leaves the file
pub directory_fails : (file : List ℕ) (count index : ℕ) → count ≡ directory_blocks file → index < count → is_block file (directory_block file index) ≡ false → directory_is_there file ≡ false
unfolding directory_is_there
directory_fails file count index is lt fails =
    let all = all_below-fails (directory_blocks file) index (λ (k : ℕ). is_block file (directory_block file k)) (omega (arith, is, lt)) fails in
    ap (λ (b : Bool). has_map file && b) all ∙ and_right (has_map file) false refl

pub directory_of_blocks : (file : List ℕ) → has_blocks file ≡ true → directory_is_there file ≡ true
unfolding has_blocks
directory_of_blocks file e = (and_parts _ _ (and_parts _ _ e).1).0

-- ---- the lists

pub record ListedIsThere (file : List ℕ) (index : ℕ) : Type 0 where
  pub some : 0 < directory_len file
  pub within : 1 + stream_count file + index < directory_len file

pub listed_there : (file : List ℕ) (index : ℕ) → index < listed_len file → ListedIsThere file index
unfolding listed_len
listed_there file index lt = go (ltb (stream_count file) (directory_len file)) refl lt
  where
    go : (b : Bool) → ltb (stream_count file) (directory_len file) ≡ b → index < cond b (min (blocks_before file (stream_count file)) (directory_len file - (1 + stream_count file))) 0 → ListedIsThere file index
    go true e h = let sizes = ltb-true _ _ e in record { some = omega (arith, sizes); within = omega (arith, sizes, h) }
    go false e h = absurd (omega (arith, h))

pub lists_fail : (file : List ℕ) (count index : ℕ) → count ≡ listed_len file → index < count → is_block file (entry file (1 + stream_count file + index)) ≡ false → lists_are_there file ≡ false
unfolding lists_are_there
lists_fail file count index is lt fails =
    all_below-fails (listed_len file) index (λ (k : ℕ). is_block file (entry file (1 + stream_count file + k))) (omega (arith, is, lt)) fails

-- ---- the blocks of one stream more

pub blocks_more : (file : List ℕ) (stream : ℕ) → blocks_before file (stream + 1) ≡ blocks_before file stream + blocks_for (stream_size file stream)
unfolding blocks_before
blocks_more file stream = rw add-one refl

pub record MoreBlocks (file : List ℕ) (stream blocks more : ℕ) : Type 0 where
  pub sum : blocks + more ≡ blocks_before file (stream + 1)
  pub most : blocks + more ≤ 1048576 * (stream + 1)

pub one_more : (file : List ℕ) (stream blocks more size : ℕ) → size < 4294967296 → size ≡ stream_size file stream → more ≡ blocks_for size → blocks ≡ blocks_before file stream → blocks ≤ 1048576 * stream → MoreBlocks file stream blocks more
one_more file stream blocks more size small is for was most =
    let step = blocks_more file stream in
    let whole : more ≡ blocks_for (stream_size file stream) = for ∙ ap blocks_for is in
    record { sum = omega (arith, step, whole, was); most = omega (arith, for, small, most) }
