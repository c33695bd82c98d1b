-- 64 streams of 16,777,216 bytes take 262,144 blocks, and their directory 257: with the two blocks before it and 130 free maps
-- the file is above the limit.
use Rattle.std.proofs.Common.{◌≡◌, replicate, refl}
use Rattle.pdb_msf.specs.WrittenFile.{stream_total, file_size}

pub largest_is_too_large : file_size (replicate 64 16777216) ≡ 1075335168
unfolding stream_total
largest_is_too_large = refl
