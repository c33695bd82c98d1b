-- The bucket of a name (LLVM, "The PDB Public Symbol Stream", and its function `hashStringV1`).
use Rattle.std.specs.Prelude.{ℕ, ◌+◌, ◌*◌, ◌/◌, ◌%◌, ◌^◌, List, [], ◌∷◌, bit_or, bit_xor}

-- the numbers of four bytes of a text, then one of two bytes and one of one where so many are left, by exclusive or
unfoldable pub mix : List ℕ → ℕ
mix [] = 0
mix (a ∷ []) = a
mix (a ∷ b ∷ []) = a + 256 * b
mix (a ∷ b ∷ c ∷ []) = bit_xor (a + 256 * b) c
mix (a ∷ b ∷ c ∷ d ∷ rest) = bit_xor (a + 256 * (b + 256 * (c + 256 * d))) (mix rest)

-- the bits that tell small letters from capitals are set, so that names that differ in these alone share a bucket
unfoldable pub folded : ℕ → ℕ
folded mixed = bit_xor (bit_or mixed 0x20202020) (bit_or mixed 0x20202020 / 2 ^ 11)

unfoldable pub hash_of : ℕ → ℕ
hash_of folded = bit_xor folded (folded / 2 ^ 16)

-- one of 4,096 buckets
abbrev pub bucket_of : ℕ → ℕ
bucket_of mixed = hash_of (folded mixed) % 4096

abbrev pub bucket : List ℕ → ℕ
bucket name = bucket_of (mix name)
