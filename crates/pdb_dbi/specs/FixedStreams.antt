-- The streams of a program database that hold little: the one that identifies it, and those of types, which have none.
use Rattle.std.specs.Prelude.{ℕ, List, [], ◌∷◌, ◌++◌}
use Rattle.link_base.specs.Fields.{fields}
use Rattle.link_base.specs.declared.numbers.LeNumber.TheVariants.{U16, U32}
use Rattle.pdb_dbi.specs.DbiStream.{AGE, NO_STREAM}

-- ---- the information stream (LLVM, "The PDB Info Stream (aka the PDB Stream)")

abbrev pub PDB_VC70 : ℕ
PDB_VC70 = 20000404

-- the feature that there is a stream of ids beside that of types
abbrev pub FEATURE_VC140 : ℕ
FEATURE_VC140 = 20140508

-- the table of named streams, which has none: the bytes of its names, its size, its capacity, the words of two sets of bits,
-- and the number that ends it
unfoldable pub named_streams : List ℕ
named_streams = fields (U32 0 ∷ U32 0 ∷ U32 8 ∷ U32 0 ∷ U32 0 ∷ U32 0 ∷ [])

-- the version, the time, the age, the identifier, named streams, and the feature
unfoldable pub info_of : ℕ → List ℕ → List ℕ
info_of time identifier =
    fields (U32 PDB_VC70 ∷ U32 time ∷ U32 AGE ∷ []) ++ (identifier ++ (named_streams ++ fields (U32 FEATURE_VC140 ∷ [])))

-- ---- a stream of types (LLVM, "The PDB TPI and IPI Streams")

abbrev pub TYPES_V80 : ℕ
TYPES_V80 = 20040203

abbrev pub TYPES_HEADER_SIZE : ℕ
TYPES_HEADER_SIZE = 56

-- the index of the first type of a file
abbrev pub FIRST_TYPE : ℕ
FIRST_TYPE = 0x1000

abbrev pub HASH_BUCKETS : ℕ
HASH_BUCKETS = 0x3FFFF

-- the version, the header's size, the first index and the end of the indexes, the bytes of records, two streams of hashes
-- that are not there, the size of a hash and the number of buckets, and the places and sizes of three tables
unfoldable pub types : List ℕ
types =
    fields (U32 TYPES_V80 ∷ U32 TYPES_HEADER_SIZE ∷ U32 FIRST_TYPE ∷ U32 FIRST_TYPE ∷ U32 0 ∷ U16 NO_STREAM ∷ U16 NO_STREAM ∷ U32 4 ∷ U32 HASH_BUCKETS ∷ [])
    ++ fields (U32 0 ∷ U32 0 ∷ U32 0 ∷ U32 0 ∷ U32 0 ∷ U32 0 ∷ [])
