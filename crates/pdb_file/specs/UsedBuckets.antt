-- The buckets of a hash table that the names of some public symbols use (LLVM, "The PDB Public Symbol Stream").
use Rattle.std.specs.Prelude.{ℕ, Bool, ◌==◌, nat_lt, List, count_by}
use Rattle.pdb_publics.specs.declared.rows.PublicRow.{PublicRow}
use Rattle.pdb_publics.specs.NameHash.{bucket}
use Rattle.pdb_publics.specs.Lookup.{passing}

-- how many names have this bucket
abbrev pub names_in : List PublicRow → ℕ → ℕ
names_in rows k = count_by (λ row. bucket row.name == k) rows

abbrev pub is_used : List PublicRow → ℕ → Bool
is_used rows k = nat_lt 0 (names_in rows k)

-- how many of the 4,096 buckets have a name
abbrev pub used_buckets : List PublicRow → ℕ
used_buckets rows = passing 4096 (is_used rows)
