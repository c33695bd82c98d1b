-- The files of the outside, as far as they are known. Own.
use Rattle.std.specs.Prelude.{ℕ, List, map as each, Option, option_map, String, Vec, string_bytes}
use Rattle.std.specs.Ordering.{nat_cmp}
use Rattle.std.specs.Cmp.Lexicographic.{slice_cmp}
use Rattle.std.specs.Coded.{Coded, coded_ℕ, coded_list}
use Rattle.std.specs.FinMap as map

-- a finite map from the bytes of a name to the bytes of the file
abbrev pub Store : Type 0
Store = map.FinMap (slice_cmp nat_cmp) (List ℕ)

abbrev pub store_code : Coded Store
store_code = map.code (coded_list coded_ℕ) (coded_list coded_ℕ)

-- the store that has no file
abbrev pub no_files : Store
no_files = map.empty

-- the bytes of the file of this name, where it is there
abbrev pub file_of : Store → List ℕ → Option (List ℕ)
file_of files name = map.get files name

-- the store with this file, in place of one of the same name
abbrev pub with_file : Store → List ℕ → List ℕ → Store
with_file files name bytes = map.insert files name bytes

-- the same of a store that may be untold: told or untold, it stays so
abbrev pub told_with_file : Option Store → List ℕ → List ℕ → Option Store
told_with_file told name bytes = option_map (λ files. with_file files name bytes) told

-- the store of a list of named files, of which the first of a name counts
abbrev pub store_of : {Y Z : Type 0} → List (String Y × Vec ℕ Z) → Store
store_of entries = map.from_entries (each (λ e. (string_bytes e.0, e.1.items)) entries)
