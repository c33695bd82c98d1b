-- The definitions on a mapped image whose import directory, at RVA 4, names `a` and imports the ordinal 5 from it.
use Rattle.std.proofs.Common.{◌≡◌, ℕ, List, [], ◌∷◌, ◌++◌, take, refl}
use Rattle.std.specs.Prelude.{codes}
use Rattle.link_base.specs.Bytes.{number_at}
use Rattle.short_import.specs.declared.import.ImportBy.TheVariants as by
use Rattle.import_tables.specs.ImportDirectory.{Imports, LeavesAt, import_of, entry_at, entries_from, entries_of, is_last, descriptor_imports, descriptors_from, imports_of}

zeros : List ℕ
zeros = 0 ∷ 0 ∷ 0 ∷ 0 ∷ []

-- the lookup table at 46, the name at 44, the slots at 62
descriptor : List ℕ
descriptor = 46 ∷ 0 ∷ 0 ∷ 0 ∷ (zeros ++ (zeros ++ (44 ∷ 0 ∷ 0 ∷ 0 ∷ 62 ∷ 0 ∷ 0 ∷ 0 ∷ [])))

last : List ℕ
last = zeros ++ (zeros ++ (zeros ++ (zeros ++ zeros)))

name : List ℕ
name = codes "a" ++ 0 ∷ []

entries : List ℕ
entries = 5 ∷ 0 ∷ 0 ∷ 0 ∷ 0 ∷ 0 ∷ 0 ∷ 0x80 ∷ (zeros ++ zeros)

image : List ℕ
image = zeros ++ (descriptor ++ (last ++ (name ++ (entries ++ (zeros ++ zeros)))))

image-imports : imports_of image 4 ≡ Imports (import_of (codes "a") (by.Ordinal 5) 62 ∷ [])
unfolding image zeros descriptor last name entries number_at entry_at entries_from entries_of is_last descriptor_imports descriptors_from imports_of
image-imports = refl

-- the slot leaves the memory
image-cut : imports_of (take 69 image) 4 ≡ LeavesAt 62
unfolding image zeros descriptor last name entries number_at entry_at entries_from entries_of is_last descriptor_imports descriptors_from imports_of
image-cut = refl

-- the directory does
image-beyond : imports_of image 51 ≡ LeavesAt 51
unfolding image zeros descriptor last name entries number_at entry_at entries_from entries_of is_last descriptor_imports descriptors_from imports_of
image-beyond = refl

-- a directory at RVA 0 is none
image-none : imports_of image 0 ≡ Imports []
unfolding imports_of
image-none = refl
