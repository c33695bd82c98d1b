-- The debug directory of an image, which has one entry, and the data of the entry (PE Format, "Debug Directory (Image
-- Only)"; LLVM, "The PDB Info Stream (aka the PDB Stream)", "Matching a PDB to its executable").
use Rattle.std.specs.Prelude.{ℕ, List, [], ◌∷◌, ◌++◌, codes}
use Rattle.link_base.specs.Fields.{fields}
use Rattle.link_base.specs.declared.numbers.LeNumber.TheVariants.{U16, U32}

-- the type of an entry that names a PDB
abbrev pub IMAGE_DEBUG_TYPE_CODEVIEW : ℕ
IMAGE_DEBUG_TYPE_CODEVIEW = 2

-- no characteristics, the time, no version, the type, and the length of the data, its RVA and its place in the file
unfoldable pub debug_entry : ℕ → ℕ → ℕ → ℕ → List ℕ
debug_entry time len rva file =
    fields (U32 0 ∷ U32 time ∷ U16 0 ∷ U16 0 ∷ U32 IMAGE_DEBUG_TYPE_CODEVIEW ∷ U32 len ∷ U32 rva ∷ U32 file ∷ [])

-- the signature, the identifier of the PDB, its age, and its name with a NUL
unfoldable pub debug_data : List ℕ → List ℕ → List ℕ
debug_data identifier pdb = codes "RSDS" ++ (identifier ++ (fields (U32 1 ∷ []) ++ (pdb ++ 0 ∷ [])))
