-- The part of modules (LLVM, "The PDB DBI (Debug Info) Stream", "Module Info Substream"). No module has a stream, lines or
-- source files of its own (own).
use Rattle.std.specs.Prelude.{ℕ, ◌+◌, ◌-◌, ◌%◌, ◌==◌, Bool, List, [], ◌∷◌, ◌++◌, length, replicate, unwrap_or}
use Rattle.std.specs.List.{flat_map, find, enumerate_from}
use Rattle.link_base.specs.Fields.{fields}
use Rattle.link_base.specs.declared.numbers.LeNumber.TheVariants.{U16, U32}
use Rattle.pdb_dbi.specs.declared.rows.Contribution.{Contribution}
use Rattle.pdb_dbi.specs.declared.rows.ModuleName.{ModuleName}
use Rattle.pdb_dbi.specs.Contribution.{record_ver60}

-- ---- the contribution that a module's record has

-- the contribution is of the module in this position
abbrev pub is_of : ℕ → Contribution → Bool
is_of position row = row.«module» == position

-- what stands for that of a module which has none: section 0xFFFF, and the module (own)
abbrev pub no_contribution : ℕ → Contribution
no_contribution position = record { section = 0xFFFF; offset = 0; size = 0; flags = 0; «module» = position; coff = 0 }

-- the first of the module's contributions
abbrev pub first_of : List Contribution → ℕ → Contribution
first_of list position = unwrap_or (find (is_of position) list) (no_contribution position)

-- ---- a module's record

-- a number that is not used, the contribution, flags, no stream, the sizes of symbols and of two kinds of lines, the number
-- of source files and two bytes of 0, and three offsets of names
unfoldable pub module_header : Contribution → List ℕ
module_header first =
    fields (U32 0 ∷ [])
    ++ (record_ver60 first
    ++ fields (U16 0 ∷ U16 0xFFFF ∷ U32 0 ∷ U32 0 ∷ U32 0 ∷ U16 0 ∷ U16 0 ∷ U32 0 ∷ U32 0 ∷ U32 0 ∷ []))

-- its name and the name of its file, each ended by a NUL
unfoldable pub module_text : ModuleName → List ℕ
module_text names = (names.name ++ (0 ∷ [])) ++ (names.file ++ (0 ∷ []))

-- the zeros that fill so many bytes to a multiple of 4
abbrev pub padding : ℕ → ℕ
padding size = (4 - size % 4) % 4

abbrev pub padded : List ℕ → List ℕ
padded bytes = bytes ++ replicate (padding (length bytes)) 0

unfoldable pub module_record : List Contribution → ℕ × ModuleName → List ℕ
module_record list (position, names) = module_header (first_of list position) ++ padded (module_text names)

-- the records of all modules, counted from 0
abbrev pub module_part : List Contribution → List ModuleName → List ℕ
module_part list modules = flat_map (module_record list) (enumerate_from 0 modules)

-- ---- their sizes

abbrev pub text_size : ModuleName → ℕ
text_size names = length names.name + 1 + (length names.file + 1)

abbrev pub module_size : ModuleName → ℕ
module_size names = 64 + (text_size names + padding (text_size names))
