-- A program database as a file of streams (LLVM, "The PDB File Format"; the numbers from 5 on are own).
use Rattle.std.specs.Prelude.{◌≡◌, ◌⊎◌, ◌<◌, ℕ, List, [], ◌∷◌, ◌++◌, length, map}
use Rattle.pdb_msf.specs.declared.writing.MsfError.{MsfError}
use Rattle.pdb_msf.specs.declared.writing.MsfError.TheVariants.{TooLarge, Memory}
use Rattle.pdb_msf.specs.WrittenFile.{MSF_LIMIT, file_size}
use Rattle.pdb_dbi.specs.declared.rows.ModuleName.{ModuleName}
use Rattle.pdb_dbi.specs.declared.rows.Contribution.{Contribution}
use Rattle.pdb_dbi.specs.FixedStreams.{info_of, types}
use Rattle.pdb_dbi.specs.DbiStream.{dbi_of}
use Rattle.pdb_publics.specs.declared.rows.PublicRow.{PublicRow}
use Rattle.pdb_publics.specs.PublicStreams.{globals_stream, publics_stream, records_stream}
use Rattle.pdb_file.specs.declared.writing.PdbParts.{PdbParts}

-- what a program database is made of: the time and the identifier of its image, the modules, what each gives to sections, the
-- public symbols, and the section headers of the image
pub record Database : Type 0 where
  pub time : ℕ
  pub id : List ℕ
  pub modules : List ModuleName
  pub contributions : List Contribution
  pub publics : List PublicRow
  pub headers : List ℕ

abbrev pub database : PdbParts → Database
database parts = record {
  time = parts.time;
  id = parts.id;
  modules = parts.modules.now;
  contributions = parts.contributions.now;
  publics = parts.publics.now;
  headers = parts.headers.now;
}

-- 0 to 4: an empty stream, the information, the types, the debug information, and the ids, which are written as types are
abbrev pub front_streams : Database → List (List ℕ)
front_streams pdb = [] ∷ info_of pdb.time pdb.id ∷ types ∷ dbi_of pdb.modules pdb.contributions pdb.headers ∷ types ∷ []

-- 5 to 7: the globals, the publics and the symbol records
abbrev pub public_streams : List PublicRow → List (List ℕ)
public_streams publics = globals_stream ∷ publics_stream publics ∷ records_stream publics ∷ []

-- 8: the section headers of the image
unfoldable pub pdb_streams : Database → List (List ℕ)
pdb_streams pdb = front_streams pdb ++ (public_streams pdb.publics ++ pdb.headers ∷ [])

-- a file of these streams is not made for want of memory, or since it would be too large: then its size is said
abbrev pub IsTooLarge : List (List ℕ) → MsfError → Type 0
IsTooLarge streams error = (error ≡ Memory) ⊎ ((error ≡ TooLarge (file_size (map length streams))) × (MSF_LIMIT < file_size (map length streams)))
