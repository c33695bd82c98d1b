-- The program database of an image. Own.
use Rattle.std.specs.Prelude.{ℕ, List, length}
use Rattle.piece_bytes.specs.Owners.{owners}
use Rattle.pdb_dbi.specs.declared.rows.ModuleName.{ModuleName}
use Rattle.pdb_dbi.specs.declared.rows.Contribution.{Contribution}
use Rattle.pdb_publics.specs.declared.rows.PublicRow.{PublicRow}
use Rattle.pdb_file.specs.PdbFile.{Database, pdb_streams}
use Rattle.debug_rows.specs.Contributions.{contributions_of}
use Rattle.debug_rows.specs.ModuleNames.{module_names_of}
use Rattle.debug_rows.specs.PlacedPublics.{public_rows_of}
use Rattle.debug_rows.specs.ImageMap.{Mapped}

-- the modules of its link, and behind them that of what the linker makes
abbrev pub image_modules : Mapped → List ModuleName
image_modules image = module_names_of image.modules

-- what its pieces give to its sections
abbrev pub image_contributions : Mapped → List Contribution
image_contributions image = contributions_of image.modules image.pieces image.places image.rvas image.sections

-- the public symbols that stand in its sections
abbrev pub image_publics : Mapped → List PublicRow
image_publics image =
    public_rows_of (owners image.sections (length image.rvas)) image.sections image.places image.rvas image.publics

-- what the database of an image is made of, given its time, its identifier and its section headers
abbrev pub image_database : Mapped → ℕ → List ℕ → List ℕ → Database
image_database image time id headers = record {
  time = time;
  id = id;
  modules = image_modules image;
  contributions = image_contributions image;
  publics = image_publics image;
  headers = headers;
}

-- the streams of that database
unfoldable pub image_streams : Mapped → ℕ → List ℕ → List ℕ → List (List ℕ)
image_streams image time id headers = pdb_streams (image_database image time id headers)
