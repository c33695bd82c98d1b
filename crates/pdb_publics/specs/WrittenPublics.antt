-- Rows as the streams list them: what a search is to find. Own.
use Rattle.std.specs.Prelude.{◌≡◌, ℕ, ◌<◌, ◌≤◌, ◌^◌, if◌then◌else◌, List, [], ◌∷◌, length, All, slice_index_or, Option, Some, None, option_map}
use Rattle.link_base.specs.NameText.{same_name}
use Rattle.pdb_publics.specs.declared.rows.PublicRow.{PublicRow}
use Rattle.pdb_publics.specs.declared.rows.Public.{Public}
use Rattle.pdb_publics.specs.PublicStreams.{PUBLIC_NAME_LIMIT, STREAM_LIMIT, flags_of, records_stream, publics_stream}

-- the numbers of a row fit its fields, and its name is not too long and holds no NUL
pub record IsRow (row : PublicRow) : Type 0 where
  pub name : length row.name ≤ PUBLIC_NAME_LIMIT
  pub no_nul : All (λ byte. 0 < byte) row.name
  pub section : row.section < 2 ^ 16
  pub offset : row.offset < 2 ^ 32

-- rows that streams can list: no two have one name, and no stream is too long
pub record AreRows (rows : List PublicRow) : Type 0 where
  pub each : All IsRow rows
  pub differ : (i j : ℕ) (d : PublicRow) → i < length rows → j < length rows → (slice_index_or rows i d).name ≡ (slice_index_or rows j d).name → i ≡ j
  pub records : length (records_stream rows) ≤ STREAM_LIMIT
  pub publics : length (publics_stream rows) ≤ STREAM_LIMIT

-- the first row of a name
unfoldable pub row_named : List ℕ → List PublicRow → Option PublicRow
row_named name [] = None
row_named name (row ∷ rows) = if same_name row.name name then Some row else row_named name rows

abbrev pub public_of : PublicRow → Public
public_of row = record { section = row.section; offset = row.offset; flags = flags_of row.function }

abbrev pub public_named : List ℕ → List PublicRow → Option Public
public_named name rows = option_map public_of (row_named name rows)
