-- What an image says of its PDB (PE Format, "Debug Directory (Image Only)"; that the identifier is zero until the image is made
-- is own).
use Rattle.std.specs.Prelude.{ℕ, ◌+◌, ◌-◌, ◌%◌, ◌^◌, Bool, ◌&&◌, nat_le, nat_lt, ◌==◌, if◌then◌else◌, List, [], length, replicate, Option, Some, None}
use Rattle.link_base.specs.Bytes.{first_below}
use Rattle.address_layout.specs.declared.layout.Placed.{Placed}
use Rattle.address_layout.specs.Layout.{placed_at}
use Rattle.debug_entry.specs.DebugDirectory.{debug_entry, debug_data}
use Rattle.link_words.specs.Outcome.{LinkOptions}

-- ---- what the options say

-- the time of the image, the name of the PDB, and the size of the data that holds the name, which is 0 where no PDB is asked for
pub record DebugView : Type 0 where
  pub time : ℕ
  pub pdb : List ℕ
  pub size : ℕ

-- the identifier of an image that is not made yet
abbrev pub no_identifier : List ℕ
no_identifier = replicate 16 0

-- the size of the data does not depend on the identifier
unfoldable pub data_size : List ℕ → ℕ
data_size pdb = length (debug_data no_identifier pdb)

abbrev pub debug_of : LinkOptions → DebugView
debug_of options = record { time = options.time; pdb = options.pdb; size = if options.debug then data_size options.pdb else 0 }

-- ---- where the data stands in the file

-- the section has the RVA
abbrev pub has_rva : List Placed → ℕ → ℕ → Bool
has_rva sections rva i =
    nat_le (placed_at sections i).rva rva && nat_lt (rva - (placed_at sections i).rva) (placed_at sections i).size

-- the first section that does
abbrev pub section_with : List Placed → ℕ → Option ℕ
section_with sections rva = first_below (length sections) (has_rva sections rva)

-- what stands at an RVA has this place in the file, as a number of four bytes; without a section it has none, and 0 is said
abbrev pub place_in : List Placed → ℕ → Option ℕ → ℕ
place_in sections rva None = 0
place_in sections rva (Some i) = ((placed_at sections i).file + (rva - (placed_at sections i).rva)) % 2 ^ 32

abbrev pub file_place : List Placed → ℕ → ℕ
file_place sections rva = place_in sections rva (section_with sections rva)

-- ---- the bytes

-- the entry, for data at an RVA in an image with these sections
unfoldable pub entry_bytes : DebugView → List Placed → ℕ → List ℕ
entry_bytes debug sections rva =
    if debug.size == 0 then [] else debug_entry debug.time debug.size rva (file_place sections rva)

-- the data, with an identifier
unfoldable pub data_bytes : DebugView → List ℕ → List ℕ
data_bytes debug identifier = if debug.size == 0 then [] else debug_data identifier debug.pdb
