-- The export directory of a mapped image, and what it says of a name and of an ordinal (PE Format, "The .edata Section (Image
-- Only)"; what is found where a directory is malformed is own).
use Rattle.std.specs.Prelude.{◌≡◌, ℕ, ◌+◌, ◌-◌, ◌*◌, Bool, false, ◌&&◌, ◌||◌, not, ◌==◌, nat_le, nat_lt, if◌then◌else◌, List, Option, Some, None, option_and_then, is_some}
use Rattle.link_base.specs.Bytes.{u32_at, has_bytes, field, text_at}
use Rattle.link_base.specs.NameText.{same_name}
use Rattle.link_base.specs.Refusals.{first_refusal_below}
use Rattle.export_tables.specs.declared.directory.Directory.{Directory}
use Rattle.export_tables.specs.declared.exported.Exported.{Exported}
use Rattle.export_tables.specs.declared.exported.Exported.TheVariants.{Address, Forward, Missing}

-- ---- the directory

abbrev pub SIZEOF_EXPORT_DIRECTORY : ℕ
SIZEOF_EXPORT_DIRECTORY = 40

-- the fields of the directory at an RVA
abbrev pub directory_at : List ℕ → ℕ → ℕ → Directory
directory_at memory rva size = record {
  rva = rva;
  size = size;
  ordinal_base = u32_at memory (rva + 16);
  address_count = u32_at memory (rva + 20);
  name_count = u32_at memory (rva + 24);
  address_table = u32_at memory (rva + 28);
  name_table = u32_at memory (rva + 32);
  ordinal_table = u32_at memory (rva + 36);
}

-- there is none where its size is 0 or a field leaves the memory
unfoldable pub directory_in : List ℕ → ℕ → ℕ → Option Directory
directory_in memory rva size =
    if nat_lt 0 size && has_bytes memory rva SIZEOF_EXPORT_DIRECTORY then Some (directory_at memory rva size) else None

-- ---- an address

-- an address in the directory's range is that of a forwarder's text
abbrev pub is_forwarder : Directory → ℕ → Bool
is_forwarder directory address = nat_le directory.rva address && nat_lt address (directory.rva + directory.size)

-- the text at an RVA ends in the memory
abbrev pub has_text : List ℕ → ℕ → Bool
has_text memory rva = is_some (text_at memory rva)

-- an entry whose address is 0 exports nothing, and neither does a forwarder whose text leaves the memory
unfoldable pub is_export : List ℕ → Directory → ℕ → Bool
is_export memory directory address =
    not (address == 0) && (not (is_forwarder directory address) || has_text memory address)

abbrev pub if_export : List ℕ → Directory → Option ℕ → Option ℕ
if_export memory directory None = None
if_export memory directory (Some address) = if is_export memory directory address then Some address else None

-- ---- an entry of the address table

-- the address of an entry that is counted and lies in the memory
abbrev pub counted_address : List ℕ → Directory → ℕ → Option ℕ
counted_address memory directory index =
    if nat_lt index directory.address_count then field 4 memory (directory.address_table + 4 * index) else None

-- what the entry exports
unfoldable pub entry_address : List ℕ → Directory → ℕ → Option ℕ
entry_address memory directory index = if_export memory directory (counted_address memory directory index)

-- the entry of an ordinal: its index is the ordinal less the ordinal base
unfoldable pub ordinal_address : List ℕ → Directory → ℕ → Option ℕ
ordinal_address memory directory ordinal =
    if nat_le directory.ordinal_base ordinal then entry_address memory directory (ordinal - directory.ordinal_base) else None

-- ---- an entry of the name table

-- the text at an RVA is this name
abbrev pub is_text : Option (List ℕ) → List ℕ → Bool
is_text None name = false
is_text (Some text) name = same_name text name

abbrev pub is_name_at : List ℕ → List ℕ → Option ℕ → Bool
is_name_at memory name None = false
is_name_at memory name (Some rva) = is_text (text_at memory rva) name

-- the entry of an index has this name
unfoldable pub is_named : List ℕ → Directory → List ℕ → ℕ → Bool
is_named memory directory name index = is_name_at memory name (field 4 memory (directory.name_table + 4 * index))

-- what an entry exports that has this name: the ordinal table holds the index of its address
unfoldable pub named_address : List ℕ → Directory → List ℕ → ℕ → Option ℕ
named_address memory directory name index =
    if is_named memory directory name index
    then option_and_then (entry_address memory directory) (field 2 memory (directory.ordinal_table + 2 * index)) else None

-- of several entries of one name that export something the first counts
unfoldable pub name_address : List ℕ → Directory → List ℕ → Option ℕ
name_address memory directory name = first_refusal_below directory.name_count (named_address memory directory name)

-- ---- what is found

abbrev pub forwarded : Option (List ℕ) → Exported
forwarded None = Missing
forwarded (Some text) = Forward text

-- what an address says in a directory
abbrev pub found : List ℕ → Directory → Option ℕ → Exported
found memory directory None = Missing
found memory directory (Some address) =
    if is_forwarder directory address then forwarded (text_at memory address) else Address address

abbrev pub found_in : List ℕ → (Directory → Option ℕ) → Option Directory → Exported
found_in memory address_of None = Missing
found_in memory address_of (Some directory) = found memory directory (address_of directory)

-- what a mapped image exports by an ordinal and by a name, where its directory has this RVA and size
unfoldable pub export_of_ordinal : List ℕ → ℕ → ℕ → ℕ → Exported
export_of_ordinal memory rva size ordinal =
    found_in memory (λ directory. ordinal_address memory directory ordinal) (directory_in memory rva size)

unfoldable pub export_of_name : List ℕ → ℕ → ℕ → List ℕ → Exported
export_of_name memory rva size name =
    found_in memory (λ directory. name_address memory directory name) (directory_in memory rva size)

-- ---- texts that end in a memory

-- those that begin before `end`, and no others
abbrev pub EndTexts : List ℕ → ℕ → Type 0
EndTexts memory end = (rva : ℕ) → has_text memory rva ≡ nat_lt rva end
