-- The entries of a compiled resource file (Windows, "Resource File Formats" and "RESOURCEHEADER"). Which files are refused,
-- and in which order, is own.
use Rattle.std.specs.Prelude.{ℕ, zero, suc, ◌+◌, ◌-◌, ◌*◌, ◌/◌, ◌%◌, Bool, ◌||◌, not, ◌==◌, nat_lt, min, if◌then◌else◌, List, [], ◌∷◌, length, Option, Some, None, Result, Ok, Err}
use Rattle.link_base.specs.Bytes.{u16_at, u32_at, has_bytes, bytes_at, first_below}
use Rattle.link_base.specs.declared.kinds.resource.ResFault.{ResFault}
use Rattle.link_base.specs.declared.kinds.resource.ResFault.TheVariants as bad
use Rattle.res_merge.specs.declared.resource.ResError.{ResError}
use Rattle.res_merge.specs.Entries.{Key, Number, Text, Entry}

-- the next multiple of four
unfoldable pub aligned : ℕ → ℕ
aligned n = 4 * ((n + 3) / 4)

-- the entry that says that a file is one, which is passed over
abbrev pub FIRST_ENTRY_SIZE : ℕ
FIRST_ENTRY_SIZE = 32

-- a type or a name that begins so is a number, in the two bytes behind
abbrev pub NUMBER_MARK : ℕ
NUMBER_MARK = 0xFFFF

-- a text has fewer units
abbrev pub UNIT_END : ℕ
UNIT_END = 32001

-- the fields behind the name: DataVersion, MemoryFlags, LanguageId, Version and Characteristics
abbrev pub FIELDS_SIZE : ℕ
FIELDS_SIZE = 16

-- ---- a type or a name

abbrev pub is_text_end : List ℕ → ℕ → ℕ → Bool
is_text_end bytes offset k = u16_at bytes (offset + 2 * k) == 0

-- how many units stand before the first zero unit, where there are fewer than 32,001 and the zero unit is there
unfoldable pub text_units : List ℕ → ℕ → Option ℕ
text_units bytes offset = first_below (min UNIT_END ((length bytes - offset) / 2)) (is_text_end bytes offset)

-- a type or a name, and where it ends
pub record NameRead : Type 0 where
  pub name : Key
  pub behind : ℕ

-- a text that does not end is too long where there are 32,001 units, and else leaves the file
abbrev pub text_fault : List ℕ → ℕ → ResFault
text_fault bytes offset = if has_bytes bytes offset (2 * UNIT_END) then bad.Name else bad.Header

abbrev pub text_read : List ℕ → ℕ → Option ℕ → Result NameRead ResFault
text_read bytes offset None = Err (text_fault bytes offset)
text_read bytes offset (Some units) =
    Ok (record { name = Text (bytes_at bytes offset (2 * units)); behind = offset + 2 * units + 2 })

abbrev pub number_read : List ℕ → ℕ → Result NameRead ResFault
number_read bytes offset =
    if has_bytes bytes offset 4 then Ok (record { name = Number (u16_at bytes (offset + 2)); behind = offset + 4 })
    else Err bad.Header

unfoldable pub name_read : List ℕ → ℕ → Result NameRead ResFault
name_read bytes offset =
    if has_bytes bytes offset 2 then (if u16_at bytes offset == NUMBER_MARK then number_read bytes offset else text_read bytes offset (text_units bytes offset))
    else Err bad.Header

-- ---- an entry

abbrev pub data_size : List ℕ → ℕ → ℕ
data_size bytes offset = u32_at bytes offset

abbrev pub header_size : List ℕ → ℕ → ℕ
header_size bytes offset = u32_at bytes (offset + 4)

-- the type and the name, and where the fields behind them stand
pub record Heading : Type 0 where
  pub kind : Key
  pub name : Key
  pub fields : ℕ

abbrev pub with_name : Key → Result NameRead ResFault → Result Heading ResFault
with_name kind (Ok read) = Ok (record { kind = kind; name = read.name; fields = aligned read.behind })
with_name kind (Err fault) = Err fault

abbrev pub with_kind : List ℕ → Result NameRead ResFault → Result Heading ResFault
with_kind bytes (Ok read) = with_name read.name (name_read bytes read.behind)
with_kind bytes (Err fault) = Err fault

-- the type stands behind the two sizes, and the name behind the type
unfoldable pub heading : List ℕ → ℕ → Result Heading ResFault
heading bytes offset = if has_bytes bytes offset 8 then with_kind bytes (name_read bytes (offset + 8)) else Err bad.Header

-- the size of the header is no multiple of four, or too small for its fields, or the header leaves the file
unfoldable pub size_is_bad : List ℕ → ℕ → ℕ → Bool
size_is_bad bytes offset end =
    not (header_size bytes offset % 4 == 0)
    || (nat_lt (offset + header_size bytes offset) end || not (has_bytes bytes offset (header_size bytes offset)))

unfoldable pub header_is_bad : List ℕ → ℕ → ℕ → Bool
header_is_bad bytes offset fields = not (has_bytes bytes fields FIELDS_SIZE) || size_is_bad bytes offset (fields + FIELDS_SIZE)

abbrev pub data_place : List ℕ → ℕ → ℕ
data_place bytes offset = offset + header_size bytes offset

-- an entry, and where the next one begins
pub record EntryRead : Type 0 where
  pub entry : Entry
  pub next : ℕ

unfoldable pub entry_with : List ℕ → ℕ → Heading → EntryRead
entry_with bytes offset heading = record {
  entry = record {
    kind = heading.kind;
    name = heading.name;
    language = u16_at bytes (heading.fields + 6);
    body = bytes_at bytes (data_place bytes offset) (data_size bytes offset);
  };
  next = aligned (data_place bytes offset + data_size bytes offset);
}

abbrev pub with_heading : List ℕ → ℕ → Result Heading ResFault → Result EntryRead ResFault
with_heading bytes offset (Err fault) = Err fault
with_heading bytes offset (Ok heading) =
    if header_is_bad bytes offset heading.fields then Err bad.Header
    else (if has_bytes bytes (data_place bytes offset) (data_size bytes offset) then Ok (entry_with bytes offset heading) else Err bad.Data)

unfoldable pub entry_read : List ℕ → ℕ → Result EntryRead ResFault
entry_read bytes offset = with_heading bytes offset (heading bytes offset)

-- ---- a file

-- an entry and those behind it; what is wrong with one is the last item
abbrev pub item_then : ℕ → Result EntryRead ResFault → (ℕ → List (Result Entry ResError)) → List (Result Entry ResError)
item_then offset (Ok read) rest = Ok read.entry ∷ rest read.next
item_then offset (Err fault) rest = Err (record { kind = fault; at = offset }) ∷ []

-- the entries from an offset on; n is at least the number of bytes from there on
unfoldable pub entries_from : ℕ → List ℕ → ℕ → List (Result Entry ResError)
entries_from zero bytes offset = []
entries_from (suc n) bytes offset =
    if nat_lt offset (length bytes) then item_then offset (entry_read bytes offset) (λ next. entries_from n bytes next) else []

abbrev pub entries_at : List ℕ → ℕ → List (Result Entry ResError)
entries_at bytes offset = entries_from (length bytes) bytes offset

-- what a file holds
unfoldable pub resources_of : List ℕ → List (Result Entry ResError)
resources_of bytes =
    if has_bytes bytes 0 FIRST_ENTRY_SIZE then entries_at bytes FIRST_ENTRY_SIZE
    else Err (record { kind = bad.Header; at = 0 }) ∷ []
