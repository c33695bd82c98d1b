-- What the symbols of an object mean to its relocations (PE Format, "COFF Symbol Table", "Section Number Values" and
-- "Storage Class"; the refusals are own).
use Rattle.std.specs.Prelude.{◌≡◌, ℕ, ◌+◌, Bool, false, ◌&&◌, ◌||◌, not, ◌==◌, if◌then◌else◌, List, slice_index_or, Option, Some, None, option_map, Result, Ok, Err}
use Rattle.std.specs.Int.Signed.{lt_z}
use Rattle.std.specs.List.{find}
use Rattle.std.specs.Ordering.{int_eq}
use Rattle.link_base.specs.PeFormat.{SYM_CLASS_EXTERNAL, SYM_CLASS_WEAK_EXTERNAL, SYM_UNDEFINED, SYM_DEBUG}
use Rattle.link_base.specs.declared.kinds.target.TargetFault.{TargetFault}
use Rattle.link_base.specs.declared.kinds.target.TargetFault.TheVariants as fault
use Rattle.coff_records.specs.ObjectFile.{SymbolView, SymbolEntry, name_in, value_in, section_number_in, section_of_number, class_in, symbol_entries}
use Rattle.relocate.specs.declared.fix.Target.{Target}
use Rattle.relocate.specs.declared.fix.Target.TheVariants as target
use Rattle.link_pieces.specs.LinkParts.{LinkParts}
use Rattle.module_view.specs.SymbolLists.{is_absolute}
use Rattle.symbol_table.specs.declared.meaning.Meaning.{Meaning}
use Rattle.symbol_table.specs.declared.meaning.Meaning.TheVariants as meaning
use Rattle.symbol_table.specs.declared.meaning.NoMeaning.{NoMeaning}
use Rattle.link_pieces.specs.NameMeaning.{name_meaning, takes_part}
use Rattle.synthetic_sections.specs.LinkerPieces.{FIRST_THUNK}
use Rattle.link_pieces.specs.PieceIndex.{piece_index, common_index, linker_index, slot_index, import_index}

-- ---- a place

abbrev pub target_in : ℕ → Option ℕ → Result Target TargetFault
target_in value None = Err fault.Unplaced
target_in value (Some piece) = Ok (target.Piece piece value)

-- an offset in a section of the module at a position, which may not come into the image
abbrev pub section_target : LinkParts → ℕ → ℕ → ℕ → Result Target TargetFault
section_target link position section value = target_in value (piece_index link position section)

-- a common of the module at a position, by the record of its symbol
abbrev pub common_target : LinkParts → ℕ → ℕ → Result Target TargetFault
common_target link position symbol = target_in 0 (common_index link position symbol)

-- the slot of a name
abbrev pub slot_target : LinkParts → List ℕ → Result Target TargetFault
slot_target link name = target_in 0 (slot_index link name)

-- the import that is the module at a position: where its slot stands is known once it is known which imports are kept
abbrev pub import_target : LinkParts → ℕ → Result Target TargetFault
import_target link position = target_in 0 (import_index link position)

-- the jump of the import that is the module at a position
abbrev pub thunk_target : LinkParts → ℕ → Result Target TargetFault
thunk_target link position = target_in 0 (linker_index link (FIRST_THUNK + position))

-- an offset in a section, of a symbol that only its module can name: a section that takes no part in the link has been discarded
abbrev pub own_target : LinkParts → ℕ → ℕ → ℕ → Result Target TargetFault
own_target link position section value =
    if takes_part link position section then section_target link position section value else Err fault.Discarded

-- ---- a name

-- what a meaning is to a relocation
abbrev pub meaning_target : LinkParts → Meaning → Result Target TargetFault
meaning_target link (meaning.Section position section value) = section_target link position section value
meaning_target link (meaning.Common position symbol) = common_target link position symbol
meaning_target link (meaning.Absolute value) = Ok (target.Absolute value)
meaning_target link meaning.ImageBase = Ok target.ImageBase
meaning_target link (meaning.Slot position) = import_target link position
meaning_target link (meaning.Thunk position) = thunk_target link position
meaning_target link (meaning.LocalSlot name) = slot_target link name

-- the same, or that there is none
abbrev pub known_target : LinkParts → Option Meaning → Result Target TargetFault
known_target link (Some meant) = meaning_target link meant
known_target link None = Err fault.NoSection

-- what a name's meaning is to a relocation; that it means nothing is refused before
abbrev pub meant_target : LinkParts → Result Meaning NoMeaning → Result Target TargetFault
meant_target link (Ok meant) = meaning_target link meant
meant_target link (Err none) = Err fault.NoSection

-- ---- the piece of a target, or behind the pieces the import

abbrev pub piece_in : Target → Option ℕ
piece_in (target.Piece piece value) = Some piece
piece_in (target.Absolute value) = None
piece_in target.ImageBase = None

abbrev pub is_that : ℕ → Option ℕ → Bool
is_that k None = false
is_that k (Some piece) = piece == k

-- ---- a symbol

-- others can name it: an external or a weak one that is not for debuggers
unfoldable pub has_meaning : SymbolView → Bool
has_meaning symbol =
    ((class_in symbol == SYM_CLASS_EXTERNAL) || (class_in symbol == SYM_CLASS_WEAK_EXTERNAL))
    && not (int_eq (section_number_in symbol) SYM_DEBUG)

-- a symbol of the object alone: a number, or a place in one of its sections; else it has no address
unfoldable pub local_target : LinkParts → ℕ → SymbolView → Result Target TargetFault
local_target link position symbol =
    if is_absolute symbol then Ok (target.Absolute (value_in symbol))
    else (if lt_z SYM_UNDEFINED (section_number_in symbol)
    then own_target link position (section_of_number (section_number_in symbol)) (value_in symbol)
    else Err fault.Local)

-- a symbol of the module at a position
abbrev pub symbol_target : LinkParts → ℕ → SymbolView → Result Target TargetFault
symbol_target link position symbol =
    if has_meaning symbol then meant_target link (name_meaning link (name_in symbol))
    else local_target link position symbol

-- ---- a record

abbrev pub is_record : ℕ → SymbolEntry → Bool
is_record at entry = entry.0 == at

-- the symbol whose record has an index; an auxiliary record and an index beyond all records are no symbol
abbrev pub record_target : LinkParts → ℕ → List ℕ → ℕ → Option (Result Target TargetFault)
record_target link position bytes at =
    option_map (λ entry. symbol_target link position entry.1) (find (is_record at) (symbol_entries bytes))

-- a list tells it of each record of the module at a position
abbrev pub AreTargets : LinkParts → ℕ → List ℕ → List (Option (Result Target TargetFault)) → Type 0
AreTargets link position bytes targets =
    (at : ℕ) → slice_index_or targets at None ≡ record_target link position bytes at
