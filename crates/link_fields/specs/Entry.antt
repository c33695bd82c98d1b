-- The entry of an image: what its name means, and where that stands (MSVC linker reference, "/ENTRY"; the refusals are
-- own).
use Rattle.std.specs.Prelude.{ℕ, ◌+◌, List, Option, Some, None, option_map, Result, Ok, Err}
use Rattle.link_base.specs.declared.fault.Fault.{Fault}
use Rattle.link_base.specs.declared.fault.Fault.TheVariants as faults
use Rattle.link_base.specs.declared.kinds.target.TargetFault.{TargetFault}
use Rattle.link_base.specs.declared.kinds.target.TargetFault.TheVariants.{Unplaced, NoSection}
use Rattle.relocate.specs.declared.fix.Target.{Target}
use Rattle.link_pieces.specs.LinkParts.{LinkParts}
use Rattle.symbol_table.specs.declared.meaning.Meaning.{Meaning}
use Rattle.symbol_table.specs.declared.meaning.Meaning.TheVariants.{Section, Common, Thunk, ImageBase}
use Rattle.symbol_table.specs.declared.meaning.NoMeaning.{NoMeaning}
use Rattle.link_pieces.specs.NameMeaning.{name_meaning}
use Rattle.synthetic_sections.specs.LinkerPieces.{FIRST_THUNK}
use Rattle.link_pieces.specs.PieceIndex.{piece_index, common_index, linker_index}
use Rattle.link_fields.specs.declared.entry.EntryPlace.{EntryPlace}

-- ---- what it means

abbrev pub meant : Result Meaning NoMeaning → Option Meaning
meant (Ok meaning) = Some meaning
meant (Err none) = None

-- what an entry means, where there is one and it means something
abbrev pub entry_meant : LinkParts → Option (List ℕ) → Option Meaning
entry_meant link None = None
entry_meant link (Some name) = meant (name_meaning link name)

-- ---- where it stands

abbrev pub place_in : ℕ → Option ℕ → Option EntryPlace
place_in value None = None
place_in value (Some piece) = Some (record { piece = piece; value = value })

-- the place of a meaning: an offset in the piece of its section, or the start of that of a common or of an import's jump
abbrev pub meant_place : LinkParts → Option Meaning → Option EntryPlace
meant_place link (Some (Section position section value)) = place_in value (piece_index link position section)
meant_place link (Some (Common position symbol)) = place_in 0 (common_index link position symbol)
meant_place link (Some (Thunk position)) = place_in 0 (linker_index link (FIRST_THUNK + position))
meant_place link other = None

-- before all modules: no section and no relocation is named
abbrev pub bad_entry : TargetFault → Fault
bad_entry kind = faults.BadTarget kind None 0 0

abbrev pub unplaced_fault : Option ℕ → Option Fault
unplaced_fault None = Some (bad_entry Unplaced)
unplaced_fault (Some piece) = None

-- the section of the entry does not come into the image, or the entry stands in no section; the start of the image is the
-- RVA 0, which says that the image begins nowhere
abbrev pub meant_fault : LinkParts → Option Meaning → Option Fault
meant_fault link None = None
meant_fault link (Some ImageBase) = None
meant_fault link (Some (Section position section value)) = unplaced_fault (piece_index link position section)
meant_fault link (Some (Common position symbol)) = unplaced_fault (common_index link position symbol)
meant_fault link (Some (Thunk position)) = unplaced_fault (linker_index link (FIRST_THUNK + position))
meant_fault link (Some other) = Some (bad_entry NoSection)

-- where the entry stands
abbrev pub entry_place : LinkParts → Option (List ℕ) → Option EntryPlace
entry_place link entry = meant_place link (entry_meant link entry)

abbrev pub piece_of_place : Option EntryPlace → Option ℕ
piece_of_place place = option_map (λ stands. stands.piece) place

-- ---- what else is named before all modules

-- a target that does not come into the image
abbrev pub pointer_fault : Result Target TargetFault → Option Fault
pointer_fault (Ok target) = None
pointer_fault (Err kind) = Some (bad_entry kind)
