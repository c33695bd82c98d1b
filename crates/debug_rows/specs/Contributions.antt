-- What the pieces of a link give to the sections of its image (LLVM, "The PDB DBI (Debug Info) Stream", "Section
-- Contribution Substream"; which pieces are listed is own).
use Rattle.std.specs.Prelude.{ℕ, ◌-◌, ◌==◌, nat_lt, nat_le, Bool, not, ◌&&◌, if◌then◌else◌, List, [], length, slice_index, slice_index_or, Option, Some, None, codes}
use Rattle.std.specs.List.{flat_map, filter_map, enumerate_from}
use Rattle.link_base.specs.NameText.{same_name}
use Rattle.coff_records.specs.ObjectFile.{section_total}
use Rattle.module_view.specs.Module.{ModuleView, module_at}
use Rattle.section_group.specs.declared.piece.Piece.{Piece}
use Rattle.section_group.specs.SectionOrder.{no_piece}
use Rattle.section_group.specs.Uniqueness.{SectionRow}
use Rattle.address_layout.specs.declared.layout.Placed.{Placed}
use Rattle.pdb_dbi.specs.declared.rows.Contribution.{Contribution}

-- the pieces of all sections are listed but those of the tables of exceptions and of base relocations
abbrev pub is_listed : List ℕ → Bool
is_listed name = not (same_name name (codes ".pdata")) && not (same_name name (codes ".reloc"))

-- the number of the section of its module that a piece is, or 0 for a common, whose number is above those of sections, and
-- for what the linker makes, whose module is none of the link
abbrev pub own_section : List ModuleView → Piece → ℕ
own_section modules piece =
    if nat_lt piece.«module» (length modules) && nat_le piece.number (section_total (module_at modules piece.«module»).bytes)
    then piece.number
    else 0

-- a piece at an offset in the section of a number
abbrev pub contribution_of : List ModuleView → ℕ → ℕ → Piece → Contribution
contribution_of modules number offset piece = record {
  section = number;
  offset = offset;
  size = piece.size;
  flags = piece.flags;
  «module» = piece.«module»;
  coff = own_section modules piece;
}

-- the piece of an index in a section that begins at an RVA; one without bytes gives nothing
abbrev pub contribution_at : List ModuleView → List Piece → List ℕ → ℕ → ℕ → ℕ → Option Contribution
contribution_at modules pieces rvas number start k =
    if (slice_index_or pieces k no_piece).size == 0
    then None
    else Some (contribution_of modules number (slice_index rvas k - start) (slice_index_or pieces k no_piece))

abbrev pub no_place : Placed
no_place = record { rva = 0; size = 0; raw = 0; file = 0 }

-- the RVA of the section of a number
abbrev pub section_start : List Placed → ℕ → ℕ
section_start places number = (slice_index_or places (number - 1) no_place).rva

-- the pieces of the section of a number, in their order
unfoldable pub section_contributions : List ModuleView → List Piece → List Placed → List ℕ → ℕ × SectionRow → List Contribution
section_contributions modules pieces places rvas (number, section) =
    if is_listed section.name
    then filter_map (contribution_at modules pieces rvas number (section_start places number)) section.pieces
    else []

-- those of all sections, which are numbered from 1
abbrev pub contributions_of : List ModuleView → List Piece → List Placed → List ℕ → List SectionRow → List Contribution
contributions_of modules pieces places rvas sections =
    flat_map (section_contributions modules pieces places rvas) (enumerate_from 1 sections)
