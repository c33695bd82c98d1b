-- Commons as pieces: the one that a name means gets memory in the image (PE Format, "Section Number Values"; the name, the
-- flags, the alignment and the number are own).
use Rattle.std.specs.Prelude.{◌≡◌, ◌<◌, ℕ, ◌+◌, Bool, true, false, ◌&&◌, ◌==◌, nat_le, List, [], ◌∷◌, filter, None, Result, Ok, Err, unwrap_or, codes}
use Rattle.std.specs.List.{Contains, find}
use Rattle.coff_records.specs.ObjectFile.{section_total}
use Rattle.section_group.specs.declared.piece.Piece.{Piece}
use Rattle.module_view.specs.Module.{ModuleView}
use Rattle.module_view.specs.SymbolLists.{commons_of}
use Rattle.module_view.specs.declared.definition.Common.{Common}
use Rattle.symbol_table.specs.declared.meaning.Meaning.{Meaning}
use Rattle.symbol_table.specs.declared.meaning.Meaning.TheVariants as meaning
use Rattle.symbol_table.specs.declared.meaning.NoMeaning.{NoMeaning}
use Rattle.link_pieces.specs.LinkParts.{LinkParts}
use Rattle.link_directives.specs.LinkDirectives.{raised_alignment}
use Rattle.link_pieces.specs.NameMeaning.{name_meaning}

-- ---- which of them

-- the common of the module at a position whose symbol has this record
abbrev pub is_that_common : ℕ → ℕ → Result Meaning NoMeaning → Bool
is_that_common position symbol (Ok (meaning.Common other at)) = (other == position) && (at == symbol)
is_that_common position symbol (Ok (meaning.Section other section value)) = false
is_that_common position symbol (Ok (meaning.Absolute value)) = false
is_that_common position symbol (Ok (meaning.Slot other)) = false
is_that_common position symbol (Ok (meaning.Thunk other)) = false
is_that_common position symbol (Ok (meaning.LocalSlot name)) = false
is_that_common position symbol (Ok meaning.ImageBase) = false
is_that_common position symbol (Err none) = false

-- some name means a common exactly where its own name does: a chain that ends at it comes to that name
abbrev pub is_meant_common : LinkParts → ℕ → Common → Bool
is_meant_common link position common = is_that_common position common.symbol (name_meaning link common.name)

abbrev pub meant_commons : LinkParts → ℕ → List ℕ → List Common
meant_commons link position bytes = filter (is_meant_common link position) (commons_of bytes)

-- ---- what they are

-- the least power of two that is not below the size, and at most 32
abbrev pub small_alignments : List ℕ
small_alignments = 1 ∷ 2 ∷ 4 ∷ 8 ∷ 16 ∷ []

unfoldable pub common_alignment : ℕ → ℕ
common_alignment size = unwrap_or (find (nat_le size) small_alignments) 32

-- that of a section of data without bytes in the file: IMAGE_SCN_CNT_UNINITIALIZED_DATA, _MEM_READ and _MEM_WRITE
abbrev pub COMMON_FLAGS : ℕ
COMMON_FLAGS = 0xC0000080

-- the numbers of commons begin above those of sections: no file that is read has so many section headers
abbrev pub FIRST_COMMON : ℕ
FIRST_COMMON = 16777216

-- a module's sections have lesser numbers
abbrev pub HasFewSections : ModuleView → Type 0
HasFewSections view = section_total view.bytes < FIRST_COMMON

-- directives raise its alignment
abbrev pub common_piece : List ModuleView → ℕ → Common → Piece
common_piece modules position common = record {
  «module» = position;
  number = FIRST_COMMON + common.symbol;
  name = codes ".bss";
  flags = COMMON_FLAGS;
  size = common.size;
  align = raised_alignment modules common.name (common_alignment common.size);
  body = None;
  init = false;
  named = true;
}

-- a piece is a common of the module at a position
pub record IsCommonOf (modules : List ModuleView) (position : ℕ) (bytes : List ℕ) (piece : Piece) : Type 0 where
  pub common : Common
  pub own : Contains (commons_of bytes) common
  pub is : piece ≡ common_piece modules position common
