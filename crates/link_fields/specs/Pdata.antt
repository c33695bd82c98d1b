-- The pieces of the exception table (PE Format, "The .pdata Section").
use Rattle.std.specs.Prelude.{Bool, codes}
use Rattle.link_base.specs.NameText.{same_name}
use Rattle.link_base.specs.SectionName.{base_name}
use Rattle.section_group.specs.declared.piece.Piece.{Piece}

-- those of its base name
unfoldable pub is_pdata : Piece → Bool
is_pdata piece = same_name (base_name piece.name) (codes ".pdata")
