-- Sections by their names, and the pieces of the exception table.
use Rattle.std.specs.Prelude.{ℕ, Bool, List, [], length, slice_index_or, Option, Some, None, codes}
use Rattle.link_base.specs.Bytes.{first_below}
use Rattle.link_base.specs.NameText.{same_name}
use Rattle.section_group.specs.Uniqueness.{SectionRow}
use Rattle.piece_bytes.specs.Owners.{no_row}

abbrev pub is_named : List SectionRow → List ℕ → ℕ → Bool
is_named rows name i = same_name (slice_index_or rows i no_row).name name

-- the index of the first section of a name
abbrev pub section_named : List SectionRow → List ℕ → Option ℕ
section_named rows name = first_below (length rows) (is_named rows name)

abbrev pub members_of : List SectionRow → Option ℕ → List ℕ
members_of rows None = []
members_of rows (Some i) = (slice_index_or rows i no_row).pieces

-- the pieces of the exception table, in their order
unfoldable pub pdata_pieces : List SectionRow → List ℕ
pdata_pieces rows = members_of rows (section_named rows (codes ".pdata"))
