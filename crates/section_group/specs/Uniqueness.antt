-- A section as its name, its flags and its pieces.
use Rattle.std.specs.Prelude.{ℕ, List, map}
use Rattle.section_group.specs.declared.piece.OutSection.{OutSection}

pub record SectionRow : Type 0 where
  pub name : List ℕ
  pub flags : ℕ
  pub pieces : List ℕ

abbrev pub row_of : OutSection → SectionRow
row_of section = record { name = section.name; flags = section.flags; pieces = section.pieces.items }

abbrev pub rows_of : List OutSection → List SectionRow
rows_of sections = map row_of sections
