-- The database of a small image: an object of one section of code with a function, and the entry of a debug directory and its
-- data, which the linker makes.
use Rattle.std.proofs.Common.{◌≡◌, List, [], ◌∷◌, true, refl}
use Rattle.std.specs.Prelude.{codes}
use Rattle.link_base.specs.Bytes.{number_at, first_below}
use Rattle.coff_records.specs.ObjectHeader.{section_total, is_big_object}
use Rattle.section_group.specs.Uniqueness.{SectionRow}
use Rattle.address_layout.specs.declared.layout.Placed.{Placed}
use Rattle.piece_bytes.specs.Owners.{owners}
use Rattle.debug_rows.specs.Contributions.{section_contributions}
use Rattle.debug_rows.specs.ImageMap.{Mapped}
use Rattle.debug_rows.proofs.WorkedRows.{module_a, pieces, rvas}
use Rattle.image_pdb.specs.ImagePdb.{image_database}

abbrev pub text : SectionRow
text = record { name = codes ".text"; flags = 0x60000020; pieces = 0 ∷ [] }

abbrev pub rdata : SectionRow
rdata = record { name = codes ".rdata"; flags = 0x40000040; pieces = 1 ∷ 2 ∷ [] }

abbrev pub places : List Placed
places = record { rva = 0x1000; size = 3; raw = 0x200; file = 0x400 } ∷ record { rva = 0x2000; size = 58; raw = 0x200; file = 0x600 } ∷ []

abbrev pub image : Mapped
image = record {
  modules = module_a ∷ [];
  pieces = pieces;
  publics = record { name = codes "main"; «module» = 0; function = true; piece = 0; value = 1 } ∷ [];
  sections = text ∷ rdata ∷ [];
  places = places;
  rvas = rvas;
  size = 0x3000;
}

pub its_database : image_database image 7 (1 ∷ 2 ∷ []) (9 ∷ []) ≡ record {
  time = 7;
  id = 1 ∷ 2 ∷ [];
  modules = record { name = codes "a.obj"; file = codes "a.obj" } ∷ record { name = codes "* Linker *"; file = [] } ∷ [];
  contributions =
      record { section = 1; offset = 0; size = 3; flags = 0x60000020; «module» = 0; coff = 1 }
      ∷ record { section = 2; offset = 0; size = 28; flags = 0x40000040; «module» = 1; coff = 0 }
      ∷ record { section = 2; offset = 28; size = 30; flags = 0x40000040; «module» = 1; coff = 0 }
      ∷ [];
  publics = record { name = codes "main"; section = 1; offset = 1; function = true } ∷ [];
  headers = 9 ∷ [];
}
unfolding section_total is_big_object number_at section_contributions owners first_below
its_database = refl
