-- What is listed of a small image: an object of one section of code, with a debug directory of an entry of 28 bytes and its
-- data of 30 bytes, which the linker makes.
use Rattle.std.proofs.Common.{◌≡◌, ℕ, List, [], ◌∷◌, Some, None, false, true, refl}
use Rattle.std.specs.Prelude.{codes, map}
use Rattle.link_base.specs.Bytes.{number_at}
use Rattle.coff_records.specs.ObjectHeader.{section_total, is_big_object}
use Rattle.module_view.specs.Module.{ModuleView}
use Rattle.section_group.specs.declared.piece.Piece.{Piece}
use Rattle.debug_rows.specs.Contributions.{own_section, contribution_at}
use Rattle.debug_rows.specs.ModuleNames.{module_names_of}

-- the header of an object with one section
abbrev pub module_a : ModuleView
module_a = record { file = codes "a.obj"; member = None; bytes = 0x64 ∷ 0x86 ∷ 1 ∷ 0 ∷ 0 ∷ 0 ∷ 0 ∷ 0 ∷ 0 ∷ 0 ∷ 0 ∷ 0 ∷ 0 ∷ 0 ∷ 0 ∷ 0 ∷ 0 ∷ 0 ∷ 0 ∷ 0 ∷ []; imported = None }

abbrev pub code : Piece
code = record { «module» = 0; number = 1; name = codes ".text"; flags = 0x60000020; size = 3; align = 1; body = None; init = true; named = true }

abbrev pub entry : Piece
entry = record { «module» = 1; number = 6; name = codes ".rdata"; flags = 0x40000040; size = 28; align = 4; body = None; init = true; named = false }

abbrev pub entry_data : Piece
entry_data = record { «module» = 1; number = 7; name = codes ".rdata"; flags = 0x40000040; size = 30; align = 4; body = None; init = true; named = false }

abbrev pub pieces : List Piece
pieces = code ∷ entry ∷ entry_data ∷ []

abbrev pub rvas : List ℕ
rvas = 0x1000 ∷ 0x2000 ∷ 0x201C ∷ []

-- the code is section 1 of the object, and what the linker makes is none
pub sections_of_objects : map (own_section (module_a ∷ [])) pieces ≡ 1 ∷ 0 ∷ 0 ∷ []
unfolding section_total is_big_object number_at
sections_of_objects = refl

-- the data is given to section 2 at the offset 28
pub its_data : contribution_at (module_a ∷ []) pieces rvas 2 0x2000 2 ≡ Some (record { section = 2; offset = 28; size = 30; flags = 0x40000040; «module» = 1; coff = 0 })
its_data = refl

pub its_modules : module_names_of (module_a ∷ []) ≡ record { name = codes "a.obj"; file = codes "a.obj" } ∷ record { name = codes "* Linker *"; file = [] } ∷ []
its_modules = refl
