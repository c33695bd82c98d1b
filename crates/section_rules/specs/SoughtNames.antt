-- The names of sections that are looked for (PE Format, "The .drectve Section (Object Only)", "The .idata Section", "The .reloc
-- Section (Image Only)" and "The .rsrc Section").
use Rattle.std.specs.Prelude.{◌≡◌, ℕ, Bool, false, ◌||◌, List, codes}
use Rattle.link_base.specs.NameText.{same_name, begins}
use Rattle.link_base.specs.SectionName.{base_name}

-- a section that the linker makes itself: a part of the import tables, or the base relocations (PE Format, "The
-- .idata Section" and "The .reloc Section (Image Only)"); that it is refused is own
unfoldable pub is_linker_section : List ℕ → Bool
is_linker_section name = begins name (codes ".idata$") || same_name (base_name name) (codes ".reloc")

-- a section of this name holds resources
abbrev pub is_resources : List ℕ → Bool
is_resources name = same_name (base_name name) (codes ".rsrc")

-- a name with these first bytes is none that is looked for among sections: those of directives, of import tables, of base
-- relocations, and of resources
pub record BeginsOtherwise (start : List ℕ) : Type 0 where
  pub directives : begins start (codes ".dr") ≡ false
  pub imports : begins start (codes ".id") ≡ false
  pub relocations : begins start (codes ".re") ≡ false
  pub resources : begins start (codes ".rs") ≡ false
