-- Which sections come into the image (PE Format, "Section Flags": IMAGE_SCN_LNK_REMOVE and IMAGE_SCN_LNK_INFO; the names
-- are those of sections for debuggers and of tables meant for the linker alone; own).
use Rattle.std.specs.Prelude.{ℕ, Bool, ◌&&◌, ◌||◌, not, List, [], ◌∷◌, codes}
use Rattle.std.specs.List.{list_any}
use Rattle.link_base.specs.Bytes.{has_flag}
use Rattle.link_base.specs.NameText.{same_name, begins}
use Rattle.link_base.specs.SectionName.{base_name}
use Rattle.link_base.specs.PeFormat.{SCN_LNK_INFO, SCN_LNK_REMOVE}
use Rattle.coff_records.specs.ObjectFile.{section_name_of, flags_of}

-- tables that say something to the linker alone
abbrev pub linker_tables : List (List ℕ)
linker_tables =
    codes ".llvm_addrsig" ∷ codes ".gfids$y" ∷ codes ".giats$y" ∷ codes ".gljmp$y" ∷ codes ".gehcont$y" ∷ codes ".voltbl"
    ∷ codes ".chks64" ∷ []

abbrev pub is_linker_table : List ℕ → Bool
is_linker_table name = list_any (same_name name) linker_tables

-- the base name is `.debug`, or begins `.debug_`
abbrev pub is_debug_section : List ℕ → Bool
is_debug_section name = same_name (base_name name) (codes ".debug") || begins (base_name name) (codes ".debug_")

abbrev pub is_left_out : ℕ → Bool
is_left_out flags = has_flag flags SCN_LNK_REMOVE || has_flag flags SCN_LNK_INFO

-- a section with these flags and this name comes into the image
unfoldable pub comes_in : ℕ → List ℕ → Bool
comes_in flags name = not (is_left_out flags) && (not (is_debug_section name) && not (is_linker_table name))

-- sections are numbered from 1
abbrev pub is_placed : List ℕ → ℕ → Bool
is_placed bytes section = comes_in (flags_of bytes section) (section_name_of bytes section)
