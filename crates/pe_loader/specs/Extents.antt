-- What the headers of a file say of data directories and sections, each as an RVA and a size (PE Format, "Optional Header
-- Data Directories (Image Only)" and "Section Table (Section Headers)").
use Rattle.std.specs.Prelude.{ℕ, ◌-◌, ◌&&◌, nat_le, nat_lt, if◌then◌else◌, List, Option, Some, None}
use Rattle.pe_loader.specs.LoadedImage.{section_count, directory_rva, directory_size, virtual_size, virtual_address}

abbrev pub directory_extent : List ℕ → ℕ → ℕ × ℕ
directory_extent image k = (directory_rva image k, directory_size image k)

-- of a section, by its index from 0
abbrev pub section_extent : List ℕ → ℕ → ℕ × ℕ
section_extent image index = (virtual_address image index, virtual_size image index)

-- and by its number from 1
abbrev pub numbered_section : List ℕ → ℕ → Option (ℕ × ℕ)
numbered_section image number =
    if nat_lt 0 number && nat_le number (section_count image) then Some (section_extent image (number - 1)) else None
