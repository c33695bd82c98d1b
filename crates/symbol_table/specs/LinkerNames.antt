-- Names that the linker gives a meaning itself, where nothing defines them.
use Rattle.std.specs.Prelude.{ℕ, if◌then◌else◌, List, [], ◌∷◌, Option, Some, None, codes}
use Rattle.std.specs.List.{list_any}
use Rattle.link_base.specs.NameText.{same_name}
use Rattle.symbol_table.specs.declared.meaning.Meaning.{Meaning}
use Rattle.symbol_table.specs.declared.meaning.Meaning.TheVariants as meaning

-- the address that the image is loaded at (MSVC linker reference, "__ImageBase")
abbrev pub image_base_name : List ℕ
image_base_name = codes "__ImageBase"

-- the number 0, which says that a program has no such table (PE Format, "Load Configuration Layout")
abbrev pub zero_names : List (List ℕ)
zero_names =
    codes "__guard_fids_table" ∷ codes "__guard_fids_count" ∷ codes "__guard_flags" ∷ codes "__guard_iat_table"
    ∷ codes "__guard_iat_count" ∷ codes "__guard_longjmp_table" ∷ codes "__guard_longjmp_count"
    ∷ codes "__guard_eh_cont_table" ∷ codes "__guard_eh_cont_count" ∷ codes "__enclave_config" ∷ []

unfoldable pub linker_meaning : List ℕ → Option Meaning
linker_meaning name =
    if same_name name image_base_name then Some meaning.ImageBase else
    if list_any (same_name name) zero_names then Some (meaning.Absolute 0) else None
