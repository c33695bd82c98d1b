-- The parts of a section's name (PE Format, "Grouped Sections (Object Only)").
use Rattle.std.specs.Prelude.{ℕ, Bool, ◌==◌, List}
use Rattle.std.specs.List.{before_first, after_first}

-- a name is cut at its first `$`, which belongs to neither part
abbrev pub is_cut : ℕ → Bool
is_cut byte = byte == 36

abbrev pub base_name : List ℕ → List ℕ
base_name name = before_first is_cut name

abbrev pub suffix : List ℕ → List ℕ
suffix name = after_first is_cut name
