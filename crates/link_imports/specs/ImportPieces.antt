-- The jumps that the linker makes for imports of code, as pieces of a module behind all others. Own.
use Rattle.std.specs.Prelude.{ℕ, Bool, true, false, List, length, map, filter, Option, Some, None}
use Rattle.std.specs.List.{range_with_len}
use Rattle.section_group.specs.declared.piece.Piece.{Piece}
use Rattle.short_import.specs.declared.import.Import.{Import}
use Rattle.short_import.specs.declared.import.ImportKind.{ImportKind}
use Rattle.short_import.specs.declared.import.ImportKind.TheVariants as kind
use Rattle.module_view.specs.Module.{ModuleView, module_at}
use Rattle.synthetic_sections.specs.LinkerPieces.{thunk_piece, thunk_bytes}

-- ---- which imports have a jump

abbrev pub is_code : ImportKind → Bool
is_code kind.Code = true
is_code kind.Data = false
is_code kind.Const = false

abbrev pub imports_code : Option Import → Bool
imports_code None = false
imports_code (Some import) = is_code import.kind

abbrev pub has_thunk : List ModuleView → ℕ → Bool
has_thunk modules position = imports_code (module_at modules position).imported

-- the modules that are imports of code, by their positions
abbrev pub code_imports : List ModuleView → List ℕ
code_imports modules = filter (has_thunk modules) (range_with_len 0 (length modules))

-- ---- the jumps

abbrev pub thunk_pieces : List ModuleView → List Piece
thunk_pieces modules = map (thunk_piece (length modules)) (code_imports modules)

abbrev pub jump : ℕ → List ℕ
jump import = thunk_bytes

abbrev pub thunk_contents : List ModuleView → List (List ℕ)
thunk_contents modules = map jump (code_imports modules)
