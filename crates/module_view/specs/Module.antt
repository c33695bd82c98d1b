-- What a module is made of. Own.
use Rattle.std.specs.Prelude.{ℕ, List, [], slice_index_or, Option, None}
use Rattle.short_import.specs.declared.import.Import.{Import}

-- the file, the member of a library where it is one, the bytes of the object that the file or the member holds, and the short
-- import where it holds one: its object is one of nothing
pub record ModuleView : Type 0 where
  pub file : List ℕ
  pub member : Option (List ℕ)
  pub bytes : List ℕ
  pub imported : Option Import

abbrev pub no_module : ModuleView
no_module = record { file = []; member = None; bytes = []; imported = None }

-- the module at a position
abbrev pub module_at : List ModuleView → ℕ → ModuleView
module_at modules k = slice_index_or modules k no_module
