-- What takes part in a link, as far as names go. Own.
use Rattle.std.specs.Prelude.{ℕ, List}
use Rattle.module_view.specs.Module.{ModuleView}

-- the names that the command line asks for, the alternates that it gives, and the modules in the order of joining
pub record LinkView : Type 0 where
  pub words : List (List ℕ)
  pub alternates : List (List ℕ × List ℕ)
  pub modules : List ModuleView
