-- What takes part in a link. Own.
use Rattle.std.specs.Prelude.{ℕ, List}
use Rattle.module_view.specs.Module.{ModuleView}
use Rattle.symbol_names.specs.LinkView.{LinkView}
use Rattle.link_exports.specs.Exports.{ExportsView}
use Rattle.link_debug.specs.LinkDebug.{DebugView}
use Rattle.link_resources.specs.LinkResources.{ResourcesView}

-- the names that the command line asks for, the alternates that it gives, the modules in the order of joining, the exports,
-- what the image says of its PDB, and its resources
pub record LinkParts : Type 0 where
  pub words : List (List ℕ)
  pub alternates : List (List ℕ × List ℕ)
  pub modules : List ModuleView
  pub exports : ExportsView
  pub debug : DebugView
  pub resources : ResourcesView

-- as far as names go
abbrev pub names_in : LinkParts → LinkView
names_in link = record { words = link.words; alternates = link.alternates; modules = link.modules }

-- with the exports, the PDB and the resources
abbrev pub parts_of : LinkView → ExportsView → DebugView → ResourcesView → LinkParts
parts_of names exports debug resources = record {
  words = names.words;
  alternates = names.alternates;
  modules = names.modules;
  exports = exports;
  debug = debug;
  resources = resources;
}
