-- Alternates: a name that means what another one means, where nothing else says what it means (the option and the directive
-- ALTERNATENAME; own).
use Rattle.std.specs.Prelude.{ℕ, Bool, List, ◌++◌, filter_map, Option, Some, None}
use Rattle.std.specs.List.{find}
use Rattle.link_base.specs.NameText.{same_name}
use Rattle.directives.specs.Said.{Said}
use Rattle.directives.specs.Said as says
use Rattle.module_view.specs.ModuleDirectives.{module_directives}
use Rattle.symbol_names.specs.LinkView.{LinkView}
use Rattle.symbol_names.specs.Lists.{of_all}

-- the name that another one stands for, and that other one
abbrev pub alternate_said : Said → Option (List ℕ × List ℕ)
alternate_said (says.AlternateName left right) = Some (left, right)
alternate_said (says.AlignComm name log) = None
alternate_said (says.DefaultLib text) = None
alternate_said (says.Exports row) = None
alternate_said (says.FailIfMismatch key value) = None
alternate_said (says.Include name) = None
alternate_said (says.Merge left right) = None

abbrev pub alternates_by : ℕ → List ℕ → List (List ℕ × List ℕ)
alternates_by position bytes = filter_map alternate_said (module_directives bytes)

-- those of the command line, then those of the modules in their order
abbrev pub all_alternates : LinkView → List (List ℕ × List ℕ)
all_alternates link = link.alternates ++ of_all alternates_by link.modules

abbrev pub is_left : List ℕ → List ℕ × List ℕ → Bool
is_left name pair = same_name pair.0 name

-- the first alternate of a name
abbrev pub alternate_named : LinkView → List ℕ → Option (List ℕ × List ℕ)
alternate_named link name = find (is_left name) (all_alternates link)
