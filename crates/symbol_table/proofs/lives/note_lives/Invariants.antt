use Rattle.std.proofs.Common.{◌≡◌, ◌++◌, List, length, map, take}
use Rattle.std.specs.Prelude.{filter}
use Rattle.module_view.specs.ImportModule.{module_definitions}
use Rattle.symbol_names.specs.Lists.{Provided, provided, is_live}
use Rattle.symbol_names.specs.Kept.{rows_of, noted_view}
use Rattle.symbol_table.specs.Passes.{AreLives}
use Rattle.symbol_table.proofs.lives.note_lives.Given as goal

abbrev pub invariant-loop-definition : goal.invariant-loop-definition
invariant-loop-definition l = record {
  long : length l.lives.firsts.items ≡ length l.names.keys;
  noted : (earlier : List Provided) → AreLives l.names.keys earlier l.initial.lives.firsts.items l.initial.lives.clash
      → AreLives l.names.keys (earlier ++ filter (is_live (rows_of l.chosen)) (map (provided l.position) (take l.definition-index (module_definitions (noted_view l.«module»))))) l.lives.firsts.items l.lives.clash;
}
