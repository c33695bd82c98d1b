use Rattle.std.proofs.Common.{map}
use Rattle.std.specs.Prelude.{filter}
use Rattle.symbol_names.specs.Lists.{provided_by, is_live}
use Rattle.symbol_names.specs.Kept.{rows_of, noted_view}
use Rattle.symbol_table.specs.Passes.{AreLives}
use Rattle.symbol_table.proofs.PassLemmas.{each_first}
use Rattle.symbol_table.proofs.lives.live_definitions.Given as goal

abbrev pub invariant-loop-position : goal.invariant-loop-position
invariant-loop-position l =
    AreLives l.names.keys (filter (is_live (rows_of l.chosen)) (each_first provided_by (map noted_view l.modules) l.position)) l.lives.firsts.items l.lives.clash
