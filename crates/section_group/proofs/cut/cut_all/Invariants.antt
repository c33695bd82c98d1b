use Rattle.std.proofs.Common.{◌≡◌, map}
use Rattle.indexmap.specs.IndexMap.{keys}
use Rattle.section_group.specs.Chains.{led_by}
use Rattle.section_group.specs.Steps.{name_cut, NamesPieces}
use Rattle.section_group.proofs.cut.cut_all.Given as goal

abbrev pub invariant-loop-index : goal.invariant-loop-index
invariant-loop-index l = record {
  named : NamesPieces l.pieces l.index l.names.keys l.numbers.items;
  cut : l.cuts.items ≡ map (name_cut (led_by (keys l.renames.targets) l.renames.ends.items)) l.names.keys;
}
