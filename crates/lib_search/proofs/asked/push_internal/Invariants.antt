use Rattle.std.proofs.Common.{◌≡◌, ◌++◌, take}
use Rattle.symbol_names.specs.Exports.{internal_names}
use Rattle.lib_search.proofs.asked.push_internal.Given as goal

abbrev pub invariant-loop-export : goal.invariant-loop-export
invariant-loop-export l = l.words.items ≡ l.fn.words.items ++ internal_names (take l.export-index l.exports)
