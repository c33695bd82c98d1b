use Rattle.std.proofs.Common.{◌≡◌, ◌++◌, take}
use Rattle.lib_search.proofs.asked.push_names.Given as goal

abbrev pub invariant-loop-name : goal.invariant-loop-name
invariant-loop-name l = l.words.items ≡ l.fn.words.items ++ take l.name-index l.names
