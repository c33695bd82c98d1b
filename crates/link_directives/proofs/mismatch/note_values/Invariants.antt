use Rattle.std.proofs.Common.{ℕ, List, ◌++◌, take, None}
use Rattle.indexmap.specs.IndexMap.{get}
use Rattle.link_base.specs.NameText.{same_name}
use Rattle.link_directives.specs.LinkDirectives.{key_said}
use Rattle.link_directives.specs.Passes.{KeepsFirsts}
use Rattle.link_directives.proofs.PassLemmas.{picked}
use Rattle.link_directives.proofs.mismatch.note_values.Given as goal

abbrev pub invariant-loop-directive : goal.invariant-loop-directive
invariant-loop-directive l =
    (earlier : List (List ℕ × List ℕ)) → KeepsFirsts earlier (get same_name l.initial.values) None
    → KeepsFirsts (earlier ++ picked key_said (take l.directive-index l.directives)) (get same_name l.values) None
