use Rattle.res_merge.proofs.WorkedTree.{entries-mergeable, tree-fits}
use Rattle.debug_tests.proofs.tests.resources.a_tree_has_its_texts_first_and_its_resources_are_found.Goals as goal

pub tree-requires-clause-mergeable : goal.tree-requires-clause-mergeable
tree-requires-clause-mergeable g c = entries-mergeable

pub tree-requires-clause-fits : goal.tree-requires-clause-fits
tree-requires-clause-fits g c = tree-fits

pub tree_length-requires : goal.tree_length-requires
tree_length-requires g c = entries-mergeable
