use Rattle.lib_search.proofs.JoinedLemmas.{keeps_library}
use Rattle.lib_search.proofs.search.Search.with_library.Goals as goal

pub returns-clause-kept : goal.returns-clause-kept
returns-clause-kept c =
    let before = c.args.self in
    keeps_library before.searched c.in_ok-searched.searched c.args.library before.modules.items before.alternates c.in_ok-alternates.alternates before.passed
    c.in_ok-searched.ensures c.in_ok-alternates.ensures.pairs c.in_ok-alternates.ensures.kept c.requires
