use Rattle.std.proofs.Common.{map, arith}
use Rattle.std.proofs.lemmas.List.{length-map}
use Rattle.res_merge.specs.Entries.{entry_of}
use Rattle.file_search.specs.Reading.{files_found}
use Rattle.resource_files.proofs.MergeLemmas.{mergeable}
use Rattle.lib_search.proofs.loading.start.Goals as goal

pub returns-clause-mergeable : goal.returns-clause-mergeable
returns-clause-mergeable g c =
    let opened = c.in_ok-opened.ensures in
    mergeable (files_found c.args.files.now) (map entry_of c.in_ok-opened.opened.resource_files.resources.items) opened.resources c.requires.together
    (omega (arith, opened.kept.few, length-map c.in_ok-opened.opened.resource_files.resources.items entry_of)) opened.kept.apart

pub returns-clause-numbered : goal.returns-clause-numbered
returns-clause-numbered g c = c.in_ok-opened.ensures.kept.numbered
