use Rattle.std.proofs.Common.{◌≡◌, List, [], length, sym, subst, ◌∙◌, ◌<◌}
use Rattle.std.specs.List.{AllPairs}
use Rattle.std.proofs.lemmas.List.{get_or_default}
use Rattle.relocate.specs.declared.fix.Fix.{Fix}
use Rattle.icf.specs.Sections.{sections_of, fields_at}
use Rattle.icf.proofs.GatherLemmas.{gathered_more}
use Rattle.icf.proofs.fields.fields_of.Goals as goal

pub loop-rank-preserved : goal.loop-rank-preserved
loop-rank-preserved c =
    let fixes = c.args.fixes.now in
    let piece = c.section-piece.result in
    let there : piece < length fixes = c.requires.within c.loop-rank.rank piece c.section-piece.ensures in
    let own : c.fixes.result.now ≡ fields_at fixes piece =
    c.fixes.ensures ∙ c.index-fixes-piece.is ∙ get_or_default fixes piece c.index-fixes-piece.result [] there in
    gathered_more c.args.owners.now fixes (sections_of c.args.candidate.now) c.loop-rank.rank piece c.section-piece.ensures c.fixes.result.now own
    (subst (λ (fields : List Fix). AllPairs (λ left right. left.at < right.at) fields) (sym own) (c.requires.ascending piece)) c.loop-rank.fields.items c.loop-rank.invariant c.add_fields.new.fields.items c.in_ok-add_fields.ensures
