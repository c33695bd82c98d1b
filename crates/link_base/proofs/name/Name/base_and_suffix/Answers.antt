use Rattle.std.proofs.Common.{true, false, sym, ◌∙◌}
use Rattle.link_base.proofs.SectionNameLemmas.{base_whole, suffix_none, base_cut, suffix_cut}
use Rattle.link_base.proofs.name.Name.base_and_suffix.Goals as goal
use Rattle.link_base.proofs.name.Name.base_and_suffix.Goals.{then-is_import, else-is_import}

pub returns-in-None-clause-base : goal.returns-in-None-clause-base
returns-in-None-clause-base c =
    c.again.ensures ∙ base_whole c.args.self.now _ c.rest-rest.ensures c.in-None.ensures

pub returns-in-None-clause-suffix : goal.returns-in-None-clause-suffix
returns-in-None-clause-suffix c =
    c.of.ensures ∙ suffix_none c.args.self.now c.rest-rest.result.now c.rest-rest.ensures c.in-None.ensures

pub returns-after-is_import-clause-base : goal.returns-after-is_import-clause-base
returns-after-is_import-clause-base c =
    let text = c.args.self.now in
    let rest = c.rest-rest.result.now in
    let front = c.split_at.result.0.now in
    elim c.if-is_import.branch [
      | then-is_import w ↦
          w.base-is ∙ w.import-base.ensures
          ∙ base_cut true text rest front c.in-Some.at (sym w.if-is_import.ensures) c.rest-rest.ensures c.in-Some.ensures c.split_at.ensures.front
      | else-is_import w ↦
          w.base-is ∙ w.of-base.ensures
          ∙ base_cut false text rest front c.in-Some.at (sym w.if-is_import.ensures) c.rest-rest.ensures c.in-Some.ensures c.split_at.ensures.front
    ]

pub returns-after-is_import-clause-suffix : goal.returns-after-is_import-clause-suffix
returns-after-is_import-clause-suffix c =
    c.of-in-Some.ensures
    ∙ suffix_cut c.args.self.now c.rest-rest.result.now c.split_at.result.1.now c.split_at-in-Some.result.1.now c.in-Some.at c.rest-rest.ensures c.in-Some.ensures c.split_at.ensures.back c.split_at-in-Some.ensures.back
