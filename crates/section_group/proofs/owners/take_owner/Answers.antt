use Rattle.std.proofs.Common.{ap, sym, ◌∙◌}
use Rattle.indexmap.specs.IndexMap.{get}
use Rattle.section_group.specs.declared.cut.Cut.{Cut}
use Rattle.section_group.specs.Merging.{same_name}
use Rattle.section_group.specs.Gathering.{input_of}
use Rattle.section_group.proofs.OwnerLemmas.{owner_taken, owner_stays, first_kept}
use Rattle.section_group.proofs.owners.take_owner.Goals as goal

pub returns-then-follows_its_like : goal.returns-then-follows_its_like
returns-then-follows_its_like c = λ name.
    first_kept (input_of c.args.parts.now) c.args.index name (get same_name c.args.owners.now name) (c.follows_its_like.ensures.follows c.if-follows_its_like.true) (c.requires.so_far name)

pub returns-in_ok-insert : goal.returns-in_ok-insert
returns-in_ok-insert c = λ name.
    let parts = c.args.parts.now in
    let input = input_of parts in
    let base = c.again.ensures ∙ ap (λ (cut : Cut). cut.base) c.cut.ensures in
    owner_taken input c.args.index name c.again.result (λ q. get same_name c.args.owners.now q) (get same_name c.insert.new.self name)
    base c.requires.used c.requires.so_far (c.in_ok-insert.ensures.updates.0 name) (sym c.is_first.ensures ∙ c.if-is_first.true)

pub returns-else-is_first : goal.returns-else-is_first
returns-else-is_first c = λ name.
    owner_stays (input_of c.args.parts.now) c.args.index name (λ q. get same_name c.args.owners.now q) c.requires.so_far (sym c.is_first.ensures ∙ c.if-is_first.false)
