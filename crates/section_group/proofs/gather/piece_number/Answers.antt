use Rattle.std.proofs.Common.{IsTrue, refl, ◌∙◌, rules}
use Rattle.section_group.specs.SectionOrder.{is_used}
use Rattle.section_group.specs.Gathering.{input_of}
use Rattle.section_group.proofs.PartLemmas.{number_again, used_at}
use Rattle.section_group.proofs.gather.piece_number.Goals as goal

pub returns-then-goes_with_its_like-clause-there : goal.returns-then-goes_with_its_like-clause-there
returns-then-goes_with_its_like-clause-there c =
    let input = input_of c.args.parts.now in
    let used : IsTrue (is_used input c.args.index) = used_at input c.args.index c.requires.within ∙ search rules in
    number_again input c.args.homes.now.keys c.args.index c.args.numbers.now _ c.requires.so_far (c.goes_with_its_like.ensures.goes c.if-goes_with_its_like.true) used refl
