use Rattle.coff_object.proofs.LongTextLemmas.{next_found, next_missing}
use Rattle.coff_object.proofs.long_texts.first_nul.Goals as goal

pub returns-in-Some : goal.returns-in-Some
returns-in-Some c =
    next_found c.args.strings.now c.slice_in.result.now c.args.at c.in-Some.place c.requires c.slice_in.ensures.part c.slice_in.ensures.len c.in-Some.ensures

pub returns-in-None : goal.returns-in-None
returns-in-None c =
    next_missing c.args.strings.now c.slice_in.result.now c.args.at c.requires c.slice_in.ensures.part c.slice_in.ensures.len c.in-None.ensures
