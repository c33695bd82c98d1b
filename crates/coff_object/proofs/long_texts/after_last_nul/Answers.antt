use Rattle.coff_object.proofs.LongTextLemmas.{last_found, last_missing}
use Rattle.coff_object.proofs.long_texts.after_last_nul.Goals as goal

pub returns-in-Some : goal.returns-in-Some
returns-in-Some c =
    last_found c.args.strings.now c.slice_in.result.now c.args.start c.args.end c.in-Some.last c.requires.low c.slice_in.ensures.part c.slice_in.ensures.len c.in-Some.ensures

pub returns-in-None : goal.returns-in-None
returns-in-None c =
    last_missing c.args.strings.now c.slice_in.result.now c.args.start c.args.end c.requires.low c.slice_in.ensures.part c.slice_in.ensures.len c.in-None.ensures
