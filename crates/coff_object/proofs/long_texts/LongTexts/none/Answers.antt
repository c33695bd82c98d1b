use Rattle.coff_object.proofs.LongTextLemmas.{short_holds}
use Rattle.coff_object.proofs.long_texts.LongTexts.none.Goals as goal

pub invariant_of-result : goal.invariant_of-result
invariant_of-result c = short_holds c.args.strings.now c.new.result.items c.requires c.new.ensures.items
