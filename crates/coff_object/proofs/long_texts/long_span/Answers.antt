use Rattle.std.proofs.Common.{length, refl, le-ltb, lt-ltb, arith}
use Rattle.coff_object.proofs.LongTextLemmas.{span_is}
use Rattle.coff_object.proofs.long_texts.long_span.Goals as goal

pub returns-then-nul-strings : goal.returns-then-nul-strings
returns-then-nul-strings c =
    span_is c.args.strings.now c.args.start c.args.end c.after_last_nul.result c.args.nul _ c.requires.high c.requires.within c.requires.reaches c.after_last_nul.ensures c.requires.next c.max-from.ensures (rw (lt-ltb c.args.nul (length c.args.strings.now) (omega arith)) c.saturating_sub-until.ensures)

pub returns-else-nul-strings : goal.returns-else-nul-strings
returns-else-nul-strings c =
    span_is c.args.strings.now c.args.start c.args.end c.after_last_nul.result c.args.nul _ c.requires.high c.requires.within c.requires.reaches c.after_last_nul.ensures c.requires.next c.max-from.ensures (rw (le-ltb c.args.nul (length c.args.strings.now) (omega arith)) refl)
