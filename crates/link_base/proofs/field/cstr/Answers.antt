use Rattle.std.proofs.Common.{◌∙◌, ap, sym, Some}
use Rattle.link_base.proofs.Bytes.{text_there, text_missing}
use Rattle.link_base.proofs.field.cstr.Goals as goal

pub returns-in-Some : goal.returns-in-Some
returns-in-Some c = ap Some c.of.ensures ∙ text_there c.args.bytes.now _ c.args.at c.in-Some.len c.split_at.ensures.back c.in-Some.ensures

pub returns-in-None : goal.returns-in-None
returns-in-None c = sym (text_missing c.args.bytes.now _ c.args.at c.split_at.ensures.back c.in-None.ensures)
