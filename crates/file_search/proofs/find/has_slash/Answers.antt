use Rattle.std.proofs.Common.{subst}
use Rattle.memchr.specs.Find.{IsFirstByte}
use Rattle.link_words.specs.Extension.{is_slash}
use Rattle.file_search.proofs.FindLemmas.{has_by_place}
use Rattle.file_search.proofs.find.has_slash.Goals as goal

pub returns : goal.returns
returns c =
    has_by_place is_slash c.args.name.now c.memchr2.result c.is_some.result c.is_some.ensures (subst (λ text. IsFirstByte is_slash text c.memchr2.result) c.as_bytes.ensures.value c.memchr2.ensures)
