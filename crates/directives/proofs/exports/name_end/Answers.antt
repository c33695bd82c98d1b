use Rattle.directives.specs.ExportValue.{ends_name}
use Rattle.link_base.proofs.FoundLemmas.{first_place}
use Rattle.directives.proofs.exports.name_end.Goals as goal

pub returns-clause-is : goal.returns-clause-is
returns-clause-is c = first_place ends_name c.args.text.now _ c.memchr2.ensures
