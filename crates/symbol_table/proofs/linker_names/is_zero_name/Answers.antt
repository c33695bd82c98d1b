use Rattle.std.proofs.Common.{rules, tests}
use Rattle.std.proofs.lemmas.Iterator.{YieldsList-from_slice}
use Rattle.std.proofs.lemmas.Iterator.Search.{any_from_yields_List}
use Rattle.link_base.specs.NameText.{same_name}
use Rattle.symbol_table.proofs.linker_names.is_zero_name.Goals as goal

pub returns : goal.returns
returns c =
    any_from_yields_List (λ known. same_name c.args.name.now known.now) _ _ c.any.result c.any.ensures.ran (YieldsList-from_slice _ c.iter.ensures.rest) (λ x b q k. search (rules, tests))
