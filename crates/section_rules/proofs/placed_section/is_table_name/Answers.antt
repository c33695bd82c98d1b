use Rattle.std.proofs.Common.{rules, tests, nat_eq}
use lib.Pointwise.{pointwise}
use Rattle.std.proofs.lemmas.Iterator.{YieldsList-from_slice}
use Rattle.std.proofs.lemmas.Iterator.Search.{any_from_yields_List}
use Rattle.section_rules.proofs.placed_section.is_table_name.Goals as goal

pub returns : goal.returns
returns c =
    any_from_yields_List (λ table. pointwise nat_eq c.args.text.now table.now) _ _ c.any.result c.any.ensures.ran (YieldsList-from_slice _ c.iter.ensures.rest) (λ x b q k. search (rules, tests))
