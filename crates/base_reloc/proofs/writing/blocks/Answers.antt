use Rattle.std.proofs.Common.{arith}
use Rattle.std.proofs.lemmas.List.Sums.{prefix_len-le-length}
use Rattle.base_reloc.proofs.PageLemmas.{first_field, is_on, some_left, none_left, fits_page, pages_more, first_passes}
use Rattle.base_reloc.proofs.writing.blocks.Goals as goal

pub split_at-requires : goal.split_at-requires
split_at-requires c =
    let within = prefix_len-le-length (is_on c.page_of.result) c.loop-rest.rest.now in
    omega (arith, within, c.page_len.ensures)

pub push_block-requires-clause-some : goal.push_block-requires-clause-some
push_block-requires-clause-some c =
    let some = some_left c.loop-rest.rest.now c.is_empty.result c.is_empty.ensures c.loop-rest-test.true in
    let passes = first_passes c.loop-rest.rest.now first_field c.page_of.result c.page_len.result some c.page_of.ensures c.page_len.ensures in
    omega (arith, passes, c.split_at.ensures.front_len)

pub push_block-requires-clause-few : goal.push_block-requires-clause-few
push_block-requires-clause-few c =
    let few = fits_page c.loop-rest.rest.now c.page_of.result c.page_len.result c.loop-rest.invariant.0 c.page_len.ensures in
    omega (arith, few, c.split_at.ensures.front_len)

pub loop-rest-smaller : goal.loop-rest-smaller
loop-rest-smaller c =
    let some = some_left c.loop-rest.rest.now c.is_empty.result c.is_empty.ensures c.loop-rest-test.true in
    let passes = first_passes c.loop-rest.rest.now first_field c.page_of.result c.page_len.result some c.page_of.ensures c.page_len.ensures in
    omega (arith, passes, c.split_at.ensures.back_len)

pub loop-rest-preserved : goal.loop-rest-preserved
loop-rest-preserved c =
    let some = some_left c.loop-rest.rest.now c.is_empty.result c.is_empty.ensures c.loop-rest-test.true in
    pages_more c.loop-rest.table.items c.push_block.new.table.items _ c.loop-rest.rest.now c.split_at.result.0.now c.split_at.result.1.now c.page_of.result c.page_len.result some c.loop-rest.invariant.0 c.page_of.ensures c.page_len.ensures c.split_at.ensures.front c.split_at.ensures.back c.in_ok-push_block.ensures c.loop-rest.invariant.1

pub returns : goal.returns
returns c = none_left c.loop-rest.table.items _ c.loop-rest.rest.now c.is_empty.result c.is_empty.ensures c.loop-rest-test.false c.loop-rest.invariant.1
