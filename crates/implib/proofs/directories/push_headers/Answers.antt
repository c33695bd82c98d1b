use Rattle.std.proofs.Common.{arith}
use Rattle.implib.proofs.ListingLemmas.{size_left, headers_written, headers_all}
use Rattle.implib.proofs.directories.push_headers.Goals as goal

pub loop-row-preserved : goal.loop-row-preserved
loop-row-preserved c = record {
  written =
      headers_written c.args.dll.now c.args.rows.now c.loop-row.row-index c.loop-row.header c.row_size.result c.row-item.result c.loop-row.out.items c.push_u32.new.out.items _ c.loop-row-test.true c.row-item.is c.row_size.ensures.size c.in_ok-push_u32.ensures c.loop-row.invariant.written;
  fits = omega (arith, c.loop-row.invariant.fits, size_left c.args.dll.now c.args.rows.now c.loop-row.row-index c.row_size.result c.row-item.result c.loop-row-test.true c.row-item.is c.row_size.ensures.size);
}

pub returns : goal.returns
returns c = headers_all c.args.dll.now c.args.rows.now c.loop-row.row-index c.loop-row.header c.loop-row.out.items _ (omega (arith, c.loop-row-test.false)) c.loop-row.invariant.written
