use Rattle.std.proofs.Common.{length, arith}
use Rattle.std.specs.List.{flat_map}
use Rattle.image_writer.specs.HeaderTable.{header_table, fixed_headers, section_header, size_of_headers}
use Rattle.image_writer.proofs.BufferLemmas.{padded_after}
use Rattle.image_writer.proofs.headers.push_headers.Goals as goal

pub returns : goal.returns
unfolding header_table
returns c =
    rw (c.in_ok-push_zeros.ensures, c.in_ok-push_section_headers.ensures, c.in_ok-push_fixed_headers.ensures, c.saturating_sub.ensures, c.headers_size.ensures) (
    padded_after c.args.out.now.items (fixed_headers c.args.headers.now c.args.rows.now c.args.image_size) (flat_map section_header c.args.rows.now) (size_of_headers (length c.args.rows.now)) c.len-start.result c.len.result
    (omega (arith, c.len-start.ensures, c.args.out.now.ok.0))
    (rw (← c.in_ok-push_fixed_headers.ensures, ← c.in_ok-push_section_headers.ensures) (omega (arith, c.push_section_headers.new.out.ok.0))))
