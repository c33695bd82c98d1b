use Rattle.std.proofs.Common.{sym, ◌∙◌}
use Rattle.implib.specs.RowMember.{import_of}
use Rattle.implib.proofs.SizeLemmas.{length-import_of}
use Rattle.implib.proofs.LibraryLemmas.{member_written}
use Rattle.implib.proofs.row_members.push_row_member.Goals as goal

pub returns : goal.returns
returns c =
    member_written c.args.name.now c.args.time c.import_size-size.result (import_of c.args.dll.now c.args.time c.args.row.now) c.args.out.now.items c.push_header.new.out.items c.push_import.new.out.items c.push_line_end.new.out.items
    (c.import_size-size.ensures.size ∙ sym (length-import_of c.args.dll.now c.args.time c.args.row.now)) c.in_ok-push_header.ensures c.in_ok-push_import.ensures c.in_ok-push_line_end.ensures
