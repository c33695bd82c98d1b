use Rattle.std.proofs.Common.{arith}
use Rattle.implib.proofs.LibraryLemmas.{library_length, library_written}
use Rattle.implib.proofs.library.import_library.Goals as goal

pub push_linker_members-requires-clause-fits : goal.push_linker_members-requires-clause-fits
push_linker_members-requires-clause-fits c =
    omega (arith, c.requires.fits, library_length c.args.rows.now c.args.dll c.args.time c.requires.rows c.requires.dll.short (omega arith))

pub returns : goal.returns
returns c =
    library_written c.args.rows.now c.args.dll c.args.time c.in_ok-out.out.items c.extend_from_slice.new.self.items c.push_linker_members.new.out.items c.push_long_names.new.out.items c.push_row_members.new.out.items c.in_ok-out.ensures.items c.in_ok-extend_from_slice.ensures.items c.in_ok-push_linker_members.ensures c.in_ok-push_long_names.ensures c.in_ok-push_row_members.ensures
