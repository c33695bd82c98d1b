use Rattle.std.proofs.Common.{sym, ◌∙◌}
use Rattle.implib.proofs.LibraryLemmas.{library_length}
use Rattle.implib.proofs.library.library_length.Goals as goal

pub returns : goal.returns
returns c = λ time early. c.sizes_of.ensures.library ∙ sym (library_length c.args.rows.now c.args.dll time c.requires.rows c.requires.dll.short early)
