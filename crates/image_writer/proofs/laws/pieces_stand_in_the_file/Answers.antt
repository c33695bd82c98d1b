use Rattle.image_writer.proofs.CallerLemmas.{piece_stands, patched_file}
use Rattle.image_writer.proofs.laws.pieces_stand_in_the_file.Goals as goal

pub returns-clause-stands : goal.returns-clause-stands
returns-clause-stands c = piece_stands

pub returns-clause-replaced : goal.returns-clause-replaced
returns-clause-replaced c = patched_file
