-- What callers may cite: what `place` gives can be written, and the file of what is written loads as planned.
pub use Rattle.image_writer.proofs.PlaceLemmas.{laid_out}
pub use Rattle.image_writer.proofs.AppendedLemmas.{appended_laid_out}
pub use Rattle.image_writer.proofs.RewrittenLemmas.{rewritten_laid_out}
pub use Rattle.image_writer.proofs.OnePlan.{one_file}
pub use Rattle.image_writer.proofs.ImageTheorems.{file_means_plan}
pub use Rattle.image_writer.proofs.LaidOutLemmas.{have_room}
pub use Rattle.image_writer.proofs.PieceInFileLemmas.{IsInFile, piece_inside, piece_stands, patched_file}
pub use Rattle.image_writer.proofs.LoadableLemmas.{written_writable, written_loadable, has_contents}
pub use Rattle.image_writer.proofs.RelocatableLemmas.{stays_means, moves_means}
