use Rattle.std.proofs.Common.{length}
use Rattle.link_pieces.specs.PieceIndex.{is_section_of, is_common_of}
use Rattle.link_pieces.specs.Rows.{section_places, common_places}
use Rattle.link_pieces.proofs.IndexLemmas.{AreNoted}
use Rattle.link_pieces.proofs.LinkerRowLemmas.{AreLinkerNoted}
use Rattle.link_pieces.proofs.piece_index.PieceIndex.new.Given as goal

abbrev pub invariant-loop-index : goal.invariant-loop-index
invariant-loop-index l = record {
  sections : AreNoted section_places l.modules (is_section_of (length l.modules)) l.pieces l.index l.sections;
  commons : AreNoted common_places l.modules is_common_of l.pieces l.index l.commons;
  linker : AreLinkerNoted l.modules (length l.fn.slots) l.pieces l.index l.linker;
}
