-- The data that names the PDB in the file of an image: where it stands, and the file with other data in its place.
use Rattle.std.proofs.Common.{◌≡◌, ℕ, ◌<◌, List, [], ◌∷◌, length, get_or, set, Some, inl, sym, ap, ◌∙◌, arith}
use Rattle.std.specs.List.{All}
use Rattle.std.proofs.lemmas.List.{take_all}
use Rattle.std.proofs.lemmas.List.Elements.{All-nil, All-cons}
use Rattle.section_group.specs.declared.piece.Piece.{Piece}
use Rattle.section_group.specs.Uniqueness.{rows_of}
use Rattle.image_writer.specs.declared.headers.Headers.{Headers}
use Rattle.image_writer.specs.PieceInFile.{piece_place, patched}
use Rattle.pdata_table.specs.SortedContents.{sorted_contents}
use Rattle.pdata_table.proofs.CallerLemmas.{length-sorted_at}
use Rattle.synthetic_sections.specs.LinkerPieces.{DEBUG_DATA}
use Rattle.link_pieces.specs.TablePieces.{table_index}
use Rattle.link_words.specs.Outcome.{LinkOptions}
use Rattle.link_plan.specs.declared.planning.LinkPlan.{LinkPlan}
use Rattle.link_plan.specs.Plan.{IsPlanOf, kept_parts}
use Rattle.piece_bytes.specs.Owners.{section_of}
use Rattle.piece_bytes.specs.PieceBytes.{LiesIn, size_at, written}
use Rattle.link_image.specs.declared.placement.Placement.{Placement}
use Rattle.link_image.specs.LinkedBytes.{contents_at, linked_contents}
use Rattle.link_image.specs.NamedSections.{pdata_pieces}
use Rattle.link_image.specs.Steps.{IsReady, reloc_tables, file_of}
use Rattle.link_image.proofs.HeldLemmas.{piece_count, same_size, held_at, planned_is}
use Rattle.link_image.proofs.MoveLemmas.{rows_whole}
use Rattle.link_image.proofs.PieceMoves.{linked_read, length_linked, length_piece, length_sorted}
use Rattle.link_image.proofs.SortLemmas.{AreLike, IsSized, lies_at, put_at}
use Rattle.link_image.proofs.StandsLemmas.{OwnerAt, owner_at, owner_at_piece}
use Rattle.link_image.proofs.TableLemmas.{IsTableAt, found_table, table_used}

module _ (options : LinkOptions) (plan : LinkPlan) (planned : IsPlanOf options plan.modules.items plan) (placement : Placement) (owner : List ℕ)
    (ready : IsReady (kept_parts plan) plan.pieces.items plan.fixes.items placement.sections.items placement.layout owner (reloc_tables placement.table))
    (headers : Headers) (directories : length headers.directories ≡ 16) (d : ℕ) (found : table_index (kept_parts plan) DEBUG_DATA ≡ Some d) where
  abbrev section : ℕ
  section = section_of (rows_of placement.sections.items) d

  abbrev sorted : List (List ℕ)
  sorted = sorted_contents (pdata_pieces (rows_of placement.sections.items)) (linked_contents (kept_parts plan) (rows_of placement.sections.items) placement.layout headers.base)

  abbrev file : List ℕ
  file = file_of headers placement.sections.items placement.layout sorted (reloc_tables placement.table)

  at : IsTableAt (kept_parts plan) DEBUG_DATA d
  at = found_table (kept_parts plan) DEBUG_DATA d (omega arith) found

  pub there : d < length plan.pieces.items
  there = omega (arith, at.there, piece_count options plan planned)

  pub size_is : length (contents_at (kept_parts plan) placement.layout d) ≡ size_at plan.pieces.items d
  size_is = (held_at options plan planned placement.layout d there).filled (ap (λ (p : Piece). p.init) (planned_is options plan planned d) ∙ at.is.init)

  pub own : OwnerAt placement.sections.items d
  own =
      owner_at placement.sections.items d
      (ready.stands d there (table_used options plan planned DEBUG_DATA d at) (inl (omega (arith, same_size options plan planned d there, at.is.some))))

  -- its section, as the list has it
  pub section_is : get_or owner d 0 ≡ section
  section_is = owner_at_piece (kept_parts plan) plan.pieces.items plan.fixes.items placement.sections.items placement.layout owner (reloc_tables placement.table) ready d there

  like : AreLike (kept_parts plan) plan.pieces.items plan.fixes.items placement.sections.items placement.layout owner (reloc_tables placement.table) ready headers directories sorted
  like = record {
    count = length_sorted (kept_parts plan) (rows_of placement.sections.items) placement.layout headers.base;
    long = λ k lt.
        length-sorted_at (pdata_pieces (rows_of placement.sections.items)) (linked_contents (kept_parts plan) (rows_of placement.sections.items) placement.layout headers.base) k (omega (arith, lt, length_linked (kept_parts plan) (rows_of placement.sections.items) placement.layout headers.base))
        (rows_whole (kept_parts plan) plan.pieces.items plan.fixes.items placement.sections.items placement.layout owner (reloc_tables placement.table) ready headers.base)
        ∙ ap (λ (bytes : List ℕ). length bytes) (linked_read (kept_parts plan) (rows_of placement.sections.items) placement.layout headers.base k lt)
        ∙ length_piece (kept_parts plan) (rows_of placement.sections.items) placement.layout headers.base k;
  }

  sized : IsSized (kept_parts plan) plan.pieces.items plan.fixes.items placement.sections.items placement.layout owner (reloc_tables placement.table) ready headers directories d
  sized = (there, size_is)

  pub lies : All (LiesIn placement.layout plan.pieces.items section (length file)) (d ∷ [])
  lies =
      All-cons (LiesIn placement.layout plan.pieces.items section (length file)) d []
      (lies_at (kept_parts plan) plan.pieces.items plan.fixes.items placement.sections.items placement.layout owner (reloc_tables placement.table) ready headers directories section own.there sorted own.number d like own.within own.is sized)
      (All-nil (LiesIn placement.layout plan.pieces.items section (length file)))

  -- with data of the same length
  pub put : (pdb_data : List ℕ) → length pdb_data ≡ length (contents_at (kept_parts plan) placement.layout d) → written placement.layout plan.pieces.items section (d ∷ []) pdb_data file ≡ file_of headers placement.sections.items placement.layout (set sorted d pdb_data) (reloc_tables placement.table)
  unfolding written
  put pdb_data long =
      ap (λ (part : List ℕ). patched (piece_place placement.layout section d) part file) (take_all (size_at plan.pieces.items d) pdb_data (omega (arith, long, size_is)))
      ∙ put_at (kept_parts plan) plan.pieces.items plan.fixes.items placement.sections.items placement.layout owner (reloc_tables placement.table) ready headers directories section own.there sorted own.number d pdb_data like own.within own.is there (long ∙ sym (like.long d at.there))
