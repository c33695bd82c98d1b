-- What the PDB of an image lists of the plan.
use Rattle.std.proofs.Common.{◌≡◌, ℕ, ◌<◌, ◌≤◌, true, List, length, map, get_or, inl, inr, sym, ap, ◌∙◌, subst, arith}
use Rattle.std.specs.Prelude.{is_some}
use Rattle.std.specs.List.{All}
use Rattle.std.proofs.lemmas.Bool.{cases_lt, or_right}
use Rattle.std.proofs.lemmas.List.{get_or_default}
use Rattle.link_base.specs.declared.fault.Fault.TheVariants as faults
use Rattle.pdb_msf.specs.declared.writing.MsfError.{MsfError}
use Rattle.pdb_msf.specs.declared.writing.MsfError.TheVariants.{TooLarge, Memory}
use Rattle.pdb_msf.specs.WrittenFile.{file_size}
use Rattle.pdb_file.specs.PdbFile.{IsTooLarge}
use Rattle.image_pdb.specs.ImagePdb.{image_streams}
use Rattle.debug_rows.specs.ImageMap.{Mapped}
use Rattle.section_group.specs.Uniqueness.{SectionRow}
use Rattle.address_layout.specs.declared.layout.Layout.{Layout}
use Rattle.section_group.specs.declared.piece.Piece.{Piece}
use Rattle.section_group.specs.SectionOrder.{no_piece}
use Rattle.link_pieces.specs.Pieces.{link_pieces}
use Rattle.link_pieces.specs.TablePieces.{KeptParts, whole_pieces, whole_piece}
use Rattle.link_pieces.proofs.CallerLemmas.{piece_is, whole_at, table_is}
use Rattle.link_words.specs.Outcome.{LinkOptions}
use Rattle.link_plan.specs.declared.planning.LinkPlan.{LinkPlan}
use Rattle.link_plan.specs.LinkPublics.{lists_publics}
use Rattle.link_plan.specs.Plan.{IsPlanOf, kept_parts}
use Rattle.link_image.specs.LinkMap.{mapped_link}
use Rattle.link_image.specs.LinkPdb.{section_headers_in, streams_at, IsLarge}
use Rattle.link_image.proofs.HeldLemmas.{piece_count, planned_is, names_count}

-- each piece is of a module of the link, or of the linker
pub modules_within : (options : LinkOptions) (plan : LinkPlan) → IsPlanOf options plan.modules.items plan → All (λ piece. piece.«module» ≤ length plan.modules.items) plan.pieces.items
modules_within options plan planned = λ k d lt.
    let same = ap (λ (p : Piece). p.«module») (planned_is options plan planned k) in
    subst (λ (piece : Piece). piece.«module» ≤ length plan.modules.items) (sym (get_or_default plan.pieces.items k d no_piece lt))
    (omega (arith, same, within k (omega (arith, lt, piece_count options plan planned)), names_count options plan planned))
  where
    within : (k : ℕ) → k < length (whole_pieces (kept_parts plan)) → (whole_piece (kept_parts plan) k).«module» ≤ length plan.names.modules
    within k lt =
        elim (cases_lt k (length (link_pieces plan.names))) [
          | inl inside ↦ subst (λ (piece : Piece). piece.«module» ≤ length plan.names.modules) (sym (whole_at (kept_parts plan) k inside)) (of_link k inside)
          | inr behind ↦ omega (arith, (table_is (kept_parts plan) k behind lt).of_linker)
        ]
      where
        of_link : (k : ℕ) → k < length (link_pieces plan.names) → (get_or (link_pieces plan.names) k no_piece).«module» ≤ length plan.names.modules
        of_link k inside =
            elim (piece_is plan.names k inside) [
              | inl own ↦ omega (arith, own.within)
              | inr linker ↦ omega (arith, linker.of_linker)
            ]

-- ---- a PDB that is asked for lists the public symbols

pub publics_listed : (options : LinkOptions) → options.debug ≡ true → lists_publics options ≡ true
publics_listed options asked = or_right (is_some options.map_file) options.debug asked

-- the streams of what is listed are those of the link
pub streams_there : (options : LinkOptions) (link : KeptParts) (rows : List SectionRow) (layout : Layout) (image : Mapped) (id file headers : List ℕ) → image ≡ mapped_link options link rows layout → headers ≡ section_headers_in file (length rows) → image_streams image options.time id headers ≡ streams_at options link rows layout id file
unfolding streams_at
streams_there options link rows layout image id file headers listed read =
    ap (λ (m : Mapped). image_streams m options.time id headers) listed
    ∙ ap (image_streams (mapped_link options link rows layout) options.time id) read

-- they make a file that is too large
pub large_by : (options : LinkOptions) (streams : List (List ℕ)) (size : ℕ) (error : MsfError) → options.debug ≡ true → error ≡ TooLarge size → IsTooLarge streams error → IsLarge options streams (faults.PdbTooLarge size)
large_by options streams size error asked is (inl memory) = absurd (no_memory size (sym is ∙ memory))
  where
    no_memory : (n : ℕ) → TooLarge n ≡ Memory → ⊥
    no_memory n e = cc
large_by options streams size error asked is (inr large) =
    record { asked = asked; large = large.1; is = ap (λ (n : ℕ). faults.PdbTooLarge n) (one_size size (file_size (map length streams)) (sym is ∙ large.0)) }
  where
    one_size : (a b : ℕ) → TooLarge a ≡ TooLarge b → a ≡ b
    one_size a b e = cc
