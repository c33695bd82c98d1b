use Rattle.std.proofs.Common.{◌≡◌, ◌≤◌, ℕ, List, length, map, ◌∙◌, subst}
use Rattle.std.specs.Prelude.{IfOk, IfErr, OnOk}
use Rattle.std.proofs.lemmas.List.Elements.{All-map}
use Rattle.section_group.specs.declared.piece.Piece.{Piece}
use Rattle.section_group.specs.BarePieces.{bare}
use Rattle.pdb_msf.specs.WrittenFile.{MSF_LIMIT, file_size, msf_of}
use Rattle.pdb_file.specs.PdbFile.{IsTooLarge}
use Rattle.debug_rows.specs.ImageMap.{mapped}
use Rattle.image_pdb.proofs.DatabaseLemmas.{streams_of_rows, modules_listed}
use Rattle.image_pdb.proofs.writing.image_pdb.Goals as goal

pub write_pdb-requires-clause-modules : goal.write_pdb-requires-clause-modules
write_pdb-requires-clause-modules c =
    let image = c.args.image.now in
    let modules = c.deref.ensures.value ∙ c.in-Ok.ensures.modules in
    let contributions = c.deref-2.ensures.value ∙ c.in-Ok.ensures.contributions in
    let within = All-map (λ (piece : Piece). piece.«module» ≤ length image.modules.now) bare image.pieces.now c.requires.modules in
    modules_listed (mapped image) c.deref.result.now c.deref-2.result.now modules contributions within

pub returns : goal.returns
returns c =
    let modules = c.deref.ensures.value ∙ c.in-Ok.ensures.modules in
    let contributions = c.deref-2.ensures.value ∙ c.in-Ok.ensures.contributions in
    let publics = c.deref-3.ensures.value ∙ c.in-Ok.ensures.publics in
    let same = streams_of_rows (mapped c.args.image.now) c.args.time c.args.id.now c.args.headers.now c.deref.result.now c.deref-2.result.now c.deref-3.result.now modules contributions publics in
    let written = c.write_pdb.result in
    let says = c.write_pdb.ensures in record {
      written = subst (λ (streams : List (List ℕ)). IfOk written (λ pdb. pdb.items ≡ msf_of streams)) same says.written;
      too_large = subst (λ (streams : List (List ℕ)). IfErr written (IsTooLarge streams)) same says.too_large;
      fits = subst (λ (streams : List (List ℕ)). OnOk written (file_size (map length streams) ≤ MSF_LIMIT)) same says.fits;
    }
