-- The database of an image, put together of its rows; and that the modules of what its pieces give are listed.
use Rattle.std.proofs.Common.{◌≡◌, ℕ, ◌+◌, ◌<◌, ◌≤◌, List, [], ◌∷◌, length, map, sym, ap, ◌∙◌, subst, arith, length-append}
use Rattle.std.specs.List.{All}
use Rattle.std.proofs.lemmas.List.{length-map}
use Rattle.pdb_dbi.specs.declared.rows.ModuleName.{ModuleName}
use Rattle.pdb_dbi.specs.declared.rows.Contribution.{Contribution}
use Rattle.pdb_publics.specs.declared.rows.PublicRow.{PublicRow}
use Rattle.pdb_file.specs.PdbFile.{pdb_streams}
use Rattle.module_view.specs.Module.{ModuleView}
use Rattle.section_group.specs.declared.piece.Piece.{Piece}
use Rattle.debug_rows.specs.ModuleNames.{linker_module, module_name, module_names_of}
use Rattle.debug_rows.specs.ImageMap.{Mapped}
use Rattle.image_pdb.specs.ImagePdb.{image_modules, image_contributions, image_publics, image_streams}
use Rattle.image_pdb.proofs.ContributionLemmas.{contributions_within}

pub streams_of_rows : (image : Mapped) (time : ℕ) (id headers : List ℕ) (modules : List ModuleName) (contributions : List Contribution) (publics : List PublicRow) → modules ≡ image_modules image → contributions ≡ image_contributions image → publics ≡ image_publics image → pdb_streams (record { time = time; id = id; modules = modules; contributions = contributions; publics = publics; headers = headers }) ≡ image_streams image time id headers
unfolding image_streams
streams_of_rows image time id headers modules contributions publics same_modules same_contributions same_publics =
    λ i. pdb_streams (record { time = time; id = id; modules = same_modules i; contributions = same_contributions i; publics = same_publics i; headers = headers })

-- one more than the modules of the link
pub length_modules : (modules : List ModuleView) → length (module_names_of modules) ≡ length modules + 1
length_modules modules =
    let both = length-append (map module_name modules) (linker_module ∷ []) in
    let named = length-map modules module_name in
    omega (arith, both, named)

pub modules_listed : (image : Mapped) (modules : List ModuleName) (contributions : List Contribution) → modules ≡ image_modules image → contributions ≡ image_contributions image → All (λ (piece : Piece). piece.«module» ≤ length image.modules) image.pieces → All (λ row. row.«module» < length modules) contributions
modules_listed image modules contributions same_modules same_contributions within =
    subst (λ (rows : List Contribution). All (λ row. row.«module» < length modules) rows) (sym same_contributions) below
  where
    count : length modules ≡ length image.modules + 1
    count = ap (λ (names : List ModuleName). length names) same_modules ∙ length_modules image.modules

    below : All (λ row. row.«module» < length modules) (image_contributions image)
    below = λ k row lt.
        let most = contributions_within image.modules image.pieces image.places image.rvas image.sections (length image.modules) within k row lt in
        omega (arith, most, count)
