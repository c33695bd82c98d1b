-- What is made of the modules of a link. Own.
use Rattle.std.specs.Prelude.{◌≡◌, None, length, option_map}
use Rattle.image_writer.specs.ExpectedImage.{ImagePlan, MeansPlan, image_file}
use Rattle.link_words.specs.Outcome.{LinkOptions}
use Rattle.link_pieces.specs.TablePieces.{KeptParts}
use Rattle.link_image.specs.declared.make.Built.{Built}
use Rattle.link_image.specs.LinkedImage.{IsImageOf, HoldsImports, HoldsExports, HoldsResources}
use Rattle.pdb_msf.specs.WrittenFile.{msf_of}
use Rattle.link_image.specs.LinkMap.{link_map, asked_map}
use Rattle.link_image.specs.LinkPdb.{link_streams, asked_pdb, Fits}
use Rattle.link_library.specs.LinkLibrary.{asked_library, library_fault}

-- the file of the image of the modules, which loads as planned at every permitted base, and then holds their imports and exports,
-- and the resources of the link;
-- and the map, the PDB and the import library of this image, where they are asked for
pub record IsBuilt (options : LinkOptions) (link : KeptParts) (built : Built) : Type 0 where
  pub image : ImagePlan
  pub is_image : IsImageOf options link image
  pub file : built.image.items ≡ image_file image
  pub means : MeansPlan image built.image.items
  pub imports : HoldsImports link is_image.layout built.image.items
  pub exports : HoldsExports link is_image.layout built.image.items
  pub resources : HoldsResources link built.image.items
  pub count : built.sections ≡ length image.rows
  pub map_is : option_map (λ map. map.items) built.map ≡ asked_map options (link_map options link is_image.rows is_image.layout)
  pub pdb_is : option_map (λ pdb. pdb.items) built.pdb ≡ asked_pdb options (msf_of (link_streams options link is_image.rows is_image.layout is_image.tables (image_file image)))
  pub pdb_fits : Fits options (link_streams options link is_image.rows is_image.layout is_image.tables (image_file image))
  pub library_is : option_map (λ library. library.items) built.library ≡ asked_library options link.parts.exports
  pub library_fits : library_fault options link.parts.exports ≡ None
