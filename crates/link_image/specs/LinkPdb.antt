-- The PDB of an image, where one is asked for. Own.
use Rattle.std.specs.Prelude.{◌≡◌, ◌<◌, ◌≤◌, ℕ, ◌*◌, true, if◌then◌else◌, List, length, map, Option, Some, None}
use Rattle.link_base.specs.Bytes.{bytes_at}
use Rattle.link_base.specs.PeFormat.{SECTION_HEADERS_OFFSET, SIZEOF_SECTION_HEADER}
use Rattle.link_base.specs.declared.fault.Fault.{Fault}
use Rattle.link_base.specs.declared.fault.Fault.TheVariants as faults
use Rattle.link_base.specs.declared.stop.Refusal.{Refusal}
use Rattle.link_base.specs.declared.stop.Refusal.TheVariants as refusal
use Rattle.section_group.specs.Uniqueness.{SectionRow}
use Rattle.address_layout.specs.declared.layout.Layout.{Layout}
use Rattle.link_words.specs.Outcome.{LinkOptions}
use Rattle.link_pieces.specs.TablePieces.{KeptParts}
use Rattle.pdb_msf.specs.WrittenFile.{MSF_LIMIT, file_size}
use Rattle.image_pdb.specs.ImagePdb.{image_streams}
use Rattle.link_image.specs.LinkMap.{mapped_link}
use Rattle.link_image.specs.LinkedImage.{link_headers, identifier_of}

-- the section headers in the file of an image (PE Format, "Section Table (Section Headers)")
abbrev pub section_headers_in : List ℕ → ℕ → List ℕ
section_headers_in file count = bytes_at file SECTION_HEADERS_OFFSET (SIZEOF_SECTION_HEADER * count)

-- it lists what is kept of the link, where it stands in the image, and has the identifier and the section headers of the image
unfoldable pub streams_at : LinkOptions → KeptParts → List SectionRow → Layout → List ℕ → List ℕ → List (List ℕ)
streams_at options link rows layout identifier file =
    image_streams (mapped_link options link rows layout) options.time identifier (section_headers_in file (length rows))

abbrev pub link_streams : LinkOptions → KeptParts → List SectionRow → Layout → List (List ℕ) → List ℕ → List (List ℕ)
link_streams options link rows layout tables file =
    streams_at options link rows layout (identifier_of (link_headers options link rows layout tables) link rows layout tables) file

abbrev pub asked_pdb : LinkOptions → List ℕ → Option (List ℕ)
asked_pdb options file = if options.debug then Some file else None

-- ---- its size

-- the file of these streams fits, where it is asked for
abbrev pub Fits : LinkOptions → List (List ℕ) → Type 0
Fits options streams = options.debug ≡ true → file_size (map length streams) ≤ MSF_LIMIT

-- it is asked for, and would be too large
pub record IsLarge (options : LinkOptions) (streams : List (List ℕ)) (fault : Fault) : Type 0 where
  pub asked : options.debug ≡ true
  pub large : MSF_LIMIT < file_size (map length streams)
  pub is : fault ≡ faults.PdbTooLarge (file_size (map length streams))

-- of want of memory nothing is said
abbrev pub RefusesPdb : LinkOptions → List (List ℕ) → Refusal → Type 0
RefusesPdb options streams (refusal.Fault fault) = IsLarge options streams fault
RefusesPdb options streams refusal.Memory = Unit {0}
