-- Why the pieces of modules make no image, no PDB or no import library: the faults of the stages from tables on, in their order.
-- Own.
use Rattle.std.specs.Prelude.{◌≡◌, ℕ, true, false, List, length, Some, None, ◌⊎◌}
use Rattle.link_base.specs.declared.fault.Fault.{Fault}
use Rattle.link_base.specs.declared.fault.Fault.TheVariants as faults
use Rattle.link_base.specs.declared.stop.Refusal.{Refusal}
use Rattle.link_base.specs.declared.stop.Refusal.TheVariants as refusal
use Rattle.section_group.specs.declared.piece.OutSection.{OutSection}
use Rattle.section_group.specs.Merging.{HasNoBadMerge, NamesFirstBad}
use Rattle.section_group.specs.Uniqueness.{SectionRow}
use Rattle.address_layout.specs.declared.layout.Layout.{Layout}
use Rattle.address_layout.specs.declared.layout.LayoutError.TheVariants as bad
use Rattle.address_layout.specs.Layout.{IsPlaceRefusal}
use Rattle.address_layout.specs.Growth.{IsGrowRefusal}
use Rattle.address_layout.specs.PermittedBase.{is_permitted}
use Rattle.base_reloc.specs.declared.field.BaseField.{BaseField}
use Rattle.base_reloc.specs.PageBlocks.{blocks_of}
use Rattle.link_pieces.specs.TablePieces.{KeptParts}
use Rattle.link_words.specs.Outcome.{LinkOptions}
use Rattle.link_plan.specs.Plan.{merges_of}
use Rattle.link_plan.specs.Planned.{plan_pieces}
use Rattle.link_image.specs.BaseFields.{is_relocated, AreBaseFields}
use Rattle.link_image.specs.LinkedBytes.{fields_range_fault}
use Rattle.link_image.specs.ExportFaults.{in_table_fault}
use Rattle.link_image.specs.TableFaults.{tables_fault}
use Rattle.image_writer.specs.ExpectedImage.{ImagePlan, image_file}
use Rattle.link_library.specs.LinkLibrary.{library_fault}
use Rattle.link_image.specs.LinkPdb.{link_streams, Fits, IsLarge}
use Rattle.link_image.specs.LinkedImage.{AreGrouped, ArePlaced, IsPlacement, IsImageOf, base_rule}

-- a merge is bad, and no earlier one
pub record IsBadMerge (options : LinkOptions) (link : KeptParts) (fault : Fault) : Type 0 where
  pub name : List ℕ
  pub named : NamesFirstBad (merges_of options link.parts) name
  pub is : fault ≡ faults.BadMerge name

-- a table is bad: the exception table, or else that of the exports, by an ordinal or by an export that stands for no place
pub record HasBadTable (options : LinkOptions) (link : KeptParts) (fault : Fault) : Type 0 where
  pub merges : HasNoBadMerge (merges_of options link.parts)
  pub is : tables_fault link ≡ Some fault

-- there are too many sections, that of base relocations counted
pub record HasTooManySections (options : LinkOptions) (link : KeptParts) (fault : Fault) : Type 0 where
  pub sections : List OutSection
  pub grouped : AreGrouped options link (plan_pieces options link) sections
  pub count : ℕ
  pub refused : IsPlaceRefusal (plan_pieces options link) sections (is_relocated options link) (bad.TooManySections count)
  pub is : fault ≡ faults.TooManySections count

-- the pieces fit, but not the table of base relocations after them
pub record HasLargeTable (options : LinkOptions) (link : KeptParts) (sections : List OutSection) (size : ℕ) : Type 0 where
  pub relocated : is_relocated options link ≡ true
  pub layout : Layout
  pub placed : ArePlaced (plan_pieces options link) sections true layout
  pub fields : List BaseField
  pub based : AreBaseFields link layout.pieces.items fields
  pub refused : IsGrowRefusal layout (length (blocks_of fields)) (bad.ImageTooLarge size)

-- the image is too large: by its pieces, or else with the table of base relocations
pub record IsTooLarge (options : LinkOptions) (link : KeptParts) (fault : Fault) : Type 0 where
  pub sections : List OutSection
  pub grouped : AreGrouped options link (plan_pieces options link) sections
  pub size : ℕ
  pub refused : IsPlaceRefusal (plan_pieces options link) sections (is_relocated options link) (bad.ImageTooLarge size) ⊎ HasLargeTable options link sections size
  pub is : fault ≡ faults.ImageTooLarge size

-- the image may not stand at the base that it prefers
pub record HasBadBase (options : LinkOptions) (link : KeptParts) (fault : Fault) : Type 0 where
  pub rows : List SectionRow
  pub layout : Layout
  pub tables : List (List ℕ)
  pub placement : IsPlacement options link rows layout tables
  pub refused : is_permitted (base_rule options) layout.image options.base ≡ false
  pub is : fault ≡ faults.BaseRange options.base

-- an export lies in the export table itself
pub record HasExportInTable (options : LinkOptions) (link : KeptParts) (fault : Fault) : Type 0 where
  pub rows : List SectionRow
  pub layout : Layout
  pub tables : List (List ℕ)
  pub placement : IsPlacement options link rows layout tables
  pub permitted : is_permitted (base_rule options) layout.image options.base ≡ true
  pub is : in_table_fault link layout.pieces.items ≡ Some fault

-- the value of a field does not fit, and that of no earlier one
pub record HasBadRange (options : LinkOptions) (link : KeptParts) (fault : Fault) : Type 0 where
  pub rows : List SectionRow
  pub layout : Layout
  pub tables : List (List ℕ)
  pub placement : IsPlacement options link rows layout tables
  pub permitted : is_permitted (base_rule options) layout.image options.base ≡ true
  pub outside : in_table_fault link layout.pieces.items ≡ None
  pub is : fields_range_fault link rows layout options.base ≡ Some fault

-- there is an image, but its PDB would be too large
pub record HasLargePdb (options : LinkOptions) (link : KeptParts) (fault : Fault) : Type 0 where
  pub image : ImagePlan
  pub is_image : IsImageOf options link image
  pub is : IsLarge options (link_streams options link is_image.rows is_image.layout is_image.tables (image_file image)) fault

-- there is an image, and its PDB is not too large, but its import library would be
pub record HasLargeLibrary (options : LinkOptions) (link : KeptParts) (fault : Fault) : Type 0 where
  pub image : ImagePlan
  pub is_image : IsImageOf options link image
  pub pdb_fits : Fits options (link_streams options link is_image.rows is_image.layout is_image.tables (image_file image))
  pub is : library_fault options link.parts.exports ≡ Some fault

-- the fault is the one that stands, of those that leave no image
abbrev pub IsImageFault : LinkOptions → KeptParts → Fault → Type 0
IsImageFault options link fault =
    IsBadMerge options link fault
    ⊎ (HasBadTable options link fault
    ⊎ (HasTooManySections options link fault
    ⊎ (IsTooLarge options link fault
    ⊎ (HasBadBase options link fault ⊎ (HasExportInTable options link fault ⊎ HasBadRange options link fault)))))

-- or of all
abbrev pub IsBuildFault : LinkOptions → KeptParts → Fault → Type 0
IsBuildFault options link fault = IsImageFault options link fault ⊎ (HasLargePdb options link fault ⊎ HasLargeLibrary options link fault)

-- of want of memory nothing is said
abbrev pub RefusesBuild : LinkOptions → KeptParts → Refusal → Type 0
RefusesBuild options link (refusal.Fault fault) = IsBuildFault options link fault
RefusesBuild options link refusal.Memory = Unit {0}
