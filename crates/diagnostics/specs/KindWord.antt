-- The word for each kind of refusal, as a diagnostic prints it. Own.
use Rattle.std.specs.Prelude.{ℕ, List, codes}
use Rattle.link_base.specs.declared.kinds.object.ObjFault.{ObjFault}
use Rattle.link_base.specs.declared.kinds.object.ObjFault.TheVariants as object
use Rattle.link_base.specs.declared.kinds.library.LibFault.{LibFault}
use Rattle.link_base.specs.declared.kinds.library.LibFault.TheVariants as library
use Rattle.link_base.specs.declared.kinds.import.ImpFault.{ImpFault}
use Rattle.link_base.specs.declared.kinds.import.ImpFault.TheVariants as short
use Rattle.link_base.specs.declared.kinds.form.Kind.{Kind}
use Rattle.link_base.specs.declared.kinds.form.Kind.TheVariants as form
use Rattle.link_base.specs.declared.kinds.target.TargetFault.{TargetFault}
use Rattle.link_base.specs.declared.kinds.target.TargetFault.TheVariants as target
use Rattle.link_base.specs.declared.kinds.target.RelocKind.{RelocKind}
use Rattle.link_base.specs.declared.kinds.target.RelocKind.TheVariants as relocation
use Rattle.link_base.specs.declared.kinds.export.ExportFault.{ExportFault}
use Rattle.link_base.specs.declared.kinds.export.ExportFault.TheVariants as exported
use Rattle.link_base.specs.declared.kinds.image.ImageKind.{ImageKind}
use Rattle.link_base.specs.declared.kinds.image.ImageKind.TheVariants as image
use Rattle.link_base.specs.declared.kinds.database.PdbKind.{PdbKind}
use Rattle.link_base.specs.declared.kinds.database.PdbKind.TheVariants as database
use Rattle.link_base.specs.declared.kinds.resource.ResFault.{ResFault}
use Rattle.link_base.specs.declared.kinds.resource.ResFault.TheVariants as resource

abbrev pub object_fault_word : ObjFault → List ℕ
object_fault_word object.Truncated = codes "Truncated"
object_fault_word object.Machine = codes "Machine"
object_fault_word object.SectionRange = codes "SectionRange"
object_fault_word object.RelocationRange = codes "RelocationRange"
object_fault_word object.SymbolRange = codes "SymbolRange"
object_fault_word object.StringTable = codes "StringTable"
object_fault_word object.Alignment = codes "Alignment"
object_fault_word object.SectionNumber = codes "SectionNumber"
object_fault_word object.SymbolValue = codes "SymbolValue"
object_fault_word object.Aux = codes "Aux"
object_fault_word object.Selection = codes "Selection"
object_fault_word object.Associative = codes "Associative"

abbrev pub library_fault_word : LibFault → List ℕ
library_fault_word library.Magic = codes "Magic"
library_fault_word library.Header = codes "Header"
library_fault_word library.Size = codes "Size"
library_fault_word library.Directory = codes "Directory"
library_fault_word library.LongName = codes "LongName"

abbrev pub import_fault_word : ImpFault → List ℕ
import_fault_word short.Length = codes "Length"
import_fault_word short.Machine = codes "Machine"
import_fault_word short.Kind = codes "Kind"
import_fault_word short.NameType = codes "NameType"
import_fault_word short.Text = codes "Text"

abbrev pub kind_word : Kind → List ℕ
kind_word form.ThinLibrary = codes "ThinLibrary"
kind_word form.Bitcode = codes "Bitcode"
kind_word form.Image = codes "Image"
kind_word form.Resource = codes "Resource"
kind_word form.Anonymous = codes "Anonymous"
kind_word form.LinkerSection = codes "LinkerSection"
kind_word form.LongName = codes "LongName"
kind_word form.SecondResource = codes "SecondResource"

abbrev pub target_fault_word : TargetFault → List ℕ
target_fault_word target.Local = codes "Local"
target_fault_word target.Discarded = codes "Discarded"
target_fault_word target.Unplaced = codes "Unplaced"
target_fault_word target.AbsRelative = codes "AbsRelative"
target_fault_word target.NoSection = codes "NoSection"
target_fault_word target.NeedsLow = codes "NeedsLow"
target_fault_word target.PdataField = codes "PdataField"

abbrev pub relocation_fault_word : RelocKind → List ℕ
relocation_fault_word relocation.Kind = codes "Kind"
relocation_fault_word relocation.Field = codes "Field"
relocation_fault_word relocation.Index = codes "Index"
relocation_fault_word relocation.Overlap = codes "Overlap"

abbrev pub export_fault_word : ExportFault → List ℕ
export_fault_word exported.ZeroOrdinal = codes "ZeroOrdinal"
export_fault_word exported.TwoNames = codes "TwoNames"
export_fault_word exported.TwoOrdinals = codes "TwoOrdinals"
export_fault_word exported.TooMany = codes "TooMany"
export_fault_word exported.Absolute = codes "Absolute"
export_fault_word exported.InTable = codes "InTable"

abbrev pub image_fault_word : ImageKind → List ℕ
image_fault_word image.Dos = codes "Dos"
image_fault_word image.Signature = codes "Signature"
image_fault_word image.Machine = codes "Machine"
image_fault_word image.OptionalSize = codes "OptionalSize"
image_fault_word image.Magic = codes "Magic"
image_fault_word image.Alignment = codes "Alignment"
image_fault_word image.Directories = codes "Directories"
image_fault_word image.ImageSize = codes "ImageSize"
image_fault_word image.Headers = codes "Headers"
image_fault_word image.Sections = codes "Sections"
image_fault_word image.Raw = codes "Raw"
image_fault_word image.Blocks = codes "Blocks"

abbrev pub database_fault_word : PdbKind → List ℕ
database_fault_word database.Superblock = codes "Superblock"
database_fault_word database.Blocks = codes "Blocks"
database_fault_word database.Directory = codes "Directory"
database_fault_word database.Header = codes "Header"
database_fault_word database.Hash = codes "Hash"

abbrev pub resource_fault_word : ResFault → List ℕ
resource_fault_word resource.Header = codes "Header"
resource_fault_word resource.Name = codes "Name"
resource_fault_word resource.Data = codes "Data"
