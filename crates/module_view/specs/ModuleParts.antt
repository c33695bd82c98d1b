-- What a module keeps beside its bytes. Own.
use Rattle.std.specs.Prelude.{◌≡◌, ℕ, Bool, false, List, [], map, Option, None, Some}
use Rattle.module_view.specs.declared.comdat_choice.ComdatChoice.{ComdatChoice}
use Rattle.module_view.specs.declared.input_module.Origin.{Origin}
use Rattle.module_view.specs.declared.input_module.Content.{Content}
use Rattle.module_view.specs.declared.input_module.Content.TheVariants as content
use Rattle.module_view.specs.declared.definition.Definition.{Definition}
use Rattle.module_view.specs.declared.definition.Common.{Common}
use Rattle.module_view.specs.declared.reference.Reference.{Reference}
use Rattle.module_view.specs.declared.reference.Weak.{Weak}
use Rattle.module_view.specs.Choices.{AreChoices}
use Rattle.module_view.specs.Module.{ModuleView}
use Rattle.short_import.specs.declared.import.Import.{Import}
use Rattle.module_view.specs.ImportModule.{file_view}
use Rattle.module_view.specs.SymbolLists.{definitions_of, references_of, weaks_of, commons_of}
use Rattle.directives.specs.Said.{said}
use Rattle.directives.specs.declared.item.Directive.{Directive}
use Rattle.module_view.specs.ModuleDirectives.{module_directives}
use Rattle.module_view.specs.Opening.{opening_error}
use Rattle.module_view.specs.Resources.{has_resources}
use Rattle.module_view.specs.Steps.{KeepsStarts}

-- a module with the object of these bytes, and this short import
abbrev pub view_with : Origin → List ℕ → Option Import → ModuleView
view_with origin bytes imported =
    record { file = origin.file; member = origin.member; bytes = bytes; imported = imported }

-- the module that a file or a member with these bytes is
abbrev pub view_of : Origin → List ℕ → ModuleView
view_of origin bytes = file_view origin.file origin.member bytes

-- the short import that a module holds
abbrev pub imported_by : Content → Option Import
imported_by (content.Object parts) = None
imported_by (content.Import import) = Some import

-- the bytes open, and the object and the lists are those of the bytes
pub record KeepsLists (bytes object : List ℕ) (definitions : List Definition) (references : List Reference) (weaks : List Weak) (commons : List Common) (starts : List Bool) (choices : List (Option ComdatChoice)) (directives : List Directive) (resources : Bool) : Type 0 where
  pub opened : opening_error bytes ≡ None
  pub viewed : object ≡ bytes
  pub defined : definitions ≡ definitions_of bytes
  pub referred : references ≡ references_of bytes
  pub weak : weaks ≡ weaks_of bytes
  pub common : commons ≡ commons_of bytes
  pub started : KeepsStarts bytes weaks starts
  pub comdats : AreChoices bytes definitions choices
  pub said_are : map said directives ≡ module_directives bytes
  pub resources_are : resources ≡ has_resources bytes

-- those that were read, or none where a short import goes as the object
abbrev pub KeepsContent : List ℕ → List ℕ → Content → Type 0
KeepsContent bytes object (content.Object parts) =
    KeepsLists bytes object parts.lists.definitions.items parts.lists.references.items parts.lists.weaks.items parts.lists.commons.items parts.lists.starts.items parts.comdats.items parts.directives.items parts.has_resources
KeepsContent bytes object (content.Import import) = KeepsLists bytes object [] [] [] [] [] [] [] false
