-- Why a file or a member does not open as a module, or does not join. Own.
use Rattle.std.specs.Prelude.{ℕ, Bool, ◌&&◌, ◌||◌, nat_le, if◌then◌else◌, List, length, Option, Some, None}
use Rattle.std.specs.List.{list_any}
use Rattle.std.specs.Option.{option_or}
use Rattle.link_base.specs.Limits.{MODULE_LIMIT}
use Rattle.link_base.specs.declared.fault.Fault.{Fault}
use Rattle.link_base.specs.declared.kinds.form.Kind.TheVariants.{SecondResource}
use Rattle.link_base.specs.declared.fault.Fault.TheVariants.{InputLimit, BadObject, BadImport, BadDirective, Unsupported}
use Rattle.module_view.specs.declared.error.ModuleError.{ModuleError}
use Rattle.module_view.specs.declared.error.ModuleError.TheVariants as bad
use Rattle.module_view.specs.Module.{ModuleView}
use Rattle.module_view.specs.ImportModule.{object_bytes}
use Rattle.module_view.specs.Opening.{file_error}
use Rattle.module_view.specs.Resources.{has_resources}

-- an error of opening, with the file and the member; of want of memory nothing is said
abbrev pub module_fault : List ℕ → Option (List ℕ) → Option ModuleError → Option Fault
module_fault file member (Some (bad.Object error)) = Some (BadObject file member error.kind error.index)
module_fault file member (Some (bad.Import kind)) = Some (BadImport file member kind)
module_fault file member (Some (bad.Directive at)) = Some (BadDirective file member at)
module_fault file member (Some (bad.Unsupported kind)) = Some (Unsupported file member kind)
module_fault file member (Some bad.Memory) = None
module_fault file member None = None

-- modules are counted from 0
abbrev pub count_fault : ℕ → Option Fault
count_fault position = if nat_le MODULE_LIMIT position then Some (InputLimit 65535) else None

-- a module has a section of resources: merging it with other resources is left out
abbrev pub brings_resources : ModuleView → Bool
brings_resources view = has_resources view.bytes

-- the file has one, and so has a module before it, or a resource file was opened
abbrev pub second_fault : List ℕ → Option (List ℕ) → List ℕ → Bool → List ModuleView → Option Fault
second_fault file member bytes merges modules =
    if has_resources (object_bytes bytes) && (merges || list_any brings_resources modules) then Some (Unsupported file member SecondResource) else None

-- why a file, or a member of one, does not join after these modules: whether a resource file was opened stands before them
abbrev pub joining_fault : List ℕ → Option (List ℕ) → List ℕ → Bool → List ModuleView → Option Fault
joining_fault file member bytes merges modules =
    option_or (module_fault file member (file_error bytes))
    (option_or (second_fault file member bytes merges modules) (count_fault (length modules)))
