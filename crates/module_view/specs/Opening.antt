-- Which bytes do not open as a module, and why. Of a short import: its faults, then a name that is too long. Of other bytes: the
-- forms that the first bytes show, then the faults of the object, then the forms that its names show, then the faults of
-- auxiliary records, then malformed directives. The order is own.
use Rattle.std.specs.Prelude.{◌≡◌, ℕ, Bool, ◌||◌, nat_lt, if◌then◌else◌, List, [], ◌∷◌, length, Option, Some, None, option_map}
use Rattle.std.specs.List.{list_any}
use Rattle.link_base.specs.Limits.{NAME_LIMIT}
use Rattle.link_base.specs.Refusals.{shown, first_standing}
use Rattle.link_base.specs.declared.kinds.form.Kind.{Kind}
use Rattle.link_base.specs.declared.kinds.form.Kind.TheVariants as form
use Rattle.coff_records.specs.ObjectFile.{section_name_of, name_in, symbol_entries}
use Rattle.coff_object.specs.Forms.{form_shown}
use Rattle.coff_object.specs.ObjectFaults.{object_fault}
use Rattle.section_rules.specs.SoughtNames.{is_linker_section}
use Rattle.module_view.specs.declared.error.ModuleError.{ModuleError}
use Rattle.module_view.specs.declared.error.ModuleError.TheVariants as error
use Rattle.module_view.specs.Module.{ModuleView}
use Rattle.coff_aux.specs.AuxFaults.{aux_fault}
use Rattle.directives.specs.declared.item.BadDirective.{BadDirective}
use Rattle.module_view.specs.ModuleDirectives.{sections_in, bad_directive}
use Rattle.short_import.specs.ShortImport.{symbol_of, dll_of}
use Rattle.short_import.specs.ImportFaults.{import_fault}
use Rattle.module_view.specs.ImportModule.{is_short_import}

-- ---- the first bytes

-- the form that they show, of those that are not read as an object
abbrev pub form_error : List ℕ → Option ModuleError
form_error bytes = option_map error.Unsupported (form_shown bytes)

-- ---- the object

abbrev pub object_error : List ℕ → Option ModuleError
object_error bytes = option_map error.Object (object_fault bytes)

-- ---- its names, its auxiliary records and its directives

abbrev pub unsupported : Bool → Kind → Option ModuleError
unsupported stands kind = shown stands (error.Unsupported kind)

abbrev pub is_long : List ℕ → Bool
is_long name = nat_lt NAME_LIMIT (length name)

abbrev pub has_linker_section : List ℕ → Bool
has_linker_section bytes = list_any (λ section. is_linker_section (section_name_of bytes section)) (sections_in bytes)

abbrev pub has_long_section_name : List ℕ → Bool
has_long_section_name bytes = list_any (λ section. is_long (section_name_of bytes section)) (sections_in bytes)

abbrev pub has_long_symbol_name : List ℕ → Bool
has_long_symbol_name bytes = list_any (λ entry. is_long (name_in entry.1)) (symbol_entries bytes)

abbrev pub bad_directive_error : BadDirective → ModuleError
bad_directive_error bad = error.Directive bad.at

abbrev pub directive_error : List ℕ → Option ModuleError
directive_error bytes = option_map bad_directive_error (bad_directive bytes)

-- of a well formed object
unfoldable pub content_error : List ℕ → Option ModuleError
content_error bytes =
    first_standing
    (unsupported (has_linker_section bytes) form.LinkerSection
    ∷ unsupported (has_long_section_name bytes || has_long_symbol_name bytes) form.LongName
    ∷ option_map error.Object (aux_fault bytes)
    ∷ directive_error bytes
    ∷ [])

-- ---- the error

-- why these bytes do not open as an object
unfoldable pub opening_error : List ℕ → Option ModuleError
opening_error bytes = first_standing (form_error bytes ∷ object_error bytes ∷ content_error bytes ∷ [])

abbrev pub has_long_text : List ℕ → Bool
has_long_text bytes = is_long (symbol_of bytes) || is_long (dll_of bytes)

-- why they do not open as a short import
unfoldable pub import_error : List ℕ → Option ModuleError
import_error bytes =
    first_standing
    (option_map error.Import (import_fault bytes)
    ∷ unsupported (has_long_text bytes) form.LongName
    ∷ [])

-- why these bytes do not open as a module: none where they do
unfoldable pub file_error : List ℕ → Option ModuleError
file_error bytes = if is_short_import bytes then import_error bytes else opening_error bytes

-- the object of a module opens
abbrev pub IsOpened : ModuleView → Type 0
IsOpened view = opening_error view.bytes ≡ None

-- of want of memory nothing is said; any other error is the one that stands
abbrev pub RefusesToOpen : Option ModuleError → ModuleError → Type 0
RefusesToOpen standing (error.Object fault) = standing ≡ Some (error.Object fault)
RefusesToOpen standing (error.Import fault) = standing ≡ Some (error.Import fault)
RefusesToOpen standing (error.Directive at) = standing ≡ Some (error.Directive at)
RefusesToOpen standing (error.Unsupported kind) = standing ≡ Some (error.Unsupported kind)
RefusesToOpen standing error.Memory = Unit {0}
