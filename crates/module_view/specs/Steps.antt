-- What the passes over sections and over symbols say of an object. It decides nothing.
use Rattle.std.specs.Prelude.{◌≡◌, ℕ, Bool, false, ◌==◌, List, [], ◌∷◌, length, Option}
use Rattle.link_base.specs.Refusals.{shown, first_standing}
use Rattle.link_base.specs.declared.kinds.form.Kind.{Kind}
use Rattle.link_base.specs.declared.kinds.form.Kind.TheVariants as form
use Rattle.coff_records.specs.ObjectFile.{section_name_of}
use Rattle.section_rules.specs.SoughtNames.{is_linker_section}
use Rattle.coff_aux.specs.Comdats.{is_comdat}
use Rattle.coff_aux.specs.Steps.{HasStarts}
use Rattle.module_view.specs.declared.reference.Weak.{Weak}
use Rattle.module_view.specs.declared.sections.SectionForm.{SectionForm}
use Rattle.module_view.specs.ModuleDirectives.{holds_directives}
use Rattle.module_view.specs.Resources.{holds_resources}
use Rattle.module_view.specs.Opening.{is_long, has_linker_section, has_long_section_name}

-- the first form that sections show
unfoldable pub section_form : List ℕ → Option Kind
section_form bytes =
    first_standing
    (shown (has_linker_section bytes) form.LinkerSection ∷ shown (has_long_section_name bytes) form.LongName ∷ [])

-- what a section shows: of one whose name is too long no more than that
pub record Shows (bytes : List ℕ) (section : ℕ) (form : SectionForm) : Type 0 where
  pub linker : form.is_linker ≡ is_linker_section (section_name_of bytes section)
  pub long : form.is_long ≡ is_long (section_name_of bytes section)
  pub comdat : form.is_long ≡ false → form.is_comdat ≡ is_comdat bytes section
  pub directives : form.is_long ≡ false → form.holds_directives ≡ holds_directives bytes section
  pub resources : form.is_long ≡ false → form.holds_resources ≡ holds_resources bytes section

-- the marks are made where there are weak externals
abbrev pub KeepsStarts : List ℕ → List Weak → List Bool → Type 0
KeepsStarts bytes weaks starts = (length weaks == 0) ≡ false → HasStarts bytes starts
