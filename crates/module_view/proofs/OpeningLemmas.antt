-- Why bytes do not open, stage by stage.
use Rattle.std.proofs.Common.{◌≡◌, ℕ, Bool, true, false, ◌||◌, List, [], ◌∷◌, Option, Some, None, refl, sym, ap, subst, ◌∙◌}
use Rattle.std.specs.Prelude.{option_map}
use Rattle.std.specs.Option.{option_or}
use Rattle.link_base.specs.Refusals.{shown, first_standing}
use Rattle.link_base.specs.declared.kinds.form.Kind.{Kind}
use Rattle.link_base.specs.declared.kinds.form.Kind.TheVariants as form
use Rattle.coff_object.specs.ObjectFaults.{object_fault}
use Rattle.coff_object.specs.declared.error.ObjError.{ObjError}
use Rattle.module_view.specs.declared.error.ModuleError.{ModuleError}
use Rattle.module_view.specs.declared.error.ModuleError.TheVariants as error
use Rattle.module_view.specs.ModuleDirectives.{bad_directive}
use Rattle.module_view.specs.Opening.{opening_error, form_error, content_error, unsupported, has_linker_section, has_long_section_name, has_long_symbol_name, bad_directive_error, directive_error, RefusesToOpen}
use Rattle.coff_aux.specs.AuxFaults.{aux_fault}
use Rattle.module_view.specs.Steps.{section_form}
use Rattle.link_base.proofs.RefusalLemmas.{or_none}

-- ---- sections, then symbols

in_stages : (linker long_section long_symbol : Bool) (later : List (Option ModuleError)) → first_standing (unsupported linker form.LinkerSection ∷ unsupported (long_section || long_symbol) form.LongName ∷ later) ≡ option_or (option_map error.Unsupported (first_standing (shown linker form.LinkerSection ∷ shown long_section form.LongName ∷ []))) (first_standing (unsupported long_symbol form.LongName ∷ later))
in_stages true long_section long_symbol later = refl
in_stages false true long_symbol later = refl
in_stages false false long_symbol later = refl

-- what is shown after names
abbrev last_errors : List ℕ → List (Option ModuleError)
last_errors bytes = option_map error.Object (aux_fault bytes) ∷ directive_error bytes ∷ []

-- what is shown after sections
abbrev later_error : List ℕ → Option ModuleError
later_error bytes = first_standing (unsupported (has_long_symbol_name bytes) form.LongName ∷ last_errors bytes)

content_by : (bytes : List ℕ) → content_error bytes ≡ option_or (option_map error.Unsupported (section_form bytes)) (later_error bytes)
unfolding content_error section_form
content_by bytes =
    in_stages (has_linker_section bytes) (has_long_section_name bytes) (has_long_symbol_name bytes) (last_errors bytes)

-- ---- the stages

pub refused_form : (bytes : List ℕ) (kind : Kind) → option_map error.Unsupported (Some kind) ≡ form_error bytes → opening_error bytes ≡ Some (error.Unsupported kind)
unfolding opening_error
refused_form bytes kind is = rw (sym is) refl

pub refused_object : (bytes : List ℕ) (fault : ObjError) → None ≡ form_error bytes → object_fault bytes ≡ Some fault → opening_error bytes ≡ Some (error.Object fault)
unfolding opening_error
refused_object bytes fault form is = rw (sym form, is) refl

-- the object is well formed: what its contents show stands
pub by_contents : (bytes : List ℕ) → None ≡ form_error bytes → object_fault bytes ≡ None → opening_error bytes ≡ content_error bytes
unfolding opening_error
by_contents bytes form sound = rw (sym form, sound) (or_none (content_error bytes))

pub refused_sections : (bytes : List ℕ) (kind : Kind) → None ≡ form_error bytes → object_fault bytes ≡ None → section_form bytes ≡ Some kind → opening_error bytes ≡ Some (error.Unsupported kind)
refused_sections bytes kind form sound is =
    by_contents bytes form sound ∙ content_by bytes
    ∙ ap (λ (o : Option Kind). option_or (option_map error.Unsupported o) (later_error bytes)) is

-- the sections show nothing: what is shown after them stands
by_later : (bytes : List ℕ) → None ≡ form_error bytes → object_fault bytes ≡ None → section_form bytes ≡ None → opening_error bytes ≡ later_error bytes
by_later bytes form sound sections =
    by_contents bytes form sound ∙ content_by bytes
    ∙ ap (λ (o : Option Kind). option_or (option_map error.Unsupported o) (later_error bytes)) sections

refuses_earlier : (earlier later : Option ModuleError) (e : ModuleError) → RefusesToOpen earlier e → RefusesToOpen (option_or earlier later) e
refuses_earlier earlier later (error.Object fault) h = rw h refl
refuses_earlier earlier later (error.Import fault) h = rw h refl
refuses_earlier earlier later (error.Directive at) h = rw h refl
refuses_earlier earlier later (error.Unsupported kind) h = rw h refl
refuses_earlier earlier later error.Memory h = tt

pub refused_symbols : (bytes : List ℕ) (e : ModuleError) → None ≡ form_error bytes → object_fault bytes ≡ None → section_form bytes ≡ None → RefusesToOpen (unsupported (has_long_symbol_name bytes) form.LongName) e → RefusesToOpen (opening_error bytes) e
refused_symbols bytes e read sound sections h =
    subst (λ (o : Option ModuleError). RefusesToOpen o e) (sym (by_later bytes read sound sections))
    (refuses_earlier (unsupported (has_long_symbol_name bytes) form.LongName) (first_standing (last_errors bytes)) e h)

-- no name is too long: a fault of auxiliary records stands, or what is shown after them
by_aux : (bytes : List ℕ) → None ≡ form_error bytes → object_fault bytes ≡ None → section_form bytes ≡ None → has_long_symbol_name bytes ≡ false → opening_error bytes ≡ first_standing (last_errors bytes)
by_aux bytes read sound sections short =
    by_later bytes read sound sections
    ∙ ap (λ (b : Bool). option_or (unsupported b form.LongName) (first_standing (last_errors bytes))) short

pub refused_aux : (bytes : List ℕ) (e : ModuleError) → None ≡ form_error bytes → object_fault bytes ≡ None → section_form bytes ≡ None → has_long_symbol_name bytes ≡ false → RefusesToOpen (option_map error.Object (aux_fault bytes)) e → RefusesToOpen (opening_error bytes) e
refused_aux bytes e read sound sections short h =
    subst (λ (o : Option ModuleError). RefusesToOpen o e) (sym (by_aux bytes read sound sections short))
    (refuses_earlier (option_map error.Object (aux_fault bytes)) (first_standing (directive_error bytes ∷ [])) e h)

-- the auxiliary records are well formed: only a malformed directive is refused
by_directives : (bytes : List ℕ) → None ≡ form_error bytes → object_fault bytes ≡ None → section_form bytes ≡ None → has_long_symbol_name bytes ≡ false → aux_fault bytes ≡ None → opening_error bytes ≡ directive_error bytes
by_directives bytes read sound sections short aux =
    by_aux bytes read sound sections short
    ∙ ap (λ (o : Option ObjError). option_or (option_map error.Object o) (first_standing (directive_error bytes ∷ []))) aux
    ∙ or_none (directive_error bytes)

pub refused_directive : (bytes : List ℕ) (e : ModuleError) → None ≡ form_error bytes → object_fault bytes ≡ None → section_form bytes ≡ None → has_long_symbol_name bytes ≡ false → aux_fault bytes ≡ None → RefusesToOpen (directive_error bytes) e → RefusesToOpen (opening_error bytes) e
refused_directive bytes e read sound sections short aux h =
    subst (λ (o : Option ModuleError). RefusesToOpen o e) (sym (by_directives bytes read sound sections short aux)) h

-- the directives are well formed: nothing is refused
pub opens : (bytes : List ℕ) → None ≡ form_error bytes → object_fault bytes ≡ None → section_form bytes ≡ None → has_long_symbol_name bytes ≡ false → aux_fault bytes ≡ None → bad_directive bytes ≡ None → opening_error bytes ≡ None
opens bytes read sound sections short aux well =
    by_directives bytes read sound sections short aux ∙ ap (option_map bad_directive_error) well
