-- What is noted of the definitions of a module.
use Rattle.std.proofs.Common.{◌≡◌, ◌<◌, ℕ, List, length, map, get_or, sym, ap, subst, ◌∙◌, arith}
use Rattle.std.specs.List.{All, AllZip}
use Rattle.std.proofs.lemmas.List.{length-map, get_or-map}
use Rattle.module_view.specs.Module.{ModuleView}
use Rattle.module_view.specs.ImportModule.{module_definitions}
use Rattle.symbol_names.specs.declared.noted.ModuleNames.{ModuleNames}
use Rattle.symbol_names.specs.declared.noted.NotedDefinition.{NotedDefinition}
use Rattle.symbol_names.specs.Interning.{NotesDefinition, NotesModule}
use Rattle.symbol_names.specs.Kept.{noted_view}

-- what is noted at the position of a module is what is noted of its definitions
pub notes_at : (keys : List (List ℕ)) (modules : List ModuleView) (noted : List ModuleNames) (k : ℕ) (view : ModuleView) (kept : ModuleNames) (notes : List NotedDefinition) → map noted_view noted ≡ modules → All (NotesModule keys) noted → k < length modules → view ≡ get_or modules k view → notes ≡ (get_or noted k kept).definitions.items → AllZip (NotesDefinition keys) (module_definitions view) notes
notes_at keys modules noted k view kept notes same all lt is_view is_notes =
    let within : k < length noted = omega (arith, lt, length-map noted noted_view, ap length same) in
    let at = get_or noted k kept in
    let viewed : noted_view at ≡ view =
    sym (get_or-map noted_view noted k kept view within)
    ∙ ap (λ (views : List ModuleView). get_or views k view) same
    ∙ sym is_view in
    subst (λ (v : ModuleView). AllZip (NotesDefinition keys) (module_definitions v) notes) viewed
    (subst (AllZip (NotesDefinition keys) (module_definitions (noted_view at))) (sym is_notes) (all k kept within).definitions)
