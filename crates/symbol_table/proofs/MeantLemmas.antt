-- Where each link says a meaning that stands, each name does that has a number.
use Rattle.std.proofs.Common.{◌≡◌, ℕ, ◌<◌, Bool, true, List, [], length, get_or, Option, None, Some, refl, subst, sym, ap, ◌∙◌, arith}
use Rattle.std.specs.List.{All, AllZip}
use Rattle.std.specs.Option.{IfSome}
use Rattle.std.proofs.lemmas.List.{length-map}
use Rattle.std.proofs.lemmas.List.Elements.{All-nil}
use Rattle.short_import.specs.declared.import.Import.{Import}
use Rattle.module_view.specs.Module.{ModuleView, no_module}
use Rattle.module_view.specs.ImportModule.{definitions_with}
use Rattle.module_view.specs.SymbolLists.{definitions_of}
use Rattle.symbol_names.specs.declared.given.GivenNames.{GivenNames}
use Rattle.symbol_names.specs.declared.noted.ModuleNames.{ModuleNames}
use Rattle.symbol_names.specs.Interning.{Numbers, NotesDefinition, NotesModule}
use Rattle.symbol_names.specs.Kept.{noted_view}
use Rattle.symbol_names.specs.References.{all_asked}
use Rattle.symbol_names.proofs.NumberLemmas.{number_within}
use Rattle.symbol_table.specs.declared.link.Link.{Link}
use Rattle.symbol_table.specs.declared.meaning.Clash.{Clash}
use Rattle.symbol_table.specs.Links.{link_at, end_of}
use Rattle.symbol_table.specs.Meant.{is_standing, Stands, StandsDefined, AllStand}
use Rattle.symbol_table.specs.TableParts.{link_view, IsOfOneKind, KeepsMeanings}
use Rattle.symbol_table.proofs.AbsentLemmas.{zip_left, module_noted}
use Rattle.symbol_table.proofs.EndLemmas.{settles_means}

module _ (names : List (List ℕ)) (given : GivenNames) (kept : List ModuleNames) (chosen : List (List Bool)) (links : List Link) (clash : Option Clash) (keeps : KeepsMeanings names given kept chosen links clash) (each : (n : ℕ) → n < length links → is_standing (end_of (link_at links n)) ≡ true) where
  stands_at : (number : ℕ) (name : List ℕ) → Numbers names number name → Stands (link_view given kept) chosen name
  stands_at number name numbered =
      ap is_standing (settles_means (link_view given kept) chosen name (end_of (link_at links number)) (keeps.meant.each number name numbered))
      ∙ each number (omega (arith, number_within names number name numbered, keeps.meant.long))

  stand_in : (noted : ModuleNames) (imported : Option Import) → noted.imported ≡ imported → NotesModule names noted → IsOfOneKind (noted_view noted) → All (StandsDefined (link_view given kept) chosen) (definitions_of noted.bytes.now)
  stand_in noted None is notes alone =
      zip_left (NotesDefinition names) (StandsDefined (link_view given kept) chosen) (definitions_of noted.bytes.now) noted.definitions.items
      (subst (λ (i : Option Import). AllZip (NotesDefinition names) (definitions_with noted.bytes.now i) noted.definitions.items) is notes.definitions)
      (λ d n noted. stands_at n.name d.name noted.named)
  stand_in noted (Some import) is notes alone =
      subst (All (StandsDefined (link_view given kept) chosen)) (sym (subst (λ (i : Option Import). IfSome i (λ import. definitions_of noted.bytes.now ≡ [])) is alone)) (All-nil (StandsDefined (link_view given kept) chosen))

  pub all_stand : AllStand (link_view given kept) chosen
  all_stand = record {
    asked = λ k d lt. (let found = keeps.asked k d lt in stands_at found.0 (get_or (all_asked (link_view given kept)) k d).name found.1);
    defined = λ k lt.
        let found = module_noted names kept k keeps.whole.modules.noted (omega (arith, lt, length-map kept noted_view)) in
        let lone = keeps.whole.modules.alone k no_module lt in
        subst (λ (v : ModuleView). All (StandsDefined (link_view given kept) chosen) (definitions_of v.bytes)) (sym found.1.1)
        (stand_in found.0 found.0.imported refl found.1.0 (subst IsOfOneKind found.1.1 lone));
  }
