-- Where a name leads, by what the passes over the modules say of it.
use Rattle.std.proofs.Common.{◌≡◌, ℕ, Bool, List, get_or, Option, Some, None, refl, ap, subst, ◌∙◌}
use Rattle.std.specs.Prelude.{option_map}
use Rattle.std.specs.Option.{option_or}
use Rattle.module_view.specs.Module.{ModuleView}
use Rattle.symbol_table.specs.declared.meaning.Meaning.{Meaning}
use Rattle.symbol_table.specs.declared.link.Link.{Link}
use Rattle.symbol_table.specs.declared.lives.FirstLive.{FirstLive}
use Rattle.symbol_table.specs.declared.greatest.GreatestCommon.{GreatestCommon}
use Rattle.symbol_table.specs.declared.first_weak.FirstWeak.{FirstWeak}
use Rattle.symbol_table.specs.LinkerNames.{linker_meaning}
use Rattle.symbol_names.specs.LinkView.{LinkView}
use Rattle.symbol_names.specs.Alternates.{all_alternates, alternate_named}
use Rattle.symbol_names.specs.Lists.{Provided, Offered, Said, live_definitions, all_commons, all_weaks}
use Rattle.symbol_table.specs.Resolution.{defined_meaning, common_meaning, definition_named, common_named, weak_named, own_or, alternate_step, weak_step, own_meaning, step}
use Rattle.symbol_names.specs.Interning.{Numbers}
use Rattle.symbol_table.specs.Passes.{live_of, common_kept, first_meaning, kept_meaning, AreFirst, TellsGreatest, KeepsWeak, TellsWeaks, KeepsAlternate, TellsAlternates}
use Rattle.symbol_table.specs.Links.{IsStep}

first_means : (found : Option Provided) → option_map first_meaning (option_map live_of found) ≡ option_map defined_meaning found
first_means None = refl
first_means (Some entry) = refl

common_means : (found : Option Offered) → option_map kept_meaning (option_map common_kept found) ≡ option_map common_meaning found
common_means None = refl
common_means (Some entry) = refl

pub own_is : (modules : List ModuleView) (chosen : List (List Bool)) (names : List (List ℕ)) (firsts : List (Option FirstLive)) (commons : List (Option GreatestCommon)) (number : ℕ) (name : List ℕ) → AreFirst names (live_definitions modules chosen) firsts → TellsGreatest names (all_commons modules) commons → Numbers names number name → option_or (option_map first_meaning (get_or firsts number None)) (option_or (option_map kept_meaning (get_or commons number None)) (linker_meaning name)) ≡ own_meaning modules chosen name
own_is modules chosen names firsts commons number name first greatest numbered =
    ap (λ (o : Option Meaning). option_or o (option_or (option_map kept_meaning (get_or commons number None)) (linker_meaning name)))
    (ap (option_map first_meaning) (first number name numbered) ∙ first_means (definition_named modules chosen name))
    ∙ ap (λ (o : Option Meaning). option_or (option_map defined_meaning (definition_named modules chosen name)) (option_or o (linker_meaning name)))
    (ap (option_map kept_meaning) (greatest number name numbered) ∙ common_means (common_named modules name))

-- one more name
pub step_is : (view : LinkView) (chosen : List (List Bool)) (names : List (List ℕ)) (firsts : List (Option FirstLive)) (commons : List (Option GreatestCommon)) (weaks : List (Option FirstWeak)) (alternates : List (Option ℕ)) (number : ℕ) (name : List ℕ) (own : Option Meaning) (link : Link) → AreFirst names (live_definitions view.modules chosen) firsts → TellsGreatest names (all_commons view.modules) commons → TellsWeaks names (all_weaks view.modules) weaks → TellsAlternates names (all_alternates view) alternates → Numbers names number name → own ≡ option_or (option_map first_meaning (get_or firsts number None)) (option_or (option_map kept_meaning (get_or commons number None)) (linker_meaning name)) → ((entry : Option Said) (pair : Option (List ℕ × List ℕ)) → KeepsWeak names entry (get_or weaks number None) → KeepsAlternate names pair (get_or alternates number None) → IsStep names (own_or own (weak_step chosen entry (alternate_step name pair))) link) → IsStep names (step view chosen name) link
unfolding step
step_is view chosen names firsts commons weaks alternates number name own link first greatest weak alternate numbered is each =
    subst (λ (o : Option Meaning). IsStep names (own_or o (weak_step chosen (weak_named view.modules name) (alternate_step name (alternate_named view name)))) link)
    (is ∙ own_is view.modules chosen names firsts commons number name first greatest numbered)
    (each (weak_named view.modules name) (alternate_named view name) (weak number name numbered) (alternate number name numbered))
