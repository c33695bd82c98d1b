-- The symbols of a list have the names that the list says.
use Rattle.std.proofs.Common.{◌≡◌, ℕ, zero, suc, eqb, List, [], map, filter, get_or, Bool, true, false, Option, Some, None, Bor, refl, sym, ap, subst, eq-eqb, ◌∙◌, arith}
use Rattle.std.specs.Prelude.{is_some, slice_index_or}
use Rattle.std.specs.Option.{option_copied}
use Rattle.std.specs.List.{All}
use Rattle.std.proofs.lemmas.List.Elements.{All-filter, All-map}
use Rattle.std.proofs.lemmas.List.Folds.{list_any_at}
use Rattle.coff_records.specs.ObjectFile.{SymbolEntry, symbol_entry, symbols_of, symbol_entries, starts_symbol}
use Rattle.short_import.specs.declared.import.Import.{Import}
use Rattle.module_view.specs.declared.definition.Definition.{Definition}
use Rattle.module_view.specs.ImportModule.{definitions_with}
use Rattle.module_view.specs.SymbolLists.{definition_of, defines, definitions_of, common_of, is_common, commons_of, weak_of, is_weak, weaks_of, reference_of, refers, references_of}
use Rattle.symbol_names.specs.Interning.{NO_NUMBER, AreRecords, IsNamedSo}

-- each symbol of an object starts where it stands
all_start : (bytes : List ℕ) → All (λ symbol. starts_symbol bytes symbol ≡ true) (symbols_of bytes)
unfolding starts_symbol
all_start bytes = λ k d lt.
    list_any_at (λ start. eqb start (get_or (symbols_of bytes) k d)) (symbols_of bytes) k d lt (eq-eqb _ _ refl)

named_among : {X : Type 0} (bytes : List ℕ) (P : X → Type 0) (list : SymbolEntry → X) (test : SymbolEntry → Bool) → ((symbol : ℕ) → starts_symbol bytes symbol ≡ true → P (list (symbol_entry bytes symbol))) → All P (map list (filter test (symbol_entries bytes)))
named_among bytes P list test each =
    All-map P list (filter test (symbol_entries bytes))
    (All-filter test (λ entry. P (list entry)) (symbol_entries bytes)
    (All-map (λ entry. P (list entry)) (symbol_entry bytes) (symbols_of bytes) (λ k d lt. each _ (all_start bytes k d lt))))

pub definitions_named : (bytes : List ℕ) → All (λ definition. IsNamedSo bytes definition.symbol definition.name) (definitions_of bytes)
unfolding definitions_of
definitions_named bytes =
    named_among bytes (λ definition. IsNamedSo bytes definition.symbol definition.name) definition_of defines
    (λ symbol starts. record { starts = starts; name_is = refl })

pub commons_named : (bytes : List ℕ) → All (λ common. IsNamedSo bytes common.symbol common.name) (commons_of bytes)
unfolding commons_of
commons_named bytes =
    named_among bytes (λ common. IsNamedSo bytes common.symbol common.name) common_of (λ entry. is_common entry.1)
    (λ symbol starts. record { starts = starts; name_is = refl })

pub weaks_named : (bytes : List ℕ) → All (λ weak. IsNamedSo bytes weak.symbol weak.name) (weaks_of bytes)
unfolding weaks_of
weaks_named bytes =
    named_among bytes (λ weak. IsNamedSo bytes weak.symbol weak.name) (weak_of bytes) (λ entry. is_weak entry.1)
    (λ symbol starts. record { starts = starts; name_is = refl })

pub references_named : (bytes : List ℕ) → All (λ reference. IsNamedSo bytes reference.symbol reference.name) (references_of bytes)
unfolding references_of
references_named bytes =
    named_among bytes (λ reference. IsNamedSo bytes reference.symbol reference.name) (reference_of bytes) refers
    (λ symbol starts. record { starts = starts; name_is = refl })

-- where no number is noted, each that is noted is right
nothing_at : (symbol : ℕ) → slice_index_or [] symbol NO_NUMBER ≡ NO_NUMBER
nothing_at zero = refl
nothing_at (suc symbol) = refl

pub none_noted : (names : List (List ℕ)) (bytes records : List ℕ) → records ≡ [] → AreRecords names bytes records
none_noted names bytes records empty =
    subst (AreRecords names bytes) (sym empty) (λ symbol lt. absurd (omega (arith, lt, nothing_at symbol)))

-- a module that is no short import defines what its symbols do
no_import : (import : Option (Bor Import)) (imported : Option Import) → false ≡ is_some import → option_copied import ≡ imported → imported ≡ None
no_import None imported none is = sym is
no_import (Some one) imported none is = absurd cc

pub plain_definitions : (bytes : List ℕ) (definitions : List Definition) (import : Option (Bor Import)) (imported : Option Import) → false ≡ is_some import → option_copied import ≡ imported → definitions ≡ definitions_with bytes imported → All (λ definition. IsNamedSo bytes definition.symbol definition.name) definitions
plain_definitions bytes definitions import imported none is are =
    subst (λ (ds : List Definition). All (λ definition. IsNamedSo bytes definition.symbol definition.name) ds)
    (sym (are ∙ ap (definitions_with bytes) (no_import import imported none is))) (definitions_named bytes)
