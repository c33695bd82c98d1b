-- Where all names stand that modules ask for, none means nothing, and none is a slot that has to be made.
use Rattle.std.proofs.Common.{◌≡◌, ℕ, zero, suc, ◌<◌, ◌≤◌, Bool, true, false, cond, List, [], ◌∷◌, length, map, Option, None, Some, Result, Ok, Err, refl, sym, ap, ◌∙◌, add-one, arith}
use Rattle.std.specs.Prelude.{filter_map}
use Rattle.std.specs.List.{All, cons_option}
use Rattle.std.specs.Option.{option_or}
use Rattle.std.proofs.lemmas.List.Elements.{All-tail}
use Rattle.link_base.specs.Refusals.{first_standing, first_refusal_below}
use Rattle.link_base.specs.declared.fault.Fault.{Fault}
use Rattle.link_base.proofs.RefusalLemmas.{first_refusal_below-more}
use Rattle.link_base.proofs.ListLemmas.{all_front, all_back}
use Rattle.coff_records.specs.ObjectFile.{SymbolEntry, name_in, symbol_entries}
use Rattle.module_view.specs.Module.{module_at}
use Rattle.symbol_names.specs.References.{names_by}
use Rattle.symbol_table.specs.declared.meaning.Meaning.{Meaning}
use Rattle.symbol_table.specs.declared.meaning.Meaning.TheVariants as meaning
use Rattle.symbol_table.specs.declared.meaning.NoMeaning.{NoMeaning}
use Rattle.symbol_table.specs.Meant.{is_standing}
use Rattle.link_pieces.specs.LinkParts.{LinkParts}
use Rattle.link_pieces.specs.NameMeaning.{name_meaning, StandsIn}
use Rattle.link_pieces.specs.LocalSlots.{asks, name_asked, names_asked, modules_asked, slot_in, slot_meant, with_slots, with_meant}
use Rattle.link_pieces.proofs.StandLemmas.{joined_part}
use Rattle.link_plan.specs.References.{no_meaning_fault, name_fault, symbol_fault, asked_fault, names_fault, references_fault_at, references_fault}

-- ---- a name

no_fault : (name : List ℕ) (at : Option ℕ) (end : Result Meaning NoMeaning) → is_standing end ≡ true → no_meaning_fault name at end ≡ None
no_fault name at (Ok meaning) stands = refl
no_fault name at (Err none) stands = absurd cc

no_slot : (end : Result Meaning NoMeaning) → is_standing end ≡ true → slot_in end ≡ None
no_slot (Ok (meaning.LocalSlot name)) stands = absurd cc
no_slot (Ok (meaning.Section position section value)) stands = refl
no_slot (Ok (meaning.Common position symbol)) stands = refl
no_slot (Ok (meaning.Slot position)) stands = refl
no_slot (Ok (meaning.Thunk position)) stands = refl
no_slot (Ok (meaning.Absolute value)) stands = refl
no_slot (Ok meaning.ImageBase) stands = refl
no_slot (Err none) stands = refl

-- ---- the names of a module

no_names_fault : (link : LinkParts) (at : Option ℕ) (names : List (List ℕ)) → All (StandsIn link) names → names_fault link at names ≡ None
no_names_fault link at [] all = refl
no_names_fault link at (name ∷ names) all =
    ap (λ (o : Option Fault). option_or o (first_standing (map (asked_fault link at) names))) (no_fault name at (name_meaning link name) (all zero name (omega arith)))
    ∙ no_names_fault link at names (All-tail (StandsIn link) name names all)

no_symbols_fault : (link : LinkParts) (position : ℕ) (entries : List SymbolEntry) → All (StandsIn link) (filter_map (name_asked link position) entries) → first_standing (map (symbol_fault link position) entries) ≡ None
no_symbols_fault link position [] all = refl
no_symbols_fault link position (entry ∷ entries) all = go (asks link position entry.1) all (no_symbols_fault link position entries)
  where
    later : List (List ℕ)
    later = filter_map (name_asked link position) entries

    go : (b : Bool) → All (StandsIn link) (cons_option (cond b (Some (name_in entry.1)) None) later) → (All (StandsIn link) later → first_standing (map (symbol_fault link position) entries) ≡ None) → option_or (cond b (name_fault link (name_in entry.1) (Some position)) None) (first_standing (map (symbol_fault link position) entries)) ≡ None
    go true each rest =
        ap (λ (o : Option Fault). option_or o (first_standing (map (symbol_fault link position) entries))) (no_fault (name_in entry.1) (Some position) (name_meaning link (name_in entry.1)) (each zero (name_in entry.1) (omega arith)))
        ∙ rest (All-tail (StandsIn link) (name_in entry.1) later each)
    go false each rest = rest each

-- ---- all of them

pub no_references_fault : (link : LinkParts) → All (StandsIn link) (modules_asked link) → references_fault link ≡ None
unfolding first_refusal_below
no_references_fault link all = below (length link.modules) (omega arith)
  where
    at_module : (k : ℕ) → k < length link.modules → references_fault_at link k ≡ None
    at_module k lt =
        let bytes = (module_at link.modules k).bytes in
        let each = joined_part (StandsIn link) (λ j. names_asked link j (module_at link.modules j).bytes) 0 (length link.modules) all k (omega arith) (omega arith) in
        ap (λ (o : Option Fault). option_or o (names_fault link (Some k) (names_by bytes))) (no_symbols_fault link k (symbol_entries bytes) (all_front (StandsIn link) (filter_map (name_asked link k) (symbol_entries bytes)) (names_by bytes) each))
        ∙ no_names_fault link (Some k) (names_by bytes) (all_back (StandsIn link) (filter_map (name_asked link k) (symbol_entries bytes)) (names_by bytes) each)

    below : (n : ℕ) → n ≤ length link.modules → first_refusal_below n (references_fault_at link) ≡ None
    below zero le = refl
    below (suc n) le =
        ap (λ (m : ℕ). first_refusal_below m (references_fault_at link)) (sym (add-one n))
        ∙ first_refusal_below-more n (references_fault_at link) (below n (omega arith)) (at_module n (omega arith))

-- and no slot is meant
pub no_more_meant : (link : LinkParts) (slots : List (List ℕ)) → All (StandsIn link) (modules_asked link) → slots ≡ with_meant link slots (modules_asked link)
no_more_meant link slots all = sym (ap (with_slots slots) (nothing_meant (modules_asked link) all))
  where
    nothing_meant : (names : List (List ℕ)) → All (StandsIn link) names → filter_map (slot_meant link) names ≡ []
    nothing_meant [] all = refl
    nothing_meant (name ∷ names) all =
        ap (λ (o : Option (List ℕ)). cons_option o (filter_map (slot_meant link) names)) (no_slot (name_meaning link name) (all zero name (omega arith)))
        ∙ nothing_meant names (All-tail (StandsIn link) name names all)
