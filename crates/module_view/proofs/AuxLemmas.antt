-- An object without weak externals has no malformed one.
use Rattle.std.proofs.Common.{◌≡◌, ℕ, Bool, true, false, cond, eqb, List, [], ◌∷◌, length, map, filter, None, refl, sym, ◌∙◌, arith}
use Rattle.std.proofs.lemmas.Bool.{eqb-true}
use Rattle.coff_records.specs.ObjectFile.{SymbolEntry, symbol_entries}
use Rattle.coff_object.specs.ObjectFaults.{first_of}
use Rattle.coff_aux.specs.AuxFaults.{is_bad_weak}
use Rattle.module_view.specs.declared.reference.Weak.{Weak}
use Rattle.module_view.specs.SymbolLists.{is_weak, weak_of, weaks_of}

no_weak : (bytes : List ℕ) (entries : List SymbolEntry) → map (weak_of bytes) (filter (λ entry. is_weak entry.1) entries) ≡ [] → first_of (is_bad_weak bytes) entries ≡ None
unfolding first_of is_bad_weak
no_weak bytes [] none = refl
no_weak bytes (entry ∷ rest) none = go (is_weak entry.1) refl none (no_weak bytes rest)
  where
    go : (b : Bool) → is_weak entry.1 ≡ b → map (weak_of bytes) (cond b (entry ∷ filter (λ entry. is_weak entry.1) rest) (filter (λ entry. is_weak entry.1) rest)) ≡ [] → (map (weak_of bytes) (filter (λ entry. is_weak entry.1) rest) ≡ [] → first_of (is_bad_weak bytes) rest ≡ None) → first_of (is_bad_weak bytes) (entry ∷ rest) ≡ None
    go true is none later = absurd cc
    go false is none later = rw is (later none)

pub no_bad_weak : (bytes : List ℕ) (weaks : List Weak) → weaks ≡ weaks_of bytes → eqb (length weaks) 0 ≡ true → first_of (is_bad_weak bytes) (symbol_entries bytes) ≡ None
unfolding weaks_of
no_bad_weak bytes weaks is none = no_weak bytes (symbol_entries bytes) (sym is ∙ empty weaks none)
  where
    empty : (weaks : List Weak) → eqb (length weaks) 0 ≡ true → weaks ≡ []
    empty [] none = refl
    empty (weak ∷ rest) none = absurd (omega (arith, eqb-true (length (weak ∷ rest)) 0 none))
