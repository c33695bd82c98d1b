-- One more weak external: the first of its name.
use Rattle.std.proofs.Common.{◌≡◌, ℕ, ◌<◌, Bool, true, false, nat_eq, List, [], ◌∷◌, ◌++◌, length, map, get_or, replicate, Option, Some, None, refl, sym, ap, subst, ◌∙◌, eqb-true, arith}
use Rattle.std.proofs.Math.ListN.{set}
use Rattle.std.specs.Prelude.{is_some}
use Rattle.std.specs.Option.{option_or}
use Rattle.std.proofs.lemmas.List.{length-replicate}
use Rattle.std.specs.List.{find, list_any, All, AllZip, IsDistinct}
use Rattle.link_base.specs.NameText.{same_name}
use Rattle.link_base.proofs.RefusalLemmas.{or_none}
use Rattle.module_view.specs.declared.reference.Weak.{Weak}
use Rattle.symbol_names.specs.declared.noted.NotedWeak.{NotedWeak}
use Rattle.symbol_table.specs.declared.first_weak.FirstWeak.{FirstWeak}
use Rattle.symbol_names.specs.Lists.{Said, said, said_by, all_weaks, says}
use Rattle.symbol_names.specs.Kept.{noted_view}
use Rattle.symbol_names.specs.declared.noted.ModuleNames.{ModuleNames}
use Rattle.module_view.specs.SymbolLists.{weaks_of}
use Rattle.symbol_names.specs.Interning.{Numbers, NotesWeak, NotesModule}
use Rattle.symbol_table.specs.Passes.{KeepsSaid, KeepsWeak, has_weaks, TellsWeaks, AreWeaks}
use Rattle.symbol_names.proofs.NumberLemmas.{number_within, same_number, zip_at, zip_length}
use Rattle.symbol_table.proofs.PassLemmas.{none_at, find_last, Changed, changed_set, changed_not, none_of_all, zip_none, none_kept, any_false, noted_at}

weaks_more : (names : List (List ℕ)) (earlier : List Said) (entry : Said) (n : ℕ) (old new : List (Option FirstWeak)) (y : Option FirstWeak) → IsDistinct same_name names → Numbers names n entry.name → AreWeaks names earlier old → Changed old new n y → ((found : Option Said) → KeepsWeak names found (get_or old n None) → KeepsWeak names (option_or found (Some entry)) y) → AreWeaks names (earlier ++ entry ∷ []) new
weaks_more names earlier entry n old new y distinct named was changed more = record {
  long = changed.long ∙ was.long;
  first = λ m other is. go m other is (nat_eq n m) refl;
}
  where
    go : (m : ℕ) (other : List ℕ) → Numbers names m other → (b : Bool) → nat_eq n m ≡ b → KeepsWeak names (find (says other) (earlier ++ entry ∷ [])) (get_or new m None)
    go m other is true e =
        let same : n ≡ m = eqb-true n m e in
        let last = find_last (says other) earlier entry true (same_number names m n other entry.name distinct is named ∙ e) in
        let here : get_or new m None ≡ y = ap (λ (k : ℕ). get_or new k None) (sym same) ∙ changed.here in
        let before : KeepsWeak names (find (says other) earlier) (get_or old n None) =
        subst (λ (k : ℕ). KeepsWeak names (find (says other) earlier) (get_or old k None)) (sym same) (was.first m other is) in
        subst (λ (f : Option Said). KeepsWeak names f (get_or new m None)) (sym last)
        (subst (KeepsWeak names (option_or (find (says other) earlier) (Some entry))) (sym here) (more (find (says other) earlier) before))
    go m other is false e =
        let last = find_last (says other) earlier entry false (same_number names m n other entry.name distinct is named ∙ e) in
        subst (λ (f : Option Said). KeepsWeak names f (get_or new m None)) (sym (last ∙ or_none (find (says other) earlier)))
        (subst (KeepsWeak names (find (says other) earlier)) (sym (changed.others m e)) (was.first m other is))

first_kept : (names : List (List ℕ)) (entry : Said) (weak : FirstWeak) → KeepsSaid names entry weak → (found : Option Said) (before : Option FirstWeak) → before ≡ None → KeepsWeak names found before → KeepsWeak names (option_or found (Some entry)) (Some weak)
first_kept names entry weak is None before none keeps = is
first_kept names entry weak is (Some e) None none keeps = absurd keeps
first_kept names entry weak is (Some e) (Some w) none keeps = absurd cc

again_kept : (names : List (List ℕ)) (entry : Said) (weak : FirstWeak) (found : Option Said) (before : Option FirstWeak) → before ≡ Some weak → KeepsWeak names found before → KeepsWeak names (option_or found (Some entry)) before
again_kept names entry weak None before some keeps = absurd cc
again_kept names entry weak (Some e) before some keeps = keeps

-- the first of its name
pub weak_first : (names : List (List ℕ)) (earlier : List Said) (position : ℕ) (bytes : List ℕ) (weak : Weak) (noted : NotedWeak) (old : List (Option FirstWeak)) → IsDistinct same_name names → get_or old noted.name None ≡ None → NotesWeak names bytes weak noted → AreWeaks names earlier old → AreWeaks names (earlier ++ said position bytes weak ∷ []) (set old noted.name (Some (record { «module» = position; default = noted.default })))
weak_first names earlier position bytes weak noted old distinct none notes was =
    let entry = said position bytes weak in
    let n = noted.name in
    let first : FirstWeak = record { «module» = position; default = noted.default } in
    let lt : n < length old = omega (arith, number_within names n weak.name notes.named, was.long) in
    let keeps : KeepsSaid names entry first = record { module_is = refl; default_is = notes.default_is } in
    weaks_more names earlier entry n old (set old n (Some first)) (Some first) distinct notes.named was (changed_set old n (Some first) lt)
    (λ found before. first_kept names entry first keeps found (get_or old n None) none before)

-- another one
pub weak_again : (names : List (List ℕ)) (earlier : List Said) (position : ℕ) (bytes : List ℕ) (weak : Weak) (noted : NotedWeak) (old : List (Option FirstWeak)) (first : FirstWeak) → IsDistinct same_name names → get_or old noted.name None ≡ Some first → NotesWeak names bytes weak noted → AreWeaks names earlier old → AreWeaks names (earlier ++ said position bytes weak ∷ []) old
weak_again names earlier position bytes weak noted old first distinct some notes was =
    let entry = said position bytes weak in
    let n = noted.name in
    weaks_more names earlier entry n old old (get_or old n None) distinct notes.named was (changed_not old n (get_or old n None) refl)
    (λ found before. again_kept names entry first found (get_or old n None) some before)

-- ---- in a loop over weak externals

abbrev pub no_weak : Weak
no_weak = record { name = []; symbol = 0; tag = 0 }

pub weak_at : (names : List (List ℕ)) (bytes : List ℕ) (weaks : List Weak) (notes : List NotedWeak) (i : ℕ) (e : NotedWeak) → AllZip (NotesWeak names bytes) weaks notes → i < length notes → NotesWeak names bytes (get_or weaks i no_weak) (get_or notes i e)
weak_at names bytes weaks notes i e zipped lt =
    zip_at (NotesWeak names bytes) weaks notes i no_weak e zipped (omega (arith, zip_length (NotesWeak names bytes) weaks notes zipped))

pub weak_known : (names : List (List ℕ)) (earlier : List Said) (position : ℕ) (bytes : List ℕ) (weak : Weak) (noted : NotedWeak) (old : List (Option FirstWeak)) → IsDistinct same_name names → is_some (get_or old noted.name None) ≡ true → NotesWeak names bytes weak noted → AreWeaks names earlier old → AreWeaks names (earlier ++ said position bytes weak ∷ []) old
weak_known names earlier position bytes weak noted old distinct some notes was = go (get_or old noted.name None) refl some
  where
    go : (o : Option FirstWeak) → get_or old noted.name None ≡ o → is_some o ≡ true → AreWeaks names (earlier ++ said position bytes weak ∷ []) old
    go None e s = absurd cc
    go (Some first) e s = weak_again names earlier position bytes weak noted old first distinct e notes was

-- of no modules there are none
pub no_weaks : (names : List (List ℕ)) (n : ℕ) (weaks : List (Option FirstWeak)) → weaks ≡ replicate n None → n ≡ length names → AreWeaks names [] weaks
no_weaks names n weaks is count = record {
  long = ap length is ∙ length-replicate n None ∙ count;
  first = λ m other named. ap (λ (l : List (Option FirstWeak)). get_or l m None) is ∙ none_at None n m refl;
}

-- no module has one
pub none_said : (names : List (List ℕ)) (kept : List ModuleNames) (weaks : List (Option FirstWeak)) → All (NotesModule names) kept → list_any has_weaks kept ≡ false → weaks ≡ [] → TellsWeaks names (all_weaks (map noted_view kept)) weaks
none_said names kept weaks noted none empty =
    subst (TellsWeaks names (all_weaks (map noted_view kept))) (sym empty)
    (subst (λ (es : List Said). TellsWeaks names es []) (sym nothing) (λ number name numbered. refl))
  where
    nothing : all_weaks (map noted_view kept) ≡ []
    nothing = none_of_all said_by kept (λ k m lt is. ap (map (said k m.bytes.now)) (zip_none (NotesWeak names m.bytes.now) (weaks_of m.bytes.now) m.weaks.items (none_kept m.weaks.items (any_false has_weaks kept k m none lt is)) (noted_at names kept k m noted lt is).weaks))
