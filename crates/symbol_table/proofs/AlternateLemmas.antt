-- One more alternate: the first of its name.
use Rattle.std.proofs.Common.{◌≡◌, ℕ, ◌<◌, Bool, true, false, nat_eq, List, [], ◌∷◌, ◌++◌, length, map, get_or, replicate, Option, Some, None, refl, sym, ap, subst, ◌∙◌, eqb-true, arith}
use Rattle.std.proofs.Math.ListN.{set}
use Rattle.std.specs.Prelude.{is_some}
use Rattle.std.specs.Option.{option_or}
use Rattle.std.proofs.lemmas.List.{length-replicate}
use Rattle.std.specs.List.{find, list_any, All, AllZip, IsDistinct}
use Rattle.link_base.specs.NameText.{same_name}
use Rattle.link_base.proofs.RefusalLemmas.{or_none}
use Rattle.symbol_names.specs.declared.noted.NotedAlternate.{NotedAlternate}
use Rattle.symbol_names.specs.Alternates.{is_left, alternates_by}
use Rattle.symbol_names.specs.Lists.{of_all}
use Rattle.symbol_names.specs.Kept.{noted_view}
use Rattle.symbol_names.specs.declared.noted.ModuleNames.{ModuleNames}
use Rattle.symbol_names.specs.Interning.{Numbers, NotesAlternate, NotesModule}
use Rattle.symbol_table.specs.Passes.{KeepsAlternate, has_alternates, TellsAlternates, AreAlternates}
use Rattle.symbol_names.proofs.NumberLemmas.{number_within, same_number, zip_at, zip_length}
use Rattle.symbol_table.proofs.PassLemmas.{none_at, find_last, Changed, changed_set, changed_not, none_of_all, zip_none, none_kept, any_false, noted_at}

alternates_more : (names : List (List ℕ)) (earlier : List (List ℕ × List ℕ)) (entry : List ℕ × List ℕ) (n : ℕ) (old new : List (Option ℕ)) (y : Option ℕ) → IsDistinct same_name names → Numbers names n entry.0 → AreAlternates names earlier old → Changed old new n y → ((found : Option (List ℕ × List ℕ)) → KeepsAlternate names found (get_or old n None) → KeepsAlternate names (option_or found (Some entry)) y) → AreAlternates names (earlier ++ entry ∷ []) new
alternates_more names earlier entry n old new y distinct named was changed more = record {
  long = changed.long ∙ was.long;
  first = λ m other is. go m other is (nat_eq n m) refl;
}
  where
    go : (m : ℕ) (other : List ℕ) → Numbers names m other → (b : Bool) → nat_eq n m ≡ b → KeepsAlternate names (find (is_left other) (earlier ++ entry ∷ [])) (get_or new m None)
    go m other is true e =
        let same : n ≡ m = eqb-true n m e in
        let last = find_last (is_left other) earlier entry true (same_number names m n other entry.0 distinct is named ∙ e) in
        let here : get_or new m None ≡ y = ap (λ (k : ℕ). get_or new k None) (sym same) ∙ changed.here in
        let before : KeepsAlternate names (find (is_left other) earlier) (get_or old n None) =
        subst (λ (k : ℕ). KeepsAlternate names (find (is_left other) earlier) (get_or old k None)) (sym same) (was.first m other is) in
        subst (λ (f : Option (List ℕ × List ℕ)). KeepsAlternate names f (get_or new m None)) (sym last)
        (subst (KeepsAlternate names (option_or (find (is_left other) earlier) (Some entry))) (sym here) (more (find (is_left other) earlier) before))
    go m other is false e =
        let last = find_last (is_left other) earlier entry false (same_number names m n other entry.0 distinct is named ∙ e) in
        subst (λ (f : Option (List ℕ × List ℕ)). KeepsAlternate names f (get_or new m None)) (sym (last ∙ or_none (find (is_left other) earlier)))
        (subst (KeepsAlternate names (find (is_left other) earlier)) (sym (changed.others m e)) (was.first m other is))

first_kept : (names : List (List ℕ)) (entry : List ℕ × List ℕ) (number : ℕ) → Numbers names number entry.1 → (found : Option (List ℕ × List ℕ)) (before : Option ℕ) → before ≡ None → KeepsAlternate names found before → KeepsAlternate names (option_or found (Some entry)) (Some number)
first_kept names entry number is None before none keeps = is
first_kept names entry number is (Some e) None none keeps = absurd keeps
first_kept names entry number is (Some e) (Some k) none keeps = absurd cc

again_kept : (names : List (List ℕ)) (entry : List ℕ × List ℕ) (found : Option (List ℕ × List ℕ)) (before : Option ℕ) → is_some before ≡ true → KeepsAlternate names found before → KeepsAlternate names (option_or found (Some entry)) before
again_kept names entry None before some keeps = absurd cc
again_kept names entry (Some e) before some keeps = keeps

-- the first of its name
pub alternate_first : (names : List (List ℕ)) (earlier : List (List ℕ × List ℕ)) (entry : List ℕ × List ℕ) (noted : NotedAlternate) (old : List (Option ℕ)) → IsDistinct same_name names → get_or old noted.left None ≡ None → NotesAlternate names entry noted → AreAlternates names earlier old → AreAlternates names (earlier ++ entry ∷ []) (set old noted.left (Some noted.right))
alternate_first names earlier entry noted old distinct none notes was =
    let n = noted.left in
    let lt : n < length old = omega (arith, number_within names n entry.0 notes.left, was.long) in
    alternates_more names earlier entry n old (set old n (Some noted.right)) (Some noted.right) distinct notes.left was (changed_set old n (Some noted.right) lt)
    (λ found before. first_kept names entry noted.right notes.right found (get_or old n None) none before)

-- another one
pub alternate_again : (names : List (List ℕ)) (earlier : List (List ℕ × List ℕ)) (entry : List ℕ × List ℕ) (noted : NotedAlternate) (old : List (Option ℕ)) → IsDistinct same_name names → is_some (get_or old noted.left None) ≡ true → NotesAlternate names entry noted → AreAlternates names earlier old → AreAlternates names (earlier ++ entry ∷ []) old
alternate_again names earlier entry noted old distinct some notes was =
    let n = noted.left in
    alternates_more names earlier entry n old old (get_or old n None) distinct notes.left was (changed_not old n (get_or old n None) refl)
    (λ found before. again_kept names entry found (get_or old n None) some before)

-- ---- in a loop over alternates

abbrev pub no_pair : List ℕ × List ℕ
no_pair = ([], [])

pub pair_at : (names : List (List ℕ)) (pairs : List (List ℕ × List ℕ)) (notes : List NotedAlternate) (i : ℕ) (e : NotedAlternate) → AllZip (NotesAlternate names) pairs notes → i < length notes → NotesAlternate names (get_or pairs i no_pair) (get_or notes i e)
pair_at names pairs notes i e zipped lt =
    zip_at (NotesAlternate names) pairs notes i no_pair e zipped (omega (arith, lt, zip_length (NotesAlternate names) pairs notes zipped))

-- each left name has its number
pub lefts_within : (names : List (List ℕ)) (pairs : List (List ℕ × List ℕ)) (notes : List NotedAlternate) → AllZip (NotesAlternate names) pairs notes → All (λ alternate. alternate.left < length names) notes
lefts_within names pairs notes zipped = λ k d lt.
    number_within names (get_or notes k d).left (get_or pairs k no_pair).0 (pair_at names pairs notes k d zipped lt).left

-- before the first there are none
pub no_alternates : (names : List (List ℕ)) (n : ℕ) (alternates : List (Option ℕ)) → alternates ≡ replicate n None → n ≡ length names → AreAlternates names [] alternates
no_alternates names n alternates is count = record {
  long = ap length is ∙ length-replicate n None ∙ count;
  first = λ m other named. ap (λ (l : List (Option ℕ)). get_or l m None) is ∙ none_at None n m refl;
}

-- no one gives an alternate
pub none_given : (names : List (List ℕ)) (kept : List ModuleNames) (given : List NotedAlternate) (alternates : List (Option ℕ)) → All (NotesModule names) kept → given ≡ [] → list_any has_alternates kept ≡ false → alternates ≡ [] → (pairs : List (List ℕ × List ℕ)) → AllZip (NotesAlternate names) pairs given → TellsAlternates names (pairs ++ of_all alternates_by (map noted_view kept)) alternates
none_given names kept given alternates noted no_words none empty pairs zipped =
    subst (TellsAlternates names (pairs ++ of_all alternates_by (map noted_view kept))) (sym empty)
    (subst (λ (es : List (List ℕ × List ℕ)). TellsAlternates names (es ++ of_all alternates_by (map noted_view kept)) []) (sym (zip_none (NotesAlternate names) pairs given no_words zipped))
    (subst (λ (es : List (List ℕ × List ℕ)). TellsAlternates names es []) (sym nothing) (λ number name numbered. refl)))
  where
    nothing : of_all alternates_by (map noted_view kept) ≡ []
    nothing = none_of_all alternates_by kept (λ k m lt is. zip_none (NotesAlternate names) (alternates_by k m.bytes.now) m.alternates.items (none_kept m.alternates.items (any_false has_alternates kept k m none lt is)) (noted_at names kept k m noted lt is).alternates)
