-- One more key and its value: the first value of its key, and the mismatch that it makes.
use Rattle.std.proofs.Common.{◌≡◌, ℕ, zero, suc, ◌<◌, Bool, true, false, cond, List, [], ◌∷◌, ◌++◌, length, Option, Some, None, refl, sym, ap, subst, ◌∙◌, append_assoc, arith}
use Rattle.std.proofs.Math.Seq.{take-length}
use Rattle.std.specs.Prelude.{option_map, option_and_then}
use Rattle.std.specs.Option.{option_or}
use Rattle.std.specs.List.{find}
use Rattle.std.proofs.lemmas.List.{append-nil, take-append-le, length-append}
use Rattle.std.proofs.lemmas.List.Folds.{find-append}
use Rattle.link_base.specs.NameText.{same_name}
use Rattle.link_base.specs.Refusals.{first_refusal_below}
use Rattle.link_base.proofs.RefusalLemmas.{or_none, same_below, one_more}
use Rattle.link_base.proofs.NameTextLemmas.{same_is}
use Rattle.link_base.proofs.OptionLemmas.{map_or}
use Rattle.link_directives.specs.declared.mismatch.Mismatch.{Mismatch}
use Rattle.link_directives.specs.LinkDirectives.{entry_at, has_key, mismatch_with, mismatch_at, mismatch_in}
use Rattle.link_directives.specs.Passes.{value_of, first_value, KeepsFirsts}

-- ---- the first value of a key

map_cond : (entry : List ℕ × List ℕ) (b : Bool) → option_map value_of (cond b (Some entry) None) ≡ cond b (Some entry.1) None
map_cond entry true = refl
map_cond entry false = refl

first_more : (entries : List (List ℕ × List ℕ)) (key value other : List ℕ) → first_value (entries ++ (key, value) ∷ []) other ≡ option_or (first_value entries other) (cond (same_name key other) (Some value) None)
first_more entries key value other =
    ap (option_map value_of) (find-append (has_key other) entries ((key, value) ∷ []))
    ∙ map_or value_of (find (has_key other) entries) (cond (same_name key other) (Some (key, value)) None)
    ∙ ap (option_or (first_value entries other)) (map_cond (key, value) (same_name key other))

-- ---- mismatches

entry_before : (entries : List (List ℕ × List ℕ)) (entry : List ℕ × List ℕ) (k : ℕ) → k < length entries → entry_at (entries ++ entry ∷ []) k ≡ entry_at entries k
entry_before [] entry k lt = absurd (omega arith)
entry_before (first ∷ rest) entry zero lt = refl
entry_before (first ∷ rest) entry (suc k) lt = entry_before rest entry k (omega arith)

entry_last : (entries : List (List ℕ × List ℕ)) (entry : List ℕ × List ℕ) → entry_at (entries ++ entry ∷ []) (length entries) ≡ entry
entry_last [] entry = refl
entry_last (first ∷ rest) entry = entry_last rest entry

mismatch_before : (entries : List (List ℕ × List ℕ)) (entry : List ℕ × List ℕ) (k : ℕ) → k < length entries → mismatch_at (entries ++ entry ∷ []) k ≡ mismatch_at entries k
mismatch_before entries entry k lt =
    rw (entry_before entries entry k lt, take-append-le k entries (entry ∷ []) (omega arith)) refl

mismatch_last : (entries : List (List ℕ × List ℕ)) (entry : List ℕ × List ℕ) → mismatch_at (entries ++ entry ∷ []) (length entries) ≡ option_and_then (mismatch_with entry) (find (has_key entry.0) entries)
mismatch_last entries entry =
    rw (entry_last entries entry, take-append-le (length entries) entries (entry ∷ []) (omega arith)) (ap (λ (es : List (List ℕ × List ℕ)). option_and_then (mismatch_with entry) (find (has_key entry.0) es)) (take-length entries))

mismatch_more : (entries : List (List ℕ × List ℕ)) (entry : List ℕ × List ℕ) → mismatch_in (entries ++ entry ∷ []) ≡ option_or (mismatch_in entries) (option_and_then (mismatch_with entry) (find (has_key entry.0) entries))
mismatch_more entries entry =
    let n = length entries in
    ap (λ (m : ℕ). first_refusal_below m (mismatch_at (entries ++ entry ∷ []))) (length-append entries (entry ∷ []))
    ∙ one_more n (mismatch_at (entries ++ entry ∷ []))
    ∙ ap (λ (o : Option Mismatch). option_or o (mismatch_at (entries ++ entry ∷ []) n)) (same_below n (mismatch_at (entries ++ entry ∷ [])) (mismatch_at entries) (mismatch_before entries entry))
    ∙ ap (option_or (mismatch_in entries)) (mismatch_last entries entry)

abbrev against : List ℕ → List ℕ → List ℕ → Option Mismatch
against key value first = mismatch_with (key, value) (key, first)

by_value : (key value : List ℕ) (found : Option (List ℕ × List ℕ)) → option_and_then (mismatch_with (key, value)) found ≡ option_and_then (against key value) (option_map value_of found)
by_value key value None = refl
by_value key value (Some entry) = refl

-- where none is told yet, the one that an entry makes is told
told_next : (earlier : List (List ℕ × List ℕ)) (key value : List ℕ) (value_at : List ℕ → Option (List ℕ)) → KeepsFirsts earlier value_at None → mismatch_in (earlier ++ (key, value) ∷ []) ≡ option_and_then (against key value) (value_at key)
told_next earlier key value value_at was =
    mismatch_more earlier (key, value)
    ∙ ap (λ (o : Option Mismatch). option_or o (option_and_then (mismatch_with (key, value)) (find (has_key key) earlier))) (sym was.told_is)
    ∙ by_value key value (find (has_key key) earlier)
    ∙ ap (option_and_then (against key value)) (sym (was.firsts refl key))

mismatch_stays : (xs ys : List (List ℕ × List ℕ)) (mismatch : Mismatch) → mismatch_in xs ≡ Some mismatch → mismatch_in (xs ++ ys) ≡ Some mismatch
mismatch_stays xs [] mismatch is = ap mismatch_in (append-nil xs) ∙ is
mismatch_stays xs (y ∷ ys) mismatch is =
    ap mismatch_in (sym (append_assoc xs (y ∷ []) ys))
    ∙ mismatch_stays (xs ++ y ∷ []) ys mismatch
    (mismatch_more xs y ∙ ap (λ (o : Option Mismatch). option_or o (option_and_then (mismatch_with y) (find (has_key y.0) xs))) is)

-- ---- both

-- no entries
pub keeps_none : (value_at : List ℕ → Option (List ℕ)) → ((key : List ℕ) → value_at key ≡ None) → KeepsFirsts [] value_at None
unfolding first_refusal_below
keeps_none value_at none = record { told_is = refl; firsts = λ e key. none key }

-- the first of its key
pub keeps_new : (earlier : List (List ℕ × List ℕ)) (key value : List ℕ) (old new : List ℕ → Option (List ℕ)) → KeepsFirsts earlier old None → old key ≡ None → ((other : List ℕ) → new other ≡ cond (same_name key other) (Some value) (old other)) → KeepsFirsts (earlier ++ (key, value) ∷ []) new None
keeps_new earlier key value old new was none now = record {
  told_is = sym (told_next earlier key value old was ∙ ap (option_and_then (against key value)) none);
  firsts = λ e other. now other ∙ go other (same_name key other) refl ∙ sym (first_more earlier key value other);
}
  where
    go : (other : List ℕ) (b : Bool) → same_name key other ≡ b → cond b (Some value) (old other) ≡ option_or (first_value earlier other) (cond b (Some value) None)
    go other true same =
        ap (λ (o : Option (List ℕ)). option_or o (Some value))
        (sym none ∙ ap old (same_is key other same) ∙ was.firsts refl other)
    go other false differs = was.firsts refl other ∙ sym (or_none (first_value earlier other))

-- another one
pub keeps_known : (earlier : List (List ℕ × List ℕ)) (key value first : List ℕ) (old : List ℕ → Option (List ℕ)) (told : Option Mismatch) → KeepsFirsts earlier old None → old key ≡ Some first → told ≡ mismatch_with (key, value) (key, first) → KeepsFirsts (earlier ++ (key, value) ∷ []) old told
keeps_known earlier key value first old told was known is = record {
  told_is = is ∙ sym (told_next earlier key value old was ∙ ap (option_and_then (against key value)) known);
  firsts = λ e other. go other (same_name key other) refl ∙ sym (first_more earlier key value other);
}
  where
    go : (other : List ℕ) (b : Bool) → same_name key other ≡ b → old other ≡ option_or (first_value earlier other) (cond b (Some value) None)
    go other true same =
        let there : old other ≡ Some first = ap old (sym (same_is key other same)) ∙ known in
        there ∙ ap (λ (o : Option (List ℕ)). option_or o (Some value)) (sym there ∙ was.firsts refl other)
    go other false differs = was.firsts refl other ∙ sym (or_none (first_value earlier other))

-- another one, noted in the place of the first
pub keeps_again : (earlier : List (List ℕ × List ℕ)) (key value first : List ℕ) (old new : List ℕ → Option (List ℕ)) (told : Option Mismatch) → KeepsFirsts earlier old None → old key ≡ Some first → told ≡ mismatch_with (key, value) (key, first) → ((other : List ℕ) → new other ≡ cond (same_name key other) (Some value) (old other)) → KeepsFirsts (earlier ++ (key, value) ∷ []) new told
keeps_again earlier key value first old new told was known is now =
    let kept = keeps_known earlier key value first old told was known is in
    record {
      told_is = kept.told_is;
      firsts = λ e other. now other ∙ go e other (same_name key other) refl ∙ kept.firsts e other;
    }
  where
    other_value : Mismatch
    other_value = record { key = key; first = first; second = value }

    one_value : (b : Bool) → same_name first value ≡ b → cond b None (Some other_value) ≡ None → first ≡ value
    one_value true same e = same_is first value same
    one_value false same e = absurd cc

    go : told ≡ None → (other : List ℕ) (b : Bool) → same_name key other ≡ b → cond b (Some value) (old other) ≡ old other
    go e other true same =
        ap Some (sym (one_value (same_name first value) refl (sym is ∙ e))) ∙ sym known ∙ ap old (same_is key other same)
    go e other false differs = refl

-- once one is told, it stays the first
pub keeps_told : (entries more all : List (List ℕ × List ℕ)) (value_at : List ℕ → Option (List ℕ)) (told : Option Mismatch) (mismatch : Mismatch) → entries ++ more ≡ all → told ≡ Some mismatch → KeepsFirsts entries value_at told → KeepsFirsts all value_at (Some mismatch)
keeps_told entries more all value_at told mismatch joined is was = record {
  told_is = sym (ap mismatch_in (sym joined) ∙ mismatch_stays entries more mismatch (sym was.told_is ∙ is));
  firsts = λ e. absurd (cc);
}

pub keeps_same : (entries others : List (List ℕ × List ℕ)) (value_at : List ℕ → Option (List ℕ)) (told : Option Mismatch) → entries ≡ others → told ≡ None → KeepsFirsts entries value_at told → KeepsFirsts others value_at None
keeps_same entries others value_at told same none was =
    subst (λ (o : Option Mismatch). KeepsFirsts others value_at o) none
    (subst (λ (es : List (List ℕ × List ℕ)). KeepsFirsts es value_at told) same was)
