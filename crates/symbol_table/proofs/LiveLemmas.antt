-- One more live definition: the first of its name, and the clash that it makes.
use Rattle.std.proofs.Common.{◌≡◌, ℕ, zero, suc, ◌+◌, ◌<◌, Bool, true, false, cond, nat_eq, List, [], ◌∷◌, ◌++◌, length, map, take, get_or, replicate, Option, Some, None, refl, sym, ap, subst, ◌∙◌, eqb-true, arith}
use Rattle.std.proofs.Math.Seq.{take-length}
use Rattle.std.proofs.Math.ListN.{set}
use Rattle.std.specs.Prelude.{option_map, option_and_then, filter, is_some}
use Rattle.std.specs.Option.{option_or}
use Rattle.std.specs.List.{find, AllZip, IsDistinct}
use Rattle.std.proofs.lemmas.List.{take-append-le, length-append, length-replicate}
use Rattle.link_base.specs.NameText.{same_name}
use Rattle.link_base.specs.Refusals.{first_refusal_below}
use Rattle.link_base.proofs.RefusalLemmas.{or_none, same_below, one_more}
use Rattle.link_base.proofs.OptionLemmas.{map_or}
use Rattle.module_view.specs.declared.definition.Definition.{Definition}
use Rattle.module_view.specs.declared.definition.Place.{Place}
use Rattle.symbol_table.specs.declared.meaning.Clash.{Clash}
use Rattle.symbol_names.specs.declared.noted.NotedDefinition.{NotedDefinition}
use Rattle.symbol_table.specs.declared.lives.FirstLive.{FirstLive}
use Rattle.symbol_names.specs.Lists.{Provided, provided, has_name, is_live, is_live_at}
use Rattle.symbol_table.specs.Clash.{no_definition, entry_at, clash_with, clash_at, clash_in}
use Rattle.symbol_names.specs.Interning.{Numbers, NotesDefinition}
use Rattle.symbol_table.specs.Passes.{live_of, AreFirst, AreLives, clash_with_first}
use Rattle.symbol_names.proofs.NumberLemmas.{number_within, same_number, zip_at, zip_length}
use Rattle.symbol_table.proofs.PassLemmas.{none_at, find_last, filtered_more, Changed, changed_set, changed_not}

-- ---- names

first_more : (names : List (List ℕ)) (earlier : List Provided) (entry : Provided) (n : ℕ) (old new : List (Option FirstLive)) → IsDistinct same_name names → Numbers names n entry.definition.name → AreFirst names earlier old → Changed old new n (option_or (get_or old n None) (Some (live_of entry))) → AreFirst names (earlier ++ entry ∷ []) new
first_more names earlier entry n old new distinct named was changed = λ m other is. go m other is (nat_eq n m) refl
  where
    go : (m : ℕ) (other : List ℕ) → Numbers names m other → (b : Bool) → nat_eq n m ≡ b → get_or new m None ≡ option_map live_of (find (has_name other) (earlier ++ entry ∷ []))
    go m other is true e =
        let same : n ≡ m = eqb-true n m e in
        ap (λ (k : ℕ). get_or new k None) (sym same) ∙ changed.here
        ∙ ap (λ (k : ℕ). option_or (get_or old k None) (Some (live_of entry))) same
        ∙ ap (λ (o : Option FirstLive). option_or o (Some (live_of entry))) (was m other is)
        ∙ sym (map_or live_of (find (has_name other) earlier) (Some entry))
        ∙ ap (option_map live_of) (sym (find_last (has_name other) earlier entry true (same_number names m n other entry.definition.name distinct is named ∙ e)))
    go m other is false e =
        changed.others m e ∙ was m other is
        ∙ ap (option_map live_of) (sym (or_none (find (has_name other) earlier)) ∙ sym (find_last (has_name other) earlier entry false (same_number names m n other entry.definition.name distinct is named ∙ e)))

-- ---- clashes

entry_before : (entries : List Provided) (entry : Provided) (k : ℕ) → k < length entries → entry_at (entries ++ entry ∷ []) k ≡ entry_at entries k
entry_before [] entry k lt = absurd (omega arith)
entry_before (first ∷ rest) entry zero lt = refl
entry_before (first ∷ rest) entry (suc k) lt = entry_before rest entry k (omega arith)

entry_last : (entries : List Provided) (entry : Provided) → entry_at (entries ++ entry ∷ []) (length entries) ≡ entry
entry_last [] entry = refl
entry_last (first ∷ rest) entry = entry_last rest entry

clash_before : (entries : List Provided) (entry : Provided) (k : ℕ) → k < length entries → clash_at (entries ++ entry ∷ []) k ≡ clash_at entries k
clash_before entries entry k lt =
    rw (entry_before entries entry k lt, take-append-le k entries (entry ∷ []) (omega arith)) refl

clash_last : (entries : List Provided) (entry : Provided) → clash_at (entries ++ entry ∷ []) (length entries) ≡ option_and_then (clash_with entry) (find (has_name entry.definition.name) entries)
clash_last entries entry =
    rw (entry_last entries entry, take-append-le (length entries) entries (entry ∷ []) (omega arith)) (ap (λ (es : List Provided). option_and_then (clash_with entry) (find (has_name entry.definition.name) es)) (take-length entries))

kept_clash : (entry : Provided) (found : Option Provided) → option_and_then (clash_with entry) found ≡ option_and_then (clash_with_first entry) (option_map live_of found)
kept_clash entry None = refl
kept_clash entry (Some e) = refl

pub clash_more : (entries : List Provided) (entry : Provided) (kept : Option FirstLive) → kept ≡ option_map live_of (find (has_name entry.definition.name) entries) → clash_in (entries ++ entry ∷ []) ≡ option_or (clash_in entries) (option_and_then (clash_with_first entry) kept)
clash_more entries entry kept is =
    let n = length entries in
    ap (λ (m : ℕ). first_refusal_below m (clash_at (entries ++ entry ∷ []))) (length-append entries (entry ∷ []))
    ∙ one_more n (clash_at (entries ++ entry ∷ []))
    ∙ ap (λ (o : Option Clash). option_or o (clash_at (entries ++ entry ∷ []) n)) (same_below n (clash_at (entries ++ entry ∷ [])) (clash_at entries) (clash_before entries entry))
    ∙ ap (λ (o : Option Clash). option_or (clash_in entries) o)
    (clash_last entries entry ∙ kept_clash entry (find (has_name entry.definition.name) entries)
    ∙ ap (option_and_then (clash_with_first entry)) (sym is))

pub none_or : {A : Type 0} (a b : Option A) → is_some a ≡ false → b ≡ option_or a b
none_or None b e = refl
none_or (Some x) b e = absurd cc

pub some_or : {A : Type 0} (a b : Option A) → is_some a ≡ true → a ≡ option_or a b
some_or None b e = absurd cc
some_or (Some x) b e = refl

-- ---- both

lives_more : (names : List (List ℕ)) (earlier : List Provided) (entry : Provided) (n : ℕ) (old new : List (Option FirstLive)) (clash more : Option Clash) → IsDistinct same_name names → Numbers names n entry.definition.name → AreLives names earlier old clash → Changed old new n (option_or (get_or old n None) (Some (live_of entry))) → more ≡ option_or clash (option_and_then (clash_with_first entry) (get_or old n None)) → AreLives names (earlier ++ entry ∷ []) new more
lives_more names earlier entry n old new clash more distinct named was changed is = record {
  long = changed.long ∙ was.long;
  first = first_more names earlier entry n old new distinct named was.first changed;
  clash_is =
      is ∙ ap (λ (o : Option Clash). option_or o (option_and_then (clash_with_first entry) (get_or old n None))) was.clash_is
      ∙ sym (clash_more earlier entry (get_or old n None) (was.first n entry.definition.name named));
}

abbrev live_at : ℕ → Place → FirstLive
live_at position place = record { «module» = position; place = place }

-- the first of its name
pub live_first : (names : List (List ℕ)) (earlier : List Provided) (position : ℕ) (definition : Definition) (noted : NotedDefinition) (old : List (Option FirstLive)) (clash : Option Clash) → IsDistinct same_name names → get_or old noted.name None ≡ None → NotesDefinition names definition noted → AreLives names earlier old clash → AreLives names (earlier ++ provided position definition ∷ []) (set old noted.name (Some (record { «module» = position; place = noted.place }))) clash
live_first names earlier position definition noted old clash distinct none notes was =
    let entry = provided position definition in
    let n = noted.name in
    let first : FirstLive = live_at position noted.place in
    let is : Some first ≡ option_or (get_or old n None) (Some (live_of entry)) =
    ap (λ (p : Place). Some (live_at position p)) notes.place_is ∙ ap (λ (o : Option FirstLive). option_or o (Some (live_of entry))) (sym none) in
    let lt : n < length old = omega (arith, number_within names n definition.name notes.named, was.long) in
    lives_more names earlier entry n old (set old n (Some first)) clash clash distinct notes.named was
    (subst (Changed old (set old n (Some first)) n) is (changed_set old n (Some first) lt))
    (sym (or_none clash) ∙ ap (λ (o : Option FirstLive). option_or clash (option_and_then (clash_with_first entry) o)) (sym none))

-- another one
pub live_again : (names : List (List ℕ)) (earlier : List Provided) (position : ℕ) (definition : Definition) (noted : NotedDefinition) (old : List (Option FirstLive)) (first : FirstLive) (clash more : Option Clash) → IsDistinct same_name names → get_or old noted.name None ≡ Some first → NotesDefinition names definition noted → AreLives names earlier old clash → more ≡ option_or clash (clash_with_first (provided position definition) first) → AreLives names (earlier ++ provided position definition ∷ []) old more
live_again names earlier position definition noted old first clash more distinct some notes was is =
    let entry = provided position definition in
    let n = noted.name in
    lives_more names earlier entry n old old clash more distinct notes.named was
    (changed_not old n (option_or (get_or old n None) (Some (live_of entry))) (some ∙ ap (λ (o : Option FirstLive). option_or o (Some (live_of entry))) (sym some)))
    (is ∙ ap (λ (o : Option FirstLive). option_or clash (option_and_then (clash_with_first entry) o)) (sym some))

-- ---- in a loop over definitions

pub definition_at : List Definition → ℕ → Definition
definition_at definitions i = get_or definitions i no_definition.definition

pub noted_at : (names : List (List ℕ)) (definitions : List Definition) (notes : List NotedDefinition) (i : ℕ) (e : NotedDefinition) → AllZip (NotesDefinition names) definitions notes → i < length notes → NotesDefinition names (definition_at definitions i) (get_or notes i e)
unfolding definition_at
noted_at names definitions notes i e zipped lt =
    zip_at (NotesDefinition names) definitions notes i no_definition.definition e zipped (omega (arith, zip_length (NotesDefinition names) definitions notes zipped))

pub live_more : (names : List (List ℕ)) (rows : List (List Bool)) (earlier : List Provided) (position : ℕ) (definitions : List Definition) (notes : List NotedDefinition) (i : ℕ) (e : NotedDefinition) (b : Bool) → AllZip (NotesDefinition names) definitions notes → i < length notes → is_live_at rows position (get_or notes i e).place ≡ b → earlier ++ filter (is_live rows) (map (provided position) (take (i + 1) definitions)) ≡ (earlier ++ filter (is_live rows) (map (provided position) (take i definitions))) ++ cond b (provided position (definition_at definitions i) ∷ []) []
unfolding definition_at
live_more names rows earlier position definitions notes i e b zipped lt is =
    filtered_more (is_live rows) (provided position) earlier definitions i no_definition.definition b (omega (arith, zip_length (NotesDefinition names) definitions notes zipped))
    (ap (is_live_at rows position) (sym (noted_at names definitions notes i e zipped lt).place_is) ∙ is)

-- of no modules there are none
pub no_lives : (names : List (List ℕ)) (n : ℕ) (firsts : List (Option FirstLive)) → firsts ≡ replicate n None → n ≡ length names → AreLives names [] firsts None
unfolding first_refusal_below
no_lives names n firsts is count = record {
  long = ap length is ∙ length-replicate n None ∙ count;
  first = λ m other named. ap (λ (l : List (Option FirstLive)). get_or l m None) is ∙ none_at None n m refl;
  clash_is = refl;
}
