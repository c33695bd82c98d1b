-- The first row that asks for what an earlier one has, in a loop over rows.
use Rattle.std.proofs.Common.{◌≡◌, ℕ, ◌+◌, ◌<◌, Bool, true, false, cond, not, List, [], ◌∷◌, ◌++◌, length, take, map, Option, Some, None, refl, sym, ap, ◌∙◌}
use Rattle.std.proofs.lemmas.Bool.{not-false, not-true}
use Rattle.std.specs.List.{cons_option, list_any}
use Rattle.std.proofs.lemmas.List.{map-append}
use Rattle.std.proofs.lemmas.List.Elements.{filter_map-append}
use Rattle.std.proofs.lemmas.Grind.{take_at_read}
use Rattle.indexmap.specs.IndexSet.{insert_key}
use Rattle.std.specs.Option.{option_to_list}
use Rattle.directives.specs.declared.item.Export.{Export}
use Rattle.link_base.specs.Bytes.{first_below}
use Rattle.link_base.specs.NameText.{same_name}
use Rattle.link_base.proofs.CallerLemmas.{first_below-more, first_below-found}
use Rattle.export_tables.specs.Ordinals.{no_export, row_at, asked, is_zero, asks_for_zero, is_among, has_earlier_name, has_earlier_ordinal}

-- ---- before a row

-- the names of the rows before it, of which none comes twice
pub record NamesSoFar (rows : List Export) (index : ℕ) (keys : List (List ℕ)) : Type 0 where
  pub names : keys ≡ map (λ row. row.name) (take index rows)
  pub none : first_below index (has_earlier_name rows) ≡ None

-- the ordinals that they ask for, of which none comes twice
pub record OrdinalsSoFar (rows : List Export) (index : ℕ) (keys : List ℕ) : Type 0 where
  pub ordinals : keys ≡ asked (take index rows)
  pub none : first_below index (has_earlier_ordinal rows) ≡ None

pub take_next : (rows : List Export) (index : ℕ) → index < length rows → take (index + 1) rows ≡ take index rows ++ row_at rows index ∷ []
take_next rows index lt = (take_at_read rows index no_export lt).1

-- ---- names

name_among : (rows : List Export) (index : ℕ) (keys : List (List ℕ)) (name : List ℕ) → NamesSoFar rows index keys → name ≡ (row_at rows index).name → list_any (same_name name) keys ≡ has_earlier_name rows index
unfolding has_earlier_name
name_among rows index keys name before is = ap (λ (n : List ℕ). list_any (same_name n) keys) is ∙ ap (list_any (same_name (row_at rows index).name)) before.names

pub names_none : (rows : List Export) → NamesSoFar rows 0 []
unfolding first_below
names_none rows = record { names = refl; none = refl }

-- a name that an earlier row has
pub second_name_found : (rows : List Export) (index : ℕ) (keys : List (List ℕ)) (name : List ℕ) (is_new : Bool) → NamesSoFar rows index keys → index < length rows → name ≡ (row_at rows index).name → is_new ≡ not (list_any (same_name name) keys) → is_new ≡ false → Some index ≡ first_below (length rows) (has_earlier_name rows)
second_name_found rows index keys name is_new before lt is added old =
    sym (first_below-found index (length rows) (has_earlier_name rows) lt before.none
    (sym (name_among rows index keys name before is) ∙ not-false (list_any (same_name name) keys) (sym added ∙ old)))

-- a new name
pub names_more : (rows : List Export) (index : ℕ) (keys more : List (List ℕ)) (name : List ℕ) (is_new : Bool) → NamesSoFar rows index keys → index < length rows → name ≡ (row_at rows index).name → is_new ≡ not (list_any (same_name name) keys) → more ≡ insert_key same_name keys name → is_new ≡ true → NamesSoFar rows (index + 1) more
names_more rows index keys more name is_new before lt is added inserted new =
    let none : list_any (same_name name) keys ≡ false = not-true (list_any (same_name name) keys) (sym added ∙ new) in
    record {
      names =
          inserted
          ∙ ap (λ (b : Bool). cond b keys (keys ++ name ∷ [])) none
          ∙ ap (λ (n : List ℕ). keys ++ n ∷ []) is
          ∙ ap (λ (ks : List (List ℕ)). ks ++ (row_at rows index).name ∷ []) before.names
          ∙ sym (map-append (λ (row : Export). row.name) (take index rows) (row_at rows index ∷ []))
          ∙ ap (map (λ (row : Export). row.name)) (sym (take_next rows index lt));
      none = first_below-more index (has_earlier_name rows) before.none (sym (name_among rows index keys name before is) ∙ none);
    }

-- ---- ordinals

ordinal_among : (rows : List Export) (index : ℕ) (keys : List ℕ) (ordinal : Option ℕ) → OrdinalsSoFar rows index keys → ordinal ≡ (row_at rows index).ordinal → is_among ordinal keys ≡ has_earlier_ordinal rows index
unfolding has_earlier_ordinal
ordinal_among rows index keys ordinal before is = ap (λ (o : Option ℕ). is_among o keys) is ∙ ap (is_among (row_at rows index).ordinal) before.ordinals

pub ordinals_none : (rows : List Export) → OrdinalsSoFar rows 0 []
unfolding first_below
ordinals_none rows = record { ordinals = refl; none = refl }

pub second_ordinal_found : (rows : List Export) (index : ℕ) (keys : List ℕ) (ordinal : Option ℕ) → OrdinalsSoFar rows index keys → index < length rows → ordinal ≡ (row_at rows index).ordinal → is_among ordinal keys ≡ true → Some index ≡ first_below (length rows) (has_earlier_ordinal rows)
second_ordinal_found rows index keys ordinal before lt is among =
    sym (first_below-found index (length rows) (has_earlier_ordinal rows) lt before.none (sym (ordinal_among rows index keys ordinal before is) ∙ among))

listed : (o : Option ℕ) → option_to_list o ≡ cons_option o []
listed None = refl
listed (Some n) = refl

pub ordinals_more : (rows : List Export) (index : ℕ) (keys more : List ℕ) (ordinal : Option ℕ) → OrdinalsSoFar rows index keys → index < length rows → ordinal ≡ (row_at rows index).ordinal → more ≡ keys ++ option_to_list ordinal → is_among ordinal keys ≡ false → OrdinalsSoFar rows (index + 1) more
ordinals_more rows index keys more ordinal before lt is added among = record {
  ordinals =
      added
      ∙ ap (λ (o : Option ℕ). keys ++ option_to_list o) is
      ∙ ap (λ (ns : List ℕ). ns ++ option_to_list (row_at rows index).ordinal) before.ordinals
      ∙ ap (λ (ns : List ℕ). asked (take index rows) ++ ns) (listed (row_at rows index).ordinal)
      ∙ sym (filter_map-append (λ (row : Export). row.ordinal) (take index rows) (row_at rows index ∷ []))
      ∙ ap asked (sym (take_next rows index lt));
  none = first_below-more index (has_earlier_ordinal rows) before.none (sym (ordinal_among rows index keys ordinal before is) ∙ among);
}

-- ---- the ordinal 0

pub zero_found : (rows : List Export) (index : ℕ) → index < length rows → first_below index (asks_for_zero rows) ≡ None → is_zero (row_at rows index).ordinal ≡ true → Some index ≡ first_below (length rows) (asks_for_zero rows)
zero_found rows index lt none zero = sym (first_below-found index (length rows) (asks_for_zero rows) lt none zero)
