-- Names that were noted in lower case, one more at a time.
use Rattle.std.proofs.Common.{◌≡◌, ◌<◌, ◌+◌, ℕ, Bool, true, false, cond, not, ◌||◌, List, [], ◌∷◌, ◌++◌, length, map, take, get_or, String, refl, sym, ap, ◌∙◌, subst}
use Rattle.std.proofs.Math.Bool.{or-false, or_assoc, not-not}
use Rattle.std.specs.List.{list_any}
use Rattle.std.specs.Str.{bytes_eq, str_to_ascii_lowercase, str_eq_ignore_ascii_case}
use Rattle.std.specs.String.{string_bytes, string_eq}
use Rattle.std.specs.HashSet.{HashSet, contains, Updates}
use Rattle.std.proofs.lemmas.Bool.{true≢false}
use Rattle.std.proofs.lemmas.List.{map-append, map_more}
use Rattle.std.proofs.lemmas.List.Folds.{list_any-append}
use Rattle.std.proofs.lemmas.Map.Text.{hash_set_updates_text}
use Rattle.std.proofs.lemmas.Slice.Eq.{bytes_eq-Decides}
use Rattle.file_search.specs.DefaultLibraries.{is_among_names}
use Rattle.file_search.specs.DefaultSteps.{has_noted, NotesMore}

-- ---- names in either case

bytes_eq-comm : (a b : List ℕ) → bytes_eq a b ≡ bytes_eq b a
bytes_eq-comm a b = go (bytes_eq a b) (bytes_eq b a) refl refl
  where
    go : (p q : Bool) → bytes_eq a b ≡ p → bytes_eq b a ≡ q → bytes_eq a b ≡ bytes_eq b a
    go true q is other = is ∙ sym ((bytes_eq-Decides b a).1 (sym ((bytes_eq-Decides a b).0 is)))
    go false true is other = absurd (true≢false (sym ((bytes_eq-Decides a b).1 (sym ((bytes_eq-Decides b a).0 other))) ∙ is))
    go false false is other = is ∙ sym other

pub among_more : (names : List (List ℕ)) (name other : List ℕ) → is_among_names (names ++ name ∷ []) other ≡ (is_among_names names other || str_eq_ignore_ascii_case other name)
among_more names name other =
    list_any-append (str_eq_ignore_ascii_case other) names (name ∷ [])
    ∙ ap (λ (b : Bool). is_among_names names other || b) (or-false (str_eq_ignore_ascii_case other name))

-- ---- a name is noted

either : (here before : Bool) → cond here true before ≡ (before || here)
either true true = refl
either true false = refl
either false true = refl
either false false = refl

pub noted_one : {Y S : Type 0} (before after : HashSet (String Y) S) (key : String Y) (name other : List ℕ) → string_bytes key ≡ str_to_ascii_lowercase name → Updates string_eq before after key true → has_noted after other ≡ (has_noted before other || str_eq_ignore_ascii_case other name)
noted_one before after key name other key_is updates =
    hash_set_updates_text (string_bytes key) before after true updates (str_to_ascii_lowercase other)
    ∙ either (bytes_eq (string_bytes key) (str_to_ascii_lowercase other)) (has_noted before other)
    ∙ ap (λ (b : Bool). has_noted before other || b)
    (bytes_eq-comm (string_bytes key) (str_to_ascii_lowercase other) ∙ ap (bytes_eq (str_to_ascii_lowercase other)) key_is)

-- whether it was there before
pub noted_before : {Y S : Type 0} (seen : HashSet (String Y) S) (key : String Y) (name : List ℕ) (added there : Bool) → string_bytes key ≡ str_to_ascii_lowercase name → added ≡ not (contains string_eq seen key) → added ≡ not there → has_noted seen name ≡ there
noted_before {Y} seen key name added there key_is is was =
    ap (λ (text : List ℕ). list_any (λ (k : String Y). bytes_eq text (string_bytes k)) seen.keys) (sym key_is)
    ∙ sym (not-not (contains string_eq seen key))
    ∙ ap not (sym is ∙ was)
    ∙ not-not there

-- ---- the names of a list

notes_further : {Y S : Type 0} (before mid after : HashSet (String Y) S) (names : List (List ℕ)) (key : String Y) (name : List ℕ) → string_bytes key ≡ str_to_ascii_lowercase name → Updates string_eq mid after key true → NotesMore before mid names → NotesMore before after (names ++ name ∷ [])
notes_further before mid after names key name key_is updates so_far = record {
  has = λ other.
      noted_one mid after key name other key_is updates
      ∙ ap (λ (b : Bool). b || str_eq_ignore_ascii_case other name) (so_far.has other)
      ∙ or_assoc (has_noted before other) (is_among_names names other) (str_eq_ignore_ascii_case other name)
      ∙ ap (λ (b : Bool). has_noted before other || b) (sym (among_more names name other));
}

pub notes_text : {X Y S : Type 0} (text_of : X → List ℕ) (items : List X) (index : ℕ) (default : X) (before mid after : HashSet (String Y) S) (key : String Y) → index < length items → string_bytes key ≡ str_to_ascii_lowercase (text_of (get_or items index default)) → Updates string_eq mid after key true → NotesMore before mid (map text_of (take index items)) → NotesMore before after (map text_of (take (index + 1) items))
notes_text text_of items index default before mid after key lt key_is updates so_far =
    subst (NotesMore before after) (sym (map_more text_of items index default lt))
    (notes_further before mid after (map text_of (take index items)) key (text_of (get_or items index default)) key_is updates so_far)

pub names_more : {X : Type 0} (name_of : List ℕ → List ℕ) (text_of : X → List ℕ) (items : List X) (index : ℕ) (default : X) → index < length items → map name_of (map text_of (take (index + 1) items)) ≡ map name_of (map text_of (take index items)) ++ name_of (text_of (get_or items index default)) ∷ []
names_more name_of text_of items index default lt =
    ap (map name_of) (map_more text_of items index default lt)
    ∙ map-append name_of (map text_of (take index items)) (text_of (get_or items index default) ∷ [])

pub notes_name : {X Y S : Type 0} (name_of : List ℕ → List ℕ) (text_of : X → List ℕ) (items : List X) (index : ℕ) (default : X) (before mid after : HashSet (String Y) S) (key : String Y) → index < length items → string_bytes key ≡ str_to_ascii_lowercase (name_of (text_of (get_or items index default))) → Updates string_eq mid after key true → NotesMore before mid (map name_of (map text_of (take index items))) → NotesMore before after (map name_of (map text_of (take (index + 1) items)))
notes_name name_of text_of items index default before mid after key lt key_is updates so_far =
    subst (NotesMore before after) (sym (names_more name_of text_of items index default lt))
    (notes_further before mid after (map name_of (map text_of (take index items))) key (name_of (text_of (get_or items index default))) key_is updates so_far)
