-- Where the parts of a tree stand, by its types and names, and how many entries its tables have.
use Rattle.std.proofs.Common.{◌≡◌, ℕ, suc, ◌+◌, ◌<◌, ◌≤◌, ◌^◌, Bool, true, false, cond, zero, List, [], ◌∷◌, ◌++◌, length, map, get_or, refl, sym, ap, ◌∙◌, subst, arith}
use Rattle.std.specs.List.{AllByRecursion, sum_by}
use Rattle.std.proofs.lemmas.List.Elements.{recursion_from_All}
use Rattle.std.proofs.lemmas.List.{length-map}
use Rattle.res_merge.specs.declared.resource.Resource.{Resource}
use Rattle.res_merge.specs.declared.parts.Places.{Places}
use Rattle.res_merge.specs.declared.runs.Run as code
use Rattle.res_merge.specs.Entries.{Key, Entry, entry_of}
use Rattle.res_merge.specs.Order.{IsShort}
use Rattle.res_merge.specs.Runs.{Run, run_before, runs, heads, same_name, same_kind, names_of, kind_of_run, name_of_run}
use Rattle.res_merge.specs.Tree.{text_size, table_size, table, rows, language_rows, data_place, data_from, tree_size, leaves_place, kind_rows, name_rows}
use Rattle.res_merge.specs.Levels.{run_of}
use Rattle.res_merge.specs.Parts.{AreParts, ArePlaces, body_place}
use Rattle.res_merge.proofs.SizeLemmas.{runs_count, runs_few, run_count}

module _ (list : List Resource) (names types : List Run) (parts : AreParts (map entry_of list) names types) where
  entries : List Entry
  entries = map entry_of list

  count_is : length list ≡ length (map entry_of list)
  count_is = sym (length-map list entry_of)

  pub body_is : body_place types names (length list) ≡ data_place (map entry_of list)
  body_is = rw (parts.types_are, parts.names_are, count_is) refl

  pub whole_is : body_place types names (length list) + length (data_from 0 (map entry_of list)) ≡ tree_size (map entry_of list)
  unfolding tree_size
  whole_is = ap (λ (n : ℕ). n + length (data_from 0 (map entry_of list))) body_is

  pub whole_small : body_place types names (length list) + length (data_from 0 (map entry_of list)) < 2 ^ 31
  whole_small = omega (arith, whole_is, parts.small)

  pub few : length list ≤ 65535
  few = omega (arith, count_is, parts.few)

  pub names_count : sum_by run_count names ≡ length list
  names_count = ap (sum_by run_count) parts.names_are ∙ runs_count same_name (map entry_of list) ∙ sym count_is

  pub names_few : length names ≤ 65535
  names_few = omega (arith, ap length parts.names_are, runs_few same_name (map entry_of list), count_is, few)

  length_heads : (runs : List Run) → length (heads runs) ≡ length runs
  length_heads [] = refl
  length_heads (run ∷ runs) = ap suc (length_heads runs)

  types_of_names : types ≡ runs same_kind (heads names)
  types_of_names = parts.types_are ∙ ap (λ (n : List Run). runs same_kind (heads n)) (sym parts.names_are)

  pub types_count : sum_by run_count types ≡ length names
  types_count = ap (sum_by run_count) types_of_names ∙ runs_count same_kind (heads names) ∙ length_heads names

  pub types_few : length types ≤ 65535
  types_few = omega (arith, ap length types_of_names, runs_few same_kind (heads names), length_heads names, names_few)

  module _ (places : Places) (stand : ArePlaces types names (length list) places) where
    pub type_rows_are : rows kind_of_run places.texts places.names types ≡ kind_rows (map entry_of list)
    type_rows_are = rw (stand.type_texts, stand.name_tables, parts.types_are, parts.names_are, count_is) refl

    pub name_rows_are : rows name_of_run places.name_texts places.languages names ≡ name_rows (map entry_of list)
    name_rows_are = rw (stand.name_texts, stand.language_tables, parts.types_are, parts.names_are, count_is) refl

    pub leaves_are : places.leaves ≡ leaves_place (map entry_of list)
    leaves_are = rw (stand.leaves, parts.types_are, parts.names_are) refl

    pub data_are : places.body ≡ data_place (map entry_of list)
    data_are = stand.body ∙ body_is

-- ---- how many entries

pub rows_length : (key : Run → Key) (text table : ℕ) (list : List Run) → length (rows key text table list) ≡ length list
unfolding rows
rows_length key text table [] = refl
rows_length key text table (run ∷ rest) = ap suc (rows_length key (text + text_size (key run)) (table + table_size run.count) rest)

pub language_length : (leaf : ℕ) (list : List Entry) → length (language_rows leaf list) ≡ length list
unfolding language_rows
language_length leaf [] = refl
language_length leaf (entry ∷ rest) = ap suc (language_length (leaf + 16) rest)

pub length_said : (list : List Resource) → length list ≡ length (map entry_of list)
length_said list = sym (length-map list entry_of)

-- ---- what is appended

pub grown : (out old old' part part' : List ℕ) → out ≡ old ++ part → old ≡ old' → part ≡ part' → out ≡ old' ++ part'
grown out old old' part part' was before same = was ∙ ap (λ (xs : List ℕ). xs ++ part) before ∙ ap (λ (xs : List ℕ). old' ++ xs) same

-- ---- the first resource of each run

before_each : (P : Entry → Type 0) (same : Entry → Entry → Bool) (head : Entry) (count : ℕ) (list : List Run) → P head → AllByRecursion (λ run. P run.head) list → AllByRecursion (λ run. P run.head) (run_before same head count list)
before_each P same head count [] here each = (here, tt)
before_each P same head count (run ∷ rest) here each = by_test (same head run.head)
  where
    by_test : (b : Bool) → AllByRecursion (λ run. P run.head) (cond b (record { head = head; count = count + run.count } ∷ rest) (record { head = head; count = count } ∷ run ∷ rest))
    by_test true = (here, each.1)
    by_test false = (here, each)

pub runs_each : (P : Entry → Type 0) (same : Entry → Entry → Bool) (list : List Entry) → AllByRecursion P list → AllByRecursion (λ run. P run.head) (runs same list)
unfolding runs
runs_each P same [] each = tt
runs_each P same (entry ∷ rest) each = before_each P same entry 1 (runs same rest) each.0 (runs_each P same rest each.1)

pub heads_each : (P : Entry → Type 0) (list : List Run) → AllByRecursion (λ run. P run.head) list → AllByRecursion P (heads list)
heads_each P [] each = tt
heads_each P (run ∷ rest) each = (each.0, heads_each P rest each.1)

each_at : (P : Entry → Type 0) (list : List code.Run) → AllByRecursion (λ run. P run.head) (map run_of list) → (k : ℕ) (d : code.Run) → k < length list → P (entry_of (get_or list k d).head)
each_at P [] each k d lt = absurd (omega arith)
each_at P (run ∷ rest) each zero d lt = each.0
each_at P (run ∷ rest) each (suc k) d lt = each_at P rest each.1 k d (omega arith)

abbrev IsShortEntry : Entry → Type 0
IsShortEntry entry = IsShort entry.kind × IsShort entry.name

pub names_short : (list : List Resource) (names : List code.Run) (types : List Run) → AreParts (map entry_of list) (map run_of names) types → (k : ℕ) (d : code.Run) → k < length names → IsShortEntry (entry_of (get_or names k d).head)
names_short list names types parts =
    each_at IsShortEntry names (subst (λ (runs : List Run). AllByRecursion (λ run. IsShortEntry run.head) runs) (sym parts.names_are) (runs_each IsShortEntry same_name (map entry_of list) (recursion_from_All IsShortEntry (map entry_of list) parts.short)))

pub types_short : (list : List Resource) (names : List Run) (types : List code.Run) → AreParts (map entry_of list) names (map run_of types) → (k : ℕ) (d : code.Run) → k < length types → IsShortEntry (entry_of (get_or types k d).head)
types_short list names types parts =
    each_at IsShortEntry types (subst (λ (runs : List Run). AllByRecursion (λ run. IsShortEntry run.head) runs) (sym parts.types_are) (runs_each IsShortEntry same_kind (heads (names_of (map entry_of list))) (heads_each IsShortEntry (names_of (map entry_of list)) (runs_each IsShortEntry same_name (map entry_of list) (recursion_from_All IsShortEntry (map entry_of list) parts.short)))))
