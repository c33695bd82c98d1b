-- The steps from the tables of a tree to its leaves, where they stand.
use Rattle.std.proofs.Common.{◌≡◌, ℕ, zero, suc, ◌+◌, ◌-◌, ◌*◌, ◌/◌, ◌^◌, ◌<◌, ◌≤◌, Bool, true, false, cond, leb, List, [], ◌∷◌, ◌++◌, length, take, drop, Option, Some, refl, ap, ◌∙◌, subst, le-leb, append_assoc, length-append, length-drop, arith}
use Rattle.std.specs.List.{sum_by, AllByRecursion}
use Rattle.std.specs.Option.{option_and_then}
use Rattle.std.proofs.lemmas.List.{length-replicate, length-take-le}
use Rattle.std.proofs.lemmas.List.Sums.{sum_by-cons}
use Rattle.link_base.proofs.CallerLemmas.{length-number_bytes}
use Rattle.res_merge.specs.declared.rows.Row.{Row}
use Rattle.res_merge.specs.Entries.{Key, Number, Text, Entry}
use Rattle.res_merge.specs.ResourceFile.{aligned}
use Rattle.res_merge.specs.Order.{IsShort}
use Rattle.res_merge.specs.Runs.{Run, name_of_run}
use Rattle.res_merge.specs.Tree.{table as table_bytes, HIGH_BIT, table_size, text_size, text_bytes, texts, tables, rows, language_rows, row_id}
use Rattle.res_merge.specs.Lookup.{rows_at, is_named, first_named, table_target, leaf_target, leaf_step}
use Rattle.res_merge.specs.Found.{IsSmallKey, equal_key, body_of, named_data}
use Rattle.res_merge.proofs.SizeLemmas.{run_count}
use Rattle.res_merge.proofs.WritingLemmas.{aligned-above}
use Rattle.res_merge.proofs.PlaceLemmas.{language_length}
use Rattle.res_merge.proofs.FoundLemmas.{behind, IsSmallRow, table_read, table_length}
use Rattle.res_merge.proofs.NamedLemmas.{named_as}
use Rattle.res_merge.proofs.LeafLemmas.{Stand, leaf_inside, stand_next, bytes_of, language_found}

-- ---- lists

pub each_take : {X : Type 0} (P : X → Type 0) (count : ℕ) (xs : List X) → AllByRecursion P xs → AllByRecursion P (take count xs)
each_take P zero xs each = tt
each_take P (suc count) [] each = tt
each_take P (suc count) (x ∷ xs) each = (each.0, each_take P count xs each.1)

pub each_drop : {X : Type 0} (P : X → Type 0) (count : ℕ) (xs : List X) → AllByRecursion P xs → AllByRecursion P (drop count xs)
each_drop P zero xs each = each
each_drop P (suc count) [] each = tt
each_drop P (suc count) (x ∷ xs) each = each_drop P count xs each.1

languages_take : (count leaf : ℕ) (entries : List Entry) → take count (language_rows leaf entries) ≡ language_rows leaf (take count entries)
unfolding language_rows
languages_take zero leaf entries = refl
languages_take (suc count) leaf [] = refl
languages_take (suc count) leaf (entry ∷ entries) = ap (λ (rs : List Row). record { id = entry.language; target = leaf } ∷ rs) (languages_take count (leaf + 16) entries)

languages_drop : (count leaf : ℕ) (entries : List Entry) → drop count (language_rows leaf entries) ≡ language_rows (leaf + 16 * count) (drop count entries)
unfolding language_rows
languages_drop zero leaf entries = let same : leaf ≡ leaf + 16 * 0 = omega arith in ap (λ (n : ℕ). language_rows n entries) same
languages_drop (suc count) leaf [] = refl
languages_drop (suc count) leaf (entry ∷ entries) =
    let place : leaf + 16 + 16 * count ≡ leaf + 16 * suc count = omega arith in
    languages_drop count (leaf + 16) entries ∙ ap (λ (n : ℕ). language_rows n (drop count entries)) place

pub rows_take : (key : Run → Key) (count text table : ℕ) (runs : List Run) → take count (rows key text table runs) ≡ rows key text table (take count runs)
unfolding rows
rows_take key zero text table runs = refl
rows_take key (suc count) text table [] = refl
rows_take key (suc count) text table (run ∷ runs) =
    ap (λ (rs : List Row). record { id = row_id text (key run); target = HIGH_BIT + table } ∷ rs) (rows_take key count (text + text_size (key run)) (table + table_size run.count) runs)

pub text_length : (key : Key) → length (text_bytes key) ≡ text_size key
unfolding aligned
text_length (Number number) = refl
text_length (Text units) =
    simp (length-append, length-replicate) (omega (arith, length-number_bytes 2 (length units / 2), aligned-above (2 + length units)))

-- ---- leaves behind so many

pub record StandAfter (part : List ℕ) (rva leaf : ℕ) (entries : List Entry) : Type 0 where
  pub place : ℕ
  pub filling : ℕ
  pub stand : Stand part rva leaf place filling entries

stand_after : (part : List ℕ) (rva count leaf place filling : ℕ) (entries : List Entry) → count ≤ length entries → Stand part rva leaf place filling entries → StandAfter part rva (leaf + 16 * count) (drop count entries)
stand_after part rva zero leaf place filling entries le stand =
    let same : leaf ≡ leaf + 16 * 0 = omega arith in
    subst (λ (n : ℕ). StandAfter part rva n entries) same (record { place = place; filling = filling; stand = stand })
stand_after part rva (suc count) leaf place filling [] le stand = absurd (omega arith)
stand_after part rva (suc count) leaf place filling (entry ∷ entries) le stand =
    let next : leaf + 16 + 16 * count ≡ leaf + 16 * suc count = omega arith in
    subst (λ (n : ℕ). StandAfter part rva n (drop count entries)) next
    (stand_after part rva count (leaf + 16) _ _ entries (omega arith) (stand_next part rva leaf place filling entry entries stand))

languages_small : (part : List ℕ) (rva leaf place filling : ℕ) (entries : List Entry) → length part < 2 ^ 31 → Stand part rva leaf place filling entries → AllByRecursion (λ entry. entry.language < 2 ^ 16) entries → AllByRecursion IsSmallRow (language_rows leaf entries)
unfolding language_rows
languages_small part rva leaf place filling [] small stand each = tt
languages_small part rva leaf place filling (entry ∷ entries) small stand each =
    ((omega (arith, each.0), omega (arith, leaf_inside part rva leaf place filling entry entries stand, small)), languages_small part rva (leaf + 16) (place + filling + length entry.body) _ entries small (stand_next part rva leaf place filling entry entries stand) each.1)

-- ---- names

pub record NamesStand (part : List ℕ) (rva time text table leaf place filling : ℕ) (names : List Run) (entries : List Entry) : Type 0 where
  pub texts_rest : List ℕ
  pub tables_rest : List ℕ
  pub texts_are : drop text part ≡ texts name_of_run names ++ texts_rest
  pub tables_are : drop table part ≡ tables time names (language_rows leaf entries) ++ tables_rest
  pub stand : Stand part rva leaf place filling entries
  pub counts : sum_by run_count names ≡ length entries
  pub short : AllByRecursion (λ run. IsShort run.head.name × IsSmallKey run.head.name) names
  pub small : AllByRecursion (λ entry. entry.language < 2 ^ 16) entries
  pub few : length entries < 2 ^ 16

pub record NamesAfter (part : List ℕ) (rva time text table : ℕ) (names : List Run) (entries : List Entry) : Type 0 where
  pub leaf : ℕ
  pub place : ℕ
  pub filling : ℕ
  pub names_stand : NamesStand part rva time text table leaf place filling names entries

module _ (part : List ℕ) (rva time text table leaf place filling : ℕ) (run : Run) (names : List Run) (entries : List Entry) (stands : NamesStand part rva time text table leaf place filling (run ∷ names) entries) where
  pub count_fits : run.count ≤ length entries
  count_fits = omega (arith, stands.counts, sum_by-cons run_count run names)

  pub text_is : drop text part ≡ text_bytes run.head.name ++ (texts name_of_run names ++ stands.texts_rest)
  unfolding texts
  text_is = stands.texts_are ∙ append_assoc (text_bytes run.head.name) (texts name_of_run names) stands.texts_rest

  pub table_is : drop table part ≡ table_bytes time (language_rows leaf (take run.count entries)) ++ (tables time names (language_rows (leaf + 16 * run.count) (drop run.count entries)) ++ stands.tables_rest)
  unfolding tables
  table_is =
      stands.tables_are
      ∙ append_assoc (table_bytes time (take run.count (language_rows leaf entries))) (tables time names (drop run.count (language_rows leaf entries))) stands.tables_rest
      ∙ ap (λ (rs : List Row). table_bytes time rs ++ (tables time names (drop run.count (language_rows leaf entries)) ++ stands.tables_rest)) (languages_take run.count leaf entries)
      ∙ ap (λ (rs : List Row). table_bytes time (language_rows leaf (take run.count entries)) ++ (tables time names rs ++ stands.tables_rest)) (languages_drop run.count leaf entries)

  pub names_next : NamesAfter part rva time (text + text_size run.head.name) (table + table_size run.count) names (drop run.count entries)
  names_next =
      let after = stand_after part rva run.count leaf place filling entries count_fits stands.stand in
      let size : length (table_bytes time (language_rows leaf (take run.count entries))) ≡ table_size run.count =
      table_length time (language_rows leaf (take run.count entries)) ∙ ap (λ (n : ℕ). 16 + 8 * n) (language_length leaf (take run.count entries) ∙ length-take-le run.count entries count_fits) in
      record {
        leaf = leaf + 16 * run.count;
        place = after.place;
        filling = after.filling;
        names_stand = record {
          texts_rest = stands.texts_rest;
          tables_rest = stands.tables_rest;
          texts_are = behind part (text_bytes run.head.name) (texts name_of_run names ++ stands.texts_rest) text (text_size run.head.name) text_is (text_length run.head.name);
          tables_are = behind part _ (tables time names (language_rows (leaf + 16 * run.count) (drop run.count entries)) ++ stands.tables_rest) table (table_size run.count) table_is size;
          stand = after.stand;
          counts = omega (arith, stands.counts, sum_by-cons run_count run names, length-drop run.count entries);
          short = stands.short.1;
          small = each_drop (λ (entry : Entry). entry.language < 2 ^ 16) run.count entries stands.small;
          few = omega (arith, stands.few, length-drop run.count entries);
        };
      }

  module _ (small : length part < 2 ^ 31) where
    table_rows : rows_at part table ≡ language_rows leaf (take run.count entries)
    table_rows =
        table_read part _ table time (language_rows leaf (take run.count entries)) table_is
        (subst (λ (rs : List Row). AllByRecursion IsSmallRow rs) (languages_take run.count leaf entries) (each_take IsSmallRow run.count (language_rows leaf entries) (languages_small part rva leaf place filling entries small stands.stand stands.small)))
        (omega (arith, language_length leaf (take run.count entries), length-take-le run.count entries count_fits, count_fits, stands.few))

    pub name_read : (wanted : Key) → IsSmallKey wanted → is_named part wanted (row_id text run.head.name) ≡ equal_key wanted run.head.name
    name_read wanted also = named_as part _ wanted run.head.name text text_is stands.short.0.0 stands.short.0.1 also

    pub language_step_found : (fits : rva + length part < 2 ^ 32) (language : ℕ) → bytes_of part rva (leaf_step part (Number language) table) ≡ body_of language (take run.count entries)
    unfolding leaf_step
    language_step_found fits language =
        ap (λ (rs : List Row). bytes_of part rva (option_and_then (leaf_target part) (first_named part (Number language) rs))) table_rows
        ∙ language_found part rva language small fits run.count leaf place filling entries stands.stand

pub target_of : (table : ℕ) → table_target (HIGH_BIT + table) ≡ Some table
target_of table =
    let there : leb HIGH_BIT (HIGH_BIT + table) ≡ true = le-leb _ _ (omega arith) in
    let back : HIGH_BIT + table - HIGH_BIT ≡ table = omega arith in
    rw (there, back) refl

-- what the table of some names leads to
abbrev pub by_language : List ℕ → ℕ → ℕ → Option ℕ → Option (List ℕ)
by_language part rva language target = bytes_of part rva (option_and_then (leaf_step part (Number language)) (option_and_then table_target target))

pub names_found : (part : List ℕ) (rva time language : ℕ) (wanted : Key) → length part < 2 ^ 31 → rva + length part < 2 ^ 32 → IsSmallKey wanted → (count text table leaf place filling : ℕ) (names : List Run) (entries : List Entry) → NamesStand part rva time text table leaf place filling names entries → by_language part rva language (first_named part wanted (rows name_of_run text table (take count names))) ≡ named_data wanted language (take count names) entries
unfolding first_named rows named_data
names_found part rva time language wanted small fits also zero text table leaf place filling names entries stands = refl
names_found part rva time language wanted small fits also (suc count) text table leaf place filling [] entries stands = refl
names_found part rva time language wanted small fits also (suc count) text table leaf place filling (run ∷ names) entries stands =
    let after = names_next part rva time text table leaf place filling run names entries stands in
    ap (λ (b : Bool). by_language part rva language (cond b (Some (HIGH_BIT + table)) (first_named part wanted (rows name_of_run (text + text_size run.head.name) (table + table_size run.count) (take count names))))) (name_read part rva time text table leaf place filling run names entries stands small wanted also)
    ∙ by_test (equal_key wanted run.head.name) (names_found part rva time language wanted small fits also count (text + text_size run.head.name) (table + table_size run.count) after.leaf after.place after.filling names (drop run.count entries) after.names_stand)
  where
    by_test : (b : Bool) → by_language part rva language (first_named part wanted (rows name_of_run (text + text_size run.head.name) (table + table_size run.count) (take count names))) ≡ named_data wanted language (take count names) (drop run.count entries) → by_language part rva language (cond b (Some (HIGH_BIT + table)) (first_named part wanted (rows name_of_run (text + text_size run.head.name) (table + table_size run.count) (take count names)))) ≡ cond b (body_of language (take run.count entries)) (named_data wanted language (take count names) (drop run.count entries))
    by_test true later =
        ap (λ (t : Option ℕ). bytes_of part rva (option_and_then (leaf_step part (Number language)) t)) (target_of table)
        ∙ language_step_found part rva time text table leaf place filling run names entries stands small fits language
    by_test false later = later
