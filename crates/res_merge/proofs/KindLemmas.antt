-- The steps from the table of types, where the tables of a tree stand.
use Rattle.std.proofs.Common.{◌≡◌, ℕ, zero, suc, ◌+◌, ◌-◌, ◌*◌, ◌/◌, ◌^◌, ◌<◌, ◌≤◌, Bool, true, false, cond, List, [], ◌∷◌, ◌++◌, length, take, drop, Option, Some, refl, sym, ap, ◌∙◌, subst, append_assoc, length-append, length-drop, arith}
use Rattle.std.specs.List.{sum_by, AllByRecursion}
use Rattle.std.specs.Option.{option_and_then}
use Rattle.std.proofs.lemmas.List.{drop-drop, length-take-le}
use Rattle.std.proofs.lemmas.List.Sums.{sum_by-cons}
use Rattle.link_base.proofs.CallerLemmas.{length-number_bytes}
use Rattle.res_merge.specs.declared.rows.Row.{Row}
use Rattle.res_merge.specs.Entries.{Key, Number, Text, Entry}
use Rattle.res_merge.specs.Order.{IsShort}
use Rattle.res_merge.specs.Runs.{Run, kind_of_run, name_of_run}
use Rattle.res_merge.specs.Tree.{table as table_bytes, HIGH_BIT, table_size, text_size, text_bytes, texts, tables, rows, language_rows, row_id}
use Rattle.res_merge.specs.Lookup.{rows_at, is_named, first_named, table_target, table_step, leaf_step}
use Rattle.res_merge.specs.Found.{IsSmallKey, equal_key, named_data, kind_data}
use Rattle.res_merge.proofs.SizeLemmas.{run_count}
use Rattle.res_merge.proofs.PlaceLemmas.{rows_length}
use Rattle.res_merge.proofs.FoundLemmas.{behind, IsSmallRow, table_read, table_length}
use Rattle.res_merge.proofs.NamedLemmas.{named_as}
use Rattle.res_merge.proofs.LeafLemmas.{bytes_of}
use Rattle.res_merge.proofs.DescentLemmas.{each_take, rows_take, text_length, target_of, NamesStand, NamesAfter, names_next, text_is, table_is, by_language, names_found}

-- what is not empty stands inside
pub inside : (part xs rest : List ℕ) (at : ℕ) → drop at part ≡ xs ++ rest → 0 < length xs → at < length part
inside part xs rest at is some =
    let size : length part - at ≡ length xs + length rest = sym (length-drop at part) ∙ ap length is ∙ length-append xs rest in
    omega arith

pub row_small : (part rest : List ℕ) (text : ℕ) (key : Key) → length part < 2 ^ 31 → drop text part ≡ text_bytes key ++ rest → IsSmallKey key → row_id text key < 2 ^ 32
row_small part rest text (Number number) small is also = omega (arith, also)
row_small part rest text (Text units) small is also =
    omega (arith, small, inside part (text_bytes (Text units)) rest text is (simp (length-append) (omega (arith, length-number_bytes 2 (length units / 2)))))

names_small : (part : List ℕ) (rva time text table leaf place filling : ℕ) (names : List Run) (entries : List Entry) → length part < 2 ^ 31 → NamesStand part rva time text table leaf place filling names entries → AllByRecursion IsSmallRow (rows name_of_run text table names)
unfolding rows
names_small part rva time text table leaf place filling [] entries small stands = tt
names_small part rva time text table leaf place filling (run ∷ names) entries small stands =
    let after = names_next part rva time text table leaf place filling run names entries stands in
    let low = inside part (table_bytes time (language_rows leaf (take run.count entries))) _ table (table_is part rva time text table leaf place filling run names entries stands) (omega (arith, table_length time (language_rows leaf (take run.count entries)))) in
    ((row_small part _ text run.head.name small (text_is part rva time text table leaf place filling run names entries stands) stands.short.0.1, omega (arith, low, small)), names_small part rva time (text + text_size run.head.name) (table + table_size run.count) after.leaf after.place after.filling names (drop run.count entries) small after.names_stand)

-- ---- names behind so many

pub record NamesBehind (part : List ℕ) (rva time : ℕ) (all : List Row) (names : List Run) (entries : List Entry) : Type 0 where
  pub text : ℕ
  pub table : ℕ
  pub after : NamesAfter part rva time text table names entries
  pub rows_are : all ≡ rows name_of_run text table names

names_behind : (part : List ℕ) (rva time count text table leaf place filling : ℕ) (names : List Run) (entries : List Entry) → count ≤ length names → NamesStand part rva time text table leaf place filling names entries → NamesBehind part rva time (drop count (rows name_of_run text table names)) (drop count names) (drop (sum_by run_count (take count names)) entries)
unfolding rows
names_behind part rva time zero text table leaf place filling names entries le stands =
    record { text = text; table = table; after = record { leaf = leaf; place = place; filling = filling; names_stand = stands }; rows_are = refl }
names_behind part rva time (suc count) text table leaf place filling [] entries le stands = absurd (omega arith)
names_behind part rva time (suc count) text table leaf place filling (run ∷ names) entries le stands =
    let next = names_next part rva time text table leaf place filling run names entries stands in
    let far = names_behind part rva time count (text + text_size run.head.name) (table + table_size run.count) next.leaf next.place next.filling names (drop run.count entries) (omega arith) next.names_stand in
    let left : drop (sum_by run_count (take count names)) (drop run.count entries) ≡ drop (sum_by run_count (take (suc count) (run ∷ names))) entries =
    drop-drop (sum_by run_count (take count names)) run.count entries ∙ ap (λ (n : ℕ). drop n entries) (sym (sum_by-cons run_count run (take count names))) in
    subst (λ (es : List Entry). NamesBehind part rva time (drop count (rows name_of_run (text + text_size run.head.name) (table + table_size run.count) names)) (drop count names) es) left far

-- ---- types

pub record KindsStand (part : List ℕ) (rva time kind_text kind_table text table leaf place filling : ℕ) (kinds names : List Run) (entries : List Entry) : Type 0 where
  pub texts_rest : List ℕ
  pub tables_rest : List ℕ
  pub kind_texts_are : drop kind_text part ≡ texts kind_of_run kinds ++ texts_rest
  pub kind_tables_are : drop kind_table part ≡ tables time kinds (rows name_of_run text table names) ++ tables_rest
  pub names_are : NamesStand part rva time text table leaf place filling names entries
  pub kind_counts : sum_by run_count kinds ≡ length names
  pub kinds_short : AllByRecursion (λ run. IsShort run.head.kind × IsSmallKey run.head.kind) kinds
  pub names_few : length names < 2 ^ 16

pub record KindsAfter (part : List ℕ) (rva time kind_text kind_table : ℕ) (kinds names : List Run) (entries : List Entry) : Type 0 where
  pub text : ℕ
  pub table : ℕ
  pub leaf : ℕ
  pub place : ℕ
  pub filling : ℕ
  pub kinds_stand : KindsStand part rva time kind_text kind_table text table leaf place filling kinds names entries

module _ (part : List ℕ) (rva time kind_text kind_table text table leaf place filling : ℕ) (run : Run) (kinds names : List Run) (entries : List Entry) (stands : KindsStand part rva time kind_text kind_table text table leaf place filling (run ∷ kinds) names entries) where
  kind_count_fits : run.count ≤ length names
  kind_count_fits = omega (arith, stands.kind_counts, sum_by-cons run_count run kinds)

  pub kind_text_is : drop kind_text part ≡ text_bytes run.head.kind ++ (texts kind_of_run kinds ++ stands.texts_rest)
  unfolding texts
  kind_text_is = stands.kind_texts_are ∙ append_assoc (text_bytes run.head.kind) (texts kind_of_run kinds) stands.texts_rest

  pub kind_table_is : drop kind_table part ≡ table_bytes time (rows name_of_run text table (take run.count names)) ++ (tables time kinds (drop run.count (rows name_of_run text table names)) ++ stands.tables_rest)
  unfolding tables
  kind_table_is =
      stands.kind_tables_are
      ∙ append_assoc (table_bytes time (take run.count (rows name_of_run text table names))) (tables time kinds (drop run.count (rows name_of_run text table names))) stands.tables_rest
      ∙ ap (λ (rs : List Row). table_bytes time rs ++ (tables time kinds (drop run.count (rows name_of_run text table names)) ++ stands.tables_rest)) (rows_take name_of_run run.count text table names)

  pub kinds_next : KindsAfter part rva time (kind_text + text_size run.head.kind) (kind_table + table_size run.count) kinds (drop run.count names) (drop (sum_by run_count (take run.count names)) entries)
  kinds_next =
      let far = names_behind part rva time run.count text table leaf place filling names entries kind_count_fits stands.names_are in
      let size : length (table_bytes time (rows name_of_run text table (take run.count names))) ≡ table_size run.count =
      table_length time (rows name_of_run text table (take run.count names)) ∙ ap (λ (n : ℕ). 16 + 8 * n) (rows_length name_of_run text table (take run.count names) ∙ length-take-le run.count names kind_count_fits) in
      record {
        text = far.text;
        table = far.table;
        leaf = far.after.leaf;
        place = far.after.place;
        filling = far.after.filling;
        kinds_stand = record {
          texts_rest = stands.texts_rest;
          tables_rest = stands.tables_rest;
          kind_texts_are = behind part (text_bytes run.head.kind) (texts kind_of_run kinds ++ stands.texts_rest) kind_text (text_size run.head.kind) kind_text_is (text_length run.head.kind);
          kind_tables_are = behind part _ (tables time kinds (drop run.count (rows name_of_run text table names)) ++ stands.tables_rest) kind_table (table_size run.count) kind_table_is size ∙ ap (λ (rs : List Row). tables time kinds rs ++ stands.tables_rest) far.rows_are;
          names_are = far.after.names_stand;
          kind_counts = omega (arith, stands.kind_counts, sum_by-cons run_count run kinds, length-drop run.count names);
          kinds_short = stands.kinds_short.1;
          names_few = omega (arith, stands.names_few, length-drop run.count names);
        };
      }

  module _ (small : length part < 2 ^ 31) where
    kind_rows_read : rows_at part kind_table ≡ rows name_of_run text table (take run.count names)
    kind_rows_read =
        table_read part _ kind_table time (rows name_of_run text table (take run.count names)) kind_table_is
        (subst (λ (rs : List Row). AllByRecursion IsSmallRow rs) (rows_take name_of_run run.count text table names) (each_take IsSmallRow run.count (rows name_of_run text table names) (names_small part rva time text table leaf place filling names entries small stands.names_are)))
        (omega (arith, rows_length name_of_run text table (take run.count names), length-take-le run.count names kind_count_fits, kind_count_fits, stands.names_few))

    kind_read : (wanted : Key) → IsSmallKey wanted → is_named part wanted (row_id kind_text run.head.kind) ≡ equal_key wanted run.head.kind
    kind_read wanted also = named_as part _ wanted run.head.kind kind_text kind_text_is stands.kinds_short.0.0 stands.kinds_short.0.1 also

    name_step_found : (fits : rva + length part < 2 ^ 32) (name : Key) (language : ℕ) → IsSmallKey name → bytes_of part rva (option_and_then (leaf_step part (Number language)) (table_step part name kind_table)) ≡ named_data name language (take run.count names) entries
    unfolding table_step
    name_step_found fits name language also =
        ap (λ (rs : List Row). by_language part rva language (first_named part name rs)) kind_rows_read
        ∙ names_found part rva time language name small fits also run.count text table leaf place filling names entries stands.names_are

-- what the table of types leads to
abbrev pub by_name : List ℕ → ℕ → Key → ℕ → Option ℕ → Option (List ℕ)
by_name part rva name language target =
    bytes_of part rva (option_and_then (leaf_step part (Number language)) (option_and_then (table_step part name) (option_and_then table_target target)))

pub kinds_found : (part : List ℕ) (rva time language : ℕ) (wanted name : Key) → length part < 2 ^ 31 → rva + length part < 2 ^ 32 → IsSmallKey wanted → IsSmallKey name → (kind_text kind_table text table leaf place filling : ℕ) (kinds names : List Run) (entries : List Entry) → KindsStand part rva time kind_text kind_table text table leaf place filling kinds names entries → by_name part rva name language (first_named part wanted (rows kind_of_run kind_text kind_table kinds)) ≡ kind_data wanted name language kinds names entries
unfolding first_named rows kind_data
kinds_found part rva time language wanted name small fits also too kind_text kind_table text table leaf place filling [] names entries stands = refl
kinds_found part rva time language wanted name small fits also too kind_text kind_table text table leaf place filling (run ∷ kinds) names entries stands =
    let after = kinds_next part rva time kind_text kind_table text table leaf place filling run kinds names entries stands in
    ap (λ (b : Bool). by_name part rva name language (cond b (Some (HIGH_BIT + kind_table)) (first_named part wanted (rows kind_of_run (kind_text + text_size run.head.kind) (kind_table + table_size run.count) kinds)))) (kind_read part rva time kind_text kind_table text table leaf place filling run kinds names entries stands small wanted also)
    ∙ by_test (equal_key wanted run.head.kind) (kinds_found part rva time language wanted name small fits also too (kind_text + text_size run.head.kind) (kind_table + table_size run.count) after.text after.table after.leaf after.place after.filling kinds (drop run.count names) (drop (sum_by run_count (take run.count names)) entries) after.kinds_stand)
  where
    by_test : (b : Bool) → by_name part rva name language (first_named part wanted (rows kind_of_run (kind_text + text_size run.head.kind) (kind_table + table_size run.count) kinds)) ≡ kind_data wanted name language kinds (drop run.count names) (drop (sum_by run_count (take run.count names)) entries) → by_name part rva name language (cond b (Some (HIGH_BIT + kind_table)) (first_named part wanted (rows kind_of_run (kind_text + text_size run.head.kind) (kind_table + table_size run.count) kinds))) ≡ cond b (named_data name language (take run.count names) entries) (kind_data wanted name language kinds (drop run.count names) (drop (sum_by run_count (take run.count names)) entries))
    by_test true later =
        ap (λ (t : Option ℕ). bytes_of part rva (option_and_then (leaf_step part (Number language)) (option_and_then (table_step part name) t))) (target_of kind_table)
        ∙ name_step_found part rva time kind_text kind_table text table leaf place filling run kinds names entries stands small fits name language too
    by_test false later = later
