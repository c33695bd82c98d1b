-- Where the parts of a tree stand in it, and what the steps from its root lead to.
use Rattle.std.proofs.Common.{◌≡◌, ℕ, suc, ◌+◌, ◌-◌, ◌*◌, ◌^◌, ◌<◌, ◌≤◌, List, [], ◌∷◌, ◌++◌, length, take, drop, refl, sym, ap, ◌∙◌, append_assoc, length-append, length-drop, arith}
use Rattle.std.proofs.lemmas.List.{length-take-le}
use Rattle.std.specs.List.{sum_by, AllByRecursion}
use Rattle.std.specs.Option.{option_map}
use Rattle.std.proofs.lemmas.List.Sums.{sum_by-cons}
use Rattle.link_base.specs.Bytes.{bytes_at}
use Rattle.link_base.proofs.CallerLemmas.{length-number_bytes}
use Rattle.res_merge.specs.declared.rows.Row.{Row}
use Rattle.res_merge.specs.Entries.{Key, Entry}
use Rattle.res_merge.specs.ResourceFile.{aligned}
use Rattle.res_merge.specs.Order.{IsShort}
use Rattle.res_merge.specs.Runs.{Run, heads, same_name, same_kind, names_of, kinds_of, kind_of_run, name_of_run}
use Rattle.res_merge.specs.Tree as part
use Rattle.res_merge.specs.Tree.{table_size, tables_size, text_size, texts_size, text_bytes, tables, texts, leaves, rows, language_rows, data_from, kind_rows, name_rows, names_place, languages_place, leaves_place, texts_place, name_texts_place, data_place, all_tables, tree_of, tree_size}
use Rattle.res_merge.specs.Lookup.{rows_at, first_named, table_step, place_in}
use Rattle.res_merge.specs.Found.{IsSmallKey, kind_data}
use Rattle.res_merge.proofs.WritingLemmas.{leaf_fields}
use Rattle.res_merge.proofs.SizeLemmas.{run_count, runs_count, runs_few}
use Rattle.res_merge.proofs.PlaceLemmas.{rows_length, language_length, runs_each, heads_each}
use Rattle.res_merge.proofs.FoundLemmas.{behind, IsSmallRow, table_read, table_length}
use Rattle.res_merge.proofs.DescentLemmas.{text_length}
use Rattle.res_merge.proofs.KindLemmas.{row_small, inside, KindsStand, kinds_next, kind_text_is, kind_table_is, by_name, kinds_found}

-- ---- how long the parts are

tables_length : (time : ℕ) (runs : List Run) (list : List Row) → sum_by run_count runs ≡ length list → length (tables time runs list) ≡ tables_size runs
unfolding tables
tables_length time [] list counts = refl
tables_length time (run ∷ runs) list counts =
    let fits : run.count ≤ length list = omega (arith, counts, sum_by-cons run_count run runs) in
    let rest : sum_by run_count runs ≡ length (drop run.count list) = omega (arith, counts, sum_by-cons run_count run runs, length-drop run.count list) in
    length-append (part.table time (take run.count list)) (tables time runs (drop run.count list))
    ∙ omega (arith, table_length time (take run.count list), length-take-le run.count list fits, tables_length time runs (drop run.count list) rest, sum_by-cons (λ (r : Run). table_size r.count) run runs)

texts_length : (key : Run → Key) (runs : List Run) → length (texts key runs) ≡ texts_size key runs
unfolding texts
texts_length key [] = refl
texts_length key (run ∷ runs) =
    length-append (text_bytes (key run)) (texts key runs)
    ∙ omega (arith, text_length (key run), texts_length key runs, sum_by-cons (λ (r : Run). text_size (key r)) run runs)

leaf_size : (rva : ℕ) (entry : Entry) → length (leaf_fields rva entry) ≡ 16
leaf_size rva entry = simp (length-append) (omega (arith, length-number_bytes 4 rva, length-number_bytes 4 (length entry.body), length-number_bytes 4 0))

leaves_length : (rva : ℕ) (list : List Entry) → length (leaves rva list) ≡ 16 * length list
unfolding leaves
leaves_length rva [] = refl
leaves_length rva (entry ∷ rest) =
    length-append (leaf_fields rva entry) (leaves (rva + aligned (length entry.body)) rest)
    ∙ omega (arith, leaf_size rva entry, leaves_length (rva + aligned (length entry.body)) rest)

length_heads : (list : List Run) → length (heads list) ≡ length list
length_heads [] = refl
length_heads (run ∷ rest) = ap suc (length_heads rest)

-- ---- the parts of a tree

-- resources whose numbers, texts and languages a tree can hold
pub record AreHeld (entries : List Entry) : Type 0 where
  pub few : length entries < 2 ^ 16
  pub short : AllByRecursion (λ entry. IsShort entry.kind × IsShort entry.name) entries
  pub keys : AllByRecursion (λ entry. IsSmallKey entry.kind × IsSmallKey entry.name) entries
  pub languages : AllByRecursion (λ entry. entry.language < 2 ^ 16) entries

module _ (time rva : ℕ) (entries : List Entry) where
  names_count : sum_by run_count (names_of entries) ≡ length entries
  names_count = runs_count same_name entries

  kinds_count : sum_by run_count (kinds_of entries) ≡ length (names_of entries)
  kinds_count = runs_count same_kind (heads (names_of entries)) ∙ length_heads (names_of entries)

  parts_are : tree_of time rva entries ≡ part.table time (kind_rows entries) ++ (tables time (kinds_of entries) (name_rows entries) ++ (tables time (names_of entries) (language_rows (leaves_place entries) entries) ++ (leaves (rva + data_place entries) entries ++ (texts kind_of_run (kinds_of entries) ++ (texts name_of_run (names_of entries) ++ data_from 0 entries)))))
  unfolding tree_of all_tables
  parts_are =
      append_assoc (part.table time (kind_rows entries)) (tables time (kinds_of entries) (name_rows entries) ++ tables time (names_of entries) (language_rows (leaves_place entries) entries)) _
      ∙ ap (λ (xs : List ℕ). part.table time (kind_rows entries) ++ xs) (append_assoc (tables time (kinds_of entries) (name_rows entries)) (tables time (names_of entries) (language_rows (leaves_place entries) entries)) _)

  kind_table_size : length (part.table time (kind_rows entries)) ≡ names_place entries
  kind_table_size = table_length time (kind_rows entries) ∙ ap (λ (n : ℕ). 16 + 8 * n) (rows_length kind_of_run (texts_place entries) (names_place entries) (kinds_of entries))

  name_tables_size : length (tables time (kinds_of entries) (name_rows entries)) ≡ tables_size (kinds_of entries)
  name_tables_size = tables_length time (kinds_of entries) (name_rows entries) (kinds_count ∙ sym (rows_length name_of_run (name_texts_place entries) (languages_place entries) (names_of entries)))

  language_tables_size : length (tables time (names_of entries) (language_rows (leaves_place entries) entries)) ≡ tables_size (names_of entries)
  language_tables_size = tables_length time (names_of entries) (language_rows (leaves_place entries) entries) (names_count ∙ sym (language_length (leaves_place entries) entries))

  at_root : drop 0 (tree_of time rva entries) ≡ part.table time (kind_rows entries) ++ (tables time (kinds_of entries) (name_rows entries) ++ (tables time (names_of entries) (language_rows (leaves_place entries) entries) ++ (leaves (rva + data_place entries) entries ++ (texts kind_of_run (kinds_of entries) ++ (texts name_of_run (names_of entries) ++ data_from 0 entries)))))
  at_root = parts_are

  at_names : drop (names_place entries) (tree_of time rva entries) ≡ tables time (kinds_of entries) (name_rows entries) ++ (tables time (names_of entries) (language_rows (leaves_place entries) entries) ++ (leaves (rva + data_place entries) entries ++ (texts kind_of_run (kinds_of entries) ++ (texts name_of_run (names_of entries) ++ data_from 0 entries))))
  at_names =
      let start : names_place entries ≡ 0 + names_place entries = omega arith in
      ap (λ (n : ℕ). drop n (tree_of time rva entries)) start ∙ behind (tree_of time rva entries) (part.table time (kind_rows entries)) _ 0 (names_place entries) at_root kind_table_size

  at_languages : drop (languages_place entries) (tree_of time rva entries) ≡ tables time (names_of entries) (language_rows (leaves_place entries) entries) ++ (leaves (rva + data_place entries) entries ++ (texts kind_of_run (kinds_of entries) ++ (texts name_of_run (names_of entries) ++ data_from 0 entries)))
  at_languages = behind (tree_of time rva entries) (tables time (kinds_of entries) (name_rows entries)) _ (names_place entries) (tables_size (kinds_of entries)) at_names name_tables_size

  at_leaves : drop (leaves_place entries) (tree_of time rva entries) ≡ leaves (rva + data_place entries) entries ++ (texts kind_of_run (kinds_of entries) ++ (texts name_of_run (names_of entries) ++ data_from 0 entries))
  at_leaves = behind (tree_of time rva entries) (tables time (names_of entries) (language_rows (leaves_place entries) entries)) _ (languages_place entries) (tables_size (names_of entries)) at_languages language_tables_size

  at_texts : drop (texts_place entries) (tree_of time rva entries) ≡ texts kind_of_run (kinds_of entries) ++ (texts name_of_run (names_of entries) ++ data_from 0 entries)
  at_texts = behind (tree_of time rva entries) (leaves (rva + data_place entries) entries) _ (leaves_place entries) (16 * length entries) at_leaves (leaves_length (rva + data_place entries) entries)

  at_name_texts : drop (name_texts_place entries) (tree_of time rva entries) ≡ texts name_of_run (names_of entries) ++ data_from 0 entries
  at_name_texts = behind (tree_of time rva entries) (texts kind_of_run (kinds_of entries)) _ (texts_place entries) (texts_size kind_of_run (kinds_of entries)) at_texts (texts_length kind_of_run (kinds_of entries))

  at_data : drop (data_place entries) (tree_of time rva entries) ≡ data_from 0 entries
  at_data = behind (tree_of time rva entries) (texts name_of_run (names_of entries)) _ (name_texts_place entries) (texts_size name_of_run (names_of entries)) at_name_texts (texts_length name_of_run (names_of entries))

  -- a tree is as long as it is said to be
  pub tree_length_is : length (tree_of time rva entries) ≡ tree_size entries
  unfolding tree_size
  tree_length_is =
      ap length parts_are
      ∙ simp (length-append) (omega (arith, kind_table_size, name_tables_size, language_tables_size, leaves_length (rva + data_place entries) entries, texts_length kind_of_run (kinds_of entries), texts_length name_of_run (names_of entries)))

  data_inside : data_place entries ≤ length (tree_of time rva entries)
  unfolding tree_size
  data_inside = omega (arith, tree_length_is)

module _ (time rva : ℕ) (entries : List Entry) (held : AreHeld entries) where
  names_held : AllByRecursion (λ run. IsShort run.head.name × IsSmallKey run.head.name) (names_of entries)
  names_held = runs_each (λ entry. IsShort entry.name × IsSmallKey entry.name) same_name entries (both entries held.short held.keys)
    where
      both : (list : List Entry) → AllByRecursion (λ entry. IsShort entry.kind × IsShort entry.name) list → AllByRecursion (λ entry. IsSmallKey entry.kind × IsSmallKey entry.name) list → AllByRecursion (λ entry. IsShort entry.name × IsSmallKey entry.name) list
      both [] short small = tt
      both (entry ∷ rest) short small = ((short.0.1, small.0.1), both rest short.1 small.1)

  kinds_held : AllByRecursion (λ run. IsShort run.head.kind × IsSmallKey run.head.kind) (kinds_of entries)
  kinds_held =
      runs_each (λ entry. IsShort entry.kind × IsSmallKey entry.kind) same_kind (heads (names_of entries))
      (heads_each (λ entry. IsShort entry.kind × IsSmallKey entry.kind) (names_of entries)
      (runs_each (λ entry. IsShort entry.kind × IsSmallKey entry.kind) same_name entries (both entries held.short held.keys)))
    where
      both : (list : List Entry) → AllByRecursion (λ entry. IsShort entry.kind × IsShort entry.name) list → AllByRecursion (λ entry. IsSmallKey entry.kind × IsSmallKey entry.name) list → AllByRecursion (λ entry. IsShort entry.kind × IsSmallKey entry.kind) list
      both [] short small = tt
      both (entry ∷ rest) short small = ((short.0.0, small.0.0), both rest short.1 small.1)

  names_few : length (names_of entries) < 2 ^ 16
  names_few = omega (arith, runs_few same_name entries, held.few)

  kinds_few : length (kinds_of entries) < 2 ^ 16
  kinds_few = omega (arith, runs_few same_kind (heads (names_of entries)), length_heads (names_of entries), names_few)

  stands : KindsStand (tree_of time rva entries) rva time (texts_place entries) (names_place entries) (name_texts_place entries) (languages_place entries) (leaves_place entries) (data_place entries) 0 (kinds_of entries) (names_of entries) entries
  stands =
      let none : data_place entries ≡ data_place entries + 0 = omega arith in
      record {
        texts_rest = _;
        tables_rest = _;
        kind_texts_are = at_texts time rva entries;
        kind_tables_are = at_names time rva entries;
        names_are = record {
          texts_rest = _;
          tables_rest = _;
          texts_are = at_name_texts time rva entries;
          tables_are = at_languages time rva entries;
          stand = record {
            rest = _;
            leaves_are = at_leaves time rva entries ∙ ap (λ (n : ℕ). leaves (rva + n) entries ++ (texts kind_of_run (kinds_of entries) ++ (texts name_of_run (names_of entries) ++ data_from 0 entries))) none;
            data_are = at_data time rva entries;
            inside = data_inside time rva entries;
          };
          counts = names_count time rva entries;
          short = names_held;
          small = held.languages;
          few = held.few;
        };
        kind_counts = kinds_count time rva entries;
        kinds_short = kinds_held;
        names_few = names_few;
      }

-- the entries of the table of types are numbers of four bytes
kinds_small : (bytes : List ℕ) (rva time kind_text kind_table text table leaf place filling : ℕ) (kinds names : List Run) (entries : List Entry) → length bytes < 2 ^ 31 → KindsStand bytes rva time kind_text kind_table text table leaf place filling kinds names entries → AllByRecursion IsSmallRow (rows kind_of_run kind_text kind_table kinds)
unfolding rows
kinds_small bytes rva time kind_text kind_table text table leaf place filling [] names entries small stands = tt
kinds_small bytes rva time kind_text kind_table text table leaf place filling (run ∷ kinds) names entries small stands =
    let after = kinds_next bytes rva time kind_text kind_table text table leaf place filling run kinds names entries stands in
    let low = inside bytes (part.table time (rows name_of_run text table (take run.count names))) _ kind_table (kind_table_is bytes rva time kind_text kind_table text table leaf place filling run kinds names entries stands) (omega (arith, table_length time (rows name_of_run text table (take run.count names)))) in
    ((row_small bytes _ kind_text run.head.kind small (kind_text_is bytes rva time kind_text kind_table text table leaf place filling run kinds names entries stands) stands.kinds_short.0.1, omega (arith, low, small)), kinds_small bytes rva time (kind_text + text_size run.head.kind) (kind_table + table_size run.count) after.text after.table after.leaf after.place after.filling kinds (drop run.count names) (drop (sum_by run_count (take run.count names)) entries) small after.kinds_stand)

-- what is found in a tree is what its runs say
pub tree_found : (time rva language : ℕ) (kind name : Key) (entries : List Entry) → AreHeld entries → tree_size entries < 2 ^ 31 → rva + tree_size entries < 2 ^ 32 → IsSmallKey kind → IsSmallKey name → option_map (λ (place : ℕ × ℕ). bytes_at (tree_of time rva entries) (place.0 - rva) place.1) (place_in (tree_of time rva entries) rva kind name language) ≡ kind_data kind name language (kinds_of entries) (names_of entries) entries
unfolding place_in table_step
tree_found time rva language kind name entries held small fits also too =
    let size = tree_length_is time rva entries in
    let low : length (tree_of time rva entries) < 2 ^ 31 = omega arith in
    let root : rows_at (tree_of time rva entries) 0 ≡ kind_rows entries =
    table_read (tree_of time rva entries) _ 0 time (kind_rows entries) (at_root time rva entries) (kinds_small (tree_of time rva entries) rva time _ _ _ _ _ _ _ (kinds_of entries) (names_of entries) entries low (stands time rva entries held)) (omega (arith, rows_length kind_of_run (texts_place entries) (names_place entries) (kinds_of entries), kinds_few time rva entries held)) in
    ap (λ (list : List Row). by_name (tree_of time rva entries) rva name language (first_named (tree_of time rva entries) kind list)) root
    ∙ kinds_found (tree_of time rva entries) rva time language kind name low (omega arith) also too _ _ _ _ _ _ _ (kinds_of entries) (names_of entries) entries (stands time rva entries held)
