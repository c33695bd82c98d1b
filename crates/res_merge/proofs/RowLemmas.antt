-- The entries of tables, one after another.
use Rattle.std.proofs.Common.{◌≡◌, ℕ, ◌+◌, ◌<◌, ◌≤◌, List, [], ◌∷◌, ◌++◌, length, drop, get_or, map, sym, ap, ◌∙◌, append_assoc, append-nil, add-one, drop-cons}
use Rattle.std.proofs.lemmas.List.{drop_all}
use Rattle.std.proofs.lemmas.List.Sums.{sum_by-cons}
use Rattle.res_merge.specs.declared.runs.Run as code
use Rattle.res_merge.specs.Entries.{Key, Entry}
use Rattle.res_merge.specs.Runs.{Run}
use Rattle.res_merge.specs.Tree.{HIGH_BIT, LEAF_SIZE, table_size, text_size, texts_size, tables_size, row_id, rows, language_rows}
use Rattle.res_merge.proofs.RunLemmas.{any_resource}

abbrev pub any_run : code.Run
any_run = record { head = any_resource; count = 0 }

pub drop_said : {X Y : Type 0} (f : X → Y) (list : List X) (k : ℕ) (d : X) → k < length list → map f (drop k list) ≡ f (get_or list k d) ∷ map f (drop (k + 1) list)
drop_said f list k d lt =
    ap (map f) (drop-cons list k d lt) ∙ ap (λ (i : ℕ). f (get_or list k d) ∷ map f (drop i list)) (sym (add-one k))

pub drop_none : {X Y : Type 0} (f : X → Y) (list : List X) (k : ℕ) → length list ≤ k → map f (drop k list) ≡ []
drop_none f list k le = ap (map f) (drop_all k list le)

-- one more of what is appended
pub appended : {X : Type 0} (found all rest left : List X) (x y : X) → found ++ left ≡ all → left ≡ y ∷ rest → x ≡ y → (found ++ x ∷ []) ++ rest ≡ all
appended {X} found all rest left x y was is same =
    append_assoc found (x ∷ []) rest ∙ ap (λ (z : X). found ++ z ∷ rest) same ∙ ap (λ (xs : List X). found ++ xs) (sym is) ∙ was

pub ended : {X : Type 0} (found all left : List X) → found ++ left ≡ all → left ≡ [] → found ≡ all
ended {X} found all left was is = sym (append-nil found) ∙ ap (λ (xs : List X). found ++ xs) (sym is) ∙ was

pub rows_step : (key : Run → Key) (text table : ℕ) (run : Run) (rest left : List Run) → left ≡ run ∷ rest → rows key text table left ≡ record { id = row_id text (key run); target = HIGH_BIT + table } ∷ rows key (text + text_size (key run)) (table + table_size run.count) rest
unfolding rows
rows_step key text table run rest left is = ap (rows key text table) is

pub rows_none : (key : Run → Key) (text table : ℕ) (left : List Run) → left ≡ [] → rows key text table left ≡ []
unfolding rows
rows_none key text table left is = ap (rows key text table) is

pub texts_step : (key : Run → Key) (run : Run) (rest left : List Run) → left ≡ run ∷ rest → texts_size key left ≡ text_size (key run) + texts_size key rest
texts_step key run rest left is = ap (texts_size key) is ∙ sum_by-cons (λ (run : Run). text_size (key run)) run rest

pub tables_step : (run : Run) (rest left : List Run) → left ≡ run ∷ rest → tables_size left ≡ table_size run.count + tables_size rest
tables_step run rest left is = ap tables_size is ∙ sum_by-cons (λ (run : Run). table_size run.count) run rest

pub language_step : (leaf : ℕ) (entry : Entry) (rest left : List Entry) → left ≡ entry ∷ rest → language_rows leaf left ≡ record { id = entry.language; target = leaf } ∷ language_rows (leaf + LEAF_SIZE) rest
unfolding language_rows
language_step leaf entry rest left is = ap (language_rows leaf) is

pub language_none : (leaf : ℕ) (left : List Entry) → left ≡ [] → language_rows leaf left ≡ []
unfolding language_rows
language_none leaf left is = ap (language_rows leaf) is
