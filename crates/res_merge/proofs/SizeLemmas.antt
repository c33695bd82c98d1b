-- How large the parts of a tree are.
use Rattle.std.proofs.Common.{◌≡◌, ℕ, suc, ◌+◌, ◌-◌, ◌*◌, ◌<◌, ◌≤◌, ◌^◌, Bool, true, false, cond, List, [], ◌∷◌, length, refl, ap, arith}
use Rattle.std.specs.List.{sum_by, All}
use Rattle.std.proofs.lemmas.List.{length-append, length-replicate}
use Rattle.std.proofs.lemmas.List.Sums.{sum_by-cons}
use Rattle.std.proofs.lemmas.List.Sorted.{sum_by-IsPermutation, length_permutation, All-permutation}
use Rattle.res_merge.specs.Entries.{Key, Number, Text, Entry}
use Rattle.res_merge.specs.ResourceFile.{aligned}
use Rattle.res_merge.specs.Order.{in_order, IsShort, key_size, entry_size, RESOURCE_LIMIT, DATA_LIMIT, AreMergeable}
use Rattle.res_merge.specs.Runs.{Run, run_before, runs, heads, same_kind, same_name, names_of, kinds_of, kind_of_run, name_of_run}
use Rattle.res_merge.specs.Tree.{table_size, tables_size, text_size, texts_size, data_from, tree_size}
use Rattle.res_merge.proofs.SortLemmas.{order_moves}

-- ---- runs

abbrev pub run_count : Run → ℕ
run_count run = run.count

before_count : (same : Entry → Entry → Bool) (head : Entry) (count : ℕ) (list : List Run) → sum_by run_count (run_before same head count list) ≡ count + sum_by run_count list
before_count same head count [] = omega arith
before_count same head count (run ∷ rest) = by_test (same head run.head)
  where
    by_test : (b : Bool) → sum_by run_count (cond b (record { head = head; count = count + run.count } ∷ rest) (record { head = head; count = count } ∷ run ∷ rest)) ≡ count + sum_by run_count (run ∷ rest)
    by_test true = omega (arith, sum_by-cons run_count run rest, sum_by-cons run_count (record { head = head; count = count + run.count }) rest)
    by_test false = sum_by-cons run_count (record { head = head; count = count }) (run ∷ rest)

-- the resources of all runs
pub runs_count : (same : Entry → Entry → Bool) (list : List Entry) → sum_by run_count (runs same list) ≡ length list
unfolding runs
runs_count same [] = refl
runs_count same (entry ∷ rest) = omega (arith, before_count same entry 1 (runs same rest), runs_count same rest)

before_few : (same : Entry → Entry → Bool) (head : Entry) (count : ℕ) (list : List Run) → length (run_before same head count list) ≤ 1 + length list
before_few same head count [] = omega arith
before_few same head count (run ∷ rest) = by_test (same head run.head)
  where
    by_test : (b : Bool) → length (cond b (record { head = head; count = count + run.count } ∷ rest) (record { head = head; count = count } ∷ run ∷ rest)) ≤ 1 + length (run ∷ rest)
    by_test true = omega arith
    by_test false = omega arith

pub runs_few : (same : Entry → Entry → Bool) (list : List Entry) → length (runs same list) ≤ length list
unfolding runs
runs_few same [] = omega arith
runs_few same (entry ∷ rest) = omega (arith, before_few same entry 1 (runs same rest), runs_few same rest)

before_sum : (size : Entry → ℕ) (same : Entry → Entry → Bool) (head : Entry) (count : ℕ) (list : List Run) → sum_by size (heads (run_before same head count list)) ≤ size head + sum_by size (heads list)
before_sum size same head count [] = omega arith
before_sum size same head count (run ∷ rest) = by_test (same head run.head)
  where
    by_test : (b : Bool) → sum_by size (heads (cond b (record { head = head; count = count + run.count } ∷ rest) (record { head = head; count = count } ∷ run ∷ rest))) ≤ size head + sum_by size (heads (run ∷ rest))
    by_test true = omega (arith, sum_by-cons size head (heads rest), sum_by-cons size run.head (heads rest))
    by_test false = omega (arith, sum_by-cons size head (heads (run ∷ rest)))

heads_sum : (size : Entry → ℕ) (same : Entry → Entry → Bool) (list : List Entry) → sum_by size (heads (runs same list)) ≤ sum_by size list
unfolding runs
heads_sum size same [] = omega arith
heads_sum size same (entry ∷ rest) = omega (arith, before_sum size same entry 1 (runs same rest), heads_sum size same rest, sum_by-cons size entry rest)

-- ---- tables and texts

pub tables_are : (list : List Run) → tables_size list ≡ 16 * length list + 8 * sum_by run_count list
tables_are [] = refl
tables_are (run ∷ rest) = omega (arith, tables_are rest, sum_by-cons (λ (run : Run). table_size run.count) run rest, sum_by-cons run_count run rest)

text_near : (key : Key) → text_size key ≤ key_size key + 5
unfolding aligned
text_near (Number number) = omega arith
text_near (Text units) = omega arith

texts_near : (key : Run → Key) (size : Entry → ℕ) (list : List Run) → ((run : Run) → key_size (key run) ≡ size run.head) → texts_size key list ≤ sum_by size (heads list) + 5 * length list
texts_near key size [] is = omega arith
texts_near key size (run ∷ rest) is = omega (arith, texts_near key size rest is, text_near (key run), is run, sum_by-cons (λ (run : Run). text_size (key run)) run rest, sum_by-cons size run.head (heads rest))

data_near : (filling : ℕ) (list : List Entry) → length (data_from filling list) ≤ filling + (sum_by (λ entry. length entry.body) list + 3 * length list)
unfolding data_from aligned
data_near filling [] = omega arith
data_near filling (entry ∷ rest) = simp (length-append, length-replicate) (omega (arith, data_near (aligned (length entry.body) - length entry.body) rest, sum_by-cons (λ (entry : Entry). length entry.body) entry rest))

entry_sums : (list : List Entry) → sum_by entry_size list ≡ sum_by (λ entry. key_size entry.kind) list + sum_by (λ entry. key_size entry.name) list + sum_by (λ entry. length entry.body) list
entry_sums [] = refl
entry_sums (entry ∷ rest) = omega (arith, entry_sums rest, sum_by-cons entry_size entry rest, sum_by-cons (λ (entry : Entry). key_size entry.kind) entry rest, sum_by-cons (λ (entry : Entry). key_size entry.name) entry rest, sum_by-cons (λ (entry : Entry). length entry.body) entry rest)

-- ---- the tree

tree_near : (list : List Entry) → length list ≤ RESOURCE_LIMIT → sum_by entry_size list ≤ DATA_LIMIT → tree_size list < 2 ^ 31
unfolding tree_size
tree_near list few small =
    let names = names_of list in
    let kinds = kinds_of list in
    let names_few = runs_few same_name list in
    let kinds_few = runs_few same_kind (heads names) in
    let names_count = runs_count same_name list in
    let kinds_count = runs_count same_kind (heads names) in
    let heads_size : length (heads names) ≡ length names = length_heads names in
    let kind_texts = texts_near kind_of_run (λ entry. key_size entry.kind) kinds (λ run. refl) in
    let name_texts = texts_near name_of_run (λ entry. key_size entry.name) names (λ run. refl) in
    let kind_sum = heads_sum (λ entry. key_size entry.kind) same_kind (heads names) in
    let kind_sum_all = heads_sum (λ entry. key_size entry.kind) same_name list in
    let name_sum = heads_sum (λ entry. key_size entry.name) same_name list in
    let body = data_near 0 list in
    let kind_tables = tables_are kinds in
    let name_tables = tables_are names in
    let sums = entry_sums list in
    total (length list) (length names) (length kinds) (tables_size kinds) (tables_size names) (texts_size kind_of_run kinds) (texts_size name_of_run names) (length (data_from 0 list))
    (sum_by (λ entry. key_size entry.kind) list) (sum_by (λ entry. key_size entry.name) list) (sum_by (λ entry. length entry.body) list)
    few (omega arith) (omega arith) (omega arith) (omega arith) (omega arith) (omega arith) body (omega (arith, small))
  where
    length_heads : (runs : List Run) → length (heads runs) ≡ length runs
    length_heads [] = refl
    length_heads (run ∷ runs) = ap suc (length_heads runs)

    total : (n names kinds kind_tables name_tables kind_texts name_texts body kind_sum name_sum body_sum : ℕ) → n ≤ 65535 → names ≤ n → kinds ≤ names → kind_tables ≡ 16 * kinds + 8 * names → name_tables ≡ 16 * names + 8 * n → kind_texts ≤ kind_sum + 5 * kinds → name_texts ≤ name_sum + 5 * names → body ≤ 0 + (body_sum + 3 * n) → kind_sum + name_sum + body_sum ≤ 2 ^ 30 → 16 + 8 * kinds + kind_tables + name_tables + 16 * n + kind_texts + name_texts + body < 2 ^ 31
    total n names kinds kind_tables name_tables kind_texts name_texts body kind_sum name_sum body_sum a b c d e f g h i = omega arith

-- a tree of resources that can be merged is not too large for its offsets
pub tree_small : (list : List Entry) → AreMergeable list → tree_size (in_order list) < 2 ^ 31
tree_small list mergeable =
    let moved = order_moves list in
    tree_near (in_order list) (omega (arith, length_permutation list (in_order list) moved, mergeable.few)) (omega (arith, sum_by-IsPermutation entry_size list (in_order list) moved, mergeable.small))

pub order_few : (list : List Entry) → AreMergeable list → length (in_order list) ≤ 65535
order_few list mergeable = omega (arith, length_permutation list (in_order list) (order_moves list), mergeable.few)

abbrev pub AreShort : List Entry → Type 0
AreShort list = All (λ entry. IsShort entry.kind × IsShort entry.name) list

pub order_short : (list : List Entry) → AreMergeable list → AreShort (in_order list)
order_short list mergeable = All-permutation (λ (entry : Entry). IsShort entry.kind × IsShort entry.name) list (in_order list) (order_moves list) mergeable.short
