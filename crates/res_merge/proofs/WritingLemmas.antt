-- The parts of a tree as they are written, one after another.
use Rattle.std.proofs.Common.{◌≡◌, ℕ, ◌+◌, ◌≤◌, List, [], ◌∷◌, ◌++◌, length, take, drop, sym, ap, ◌∙◌, append_assoc, append-nil, arith}
use Rattle.std.specs.Prelude.{replicate}
use Rattle.std.proofs.lemmas.List.{length-append, length-replicate}
use Rattle.link_base.specs.Fields.{fields}
use Rattle.link_base.specs.declared.numbers.LeNumber.TheVariants.{U32}
use Rattle.res_merge.specs.declared.rows.Row.{Row}
use Rattle.res_merge.specs.Entries.{Key, Entry}
use Rattle.res_merge.specs.ResourceFile.{aligned}
use Rattle.res_merge.specs.Runs.{Run}
use Rattle.res_merge.specs.Tree.{table, tables, texts, leaves, padding, data_from}

pub written : (out all part rest left : List ℕ) → out ++ left ≡ all → left ≡ part ++ rest → (out ++ part) ++ rest ≡ all
written out all part rest left was is = append_assoc out part rest ∙ ap (λ (xs : List ℕ). out ++ xs) (sym is) ∙ was

pub all_written : (out all left : List ℕ) → out ++ left ≡ all → left ≡ [] → out ≡ all
all_written out all left was is = sym (append-nil out) ∙ ap (λ (xs : List ℕ). out ++ xs) (sym is) ∙ was

pub texts_end : (key : Run → Key) (left : List Run) → left ≡ [] → texts key left ≡ []
unfolding texts
texts_end key left is = ap (texts key) is

pub tables_written : (time : ℕ) (run : Run) (rest left : List Run) (rows : List Row) → left ≡ run ∷ rest → tables time left rows ≡ table time (take run.count rows) ++ tables time rest (drop run.count rows)
unfolding tables
tables_written time run rest left rows is = ap (λ (runs : List Run). tables time runs rows) is

pub tables_end : (time : ℕ) (left : List Run) (rows : List Row) → left ≡ [] → tables time left rows ≡ []
unfolding tables
tables_end time left rows is = ap (λ (runs : List Run). tables time runs rows) is

abbrev pub leaf_fields : ℕ → Entry → List ℕ
leaf_fields rva entry = fields (U32 rva ∷ U32 (length entry.body) ∷ U32 0 ∷ U32 0 ∷ [])

pub leaves_written : (rva : ℕ) (entry : Entry) (rest left : List Entry) → left ≡ entry ∷ rest → leaves rva left ≡ fields (U32 rva ∷ U32 (length entry.body) ∷ U32 0 ∷ U32 0 ∷ []) ++ leaves (rva + aligned (length entry.body)) rest
unfolding leaves
leaves_written rva entry rest left is = ap (leaves rva) is

pub data_written : (filling : ℕ) (entry : Entry) (rest left : List Entry) → left ≡ entry ∷ rest → data_from filling left ≡ replicate filling 0 ++ (entry.body ++ data_from (padding (length entry.body)) rest)
unfolding data_from
data_written filling entry rest left is = ap (data_from filling) is

pub data_end : (filling : ℕ) (left : List Entry) → left ≡ [] → data_from filling left ≡ []
unfolding data_from
data_end filling left is = ap (data_from filling) is

pub data_zeros : (filling : ℕ) (entry : Entry) (rest : List Entry) → length (data_from filling (entry ∷ rest)) ≡ filling + length (data_from 0 (entry ∷ rest))
unfolding data_from
data_zeros filling entry rest = simp (length-append, length-replicate) (omega arith)

pub aligned-above : (n : ℕ) → n ≤ aligned n
unfolding aligned
aligned-above n = omega arith

-- data, and those behind them
pub data_size : (entry : Entry) (rest left : List Entry) → left ≡ entry ∷ rest → length entry.body ≤ length (data_from 0 left)
unfolding data_from
data_size entry rest left is = rw is (simp (length-append) (omega arith))

pub data_more : (entry next : Entry) (rest left : List Entry) → left ≡ entry ∷ next ∷ rest → aligned (length entry.body) + length (data_from 0 (next ∷ rest)) ≡ length (data_from 0 left)
data_more entry next rest left is =
    let whole : length (data_from 0 left) ≡ length entry.body + length (data_from (padding (length entry.body)) (next ∷ rest)) =
    ap length (data_written 0 entry (next ∷ rest) left is) ∙ simp (length-append) (omega arith) in
    omega (arith, whole, data_zeros (padding (length entry.body)) next rest, aligned-above (length entry.body))

pub data_last : (entry : Entry) (left : List Entry) → left ≡ entry ∷ [] → length (data_from 0 left) ≡ length entry.body
unfolding data_from
data_last entry left is = rw is (simp (length-append) (omega arith))
