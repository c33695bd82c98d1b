-- Rows that differ at most in what they export take as many bytes.
use Rattle.std.proofs.Common.{◌≡◌, ℕ, ◌+◌, ◌*◌, ◌<◌, Bool, cond, List, [], ◌∷◌, length, get_or, refl, ap, ◌∙◌, arith}
use Rattle.std.specs.List.{AllZip, sum_by}
use Rattle.std.proofs.lemmas.List.Elements.{length_all_zip, AllZip-get_or}
use Rattle.std.proofs.lemmas.List.Sums.{sum_by-cons}
use Rattle.export_tables.specs.declared.row.ExportRow.{ExportRow}
use Rattle.export_tables.specs.ExportTable.{address_count, text_size, forwarder_size, row_size, rows_size, table_size, AreNumbered}
use Rattle.export_tables.specs.ReadBack.{SameSize}

one_row : (row other : ExportRow) → SameSize row other → row_size row ≡ row_size other
one_row row other same =
    ap (λ (b : Bool). cond b 0 (6 + text_size row.name) + forwarder_size row.what) same.same_nonames
    ∙ ap (λ (name : List ℕ). cond other.noname 0 (6 + text_size name) + forwarder_size row.what) same.same_names
    ∙ ap (λ (n : ℕ). cond other.noname 0 (6 + text_size other.name) + n) same.same_sizes

all_rows : (rows others : List ExportRow) → AllZip SameSize rows others → sum_by row_size rows ≡ sum_by row_size others
all_rows [] [] same = refl
all_rows [] (other ∷ others) same = absurd same
all_rows (row ∷ rows) [] same = absurd same
all_rows (row ∷ rows) (other ∷ others) same =
    omega (arith, one_row row other same.0, all_rows rows others same.1, sum_by-cons row_size row rows, sum_by-cons row_size other others)

pub same_table_size : (rows others : List ExportRow) (ordinals dll : List ℕ) → AllZip SameSize rows others → table_size rows ordinals dll ≡ table_size others ordinals dll
unfolding table_size rows_size
same_table_size rows others ordinals dll same =
    ap (λ (n : ℕ). 40 + 4 * address_count ordinals + n + text_size dll) (all_rows rows others same)

pub same_numbered : (rows others : List ExportRow) (ordinals : List ℕ) → AllZip SameSize rows others → AreNumbered rows ordinals → AreNumbered others ordinals
same_numbered rows others ordinals same are =
    let long = length_all_zip SameSize rows others same in
    record {
      few = omega (arith, are.few, long);
      names = λ k d lt. let each = at k d (omega (arith, lt, long)) in omega (arith, ap length each.same_names, are.names k d (omega (arith, lt, long)));
      forwarders = λ k d lt. let each = at k d (omega (arith, lt, long)) in omega (arith, each.same_lens, are.forwarders k d (omega (arith, lt, long)));
      same_many = omega (arith, are.same_many, long);
      differ = are.differ;
    }
  where
    at : (k : ℕ) (d : ExportRow) → k < length rows → SameSize (get_or rows k d) (get_or others k d)
    at k d lt = AllZip-get_or SameSize rows others k d d same lt
