-- The rows of imports, one module more at a time.
use Rattle.std.proofs.Common.{◌≡◌, ℕ, zero, suc, ◌+◌, ◌-◌, ◌<◌, ◌≤◌, Bool, false, List, [], ◌∷◌, ◌++◌, length, get_or, Option, Some, None, inl, inr, sym, ap, subst, ◌∙◌, arith}
use Rattle.std.specs.List.{cons_option, filter_map, range_with_len}
use Rattle.link_base.proofs.RangeLemmas.{range_more}
use Rattle.std.proofs.lemmas.Bool.{cases_lt}
use Rattle.std.proofs.lemmas.List.{length-append, get_or_push, get_or_append_left, get_or_past}
use Rattle.std.proofs.lemmas.List.Elements.{filter_map-append}
use Rattle.std.proofs.lemmas.List.FromFn.{length-map-range_with_len}
use Rattle.module_view.specs.Module.{ModuleView, module_at}
use Rattle.import_tables.specs.declared.row.ImportRow.{ImportRow}
use Rattle.import_tables.specs.ImportShape.{slot_offset as row_offset, slots_of}
use Rattle.link_imports.specs.Imports.{row_if, row_at, rows_below, import_rows, import_slots, slot_offset}

-- ---- rows

pub rows_after : (modules : List ModuleView) (kept : List Bool) (k : ℕ) → rows_below modules kept (k + 1) ≡ rows_below modules kept k ++ cons_option (row_at modules kept k) []
rows_after modules kept k =
    ap (filter_map (row_at modules kept)) (range_more 0 k k (omega arith))
    ∙ filter_map-append (row_at modules kept) (range_with_len 0 k) (k ∷ [])

-- the row of a module that was read
row_read : (modules : List ModuleView) (kept : List Bool) (k : ℕ) (m : ModuleView) (is_kept : Bool) → m ≡ module_at modules k → is_kept ≡ get_or kept k false → row_if is_kept m ≡ row_at modules kept k
row_read modules kept k m is_kept read told =
    ap (λ (b : Bool). row_if b m) told ∙ ap (row_if (get_or kept k false)) read

pub rows_more : (modules : List ModuleView) (kept : List Bool) (k : ℕ) (m : ModuleView) (is_kept : Bool) (now after : List ImportRow) → m ≡ module_at modules k → is_kept ≡ get_or kept k false → now ≡ rows_below modules kept k → after ≡ now ++ cons_option (row_if is_kept m) [] → after ≡ rows_below modules kept (k + 1)
rows_more modules kept k m is_kept now after read told is grown =
    grown
    ∙ ap (λ (rows : List ImportRow). rows ++ cons_option (row_if is_kept m) []) is
    ∙ ap (λ (row : Option ImportRow). rows_below modules kept k ++ cons_option row []) (row_read modules kept k m is_kept read told)
    ∙ sym (rows_after modules kept k)

at_most_one : (o : Option ImportRow) → length (cons_option o []) ≤ 1
at_most_one None = omega arith
at_most_one (Some row) = omega arith

pub count_more : (now after : List ImportRow) (o : Option ImportRow) (k : ℕ) → after ≡ now ++ cons_option o [] → length now ≤ k → length after ≤ k + 1
count_more now after o k grown few =
    omega (arith, few, ap length grown, length-append now (cons_option o []), at_most_one o)

-- ---- offsets

-- how many rows stand before the next module
pub count_after : (modules : List ModuleView) (kept : List Bool) (k : ℕ) → length (rows_below modules kept (k + 1)) ≡ length (rows_below modules kept k) + length (cons_option (row_at modules kept k) [])
count_after modules kept k =
    ap length (rows_after modules kept k) ∙ length-append (rows_below modules kept k) (cons_option (row_at modules kept k) [])

-- more modules have no fewer rows
rows_grow : (modules : List ModuleView) (kept : List Bool) (k more : ℕ) → length (rows_below modules kept k) ≤ length (rows_below modules kept (k + more))
rows_grow modules kept k zero = let same : k + 0 ≡ k = omega arith in rw same (omega arith)
rows_grow modules kept k (suc more) =
    let same : k + suc more ≡ k + more + 1 = omega arith in
    let earlier = rows_grow modules kept k more in
    let here = count_after modules kept (k + more) in
    rw same (omega arith)

pub rows_among : (modules : List ModuleView) (kept : List Bool) (j k : ℕ) → j ≤ k → length (rows_below modules kept j) ≤ length (rows_below modules kept k)
rows_among modules kept j k le =
    let same : j + (k - j) ≡ k = omega arith in
    subst (λ (n : ℕ). length (rows_below modules kept j) ≤ length (rows_below modules kept n)) same (rows_grow modules kept j (k - j))

-- offsets of the first modules
pub record AreOffsets (modules : List ModuleView) (kept : List Bool) (k before : ℕ) (offsets : List ℕ) : Type 0 where
  pub for_each : length offsets ≡ k
  pub count : before ≡ length (rows_below modules kept k)
  pub few : before ≤ k
  pub each : (p : ℕ) → p < k → get_or offsets p 0 ≡ slot_offset modules kept p

pub offsets_more : (modules : List ModuleView) (kept : List Bool) (k : ℕ) (m : ModuleView) (is_kept : Bool) (before next offset : ℕ) (offsets after : List ℕ) → m ≡ module_at modules k → is_kept ≡ get_or kept k false → offset ≡ get_or (import_slots modules kept) before 0 → after ≡ offsets ++ offset ∷ [] → next ≡ before + length (cons_option (row_if is_kept m) []) → AreOffsets modules kept k before offsets → AreOffsets modules kept (k + 1) next after
offsets_more modules kept k m is_kept before next offset offsets after read told here grown counted are = record {
  for_each = let long = are.for_each in omega (arith, long, ap length grown, length-append offsets (offset ∷ []));
  count =
      counted
      ∙ ap (λ (row : Option ImportRow). before + length (cons_option row [])) (row_read modules kept k m is_kept read told)
      ∙ ap (λ (n : ℕ). n + length (cons_option (row_at modules kept k) [])) are.count
      ∙ sym (count_after modules kept k);
  few = let few = are.few in omega (arith, few, counted, at_most_one (row_if is_kept m));
  each = λ p below.
      elim (cases_lt p k) [
        | inl earlier ↦ ap (λ (os : List ℕ). get_or os p 0) grown ∙ get_or_append_left offsets (offset ∷ []) 0 p (omega (arith, earlier, are.for_each)) ∙ are.each p earlier
        | inr later ↦
            let same : p ≡ k = omega arith in
            let last = ap (λ (os : List ℕ). get_or os k 0) grown ∙ get_or_push offsets offset 0 k are.for_each ∙ here ∙ ap (λ (n : ℕ). get_or (import_slots modules kept) n 0) are.count in
            subst (λ (q : ℕ). get_or after q 0 ≡ slot_offset modules kept q) (sym same) last
      ];
}

slots_count : (rows : List ImportRow) → length (slots_of rows) ≡ length rows
unfolding slots_of
slots_count rows = length-map-range_with_len (row_offset rows) 0 (length rows)

-- behind the modules there is no slot
pub past_all : (modules : List ModuleView) (kept : List Bool) (p : ℕ) → length modules ≤ p → slot_offset modules kept p ≡ 0
past_all modules kept p past =
    get_or_past (import_slots modules kept) (length (rows_below modules kept p)) 0
    (omega (arith, slots_count (import_rows modules kept), rows_among modules kept (length modules) p past))

pub all_offsets : (modules : List ModuleView) (kept : List Bool) (k before p : ℕ) (offsets : List ℕ) → k ≡ length modules → AreOffsets modules kept k before offsets → get_or offsets p 0 ≡ slot_offset modules kept p
all_offsets modules kept k before p offsets all are =
    elim (cases_lt p k) [
      | inl inside ↦ are.each p inside
      | inr past ↦ get_or_past offsets p 0 (omega (arith, past, are.for_each)) ∙ sym (past_all modules kept p (omega (arith, past, all)))
    ]

-- without slots each offset is 0
pub without_slots : (modules : List ModuleView) (kept : List Bool) (slots offsets : List ℕ) (p : ℕ) → slots ≡ import_slots modules kept → length slots ≡ 0 → offsets ≡ [] → get_or offsets p 0 ≡ slot_offset modules kept p
without_slots modules kept slots offsets p is none empty =
    ap (λ (os : List ℕ). get_or os p 0) empty
    ∙ sym (get_or_past (import_slots modules kept) (length (rows_below modules kept p)) 0 (omega (arith, none, ap length is)))
