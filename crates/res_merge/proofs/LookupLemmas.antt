-- The entries of a table, one after another, until one has the key.
use Rattle.std.proofs.Common.{◌≡◌, ℕ, suc, ◌+◌, ◌-◌, ◌<◌, ◌≤◌, Bool, true, false, cond, List, ◌∷◌, map, Option, Some, None, refl, sym, ap, ◌∙◌, arith}
use Rattle.std.specs.List.{range_with_len}
use Rattle.res_merge.specs.declared.rows.Row.{Row}
use Rattle.res_merge.specs.Entries.{Key}
use Rattle.res_merge.specs.Lookup.{row_at, row_count, rows_at, is_named, first_named}

abbrev pub rows_left : List ℕ → ℕ → ℕ → ℕ → List Row
rows_left part table index count = map (row_at part table) (range_with_len index (count - index))

pub left_all : (part : List ℕ) (key : Key) (table count : ℕ) → count ≡ row_count part table → first_named part key (rows_at part table) ≡ first_named part key (rows_left part table 0 count)
unfolding rows_at
left_all part key table count is =
    let all : count - 0 ≡ row_count part table = omega (arith, is) in
    ap (λ (n : ℕ). first_named part key (map (row_at part table) (range_with_len 0 n))) (sym all)

left_step : (part : List ℕ) (table index count : ℕ) → index < count → rows_left part table index count ≡ row_at part table index ∷ rows_left part table (index + 1) count
left_step part table index count lt =
    let one : count - index ≡ suc (count - (index + 1)) = omega arith in
    ap (λ (n : ℕ). map (row_at part table) (range_with_len index n)) one

module _ (part : List ℕ) (key : Key) (table index count : ℕ) (before : Option ℕ) (was : before ≡ first_named part key (rows_left part table index count)) where
  pub found : (row : Row) → index < count → row ≡ row_at part table index → is_named part key row.id ≡ true → Some row.target ≡ before
  unfolding first_named
  found row lt is named =
      sym (was ∙ ap (first_named part key) (left_step part table index count lt) ∙ step (is_named part key (row_at part table index).id) (ap (λ (r : Row). is_named part key r.id) (sym is) ∙ named) ∙ ap (λ (r : Row). Some r.target) (sym is))
    where
      step : (b : Bool) → b ≡ true → cond b (Some (row_at part table index).target) (first_named part key (rows_left part table (index + 1) count)) ≡ Some (row_at part table index).target
      step true e = refl
      step false e = absurd cc

  pub passed : (row : Row) → index < count → row ≡ row_at part table index → is_named part key row.id ≡ false → before ≡ first_named part key (rows_left part table (index + 1) count)
  unfolding first_named
  passed row lt is other =
      was ∙ ap (first_named part key) (left_step part table index count lt) ∙ step (is_named part key (row_at part table index).id) (ap (λ (r : Row). is_named part key r.id) (sym is) ∙ other)
    where
      step : (b : Bool) → b ≡ false → cond b (Some (row_at part table index).target) (first_named part key (rows_left part table (index + 1) count)) ≡ first_named part key (rows_left part table (index + 1) count)
      step true e = absurd cc
      step false e = refl

  pub none_left : count ≤ index → None ≡ before
  unfolding first_named
  none_left le =
      let nothing : count - index ≡ 0 = omega arith in
      sym (was ∙ ap (λ (n : ℕ). first_named part key (map (row_at part table) (range_with_len index n))) nothing)
