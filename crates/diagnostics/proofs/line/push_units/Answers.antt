use Rattle.std.proofs.Common.{◌≡◌, ℕ, ◌+◌, ◌*◌, ◌++◌, List, [], ◌∷◌, map, ap, ◌∙◌, arith}
use Rattle.std.specs.List.{flat_map, range_with_len}
use Rattle.std.proofs.lemmas.List.{append-nil}
use Rattle.std.proofs.lemmas.List.Concat.{flat_map-append}
use Rattle.std.proofs.lemmas.List.FromFn.{map-range_with_len_more}
use Rattle.std.proofs.lemmas.Grind.{common_steps}
use Rattle.link_base.specs.Bytes.{u16_at}
use Rattle.diagnostics.specs.LineText.{escaped_unit}
use Rattle.diagnostics.proofs.line.push_units.Goals as goal

-- one unit more
units_more : (unit_at : ℕ → ℕ) (i : ℕ) → flat_map escaped_unit (map unit_at (range_with_len 0 (i + 1))) ≡ flat_map escaped_unit (map unit_at (range_with_len 0 i)) ++ escaped_unit (unit_at i)
units_more unit_at i =
    ap (flat_map escaped_unit) (map-range_with_len_more unit_at 0 i i (omega arith))
    ∙ flat_map-append escaped_unit (map unit_at (range_with_len 0 i)) (unit_at i ∷ [])
    ∙ ap (λ (last : List ℕ). flat_map escaped_unit (map unit_at (range_with_len 0 i)) ++ last) (append-nil (escaped_unit (unit_at i)))

pub loop-index-preserved : goal.loop-index-preserved
loop-index-preserved c =
    let text = c.args.text.now in
    let i = c.loop-index.index in
    let so_far = flat_map escaped_unit (map (λ (k : ℕ). u16_at text (2 * k)) (range_with_len 0 i)) in
    let more = units_more (λ (k : ℕ). u16_at text (2 * k)) i in
    grind (arith, common_steps, more)
