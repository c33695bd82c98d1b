use Rattle.std.proofs.Common.{◌≡◌, ℕ, ◌+◌, List, [], ◌∷◌, ◌++◌, length, map, Some, sym, ap, ◌∙◌, arith}
use Rattle.std.specs.List.{range_with_len}
use Rattle.std.proofs.lemmas.Option.{same_Some}
use Rattle.std.proofs.lemmas.List.FromFn.{map-range_with_len_more, length-map-range_with_len}
use Rattle.coff_records.specs.ObjectFile.{section_total}
use Rattle.comdat.specs.ChosenBy.{chosen_by, parent_by}
use Rattle.comdat.proofs.RowEndLemmas.{parents_by}
use Rattle.comdat.proofs.ends.section_parents.Goals as goal

-- the sections are counted
counted : (bytes : List ℕ) (object : List ℕ) (count : ℕ) → Some object ≡ Some bytes → count ≡ section_total object → count ≡ section_total bytes
counted bytes object count same is = is ∙ ap section_total (same_Some object bytes same)

pub loop-index-preserved : goal.loop-index-preserved
loop-index-preserved c =
    let bytes = c.args.«module».now.bytes in
    let i = c.loop-index.index in
    let parent = λ (count : ℕ) (section : ℕ). parent_by count (chosen_by bytes section) in
    let count = counted bytes c.in-Some.object.now c.section_count-count.result c.in-Some.ensures.object c.section_count-count.ensures in
    c.in_ok-push-2.ensures.items
    ∙ ap (λ (parents : List ℕ). parents ++ c.section_parent-parent.result ∷ []) c.loop-index.invariant
    ∙ ap (λ (n : ℕ). 0 ∷ (map (parent (section_total bytes)) (range_with_len 1 i) ++ n ∷ [])) (c.section_parent-parent.ensures ∙ ap (λ (n : ℕ). parent n (i + 1)) count ∙ ap (parent (section_total bytes)) (omega arith))
    ∙ ap (λ (parents : List ℕ). 0 ∷ parents) (sym (map-range_with_len_more (parent (section_total bytes)) 1 i (i + 1) (omega arith)))

pub returns-clause-parents : goal.returns-clause-parents
returns-clause-parents c =
    let bytes = c.args.«module».now.bytes in
    let count = counted bytes c.in-Some.object.now c.section_count-count.result c.in-Some.ensures.object c.section_count-count.ensures in
    let all : c.loop-index.index ≡ section_total bytes = omega (arith, count) in
    c.loop-index.invariant
    ∙ ap (λ (n : ℕ). 0 ∷ map (λ section. parent_by (section_total bytes) (chosen_by bytes section)) (range_with_len 1 n)) all
    ∙ parents_by bytes

pub returns-clause-few : goal.returns-clause-few
returns-clause-few c =
    let bytes = c.args.«module».now.bytes in
    omega (arith, ap length c.loop-index.invariant, length-map-range_with_len (λ section. parent_by (section_total bytes) (chosen_by bytes section)) 1 c.loop-index.index)
