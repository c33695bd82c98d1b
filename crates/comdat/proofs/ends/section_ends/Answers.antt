use Rattle.std.proofs.Common.{◌≡◌, ◌+◌, ◌≤◌, ℕ, List, None, Result, Ok, Err, Vec, Global, length, map, sym, ap, subst, ◌∙◌, arith}
use Rattle.std.specs.List.{range_with_len}
use Rattle.std.specs.Result.{IfOk}
use Rattle.coff_records.specs.ObjectFile.{section_total}
use Rattle.std.proofs.lemmas.List.FromFn.{length-map-range_with_len}
use Rattle.link_base.specs.declared.memory.Memory.{Memory}
use Rattle.link_base.specs.Bytes.{first_below}
use Rattle.coff_aux.specs.Comdats.{parents_of}
use Rattle.coff_aux.specs.Parents.{AreParents, comes_back}
use Rattle.comdat.specs.Chains.{chain_end}
use Rattle.comdat.proofs.OpenedLemmas.{ends, parents_are, parent_count}
use Rattle.comdat.proofs.ends.section_ends.Goals as goal

pub chain_ends-requires-clause-parents : goal.chain_ends-requires-clause-parents
chain_ends-requires-clause-parents c =
    subst AreParents (sym (c.deref.ensures.value ∙ c.in_ok-parents.ensures.parents)) (parents_are c.args.«module».now.bytes)

pub chain_ends-requires-clause-ends : goal.chain_ends-requires-clause-ends
chain_ends-requires-clause-ends c =
    subst (λ (parents : List ℕ). first_below (length parents) (comes_back parents) ≡ None) (sym (c.deref.ensures.value ∙ c.in_ok-parents.ensures.parents)) (ends c.args.«module».now.bytes c.requires)

pub chain_ends-requires-clause-few : goal.chain_ends-requires-clause-few
chain_ends-requires-clause-few c = omega (arith, ap length c.deref.ensures.value, c.in_ok-parents.ensures.few)

pub chain_ends-requires-clause-some : goal.chain_ends-requires-clause-some
chain_ends-requires-clause-some c =
    omega (arith, ap length (c.deref.ensures.value ∙ c.in_ok-parents.ensures.parents), parent_count c.args.«module».now.bytes)

pub returns-clause-ends : goal.returns-clause-ends
returns-clause-ends c =
    let bytes = c.args.«module».now.bytes in
    let parents : c.deref.result.now ≡ parents_of bytes = c.deref.ensures.value ∙ c.in_ok-parents.ensures.parents in
    let count : length c.deref.result.now ≡ section_total bytes + 1 = ap length parents ∙ parent_count bytes in
    subst (λ (n : ℕ). IfOk c.chain_ends.result (λ ends. ends.items ≡ map (chain_end (parents_of bytes)) (range_with_len 0 n))) count
    (subst (λ (list : List ℕ). IfOk c.chain_ends.result (λ ends. ends.items ≡ map (chain_end list) (range_with_len 0 (length c.deref.result.now)))) parents c.chain_ends.ensures)

pub returns-clause-few : goal.returns-clause-few
returns-clause-few c =
    let parents = c.deref.result.now in
    either c.chain_ends.result parents c.chain_ends.ensures (omega (arith, ap length c.deref.ensures.value, c.in_ok-parents.ensures.few))
  where
    either : (result : Result (Vec ℕ Global) Memory) (parents : List ℕ) → IfOk result (λ ends. ends.items ≡ map (chain_end parents) (range_with_len 0 (length parents))) → length parents ≤ 4294967296 → IfOk result (λ ends. length ends.items ≤ 4294967296)
    either (Ok ends) parents are few = omega (arith, few, ap length are, length-map-range_with_len (chain_end parents) 0 (length parents))
    either (Err error) parents are few = are
