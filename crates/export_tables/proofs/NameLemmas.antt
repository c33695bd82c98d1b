-- The first entry of a name, in a loop that counts up.
use Rattle.std.proofs.Common.{◌≡◌, ℕ, zero, suc, ◌+◌, ◌*◌, ◌-◌, ◌<◌, ◌≤◌, List, length, Option, Some, None, is_some, true, refl, sym, ap, ◌∙◌, arith}
use Rattle.std.proofs.lemmas.Bool.{lt-leb}
use Rattle.std.specs.Option.{option_or}
use Rattle.link_base.specs.Refusals.{first_refusal_below}
use Rattle.link_base.proofs.RefusalLemmas.{first_refusal_below-found}
use Rattle.export_tables.specs.declared.directory.Directory.{Directory}
use Rattle.export_tables.specs.ExportDirectory.{is_named, named_address, name_address}

-- an entry that leaves the memory has no name
none_beyond : (memory : List ℕ) (directory : Directory) (name : List ℕ) (index : ℕ) → length memory < directory.name_table + 4 * index + 4 → named_address memory directory name index ≡ None
unfolding named_address is_named
none_beyond memory directory name index beyond = rw (lt-leb _ _ beyond) refl

none_behind : {A : Type 0} (n more : ℕ) (at : ℕ → Option A) → first_refusal_below n at ≡ None → ((k : ℕ) → n ≤ k → at k ≡ None) → first_refusal_below (n + more) at ≡ None
unfolding first_refusal_below
none_behind n zero at none later = let same : n + 0 ≡ n = omega arith in ap (λ (m : ℕ). first_refusal_below m at) same ∙ none
none_behind n (suc more) at none later =
    let next : n + suc more ≡ suc (n + more) = omega arith in
    ap (λ (m : ℕ). first_refusal_below m at) next
    ∙ ap (λ o. option_or o (at (n + more))) (none_behind n more at none later)
    ∙ later (n + more) (omega arith)

-- from an entry on that leaves the memory there is none
pub none_named : (memory : List ℕ) (directory : Directory) (name : List ℕ) (index : ℕ) → index < directory.name_count → first_refusal_below index (named_address memory directory name) ≡ None → length memory < directory.name_table + 4 * index + 4 → None ≡ name_address memory directory name
unfolding name_address
none_named memory directory name index lt none beyond =
    let count : directory.name_count ≡ index + (directory.name_count - index) = omega (arith, lt) in
    sym (ap (λ (n : ℕ). first_refusal_below n (named_address memory directory name)) count
    ∙ none_behind index (directory.name_count - index) (named_address memory directory name) none (λ k le. none_beyond memory directory name k (omega (arith, beyond, le))))

pub some_is : {A : Type 0} (o : Option A) → is_some o ≡ true → (x : A) × (o ≡ Some x)
some_is None e = absurd cc
some_is (Some x) e = (x, refl)

-- an entry that exports something is the first
pub first_named : (memory : List ℕ) (directory : Directory) (name : List ℕ) (index : ℕ) (address : Option ℕ) → index < directory.name_count → first_refusal_below index (named_address memory directory name) ≡ None → address ≡ named_address memory directory name index → is_some address ≡ true → address ≡ name_address memory directory name
unfolding name_address
first_named memory directory name index address lt none is some =
    let there = some_is address some in
    there.1 ∙ sym (first_refusal_below-found index directory.name_count (named_address memory directory name) there.0 lt none (sym is ∙ there.1))
