-- Merges: which output section the pieces of a base name go to (MSVC linker reference, "/MERGE"). The presets and the
-- refusals are own.
use Rattle.std.specs.Prelude.{◌≡◌, ◌≢◌, ℕ, zero, suc, ◌<◌, Bool, ◌||◌, ◌⊎◌, IsTrue, List, [], ◌∷◌, ◌++◌, length, slice_index_or, Option, IsSome, unwrap_or, codes}
use Rattle.std.specs.Map.{lookup}
pub use Rattle.link_base.specs.NameText.{same_name}
use Rattle.section_group.specs.declared.piece.GroupError.{GroupError}
use Rattle.section_group.specs.declared.piece.GroupError.TheVariants.{BadMerge, Memory}

-- what is merged where nothing else is said
unfoldable pub preset_merges : List (List ℕ × List ℕ)
preset_merges =
    (codes ".idata", codes ".rdata") ∷ (codes ".edata", codes ".rdata") ∷ (codes ".xdata", codes ".rdata")
    ∷ (codes ".00cfg", codes ".rdata") ∷ (codes ".bss", codes ".data") ∷ []

-- the given merges, then the presets
abbrev pub all_merges : List (List ℕ × List ℕ) → List (List ℕ × List ℕ)
all_merges given = given ++ preset_merges

-- what a name is merged into: the first merge of the name counts, so a given one replaces a preset
unfoldable pub target : List (List ℕ × List ℕ) → List ℕ → Option (List ℕ)
target given name = lookup (same_name name) (all_merges given)

-- the next name along the chain of merges, or the name itself at the end of the chain
abbrev pub next_name : List (List ℕ × List ℕ) → List ℕ → List ℕ
next_name given name = unwrap_or (target given name) name

-- the name that many steps along the chain
unfoldable pub led : List (List ℕ × List ℕ) → ℕ → List ℕ → List ℕ
led given zero name = name
led given (suc steps) name = next_name given (led given steps name)

-- the end of the chain: one that comes to no name twice has ended after as many steps as there are merges
abbrev pub final_name : List (List ℕ × List ℕ) → List ℕ → List ℕ
final_name given name = led given (length (all_merges given)) name

-- the chain comes to a name twice: it goes on from the name that it has come to, and comes to it again
pub record ComesBack (given : List (List ℕ × List ℕ)) (name : List ℕ) : Type 0 where
  pub early : ℕ
  pub late : ℕ
  pub apart : early < late
  pub goes_on : IsSome (target given (led given early name))
  pub again : led given late name ≡ led given early name

abbrev pub merge_at : List (List ℕ × List ℕ) → ℕ → List ℕ × List ℕ
merge_at given k = slice_index_or given k ([], [])

-- an earlier merge of the same name has another target
pub record HasOtherTarget (given : List (List ℕ × List ℕ)) (k : ℕ) : Type 0 where
  pub earlier : ℕ
  pub before : earlier < k
  pub same : (merge_at given earlier).0 ≡ (merge_at given k).0
  pub other : (merge_at given earlier).1 ≢ (merge_at given k).1

-- the sections that the linker lays out by rules of their own
abbrev pub is_reserved : List ℕ → Bool
is_reserved name =
    same_name name (codes ".pdata") || (same_name name (codes ".rsrc") || same_name name (codes ".reloc"))

abbrev pub names_reserved : List ℕ × List ℕ → Bool
names_reserved merge = is_reserved merge.0 || is_reserved merge.1

-- why a merge is refused
abbrev pub IsBadMerge : List (List ℕ × List ℕ) → ℕ → Type 0
IsBadMerge given k =
    HasOtherTarget given k ⊎ (ComesBack given (merge_at given k).0 ⊎ IsTrue (names_reserved (merge_at given k)))

-- the first merge that is refused
pub record IsFirstBadMerge (given : List (List ℕ × List ℕ)) (k : ℕ) : Type 0 where
  pub within : k < length given
  pub bad : IsBadMerge given k
  pub before : (j : ℕ) → j < k → ¬ IsBadMerge given j

-- no merge is refused
abbrev pub HasNoBadMerge : List (List ℕ × List ℕ) → Type 0
HasNoBadMerge given = (k : ℕ) → k < length given → ¬ IsBadMerge given k

-- the left name of the first merge that is refused
pub record NamesFirstBad (given : List (List ℕ × List ℕ)) (name : List ℕ) : Type 0 where
  pub place : ℕ
  pub first : IsFirstBadMerge given place
  pub named : name ≡ (merge_at given place).0

-- what a refusal says: the first bad merge, or nothing for want of memory
abbrev pub IsRefusal : List (List ℕ × List ℕ) → GroupError → Type 0
IsRefusal given (BadMerge name) = NamesFirstBad given name
IsRefusal given Memory = Unit {0}
