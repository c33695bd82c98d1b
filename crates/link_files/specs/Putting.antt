-- What each answer of a put says, of the bytes taken so far, where they are told, and of the count of faults. Own.
use Rattle.std.specs.Prelude.{◌≡◌, ◌<◌, ◌++◌, ℕ, List, take, Option, option_map, Result, Ok, Err}
use Rattle.link_files.specs.declared.sink.PutError.{PutError}
use Rattle.link_files.specs.declared.sink.PutError.TheVariants.{Fault, Memory}

-- the bytes taken so far, followed by these; told or untold, they stay so
abbrev pub told_with_bytes : Option (List ℕ) → List ℕ → Option (List ℕ)
told_with_bytes taken bytes = option_map (λ so_far. so_far ++ bytes) taken

-- the bytes were taken; no put failed
pub record TakesBytes (old new : Option (List ℕ)) (bytes : List ℕ) (before after : ℕ) : Type 0 where
  pub none_failed : after ≡ before
  pub taken : new ≡ told_with_bytes old bytes

-- the first bytes were taken, some of them or none or all; a put failed
pub record TakesPrefix (old new : Option (List ℕ)) (bytes : List ℕ) (before after : ℕ) : Type 0 where
  pub failed : before < after
  pub torn : (len : ℕ) × (new ≡ told_with_bytes old (take len bytes))

-- nothing was taken; no put failed
pub record TakesNothing (old new : Option (List ℕ)) (before after : ℕ) : Type 0 where
  pub none_failed : after ≡ before
  pub kept : new ≡ old

-- what a put of the bytes says by its answer; the counts are those of faults before and after
abbrev pub PutsBytes : {T : Type 0} → Option (List ℕ) → Option (List ℕ) → List ℕ → ℕ → ℕ → Result T PutError → Type 0
PutsBytes old new bytes before after (Ok _) = TakesBytes old new bytes before after
PutsBytes old new bytes before after (Err Fault) = TakesPrefix old new bytes before after
PutsBytes old new bytes before after (Err Memory) = TakesNothing old new before after
