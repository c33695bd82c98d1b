-- What reading all that a reader has left answers, where its bytes are known. Own.
use Rattle.std.specs.Prelude.{◌≡◌, ◌<◌, ◌≤◌, ℕ, List, length, Option, Result, Ok, Err, Vec, ⊤}
use Rattle.std.specs.Option.{ForSome}
use Rattle.link_files.specs.declared.files.FileError.{FileError}
use Rattle.link_files.specs.declared.files.FileError.TheVariants.{NotFound, TooLarge, Fault, Memory}

-- the bytes are at most the limit, and all that were left
pub record GivesRest (left : Option (List ℕ)) (limit : ℕ) (bytes : List ℕ) : Type 0 where
  pub within : length bytes ≤ limit
  pub whole : ForSome left (λ rest. bytes ≡ rest)

-- what each answer says: too large are more bytes than the limit, and a failure tells nothing of them
abbrev pub ReadsRest : {A : Type 0} → Option (List ℕ) → ℕ → Result (Vec ℕ A) FileError → Type 0
ReadsRest left limit (Ok bytes) = GivesRest left limit bytes.items
ReadsRest left limit (Err NotFound) = ⊤
ReadsRest left limit (Err TooLarge) = ForSome left (λ rest. limit < length rest)
ReadsRest left limit (Err Fault) = ⊤
ReadsRest left limit (Err Memory) = ⊤
