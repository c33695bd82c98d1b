-- Why files of two bytes are loaded or not, at both sides of the limit of all inputs; and those that are too large.
use Rattle.std.proofs.Common.{◌≡◌, ◌<◌, ℕ, List, [], ◌∷◌, length, Some, None, refl, lt-ltb}
use Rattle.link_base.specs.Limits.{FILE_LIMIT}
use Rattle.input_arena.specs.declared.error.LoadError.TheVariants.{NotFound, TooLarge, InputLimit}
use Rattle.input_arena.specs.Loaded.{load_error}

absent : load_error 5 None ≡ Some NotFound
absent = refl

empty_at_the_limit : load_error 1073741824 (Some []) ≡ None
empty_at_the_limit = refl

just_the_limit : load_error 1073741822 (Some (7 ∷ 8 ∷ [])) ≡ None
just_the_limit = refl

one_byte_above : load_error 1073741823 (Some (7 ∷ 8 ∷ [])) ≡ Some (InputLimit 1073741825)
one_byte_above = refl

-- whatever was loaded before
too_large : (total : ℕ) (bytes : List ℕ) → FILE_LIMIT < length bytes → load_error total (Some bytes) ≡ Some TooLarge
too_large total bytes above = rw (lt-ltb FILE_LIMIT (length bytes) above) refl
