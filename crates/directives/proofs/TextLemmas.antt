-- A text in UTF-8, and one that is none.
use Rattle.std.proofs.Common.{◌≡◌, ℕ, Bool, true, false, cond, List, Some, None, refl, ap}
use Rattle.std.specs.Str.{IsUtf8, is_utf8}
use Rattle.std.proofs.lemmas.Str.{IsUtf8-from_is_utf8, is_utf8-from_IsUtf8}
use Rattle.directives.specs.Value.{utf8_text}

pub utf8_there : (text bytes : List ℕ) → text ≡ bytes → IsUtf8 bytes → Some text ≡ utf8_text bytes
utf8_there text bytes e h = rw (is_utf8-from_IsUtf8 bytes h) (ap Some e)

pub utf8_missing : (bytes : List ℕ) → (IsUtf8 bytes → ⊥) → None ≡ utf8_text bytes
utf8_missing bytes h = by_cases (is_utf8 bytes) (IsUtf8-from_is_utf8 bytes)
  where
    by_cases : (b : Bool) → (b ≡ true → IsUtf8 bytes) → None ≡ cond b (Some bytes) None
    by_cases true g = absurd (h (g refl))
    by_cases false g = refl
