-- The import name that a decorated symbol stands for (PE Format, "Import Name Type").
use Rattle.std.specs.Prelude.{ℕ, Bool, ◌||◌, ◌==◌, if◌then◌else◌, List, drop, slice_index}
use Rattle.std.specs.List.{before_first}

-- `?`, `@` or `_`
abbrev pub is_prefix : ℕ → Bool
is_prefix byte = (byte == 63) || ((byte == 64) || (byte == 95))

-- `@`
abbrev pub is_at_sign : ℕ → Bool
is_at_sign byte = byte == 64

-- the symbol without one leading `?`, `@` or `_`, where it begins so
abbrev pub no_prefix : List ℕ → List ℕ
no_prefix symbol = if is_prefix (slice_index symbol 0) then drop 1 symbol else symbol

-- and then only what stands before the first `@` that remains, where one does
abbrev pub undecorated : List ℕ → List ℕ
undecorated symbol = before_first is_at_sign (no_prefix symbol)
