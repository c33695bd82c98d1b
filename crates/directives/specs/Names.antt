-- Names in either case, and the directives that a linker acts on (MSVC linker reference, "Linker options"; ALIGNCOMM,
-- ALTERNATENAME and FAILIFMISMATCH as this linker reads them).
use Rattle.std.specs.Prelude.{ℕ, Bool, List, [], ◌∷◌, Option, option_map, codes, find}
use Rattle.std.specs.Str.{str_eq_ignore_ascii_case}
use Rattle.directives.specs.declared.names.Listed.{Listed}
use Rattle.directives.specs.declared.names.Listed.TheVariants.{AlignComm, AlternateName, DefaultLib, Exports, FailIfMismatch, Include, Merge}

-- a name in either case
unfoldable pub is_word : List ℕ → List ℕ → Bool
is_word text word = str_eq_ignore_ascii_case text word

-- what a table says of a name
abbrev pub lookup : {A : Type 0} → List (List ℕ × A) → List ℕ → Option A
lookup table name = option_map (λ row. row.1) (find (λ row. is_word name row.0) table)

abbrev pub directive_names : List (List ℕ × Listed)
directive_names =
    (codes "ALIGNCOMM", AlignComm) ∷ (codes "ALTERNATENAME", AlternateName) ∷ (codes "DEFAULTLIB", DefaultLib)
    ∷ (codes "EXPORT", Exports) ∷ (codes "FAILIFMISMATCH", FailIfMismatch) ∷ (codes "INCLUDE", Include)
    ∷ (codes "MERGE", Merge) ∷ []

unfoldable pub listed : List ℕ → Option Listed
listed name = lookup directive_names name
