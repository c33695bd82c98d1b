-- The forms of the options' values (MSVC linker reference, "Linker options").
use Rattle.std.specs.Prelude.{ℕ, Bool, true, false, if◌then◌else◌, List, [], ◌∷◌, map, Option, Some, None, is_some, option_map, codes}
use Rattle.std.specs.List.{slice_split, list_all, filter_map, last_or}
use Rattle.directives.specs.Names.{is_word, lookup}
use Rattle.directives.specs.Text.{is_comma, is_dot, split_at_first}
use Rattle.directives.specs.Number.{decimal_up_to, number_up_to}
use Rattle.link_base.specs.PeFormat.{PAGE_SIZE, SUBSYSTEM_NATIVE, SUBSYSTEM_WINDOWS_GUI, SUBSYSTEM_WINDOWS_CUI}

-- below 2^64, below 2^32, and decimal below 2^16
abbrev pub number_64 : List ℕ → Option ℕ
number_64 text = number_up_to 18446744073709551615 text

abbrev pub number_32 : List ℕ → Option ℕ
number_32 text = number_up_to 4294967295 text

abbrev pub decimal_16 : List ℕ → Option ℕ
decimal_16 text = decimal_up_to 65535 text

-- the word itself
abbrev pub exactly : List ℕ → List ℕ → Option Bool
exactly word text = if is_word text word then Some true else None

-- `NO`
unfoldable pub negated : List ℕ → Option Bool
negated text = if is_word text (codes "NO") then Some false else None

-- two numbers with a separator between, the second of which is a default where nothing is said
abbrev pub both : Option ℕ → Option ℕ → Option (ℕ × ℕ)
both None second = None
both (Some first) second = option_map (λ n. (first, n)) second

abbrev pub two_read : (List ℕ → Option ℕ) → ℕ → List ℕ → Option (List ℕ × List ℕ) → Option (ℕ × ℕ)
two_read read default text None = both (read text) (Some default)
two_read read default text (Some (first, second)) = both (read first) (read second)

-- how much is reserved, and after a comma how much is committed at first
unfoldable pub sizes : List ℕ → Option (ℕ × ℕ)
sizes text = two_read number_64 PAGE_SIZE text (split_at_first is_comma text)

-- a major version, and after a dot a minor one
unfoldable pub version : List ℕ → Option (ℕ × ℕ)
version text = two_read decimal_16 0 text (split_at_first is_dot text)

abbrev pub subsystem_names : List (List ℕ × ℕ)
subsystem_names =
    (codes "NATIVE", SUBSYSTEM_NATIVE) ∷ (codes "WINDOWS", SUBSYSTEM_WINDOWS_GUI) ∷ (codes "CONSOLE", SUBSYSTEM_WINDOWS_CUI) ∷ []

unfoldable pub subsystem : List ℕ → Option ℕ
subsystem text = lookup subsystem_names text

-- whether unreferenced sections are dropped, and whether equal functions fold, where a part of a list says so or says not
abbrev pub opt_names : List (List ℕ × (Option Bool × Option Bool))
opt_names =
    (codes "REF", (Some true, None)) ∷ (codes "NOREF", (Some false, None)) ∷ (codes "ICF", (None, Some true)) ∷ (codes "NOICF", (None, Some false)) ∷ []

unfoldable pub opt_item : List ℕ → Option (Option Bool × Option Bool)
opt_item text = lookup opt_names text

abbrev pub refs_in : Option (Option Bool × Option Bool) → Option Bool
refs_in None = None
refs_in (Some (refs, icf)) = refs

abbrev pub icf_in : Option (Option Bool × Option Bool) → Option Bool
icf_in None = None
icf_in (Some (refs, icf)) = icf

-- for each of the two the last of the parts between commas that says, where each part is one of the table
unfoldable pub opts : List ℕ → Option (Option Bool × Option Bool)
opts text =
    let parts = map opt_item (slice_split is_comma text) in
    if list_all is_some parts then Some (last_or None (filter_map refs_in parts), last_or None (filter_map icf_in parts)) else None
