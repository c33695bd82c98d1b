-- The lines that a run prints, other than those of diagnostics. Own.
use Rattle.std.specs.Prelude.{ℕ, List, [], ◌∷◌, ◌++◌, codes}
use Rattle.std.specs.Fmt.{decimal}
use Rattle.diagnostics.specs.LineText.{escaped, address_text}

abbrev pub usage_line : ℕ → List ℕ → List ℕ
usage_line index kind = codes "usage " ++ (decimal index ++ (32 ∷ (kind ++ (10 ∷ []))))

-- a number and what it counts
abbrev pub counted : ℕ → List ℕ → List ℕ
counted number things = decimal number ++ things

abbrev pub summary_line : List ℕ → ℕ → ℕ → ℕ → List ℕ
summary_line output modules sections len =
    codes "linked "
    ++ (escaped output
    ++ (codes ": " ++ (counted modules (codes " modules, ") ++ (counted sections (codes " sections, ") ++ counted len (codes " bytes\n")))))

-- the bases that a generated program is loaded at: its own, and another one
abbrev pub OWN_BASE : ℕ
OWN_BASE = 0x1_4000_0000

abbrev pub OTHER_BASE : ℕ
OTHER_BASE = 0x1_5000_0000

-- a sum, and the base that it is of
abbrev pub sum_text : ℕ → ℕ → List ℕ
sum_text sum base = counted sum (codes " at ") ++ address_text base

abbrev pub generated_line : ℕ → ℕ → ℕ → ℕ → List ℕ
generated_line count len own other =
    codes "gen "
    ++ (counted count (codes ": ")
    ++ (counted len (codes " bytes, ")
    ++ (sum_text own OWN_BASE ++ (codes ", " ++ (sum_text other OTHER_BASE ++ (10 ∷ []))))))

abbrev pub read_failure_line : List ℕ → List ℕ
read_failure_line name = codes "read fault " ++ (escaped name ++ (10 ∷ []))

abbrev pub write_failure_line : List ℕ → List ℕ
write_failure_line name = codes "write fault " ++ (escaped name ++ (10 ∷ []))
