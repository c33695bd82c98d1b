-- The lists that a form, a pair and a table of names borrow.
use Rattle.std.specs.Prelude.{ℕ, List, Option, map}
use Rattle.std.specs.Option.{option_copied}
use Rattle.std.specs.Borrow.{Bor}
use Rattle.directives.specs.declared.form.Form.{Form}

abbrev pub form_lists : Form → List ℕ × Option (List ℕ)
form_lists form = (form.first.now, option_copied form.after)

abbrev pub two_lists : Bor (List ℕ) × Bor (List ℕ) → List ℕ × List ℕ
two_lists both = (both.0.now, both.1.now)

abbrev pub rows : {A : Type 0} → List (Bor (List ℕ) × A) → List (List ℕ × A)
rows table = map (λ row. (row.0.now, row.1)) table
