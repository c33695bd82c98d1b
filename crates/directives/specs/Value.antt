-- The value of each directive.
use Rattle.std.specs.Prelude.{ℕ, ◌&&◌, if◌then◌else◌, List, Option, Some, None, option_map, option_and_then}
use Rattle.std.specs.Str.{is_utf8}
use Rattle.directives.specs.Said as says
use Rattle.directives.specs.Said.{Said}
use Rattle.directives.specs.Text.{is_comma, is_equals, is_name, is_text}
use Rattle.directives.specs.Form.{whole, pair}
use Rattle.directives.specs.Number.{decimal_up_to}
use Rattle.directives.specs.ExportValue.{export_value}
use Rattle.directives.specs.Names.{listed}
use Rattle.directives.specs.declared.names.Listed.{Listed}
use Rattle.directives.specs.declared.names.Listed.TheVariants.{AlignComm, AlternateName, DefaultLib, Exports, FailIfMismatch, Include, Merge}

-- one name
abbrev pub named : List ℕ → Option (List ℕ)
named text = if is_name text then Some text else None

unfoldable pub name_of : List ℕ → Option (List ℕ)
name_of value = option_and_then named (whole value)

-- two names
abbrev pub both_named : List ℕ × List ℕ → Option (List ℕ × List ℕ)
both_named (left, right) = if is_name left && is_name right then Some (left, right) else None

unfoldable pub names_of : List ℕ → Option (List ℕ × List ℕ)
names_of value = option_and_then both_named (pair is_equals value)

-- a common's name, and the power of two that it is aligned to, at most 13
abbrev pub align_said : List ℕ × List ℕ → Option Said
align_said (name, log) = if is_name name then option_map (says.AlignComm name) (decimal_up_to 13 log) else None

-- a library's name is a text in UTF-8
abbrev pub utf8_text : List ℕ → Option (List ℕ)
utf8_text text = if is_utf8 text then Some text else None

-- the value of a key may be empty
abbrev pub mismatch_said : List ℕ × List ℕ → Option Said
mismatch_said (key, value) = if is_name key && is_text value then Some (says.FailIfMismatch key value) else None

-- one line a directive
abbrev pub listed_said : List ℕ → Listed → Option Said
listed_said value AlignComm = option_and_then align_said (pair is_comma value)
listed_said value AlternateName = option_map (λ two. says.AlternateName two.0 two.1) (names_of value)
listed_said value DefaultLib = option_map says.DefaultLib (option_and_then utf8_text (name_of value))
listed_said value Exports = option_map says.Exports (export_value value)
listed_said value FailIfMismatch = option_and_then mismatch_said (pair is_equals value)
listed_said value Include = option_map says.Include (name_of value)
listed_said value Merge = option_map (λ two. says.Merge two.0 two.1) (names_of value)

-- what a name of the table says with a value of its form
unfoldable pub value_said : List ℕ → List ℕ → Option Said
value_said name value = option_and_then (listed_said value) (listed name)
