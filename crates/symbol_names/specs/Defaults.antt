-- What a weak external means where nothing defines its name (PE Format, "Weak Externals").
use Rattle.std.specs.Prelude.{ℕ, Bool, ◌&&◌, ◌||◌, ◌==◌, nat_le, if◌then◌else◌, List}
use Rattle.std.specs.Int.Signed.{lt_z}
use Rattle.link_base.specs.PeFormat.{SYM_CLASS_EXTERNAL, SYM_CLASS_WEAK_EXTERNAL, SYM_UNDEFINED}
use Rattle.coff_records.specs.ObjectFile.{SymbolView, section_total, raw_size_of, starts_symbol, symbol_at, name_in, value_in, section_number_in, section_of_number, class_in}
use Rattle.coff_aux.specs.Comdats.{is_section_number}
use Rattle.module_view.specs.SymbolLists.{is_absolute}
use Rattle.symbol_names.specs.declared.weak_default.WeakDefault.{WeakDefault}
use Rattle.symbol_names.specs.declared.weak_default.WeakDefault.TheVariants as default

-- other modules can name the symbol, so that it stands for its name
abbrev pub is_global : SymbolView → Bool
is_global symbol = (class_in symbol == SYM_CLASS_EXTERNAL) || (class_in symbol == SYM_CLASS_WEAK_EXTERNAL)

-- an offset in a section that is there, which its end does not come before
abbrev pub is_inside : List ℕ → ℕ → ℕ → Bool
is_inside bytes section value = is_section_number (section_total bytes) section && nat_le value (raw_size_of bytes section)

abbrev pub place_default : List ℕ → ℕ → ℕ → WeakDefault
place_default bytes section value = if is_inside bytes section value then default.Place section value else default.Nothing

-- a symbol that only its own module can name: a number, or a place in one of its sections, or nothing
abbrev pub local_default : List ℕ → SymbolView → WeakDefault
local_default bytes symbol =
    if is_absolute symbol then default.Absolute (value_in symbol)
    else (if lt_z SYM_UNDEFINED (section_number_in symbol)
    then place_default bytes (section_of_number (section_number_in symbol)) (value_in symbol)
    else default.Nothing)

unfoldable pub symbol_default : List ℕ → SymbolView → WeakDefault
symbol_default bytes symbol = if is_global symbol then default.Name (name_in symbol) else local_default bytes symbol

-- the symbol at the record that a weak external names; a record that is no symbol has been refused before
unfoldable pub default_of : List ℕ → ℕ → WeakDefault
default_of bytes tag = if starts_symbol bytes tag then symbol_default bytes (symbol_at bytes tag) else default.Nothing
