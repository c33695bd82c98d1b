-- Whether a section, or a symbol, fails for any kind of fault that is judged of it. Own.
use Rattle.std.specs.Prelude.{ℕ, Bool, ◌||◌, List}
use Rattle.coff_records.specs.ObjectFile.{SymbolEntry}
use Rattle.coff_records.specs.FileRanges.{body_leaves, relocations_leave}
use Rattle.coff_records.specs.SectionHeader.{lacks_section_name}
use Rattle.coff_records.specs.SymbolRecord.{lacks_symbol_name}
use Rattle.coff_object.specs.ObjectFaults.{has_no_alignment, aux_leave, has_no_section, value_exceeds}

-- a section fails for one of the kinds that are judged of its header
unfoldable pub section_fails : List ℕ → List ℕ → List ℕ → Bool
section_fails file strings header =
    body_leaves file header
    || (relocations_leave file header || (lacks_section_name strings header || has_no_alignment header))

-- a symbol fails for one of the kinds that are judged of its record
unfoldable pub symbol_fails : List ℕ → SymbolEntry → Bool
symbol_fails file entry =
    aux_leave file entry || (lacks_symbol_name entry.1 || (has_no_section file entry.1 || value_exceeds file entry.1))
