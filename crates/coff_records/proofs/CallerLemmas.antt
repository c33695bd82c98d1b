-- What callers may cite: what is whole in a file, where records stand, the steps of a walk along symbols, texts, and names of
-- sections.
pub use Rattle.coff_records.proofs.WholeLemmas.{range_whole, file_whole, sections_fit}
pub use Rattle.coff_records.proofs.PlaceLemmas.{size_cases, records_fit-whole}
pub use Rattle.coff_records.proofs.SymbolsLemmas.{starts_from-end, starts_from-step, entries_step, SymbolsLeft, SymbolStep, symbols_left-all, symbols_left-step, symbol_strings}
pub use Rattle.coff_records.proofs.TextLemmas.{first_is_near}
pub use Rattle.coff_records.proofs.TextStartLemmas.{before_first-take}
pub use Rattle.coff_records.proofs.NameFieldLemmas.{name_in_field}
