mod RowLemmas
mod NumberedLemmas
mod SlashLemmas
