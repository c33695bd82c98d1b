-- How far the texts of a string table go. Own.
use Rattle.std.specs.Prelude.{◌≡◌, ℕ, nat_lt, List, is_some}
use Rattle.link_base.specs.Bytes.{text_at}

-- a text ends in the table exactly where it begins before this place
pub record EndsTexts (table : List ℕ) (place : ℕ) : Type 0 where
  pub ends : (offset : ℕ) → is_some (text_at table offset) ≡ nat_lt offset place
