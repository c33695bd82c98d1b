-- Texts that stand one behind the other, each ended by a NUL (PE Format, "First Linker Member").
use Rattle.std.specs.Prelude.{ℕ, zero, suc, Bool, true, ◌&&◌, List, is_some}
use Rattle.std.specs.List.{before_first, after_first}
use Rattle.link_base.specs.Bytes.{is_nul, text_at}

abbrev pub first_text : List ℕ → List ℕ
first_text text = before_first is_nul text

-- what stands behind the first text and its NUL
abbrev pub behind_text : List ℕ → List ℕ
behind_text text = after_first is_nul text

-- `n` texts end here
unfoldable pub texts_end : ℕ → List ℕ → Bool
texts_end zero text = true
texts_end (suc n) text = is_some (text_at text 0) && texts_end n (behind_text text)
