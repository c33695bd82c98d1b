-- What an entry of a table names where its text stands.
use Rattle.std.proofs.Common.{◌≡◌, ◌≢◌, ◌⊎◌, ℕ, ◌+◌, ◌-◌, ◌*◌, ◌/◌, ◌<◌, ◌≤◌, true, false, eqb, leb, List, ◌++◌, length, take, drop, refl, sym, ap, ◌∙◌, inl, inr, le-leb, append_assoc, length-append, length-drop, arith}
use Rattle.std.proofs.Math.Bool.{and-false}
use Rattle.std.specs.Prelude.{replicate}
use Rattle.std.specs.Cmp.Lexicographic.{unequal}
use Rattle.std.proofs.lemmas.Bool.{cases_lt, eq-eqb}
use Rattle.link_base.specs.Bytes.{number_bytes, u16_at, has_bytes, bytes_at}
use Rattle.link_base.specs.NameText.{same_name}
use Rattle.link_base.proofs.CallerLemmas.{length-number_bytes}
use Rattle.link_base.proofs.NumberLemmas.{eqb_apart}
use Rattle.link_base.proofs.ListLemmas.{front_is}
use Rattle.link_base.proofs.PartLemmas.{number_there}
use Rattle.res_merge.specs.Entries.{Key, Number, Text}
use Rattle.res_merge.specs.ResourceFile.{aligned}
use Rattle.res_merge.specs.Order.{IsShort}
use Rattle.res_merge.specs.Tree.{HIGH_BIT, text_bytes, row_id}
use Rattle.res_merge.specs.Lookup.{is_text_at, is_named}
use Rattle.res_merge.specs.Found.{IsSmallKey, equal_key}
use Rattle.res_merge.proofs.FoundLemmas.{behind}

abbrev pad : List ℕ → List ℕ
pad units = replicate (aligned (2 + length units) - (2 + length units)) 0

-- the text that stands at an offset
module _ (part rest units wanted : List ℕ) (offset : ℕ) (is : drop offset part ≡ text_bytes (Text units) ++ rest) (short : IsShort (Text units)) where
  first : drop offset part ≡ number_bytes 2 (length units / 2) ++ ((units ++ pad units) ++ rest)
  first = is ∙ append_assoc (number_bytes 2 (length units / 2)) (units ++ pad units) rest

  second : drop (offset + 2) part ≡ units ++ (pad units ++ rest)
  second = behind part (number_bytes 2 (length units / 2)) ((units ++ pad units) ++ rest) offset 2 first (length-number_bytes 2 (length units / 2)) ∙ append_assoc units (pad units) rest

  read : 2 * u16_at part offset ≡ length units
  read = ap (λ (n : ℕ). 2 * n) (number_there 2 (length units / 2) offset part _ first (omega (arith, short.1))) ∙ omega (arith, short.0)

  size_all : length part - offset ≡ 2 + (length units + length (pad units ++ rest))
  size_all =
      sym (length-drop offset part) ∙ ap length first ∙ length-append (number_bytes 2 (length units / 2)) ((units ++ pad units) ++ rest)
      ∙ ap (λ (n : ℕ). n + length ((units ++ pad units) ++ rest)) (length-number_bytes 2 (length units / 2))
      ∙ ap (λ (xs : List ℕ). 2 + length xs) (append_assoc units (pad units) rest) ∙ ap (λ (n : ℕ). 2 + n) (length-append units (pad units ++ rest))

  apart : length units ≢ length wanted → is_text_at part offset wanted ≡ same_name units wanted
  apart differ =
      rw (eqb_apart (2 * u16_at part offset) (length wanted) (λ e. differ (sym read ∙ e))) (and-false (has_bytes part offset (2 + length wanted)) ∙ sym (unequal eqb units wanted differ))

  same : length units ≡ length wanted → is_text_at part offset wanted ≡ same_name units wanted
  same e =
      let there : has_bytes part offset (2 + length wanted) ≡ true = le-leb _ _ (omega (arith, size_all)) in
      let counted : eqb (2 * u16_at part offset) (length wanted) ≡ true = eq-eqb _ _ (read ∙ e) in
      let units_are : bytes_at part (offset + 2) (length wanted) ≡ units = ap (take (length wanted)) second ∙ front_is units (pad units ++ rest) (length wanted) (sym e) in
      rw (there, counted, units_are) refl

  by_size : (length units < length wanted) ⊎ (length wanted ≤ length units) → (length wanted < length units) ⊎ (length units ≤ length wanted) → is_text_at part offset wanted ≡ same_name units wanted
  by_size (inl lt) also = apart (λ e. omega arith)
  by_size (inr le) (inl lt) = apart (λ e. omega arith)
  by_size (inr le) (inr ge) = same (omega arith)

  text_there : is_text_at part offset wanted ≡ same_name units wanted
  text_there = by_size (cases_lt (length units) (length wanted)) (cases_lt (length wanted) (length units))

-- an entry whose text stands at its offset names its key alone
pub named_as : (part rest : List ℕ) (wanted key : Key) (offset : ℕ) → drop offset part ≡ text_bytes key ++ rest → IsShort key → IsSmallKey key → IsSmallKey wanted → is_named part wanted (row_id offset key) ≡ equal_key wanted key
unfolding is_named
named_as part rest (Number n) (Number m) offset is short small also = refl
named_as part rest (Number n) (Text units) offset is short small also = eqb_apart (HIGH_BIT + offset) n (λ e. omega arith)
named_as part rest (Text wanted) (Number m) offset is short small also = rw (below) refl
  where
    below : leb HIGH_BIT m ≡ false
    below = grind arith
named_as part rest (Text wanted) (Text units) offset is short small also =
    let there : leb HIGH_BIT (HIGH_BIT + offset) ≡ true = le-leb _ _ (omega arith) in
    let back : HIGH_BIT + offset - HIGH_BIT ≡ offset = omega arith in
    rw (there, back) (text_there part rest units wanted offset is short)
