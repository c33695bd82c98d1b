-- The numbers of a table that a mapped image holds at an RVA.
use Rattle.std.proofs.Common.{◌≡◌, ℕ, ◌+◌, ◌*◌, ◌<◌, List, ◌∷◌, ◌++◌, length, take, drop, get_or, sym, ap, ◌∙◌, arith, subst}
use Rattle.std.specs.List.{flat_map}
use Rattle.std.proofs.lemmas.List.{take-append-drop, drop_more, length-take-le}
use Rattle.std.proofs.lemmas.List.Concat.{flat_map-append}
use Rattle.link_base.specs.Bytes.{number_bytes}
use Rattle.link_base.proofs.HeldLemmas.{held_part}
use Rattle.import_tables.specs.ImportTables.{number_table}
use Rattle.import_tables.specs.ReadBack.{Holds}
use Rattle.import_tables.proofs.SizeLemmas.{length_numbers}

split_numbers : (numbers : List ℕ) (place : ℕ) → place < length numbers → number_table numbers ≡ number_table (take place numbers) ++ (number_bytes 8 (get_or numbers place 0) ++ number_table (drop (place + 1) numbers))
unfolding number_table
split_numbers numbers place lt =
    ap (flat_map (number_bytes 8)) (sym (take-append-drop place numbers) ∙ ap (λ (xs : List ℕ). take place numbers ++ xs) (drop_more numbers place 0 lt))
    ∙ flat_map-append (number_bytes 8) (take place numbers) (get_or numbers place 0 ∷ drop (place + 1) numbers)

-- a number of a table
pub held_entry : (memory : List ℕ) (rva : ℕ) (numbers : List ℕ) (place : ℕ) → Holds memory rva (number_table numbers) → place < length numbers → Holds memory (rva + 8 * place) (number_bytes 8 (get_or numbers place 0))
held_entry memory rva numbers place held lt =
    let before = number_table (take place numbers) in
    let part : Holds memory (rva + length before) (number_bytes 8 (get_or numbers place 0)) =
    held_part memory rva before (number_bytes 8 (get_or numbers place 0)) (number_table (drop (place + 1) numbers)) (subst (Holds memory rva) (split_numbers numbers place lt) held) in
    let size : length before ≡ 8 * place = omega (arith, length_numbers (take place numbers), length-take-le place numbers (omega arith)) in
    subst (λ (n : ℕ). Holds memory (rva + n) (number_bytes 8 (get_or numbers place 0))) size part
