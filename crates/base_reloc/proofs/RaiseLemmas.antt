-- Fields raised one after the other.
use Rattle.std.proofs.Common.{◌≡◌, ℕ, ◌+◌, ◌-◌, ◌*◌, ◌%◌, ◌^◌, ◌<◌, Bool, cond, true, false, List, ◌++◌, length, take, drop, None, refl, sym, ap, ◌∙◌}
use Rattle.std.proofs.lemmas.List.Sums.{fold-append}
use Rattle.std.proofs.lemmas.List.{drop-drop}
use Rattle.std.proofs.Math.Nat.{add-mod-mod}
use Rattle.byteorder.specs.Endian.{little_number, little_bytes}
use Rattle.link_base.specs.Bytes.{number_at, u16_at}
use Rattle.link_base.proofs.Bytes.{number_from_drop}
use Rattle.base_reloc.specs.declared.field.BaseField.{BaseField}
use Rattle.base_reloc.specs.declared.entry.Entry.{Entry}
use Rattle.base_reloc.specs.declared.entry.Entry.TheVariants.{Skip, Field, Malformed}
use Rattle.base_reloc.proofs.WalkLemmas.{rest_walk, rest_walk_block, entries_more, place_with_rest, place_then_both}
use Rattle.base_reloc.specs.Blocks.{Walk, Fields, MalformedAt, entry_of, entries_at, with_entry, then_walk, block_entries, block_size, has_block, walked_fields, malformed_place, raised, entry_raised, raised_all}

-- ---- the fields of a walk

pub raised_then : (delta : ℕ) (memory : List ℕ) (first second : Walk) → malformed_place (then_walk first second) ≡ None → raised_all delta memory (walked_fields (then_walk first second)) ≡ raised_all delta (raised_all delta memory (walked_fields first)) (walked_fields second)
raised_then delta memory (Fields x) (Fields y) none = fold-append (raised delta) memory x y
raised_then delta memory (Fields x) (MalformedAt y) none = absurd cc
raised_then delta memory (MalformedAt x) second none = absurd cc

pub raised_with : (delta : ℕ) (memory : List ℕ) (offset : ℕ) (entry : Entry) (rest : Walk) → malformed_place (with_entry offset entry rest) ≡ None → raised_all delta memory (walked_fields (with_entry offset entry rest)) ≡ raised_all delta (entry_raised delta memory entry) (walked_fields rest)
raised_with delta memory offset Skip rest none = refl
raised_with delta memory offset (Field field) (Fields fields) none = refl
raised_with delta memory offset (Field field) (MalformedAt other) none = absurd cc
raised_with delta memory offset Malformed rest none = absurd cc

-- a walk that is the whole, as a loop begins
pub block_begun : (delta : ℕ) (memory : List ℕ) (rest whole : Walk) → rest ≡ whole → malformed_place whole ≡ None → (malformed_place rest ≡ None) × (raised_all delta memory (walked_fields rest) ≡ raised_all delta memory (walked_fields whole))
block_begun delta memory rest whole e none =
    (ap malformed_place e ∙ none, ap (λ (walk : Walk). raised_all delta memory (walked_fields walk)) e)

-- one more entry
pub block_more : (delta : ℕ) (memory new goal : List ℕ) (offset : ℕ) (entry : Entry) (here rest : Walk) → here ≡ with_entry offset entry rest → new ≡ entry_raised delta memory entry → malformed_place here ≡ None → raised_all delta memory (walked_fields here) ≡ goal → (malformed_place rest ≡ None) × (raised_all delta new (walked_fields rest) ≡ goal)
block_more delta memory new goal offset entry here rest e n none was =
    let fine : malformed_place (with_entry offset entry rest) ≡ None = sym (ap malformed_place e) ∙ none in (
      place_with_rest offset entry rest fine,
      ap (λ (xs : List ℕ). raised_all delta xs (walked_fields rest)) n
          ∙ sym (raised_with delta memory offset entry rest fine)
          ∙ ap (λ (walk : Walk). raised_all delta memory (walked_fields walk)) (sym e)
          ∙ was,
    )

pub entry_more : (delta : ℕ) (memory new goal : List ℕ) (size memory_size page word : ℕ) (blocks : List ℕ) (offset count i : ℕ) → i < count → word ≡ u16_at blocks (offset + 2 * i) → size ≡ memory_size → new ≡ entry_raised delta memory (entry_of size page word) → malformed_place (entries_at memory_size page blocks (offset + 2 * i) (count - i)) ≡ None → raised_all delta memory (walked_fields (entries_at memory_size page blocks (offset + 2 * i) (count - i))) ≡ goal → (malformed_place (entries_at memory_size page blocks (offset + 2 * (i + 1)) (count - (i + 1))) ≡ None) × (raised_all delta new (walked_fields (entries_at memory_size page blocks (offset + 2 * (i + 1)) (count - (i + 1)))) ≡ goal)
entry_more delta memory new goal size memory_size page word blocks offset count i lt w l n none was =
    let place : ℕ = offset + 2 * i in
    let entry : Entry = entry_of memory_size page (u16_at blocks place) in
    block_more delta memory new goal place entry (entries_at memory_size page blocks place (count - i)) (entries_at memory_size page blocks (offset + 2 * (i + 1)) (count - (i + 1)))
    (entries_more memory_size page blocks offset count i lt)
    (n ∙ ap (λ (k : ℕ). entry_raised delta memory (entry_of k page word)) l ∙ ap (λ (k : ℕ). entry_raised delta memory (entry_of memory_size page k)) w)
    none
    was

-- one more block
pub blocks_more : (delta : ℕ) (memory new goal : List ℕ) (first here rest : Walk) → here ≡ then_walk first rest → new ≡ raised_all delta memory (walked_fields first) → malformed_place here ≡ None → raised_all delta memory (walked_fields here) ≡ goal → (malformed_place rest ≡ None) × (raised_all delta new (walked_fields rest) ≡ goal)
blocks_more delta memory new goal first here rest e n none was =
    let fine : malformed_place (then_walk first rest) ≡ None = sym (ap malformed_place e) ∙ none in (
      (place_then_both first rest fine).1,
      ap (λ (xs : List ℕ). raised_all delta xs (walked_fields rest)) n
          ∙ sym (raised_then delta memory first rest fine)
          ∙ ap (λ (walk : Walk). raised_all delta memory (walked_fields walk)) (sym e)
          ∙ was,
    )

pub blocks_more_at : (delta : ℕ) (memory new goal : List ℕ) (size memory_size : ℕ) (blocks : List ℕ) (offset step : ℕ) → offset < length blocks → has_block blocks offset ≡ true → step ≡ block_size blocks offset → size ≡ memory_size → new ≡ raised_all delta memory (walked_fields (block_entries size blocks offset)) → malformed_place (rest_walk memory_size blocks offset) ≡ None → raised_all delta memory (walked_fields (rest_walk memory_size blocks offset)) ≡ goal → (malformed_place (rest_walk memory_size blocks (offset + step)) ≡ None) × (raised_all delta new (walked_fields (rest_walk memory_size blocks (offset + step))) ≡ goal)
blocks_more_at delta memory new goal size memory_size blocks offset step lt here e l n none was =
    blocks_more delta memory new goal (block_entries memory_size blocks offset) (rest_walk memory_size blocks offset) (rest_walk memory_size blocks (offset + step))
    (rest_walk_block memory_size blocks offset lt here ∙ ap (λ (k : ℕ). then_walk (block_entries memory_size blocks offset) (rest_walk memory_size blocks (offset + k))) (sym e))
    (n ∙ ap (λ (k : ℕ). raised_all delta memory (walked_fields (block_entries k blocks offset))) l)
    none
    was

-- ---- one field

abbrev bytes_raised : ℕ → ℕ → List ℕ → ℕ → List ℕ
bytes_raised width delta memory rva =
    take rva memory ++ (little_bytes width ((number_at width memory rva + delta) % 2 ^ (8 * width)) ++ drop (rva + width) memory)

written : (width delta : ℕ) (memory front rest new : List ℕ) (rva value number : ℕ) → front ≡ take rva memory → rest ≡ drop rva memory → value ≡ number_at width memory rva → new ≡ little_bytes width number ++ drop width rest → number ≡ (value + delta) % 2 ^ (8 * width) → front ++ new ≡ bytes_raised width delta memory rva
written width delta memory front rest new rva value number f r v n e =
    rw (f, n, r, e, v) (ap (λ (xs : List ℕ). take rva memory ++ (little_bytes width ((number_at width memory rva + delta) % 2 ^ (8 * width)) ++ xs)) (drop-drop width rva memory))

read_there : (width : ℕ) (memory rest : List ℕ) (rva value : ℕ) → rest ≡ drop rva memory → value ≡ little_number width rest → value ≡ number_at width memory rva
read_there width memory rest rva value r v = v ∙ ap (little_number width) r ∙ number_from_drop width rva memory

pub raised_wide : (delta : ℕ) (memory front rest new : List ℕ) (field : BaseField) (value : ℕ) → field.wide ≡ true → front ≡ take field.rva memory → rest ≡ drop field.rva memory → value ≡ little_number 8 rest → new ≡ little_bytes 8 ((value + delta) % 2 ^ 64) ++ drop 8 rest → front ++ new ≡ raised delta memory field
raised_wide delta memory front rest new field value wide f r v n =
    written 8 delta memory front rest new field.rva value ((value + delta) % 2 ^ 64) f r (read_there 8 memory rest field.rva value r v) n refl
    ∙ ap (λ (b : Bool). bytes_raised (cond b 8 4) delta memory field.rva) (sym wide)

pub raised_narrow : (delta : ℕ) (memory front rest new : List ℕ) (field : BaseField) (value : ℕ) → field.wide ≡ false → front ≡ take field.rva memory → rest ≡ drop field.rva memory → value ≡ little_number 4 rest → new ≡ little_bytes 4 ((value + delta % 2 ^ 32) % 2 ^ 32) ++ drop 4 rest → front ++ new ≡ raised delta memory field
raised_narrow delta memory front rest new field value narrow f r v n =
    written 4 delta memory front rest new field.rva value ((value + delta % 2 ^ 32) % 2 ^ 32) f r (read_there 4 memory rest field.rva value r v) n (add-mod-mod value delta (2 ^ 32))
    ∙ ap (λ (b : Bool). bytes_raised (cond b 8 4) delta memory field.rva) (sym narrow)
