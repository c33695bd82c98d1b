-- The walk over the blocks, a block and an entry at a time.
use Rattle.std.proofs.Common.{◌≡◌, ℕ, zero, suc, ◌+◌, ◌-◌, ◌*◌, ◌/◌, ◌<◌, ◌≤◌, true, false, eqb, eq-eqb, List, [], length, Option, Some, None, is_some, refl, sym, ap, ◌∙◌, inl, inr, add-one, arith}
use Rattle.std.proofs.lemmas.Bool.{and_parts, cases_Bool, leb-true, ne_eqb, false≢true}
use Rattle.link_base.specs.Bytes.{u16_at}
use Rattle.link_base.proofs.OptionLemmas.{none_is}
use Rattle.base_reloc.specs.declared.entry.Entry.{Entry}
use Rattle.base_reloc.specs.declared.entry.Entry.TheVariants.{Skip, Field, Malformed}
use Rattle.base_reloc.specs.Blocks.{Walk, Fields, MalformedAt, entry_of, with_entry, then_walk, entries_at, block_page, block_size, has_block, block_entries, blocks_at, walk_of, malformed_place}

-- ---- a block

pub record IsBlock (blocks : List ℕ) (offset : ℕ) : Type 0 where
  pub header : 8 ≤ length blocks - offset
  pub least : 8 ≤ block_size blocks offset
  pub within : block_size blocks offset ≤ length blocks - offset

pub block_is : (blocks : List ℕ) (offset : ℕ) → has_block blocks offset ≡ true → IsBlock blocks offset
block_is blocks offset e =
    let p = and_parts _ _ e in
    let q = and_parts _ _ p.1 in
    let r = and_parts _ _ q.1 in
    record { header = leb-true _ _ p.0; least = leb-true _ _ q.0; within = leb-true _ _ r.1 }

-- ---- the blocks from a place on

abbrev pub rest_walk : ℕ → List ℕ → ℕ → Walk
rest_walk memory_size blocks offset = blocks_at (length blocks - offset + 1) memory_size blocks offset

pub rest_walk_start : (memory_size : ℕ) (blocks : List ℕ) → rest_walk memory_size blocks 0 ≡ walk_of memory_size blocks
rest_walk_start memory_size blocks = ap (λ (most : ℕ). blocks_at most memory_size blocks 0) (omega arith)

-- each block takes some bytes, so that more than are left are enough
enough : (m n memory_size : ℕ) (blocks : List ℕ) (offset : ℕ) → length blocks - offset < m → length blocks - offset < n → blocks_at m memory_size blocks offset ≡ blocks_at n memory_size blocks offset
unfolding blocks_at
enough zero n memory_size blocks offset a b = absurd (omega arith)
enough (suc m) zero memory_size blocks offset a b = absurd (omega arith)
enough (suc m) (suc n) memory_size blocks offset a b =
    elim (cases_Bool (eqb (length blocks - offset) 0)) [
      | inl none ↦ rw none refl
      | inr some ↦ elim (cases_Bool (has_block blocks offset)) [
        | inl here ↦
            let is = block_is blocks offset here in
            let next = enough m n memory_size blocks (offset + block_size blocks offset) (omega (arith, is)) (omega (arith, is)) in
            rw (some, here) (ap (then_walk (block_entries memory_size blocks offset)) next)
        | inr missing ↦ rw (some, missing) refl
      ]
    ]

pub rest_walk_end : (memory_size : ℕ) (blocks : List ℕ) (offset : ℕ) → length blocks ≤ offset → rest_walk memory_size blocks offset ≡ Fields []
unfolding blocks_at
rest_walk_end memory_size blocks offset le =
    let none : eqb (length blocks - offset) 0 ≡ true = eq-eqb _ _ (omega arith) in
    rw (add-one, none) refl

pub rest_walk_no_block : (memory_size : ℕ) (blocks : List ℕ) (offset : ℕ) → offset < length blocks → has_block blocks offset ≡ false → rest_walk memory_size blocks offset ≡ MalformedAt offset
unfolding blocks_at
rest_walk_no_block memory_size blocks offset lt missing =
    let some : eqb (length blocks - offset) 0 ≡ false = ne_eqb _ _ (λ e. omega arith) in
    rw (add-one, some, missing) refl

pub rest_walk_block : (memory_size : ℕ) (blocks : List ℕ) (offset : ℕ) → offset < length blocks → has_block blocks offset ≡ true → rest_walk memory_size blocks offset ≡ then_walk (block_entries memory_size blocks offset) (rest_walk memory_size blocks (offset + block_size blocks offset))
unfolding blocks_at
rest_walk_block memory_size blocks offset lt here =
    let is = block_is blocks offset here in
    let some : eqb (length blocks - offset) 0 ≡ false = ne_eqb _ _ (λ e. omega arith) in
    let next = enough (length blocks - offset) (length blocks - (offset + block_size blocks offset) + 1) memory_size blocks (offset + block_size blocks offset) (omega (arith, is)) (omega arith) in
    rw (add-one (length blocks - offset), some, here) (ap (then_walk (block_entries memory_size blocks offset)) next)

-- ---- where a walk is malformed

pub place_then_more : (first second : Walk) → malformed_place first ≡ None → malformed_place (then_walk first second) ≡ malformed_place second
place_then_more (Fields x) (Fields y) none = refl
place_then_more (Fields x) (MalformedAt y) none = refl
place_then_more (MalformedAt x) second none = absurd cc

pub place_then_first : (first second : Walk) (place : Option ℕ) → place ≡ malformed_place first → is_some place ≡ true → place ≡ malformed_place (then_walk first second)
place_then_first (Fields x) second place e some = absurd (false≢true (ap is_some (sym e) ∙ some))
place_then_first (MalformedAt x) second place e some = e

pub place_then_both : (first second : Walk) → malformed_place (then_walk first second) ≡ None → (malformed_place first ≡ None) × (malformed_place second ≡ None)
place_then_both (Fields x) (Fields y) none = (refl, refl)
place_then_both (Fields x) (MalformedAt y) none = absurd cc
place_then_both (MalformedAt x) second none = absurd cc

pub place_with_more : (offset : ℕ) (entry : Entry) (rest : Walk) → (entry ≡ Malformed → ⊥) → malformed_place (with_entry offset entry rest) ≡ malformed_place rest
place_with_more offset Skip rest not = refl
place_with_more offset (Field field) (Fields fields) not = refl
place_with_more offset (Field field) (MalformedAt other) not = refl
place_with_more offset Malformed rest not = absurd (not refl)

pub place_with_rest : (offset : ℕ) (entry : Entry) (rest : Walk) → malformed_place (with_entry offset entry rest) ≡ None → malformed_place rest ≡ None
place_with_rest offset Skip rest none = none
place_with_rest offset (Field field) (Fields fields) none = none
place_with_rest offset (Field field) (MalformedAt other) none = absurd cc
place_with_rest offset Malformed rest none = absurd cc

pub place_with_at : (offset : ℕ) (entry : Entry) (rest : Walk) → Malformed ≡ entry → Some offset ≡ malformed_place (with_entry offset entry rest)
place_with_at offset entry rest e = ap (λ (v : Entry). malformed_place (with_entry offset v rest)) e

-- ---- a block that is judged

-- a block of which an entry is malformed
pub judged_first : (memory_size : ℕ) (blocks : List ℕ) (offset : ℕ) (entry : Option ℕ) → offset < length blocks → has_block blocks offset ≡ true → entry ≡ malformed_place (block_entries memory_size blocks offset) → is_some entry ≡ true → entry ≡ malformed_place (rest_walk memory_size blocks offset)
judged_first memory_size blocks offset entry lt here e some =
    place_then_first (block_entries memory_size blocks offset) (rest_walk memory_size blocks (offset + block_size blocks offset)) entry e some ∙ ap malformed_place (sym (rest_walk_block memory_size blocks offset lt here))

-- a block of which none is
pub judged_more : (memory_size : ℕ) (blocks : List ℕ) (offset size : ℕ) (entry whole : Option ℕ) → offset < length blocks → has_block blocks offset ≡ true → size ≡ block_size blocks offset → entry ≡ malformed_place (block_entries memory_size blocks offset) → is_some entry ≡ false → malformed_place (rest_walk memory_size blocks offset) ≡ whole → (offset + size ≤ length blocks) × (malformed_place (rest_walk memory_size blocks (offset + size)) ≡ whole)
judged_more memory_size blocks offset size entry whole lt here e f none was =
    let is = block_is blocks offset here in
    let fine : malformed_place (block_entries memory_size blocks offset) ≡ None = sym f ∙ none_is entry none in (
      omega (arith, is),
      ap (λ (k : ℕ). malformed_place (rest_walk memory_size blocks (offset + k))) e
          ∙ sym (place_then_more (block_entries memory_size blocks offset) (rest_walk memory_size blocks (offset + block_size blocks offset)) fine)
          ∙ ap malformed_place (sym (rest_walk_block memory_size blocks offset lt here))
          ∙ was,
    )

-- in a table that is not malformed a block stands at each place, and neither it nor what is behind it is
pub block_there : (memory_size : ℕ) (blocks : List ℕ) (offset : ℕ) → offset < length blocks → malformed_place (rest_walk memory_size blocks offset) ≡ None → has_block blocks offset ≡ true
block_there memory_size blocks offset lt none =
    elim (cases_Bool (has_block blocks offset)) [
      | inl here ↦ here
      | inr missing ↦ absurd (some_none offset (ap malformed_place (sym (rest_walk_no_block memory_size blocks offset lt missing)) ∙ none))
    ]
  where
    some_none : (k : ℕ) → Some k ≡ None → ⊥
    some_none k e = cc

pub block_fine : (memory_size : ℕ) (blocks : List ℕ) (offset : ℕ) → offset < length blocks → malformed_place (rest_walk memory_size blocks offset) ≡ None → malformed_place (then_walk (block_entries memory_size blocks offset) (rest_walk memory_size blocks (offset + block_size blocks offset))) ≡ None
block_fine memory_size blocks offset lt none =
    ap malformed_place (sym (rest_walk_block memory_size blocks offset lt (block_there memory_size blocks offset lt none))) ∙ none

-- ---- the entries from a place on

pub entries_more : (memory_size page : ℕ) (blocks : List ℕ) (offset count i : ℕ) → i < count → entries_at memory_size page blocks (offset + 2 * i) (count - i) ≡ with_entry (offset + 2 * i) (entry_of memory_size page (u16_at blocks (offset + 2 * i))) (entries_at memory_size page blocks (offset + 2 * (i + 1)) (count - (i + 1)))
unfolding entries_at
entries_more memory_size page blocks offset count i lt =
    let left : count - i ≡ suc (count - (i + 1)) = omega arith in
    let next : offset + 2 * i + 2 ≡ offset + 2 * (i + 1) = omega arith in
    rw left (ap (λ (place : ℕ). with_entry (offset + 2 * i) (entry_of memory_size page (u16_at blocks (offset + 2 * i))) (entries_at memory_size page blocks place (count - (i + 1)))) next)

pub entries_end : (memory_size page : ℕ) (blocks : List ℕ) (offset count i : ℕ) → count ≤ i → entries_at memory_size page blocks (offset + 2 * i) (count - i) ≡ Fields []
unfolding entries_at
entries_end memory_size page blocks offset count i le = let none : count - i ≡ 0 = omega arith in rw none refl

same_entries : (memory_size p q : ℕ) (blocks : List ℕ) (i j m n : ℕ) → p ≡ q → i ≡ j → m ≡ n → entries_at memory_size p blocks i m ≡ entries_at memory_size q blocks j n
same_entries memory_size p q blocks i j m n a b c = cc

pub entries_start : (memory_size page size : ℕ) (blocks : List ℕ) (offset : ℕ) → page ≡ block_page blocks offset → size ≡ block_size blocks offset → entries_at memory_size page blocks (offset + 8 + 2 * 0) ((size - 8) / 2 - 0) ≡ block_entries memory_size blocks offset
unfolding block_entries
entries_start memory_size page size blocks offset e f =
    same_entries memory_size page (block_page blocks offset) blocks (offset + 8 + 2 * 0) (offset + 8) ((size - 8) / 2 - 0) ((block_size blocks offset - 8) / 2) e (omega arith) (omega arith)

-- an entry that is read, in a block whose entries from there on are malformed at `whole`
pub entry_bad : (memory_size page word : ℕ) (blocks : List ℕ) (offset count i : ℕ) (entry : Entry) (whole : Option ℕ) → i < count → word ≡ u16_at blocks (offset + 2 * i) → entry ≡ entry_of memory_size page word → entry ≡ Malformed → malformed_place (entries_at memory_size page blocks (offset + 2 * i) (count - i)) ≡ whole → Some (offset + 2 * i) ≡ whole
entry_bad memory_size page word blocks offset count i entry whole lt w e bad was =
    place_with_at (offset + 2 * i) (entry_of memory_size page (u16_at blocks (offset + 2 * i))) (entries_at memory_size page blocks (offset + 2 * (i + 1)) (count - (i + 1))) (sym bad ∙ e ∙ ap (entry_of memory_size page) w)
    ∙ ap malformed_place (sym (entries_more memory_size page blocks offset count i lt))
    ∙ was

pub entry_fine : (memory_size page word : ℕ) (blocks : List ℕ) (offset count i : ℕ) (entry : Entry) (whole : Option ℕ) → i < count → word ≡ u16_at blocks (offset + 2 * i) → entry ≡ entry_of memory_size page word → (entry ≡ Malformed → ⊥) → malformed_place (entries_at memory_size page blocks (offset + 2 * i) (count - i)) ≡ whole → malformed_place (entries_at memory_size page blocks (offset + 2 * (i + 1)) (count - (i + 1))) ≡ whole
entry_fine memory_size page word blocks offset count i entry whole lt w e fine was =
    sym (place_with_more (offset + 2 * i) (entry_of memory_size page (u16_at blocks (offset + 2 * i))) (entries_at memory_size page blocks (offset + 2 * (i + 1)) (count - (i + 1))) (λ bad. fine (e ∙ ap (entry_of memory_size page) w ∙ bad)))
    ∙ ap malformed_place (sym (entries_more memory_size page blocks offset count i lt))
    ∙ was
