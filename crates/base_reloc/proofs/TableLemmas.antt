-- The walk over the blocks of some fields gives these fields.
use Rattle.std.proofs.Common.{◌≡◌, ℕ, zero, suc, ◌+◌, ◌-◌, ◌*◌, ◌/◌, ◌%◌, ◌^◌, ◌<◌, ◌≤◌, Bool, true, false, cond, eqb, eq-eqb, le-leb, leb, List, [], ◌∷◌, ◌++◌, length, map, take, drop, get_or, refl, sym, ap, ◌∙◌, subst, inl, inr, append_assoc, length-append, length-drop, arith}
use Rattle.std.specs.List.{flat_map, prefix_len}
use Rattle.std.proofs.lemmas.Bool.{cases_Bool, and_from, eqb-true, ne_eqb}
use Rattle.std.proofs.lemmas.List.{drop-drop, drop_at, get_or-take, get_or-drop, take-append-drop, length-take-le, append-nil}
use Rattle.std.proofs.lemmas.List.Sums.{prefix_len-le-length, prefix_len_passes}
use Rattle.link_base.specs.Bytes.{u16_at, number_bytes}
use Rattle.link_base.proofs.CallerLemmas.{length-number_bytes}
use Rattle.link_base.proofs.PartLemmas.{number_there}
use Rattle.base_reloc.specs.declared.field.BaseField.{BaseField}
use Rattle.base_reloc.specs.declared.entry.Entry.{Entry}
use Rattle.base_reloc.specs.declared.entry.Entry.TheVariants.{Field}
use Rattle.base_reloc.specs.Blocks.{Walk, Fields, width_of, entry_of, with_entry, then_walk, entries_at, block_page, block_size, has_block, block_entries, blocks_at, walk_of}
use Rattle.base_reloc.specs.PageBlocks.{IsAscending, page_of, entry_word, filler_words, block_words, block_bytes, blocks_of, pages_of}
use Rattle.base_reloc.proofs.PageLemmas.{is_on, fits_page, blocks_first, first_passes, ascending_rest, length-block_words, block_is_written}

-- ---- numbers that stand at a place

passed : (width number offset : ℕ) (bytes rest : List ℕ) → drop offset bytes ≡ number_bytes width number ++ rest → drop (offset + width) bytes ≡ rest
passed width number offset bytes rest is =
    sym (drop-drop width offset bytes) ∙ ap (drop width) is ∙ drop_at (number_bytes width number) rest width (length-number_bytes width number)

-- ---- an entry

narrow_entry : (memory_size page word rva : ℕ) → word / 4096 ≡ 3 → page + word % 4096 ≡ rva → leb (rva + 4) memory_size ≡ true → entry_of memory_size page word ≡ Field (record { rva = rva; wide = false })
narrow_entry memory_size page word rva kind place inside = rw (kind, place, inside) refl

wide_entry : (memory_size page word rva : ℕ) → word / 4096 ≡ 10 → page + word % 4096 ≡ rva → leb (rva + 8) memory_size ≡ true → entry_of memory_size page word ≡ Field (record { rva = rva; wide = true })
wide_entry memory_size page word rva kind place inside = rw (kind, place, inside) refl

-- the type and the offset of an entry
kind_is : (kind rva : ℕ) → (kind * 4096 + rva % 4096) / 4096 ≡ kind
kind_is kind rva = omega arith

place_is : (kind page rva : ℕ) → page ≡ rva - rva % 4096 → page + (kind * 4096 + rva % 4096) % 4096 ≡ rva
place_is kind page rva e = omega arith

entry_is : (memory_size page : ℕ) (field : BaseField) → page ≡ page_of field → field.rva + width_of field ≤ memory_size → entry_of memory_size page (entry_word field) ≡ Field field
entry_is memory_size page field e inside =
    elim (cases_Bool field.wide) [
      | inl wide ↦
          let fits : field.rva + 8 ≤ memory_size = rw wide at inside in
          ap (λ (b : Bool). entry_of memory_size page (cond b 10 3 * 4096 + field.rva % 4096)) wide
          ∙ wide_entry memory_size page (10 * 4096 + field.rva % 4096) field.rva (kind_is 10 field.rva) (place_is 10 page field.rva e) (le-leb _ _ fits)
          ∙ ap (λ (b : Bool). Field (record { rva = field.rva; wide = b })) (sym wide)
      | inr narrow ↦
          let fits : field.rva + 4 ≤ memory_size = rw narrow at inside in
          ap (λ (b : Bool). entry_of memory_size page (cond b 10 3 * 4096 + field.rva % 4096)) narrow
          ∙ narrow_entry memory_size page (3 * 4096 + field.rva % 4096) field.rva (kind_is 3 field.rva) (place_is 3 page field.rva e) (le-leb _ _ fits)
          ∙ ap (λ (b : Bool). Field (record { rva = field.rva; wide = b })) (sym narrow)
    ]

word_fits : (b : Bool) (rva : ℕ) → cond b 10 3 * 4096 + rva % 4096 < 256 ^ 2
word_fits true rva = omega arith
word_fits false rva = omega arith

-- ---- the entries of a page

-- the fields begin in a page and lie in a memory
abbrev OnPage : ℕ → ℕ → List BaseField → Type 0
OnPage memory_size page fields =
    (k : ℕ) (d : BaseField) → k < length fields → (page ≡ page_of (get_or fields k d)) × ((get_or fields k d).rva + width_of (get_or fields k d) ≤ memory_size)

filler_read : (memory_size page count : ℕ) (bytes rest : List ℕ) (offset : ℕ) → drop offset bytes ≡ flat_map (number_bytes 2) (filler_words count) ++ rest → entries_at memory_size page bytes offset (length (filler_words count)) ≡ Fields []
unfolding entries_at
filler_read memory_size page count bytes rest offset = by_count (eqb (count % 2) 0)
  where
    by_count : (b : Bool) → drop offset bytes ≡ flat_map (number_bytes 2) (cond b [] (0 ∷ [])) ++ rest → entries_at memory_size page bytes offset (length {A = ℕ} (cond b [] (0 ∷ []))) ≡ Fields []
    by_count true is = refl
    by_count false is =
        let word : u16_at bytes offset ≡ 0 = number_there 2 0 offset bytes rest (is ∙ ap (λ (xs : List ℕ). xs ++ rest) (append-nil (number_bytes 2 0))) (omega arith) in
        ap (λ (k : ℕ). with_entry offset (entry_of memory_size page k) (Fields [])) word

entries_read : (memory_size page : ℕ) (fields : List BaseField) (count : ℕ) (bytes rest : List ℕ) (offset : ℕ) → OnPage memory_size page fields → drop offset bytes ≡ flat_map (number_bytes 2) (map entry_word fields ++ filler_words count) ++ rest → entries_at memory_size page bytes offset (length (map entry_word fields ++ filler_words count)) ≡ Fields fields
unfolding entries_at
entries_read memory_size page [] count bytes rest offset on is = filler_read memory_size page count bytes rest offset is
entries_read memory_size page (field ∷ fields) count bytes rest offset on is =
    let behind : List ℕ = flat_map (number_bytes 2) (map entry_word fields ++ filler_words count) in
    let first = is ∙ append_assoc (number_bytes 2 (entry_word field)) behind rest in
    let word : u16_at bytes offset ≡ entry_word field = number_there 2 (entry_word field) offset bytes (behind ++ rest) first (word_fits field.wide field.rva) in
    let here = on 0 field (omega arith) in
    let others = entries_read memory_size page fields count bytes rest (offset + 2) (λ k d lt. on (suc k) d (omega arith)) (passed 2 (entry_word field) offset bytes (behind ++ rest) first) in
    ap (λ (k : ℕ). with_entry offset (entry_of memory_size page k) (entries_at memory_size page bytes (offset + 2) (length (map entry_word fields ++ filler_words count)))) word
    ∙ ap (λ (entry : Entry). with_entry offset entry (entries_at memory_size page bytes (offset + 2) (length (map entry_word fields ++ filler_words count)))) (entry_is memory_size page field here.0 here.1)
    ∙ ap (with_entry offset (Field field)) others

-- ---- a block

length-words : (words : List ℕ) → length (flat_map (number_bytes 2) words) ≡ 2 * length words
length-words [] = refl
length-words (word ∷ words) =
    omega (arith, length-append (number_bytes 2 word) (flat_map (number_bytes 2) words), length-number_bytes 2 word, length-words words)

record IsRead (memory_size : ℕ) (here : List BaseField) (bytes rest : List ℕ) (offset : ℕ) : Type 0 where
  there : has_block bytes offset ≡ true
  entries : block_entries memory_size bytes offset ≡ Fields here
  size : 8 ≤ block_size bytes offset
  within : offset + block_size bytes offset ≤ length bytes
  after : drop (offset + block_size bytes offset) bytes ≡ rest

block_read : (memory_size page : ℕ) (here : List BaseField) (bytes rest : List ℕ) (offset : ℕ) → length here ≤ 4096 → page < 2 ^ 32 → OnPage memory_size page here → drop offset bytes ≡ block_bytes page (block_words here) ++ rest → IsRead memory_size here bytes rest offset
unfolding block_bytes block_words block_entries
block_read memory_size page here bytes rest offset few low on is =
    let words : List ℕ = block_words here in
    let size : ℕ = 8 + 2 * length words in
    let entries : List ℕ = flat_map (number_bytes 2) words in
    let lens : length words ≡ length here + length here % 2 = length-block_words here in
    let first = is ∙ append_assoc (number_bytes 4 page) (number_bytes 4 size ++ entries) rest in
    let second = passed 4 page offset bytes ((number_bytes 4 size ++ entries) ++ rest) first ∙ append_assoc (number_bytes 4 size) entries rest in
    let third : drop (offset + 8) bytes ≡ entries ++ rest = ap (λ (k : ℕ). drop k bytes) (eight offset) ∙ passed 4 size (offset + 4) bytes (entries ++ rest) second in
    let page_is : block_page bytes offset ≡ page = number_there 4 page offset bytes ((number_bytes 4 size ++ entries) ++ rest) first low in
    let size_is : block_size bytes offset ≡ size = number_there 4 size (offset + 4) bytes (entries ++ rest) second (omega (arith, lens)) in
    let room : length bytes - offset ≡ 8 + 2 * length words + length rest = omega (arith, length-drop offset bytes, ap length first, length-append (number_bytes 4 page) ((number_bytes 4 size ++ entries) ++ rest), length-append (number_bytes 4 size ++ entries) rest, length-append (number_bytes 4 size) entries, length-number_bytes 4 page, length-number_bytes 4 size, length-words words) in
    let least : 8 ≤ block_size bytes offset = omega (arith, size_is) in
    let fours : block_size bytes offset % 4 ≡ 0 = omega (arith, size_is, lens) in
    let fits : block_size bytes offset ≤ length bytes - offset = omega (arith, size_is, room) in
    record {
      there = and_from _ _ (le-leb _ _ (omega arith)) (and_from _ _ (le-leb _ _ least) (and_from _ _ (eq-eqb _ _ fours) (le-leb _ _ fits)));
      entries = ap (λ (k : ℕ). entries_at memory_size k bytes (offset + 8) ((block_size bytes offset - 8) / 2)) page_is
          ∙ ap (λ (k : ℕ). entries_at memory_size page bytes (offset + 8) ((k - 8) / 2)) size_is
          ∙ ap (entries_at memory_size page bytes (offset + 8)) (half (length words))
          ∙ entries_read memory_size page here (length here) bytes rest (offset + 8) on third;
      size = least;
      within = omega (arith, fits, least);
      after = ap (λ (k : ℕ). drop k bytes) (beyond offset (block_size bytes offset) (length words) size_is)
          ∙ sym (drop-drop (2 * length words) (offset + 8) bytes)
          ∙ ap (drop (2 * length words)) third
          ∙ drop_at entries rest (2 * length words) (length-words words);
    }
  where
    eight : (k : ℕ) → k + 8 ≡ k + 4 + 4
    eight k = omega arith

    half : (k : ℕ) → (8 + 2 * k - 8) / 2 ≡ k
    half k = omega arith

    beyond : (place size len : ℕ) → size ≡ 8 + 2 * len → place + size ≡ place + 8 + 2 * len
    beyond place size len e = omega arith

-- ---- the table

abbrev pub Inside : ℕ → List BaseField → Type 0
Inside memory_size fields =
    (k : ℕ) (d : BaseField) → k < length fields → (get_or fields k d).rva + width_of (get_or fields k d) ≤ memory_size

-- the fields at the front begin in their page
on_page : (memory_size page n : ℕ) (fields : List BaseField) → n ≡ prefix_len (is_on page) fields → Inside memory_size fields → OnPage memory_size page (take n fields)
on_page memory_size page n fields e inside k d lt =
    let within = prefix_len-le-length (is_on page) fields in
    let len : length (take n fields) ≡ n = length-take-le n fields (omega (arith, within, e)) in
    let same : get_or (take n fields) k d ≡ get_or fields k d = get_or-take n fields k d (omega (arith, len)) in (
      eqb-true _ _ (prefix_len_passes (is_on page) fields k d (omega (arith, len, e))) ∙ ap page_of (sym same),
      subst (λ (field : BaseField). field.rva + width_of field ≤ memory_size) (sym same) (inside k d (omega (arith, len, within, e))),
    )

inside_rest : (memory_size n : ℕ) (fields : List BaseField) → Inside memory_size fields → Inside memory_size (drop n fields)
inside_rest memory_size n fields inside k d lt =
    subst (λ (field : BaseField). field.rva + width_of field ≤ memory_size) (sym (get_or-drop n fields k d)) (inside (n + k) d (omega (arith, length-drop n fields)))

page_low : (memory_size : ℕ) (field : BaseField) → memory_size < 2 ^ 32 → field.rva + width_of field ≤ memory_size → page_of field < 2 ^ 32
page_low memory_size field small inside = omega arith

no_blocks : blocks_of [] ≡ []
unfolding blocks_of pages_of
no_blocks = refl

table_from : (most memory_size : ℕ) (fields : List BaseField) (bytes : List ℕ) (offset : ℕ) → memory_size < 2 ^ 32 → IsAscending fields → Inside memory_size fields → drop offset bytes ≡ blocks_of fields → length bytes - offset < most → blocks_at most memory_size bytes offset ≡ Fields fields
unfolding blocks_at
table_from zero memory_size fields bytes offset small up inside is lt = absurd (omega arith)
table_from (suc most) memory_size [] bytes offset small up inside is lt =
    let none : eqb (length bytes - offset) 0 ≡ true = eq-eqb _ _ (sym (length-drop offset bytes) ∙ ap length (is ∙ no_blocks)) in
    rw none refl
table_from (suc most) memory_size (field ∷ others) bytes offset small up inside is lt =
    let fields : List BaseField = field ∷ others in
    let page : ℕ = page_of field in
    let n : ℕ = prefix_len (is_on page) fields in
    let here : List BaseField = take n fields in
    let some : 0 < length fields = omega arith in
    let within = prefix_len-le-length (is_on page) fields in
    let passes = first_passes fields field page n some refl refl in
    let len : length here ≡ n = length-take-le n fields within in
    let few = fits_page fields page n up refl in
    let first : page ≡ page_of (get_or here 0 field) = (on_page memory_size page n fields refl inside 0 field (omega (arith, len, passes))).0 in
    let parts : drop offset bytes ≡ block_bytes page (block_words here) ++ blocks_of (drop n fields) =
    is ∙ blocks_first fields field page n some refl refl ∙ ap (λ (xs : List ℕ). xs ++ blocks_of (drop n fields)) (sym (block_is_written here field page (omega (arith, len, passes)) first)) in
    let read = block_read memory_size page here bytes (blocks_of (drop n fields)) offset (omega (arith, len, few)) (page_low memory_size field small (inside 0 field some)) (on_page memory_size page n fields refl inside) parts in
    let left : eqb (length bytes - offset) 0 ≡ false = ne_eqb _ _ (λ e. omega (arith, read.size, read.within)) in
    let next = table_from most memory_size (drop n fields) bytes (offset + block_size bytes offset) small (ascending_rest fields n up) (inside_rest memory_size n fields inside) read.after (omega (arith, read.size, read.within)) in
    rw (left, read.there) (ap (λ (walk : Walk). then_walk walk (blocks_at most memory_size bytes (offset + block_size bytes offset))) read.entries
    ∙ ap (then_walk (Fields here)) next
    ∙ ap Fields (take-append-drop n fields))

pub table_lists : (memory_size : ℕ) (fields : List BaseField) → memory_size < 2 ^ 32 → IsAscending fields → Inside memory_size fields → walk_of memory_size (blocks_of fields) ≡ Fields fields
table_lists memory_size fields small up inside =
    table_from (length (blocks_of fields) + 1) memory_size fields (blocks_of fields) 0 small up inside refl (omega arith)
