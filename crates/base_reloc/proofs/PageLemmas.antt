-- Fields page by page: the fields at the front that share a page, and the rest.
use Rattle.std.proofs.Common.{◌≡◌, ℕ, zero, suc, ◌+◌, ◌-◌, ◌*◌, ◌%◌, ◌<◌, ◌≤◌, ◌==◌, Bool, true, false, cond, eqb, eq-eqb, List, [], ◌∷◌, ◌++◌, length, map, take, drop, get_or, slice_index, refl, sym, ap, ◌∙◌, subst, inl, inr, append_assoc, length-append, arith}
use Rattle.std.specs.List.{flat_map, prefix_len}
use Rattle.std.specs.List.Sorted.{IsStrictlyIncreasing}
use Rattle.std.proofs.lemmas.Bool.{cases_Bool, eqb-true, eqb-false, ne_eqb, false≢true}
use Rattle.std.proofs.lemmas.List.{get_or-drop, get_or-map, length-drop, length-map, drop-map, append-nil}
use Rattle.std.proofs.lemmas.List.Sums.{prefix_len-le-length, prefix_len_passes}
use Rattle.std.proofs.lemmas.Grind.{flat_map-append}
use Rattle.link_base.specs.Bytes.{number_bytes}
use Rattle.base_reloc.specs.declared.field.BaseField.{BaseField}
use Rattle.base_reloc.specs.PageBlocks.{IsAscending, page_of, page_rva, before_pages, pages_of, entry_word, filler_words, block_words, block_bytes, block_of, blocks_of}

-- ---- the first page

-- the test of a field at the front
abbrev pub is_on : ℕ → BaseField → Bool
is_on page field = page == page_of field

joined : (field next : BaseField) (others : List BaseField) (n : ℕ) → eqb (page_of field) (page_of next) ≡ true → before_pages field ((next ∷ take n others) ∷ pages_of (drop n others)) ≡ (field ∷ take (suc n) (next ∷ others)) ∷ pages_of (drop (suc n) (next ∷ others))
joined field next others n same = rw same refl

parted : (field next : BaseField) (others : List BaseField) (page : List BaseField) (pages : List (List BaseField)) → eqb (page_of field) (page_of next) ≡ false → before_pages field ((next ∷ page) ∷ pages) ≡ (field ∷ []) ∷ (next ∷ page) ∷ pages
parted field next others page pages other = rw other refl

-- how many of the fields behind one lie in its page
behind : BaseField → List BaseField → ℕ
behind field others = prefix_len (is_on (page_of field)) others

behind_same : (field next : BaseField) (others : List BaseField) → eqb (page_of field) (page_of next) ≡ true → suc (behind next others) ≡ behind field (next ∷ others)
unfolding behind
behind_same field next others same =
    let pages : page_of next ≡ page_of field = sym (eqb-true _ _ same) in
    let more : suc (prefix_len (is_on (page_of field)) others) ≡ 1 + prefix_len (is_on (page_of field)) others = omega arith in
    ap (λ (page : ℕ). suc (prefix_len (is_on page) others)) pages ∙ more ∙ ap (λ (b : Bool). cond b (1 + prefix_len (is_on (page_of field)) others) 0) (sym same)

behind_other : (field next : BaseField) (others : List BaseField) → eqb (page_of field) (page_of next) ≡ false → 0 ≡ behind field (next ∷ others)
unfolding behind
behind_other field next others other =
    ap (λ (b : Bool). cond b (1 + prefix_len (is_on (page_of field)) others) 0) (sym other)

first_page : (field : BaseField) (others : List BaseField) → pages_of (field ∷ others) ≡ (field ∷ take (behind field others) others) ∷ pages_of (drop (behind field others) others)
unfolding pages_of behind
first_page field [] = refl
first_page field (next ∷ others) =
    let step = first_page next others in
    elim (cases_Bool (eqb (page_of field) (page_of next))) [
      | inl same ↦
          ap (before_pages field) step
          ∙ joined field next others (behind next others) same
          ∙ ap (λ (n : ℕ). (field ∷ take n (next ∷ others)) ∷ pages_of (drop n (next ∷ others))) (behind_same field next others same)
      | inr other ↦
          ap (before_pages field) step
          ∙ parted field next others (take (behind next others) others) (pages_of (drop (behind next others) others)) other
          ∙ ap (λ (pages : List (List BaseField)). (field ∷ []) ∷ pages) (sym step)
          ∙ ap (λ (n : ℕ). (field ∷ take n (next ∷ others)) ∷ pages_of (drop n (next ∷ others))) (behind_other field next others other)
    ]

-- how many fields at the front lie in the first one's page
pub page_len_of : BaseField → List BaseField → ℕ
page_len_of field others = prefix_len (is_on (page_of field)) (field ∷ others)

page_len_is : (field : BaseField) (others : List BaseField) → page_len_of field others ≡ suc (behind field others)
unfolding page_len_of behind
page_len_is field others =
    let same : eqb (page_of field) (page_of field) ≡ true = eq-eqb _ _ refl in
    let more : 1 + prefix_len (is_on (page_of field)) others ≡ suc (prefix_len (is_on (page_of field)) others) = omega arith in
    ap (λ (b : Bool). cond b (1 + prefix_len (is_on (page_of field)) others) 0) same ∙ more

pub blocks_first : (fields : List BaseField) (d : BaseField) (page n : ℕ) → 0 < length fields → page ≡ page_of (get_or fields 0 d) → n ≡ prefix_len (is_on page) fields → blocks_of fields ≡ block_of (take n fields) ++ blocks_of (drop n fields)
unfolding blocks_of page_len_of
blocks_first [] d page n some e f = absurd (omega arith)
blocks_first (field ∷ others) d page n some e f =
    let len : n ≡ suc (behind field others) = f ∙ ap (λ (k : ℕ). prefix_len (is_on k) (field ∷ others)) e ∙ page_len_is field others in
    ap (flat_map block_of) (first_page field others)
    ∙ ap (λ (k : ℕ). block_of (take k (field ∷ others)) ++ flat_map block_of (pages_of (drop k (field ∷ others)))) (sym len)

-- there is one field at least
pub first_passes : (fields : List BaseField) (d : BaseField) (page n : ℕ) → 0 < length fields → page ≡ page_of (get_or fields 0 d) → n ≡ prefix_len (is_on page) fields → 0 < n
unfolding page_len_of
first_passes [] d page n some e f = absurd (omega arith)
first_passes (field ∷ others) d page n some e f =
    let len : n ≡ suc (behind field others) = f ∙ ap (λ (k : ℕ). prefix_len (is_on k) (field ∷ others)) e ∙ page_len_is field others in
    omega (arith, len)

-- ---- a page holds few fields

climbs : (rvas : List ℕ) → ((k : ℕ) → k + 1 < length rvas → slice_index rvas k < slice_index rvas (k + 1)) → (k : ℕ) → k < length rvas → slice_index rvas 0 + k ≤ slice_index rvas k
climbs rvas up zero lt = omega arith
climbs rvas up (suc k) lt =
    let before = climbs rvas up k (omega arith) in
    let step = up k (omega arith) in
    let same : slice_index rvas (k + 1) ≡ slice_index rvas (suc k) = ap (slice_index rvas) (omega arith) in
    omega (arith, before, step, same)

rva_at : (fields : List BaseField) (k : ℕ) (d : BaseField) → k < length fields → slice_index (map (λ (field : BaseField). field.rva) fields) k ≡ (get_or fields k d).rva
rva_at fields k d lt = get_or-map (λ (field : BaseField). field.rva) fields k d 0 lt

few_on_page : (fields : List BaseField) (d : BaseField) (page n : ℕ) → IsAscending fields → n ≡ prefix_len (is_on page) fields → n ≤ 4096
few_on_page fields d page zero up e = omega arith
few_on_page fields d page (suc n) up e =
    let le : prefix_len (is_on page) fields ≤ length fields = prefix_len-le-length (is_on page) fields in
    let first : page ≡ page_of (get_or fields 0 d) = eqb-true _ _ (prefix_len_passes (is_on page) fields 0 d (omega arith)) in
    let last : page ≡ page_of (get_or fields n d) = eqb-true _ _ (prefix_len_passes (is_on page) fields n d (omega arith)) in
    let up_to = climbs (map (λ (field : BaseField). field.rva) fields) up n (omega (arith, length-map fields (λ (field : BaseField). field.rva))) in
    let a = rva_at fields 0 d (omega arith) in
    let b = rva_at fields n d (omega arith) in
    near page (get_or fields 0 d).rva (get_or fields n d).rva n first last (omega (arith, up_to, a, b))
  where
    near : (page low high n : ℕ) → page ≡ low - low % 4096 → page ≡ high - high % 4096 → low + n ≤ high → suc n ≤ 4096
    near page low high n e f le = omega arith

-- the rest ascends too
rvas : List BaseField → List ℕ
rvas fields = map (λ (field : BaseField). field.rva) fields

rvas_rest : (fields : List BaseField) (n k : ℕ) → slice_index (rvas (drop n fields)) k ≡ slice_index (rvas fields) (n + k)
unfolding rvas
rvas_rest fields n k =
    ap (λ (xs : List ℕ). slice_index xs k) (sym (drop-map (λ (field : BaseField). field.rva) n fields)) ∙ get_or-drop n (rvas fields) k 0

length-rvas : (fields : List BaseField) → length (rvas fields) ≡ length fields
unfolding rvas
length-rvas fields = length-map fields (λ (field : BaseField). field.rva)

climbs_rest : (fields : List BaseField) (n : ℕ) → ((k : ℕ) → k + 1 < length (rvas fields) → slice_index (rvas fields) k < slice_index (rvas fields) (k + 1)) → (k : ℕ) → k + 1 < length (rvas (drop n fields)) → slice_index (rvas (drop n fields)) k < slice_index (rvas (drop n fields)) (k + 1)
climbs_rest fields n up k lt =
    let lens = length-rvas (drop n fields) in
    let left = length-drop n fields in
    let all = length-rvas fields in
    let step = up (n + k) (omega (arith, lens, left, all)) in
    let next : slice_index (rvas fields) (n + k + 1) ≡ slice_index (rvas fields) (n + (k + 1)) = ap (slice_index (rvas fields)) (omega arith) in
    omega (arith, rvas_rest fields n k, rvas_rest fields n (k + 1), step, next)

pub ascending_rest : (fields : List BaseField) (n : ℕ) → IsAscending fields → IsAscending (drop n fields)
unfolding rvas
ascending_rest fields n up = climbs_rest fields n up

-- ---- pages ascend

increasing_cons : (n : ℕ) (ns : List ℕ) → (0 < length ns → n < slice_index ns 0) → IsStrictlyIncreasing ns → IsStrictlyIncreasing (n ∷ ns)
increasing_cons n ns first up zero lt = first (omega arith)
increasing_cons n ns first up (suc k) lt =
    let step = up k (omega arith) in
    let next : slice_index ns (k + 1) ≡ slice_index (n ∷ ns) (suc k + 1) = ap (slice_index (n ∷ ns)) (plus k) in
    omega (arith, step, next)
  where
    plus : (k : ℕ) → suc (k + 1) ≡ suc k + 1
    plus k = omega arith

page_below : (low high : ℕ) → low < high → eqb (low - low % 4096) (high - high % 4096) ≡ false → low - low % 4096 < high - high % 4096
page_below low high lt other = let apart = eqb-false _ _ other in omega (arith, apart)

pub pages_ascend : (fields : List BaseField) → IsAscending fields → IsStrictlyIncreasing (map page_rva (pages_of fields))
unfolding pages_of
pages_ascend [] up = λ k lt. absurd (omega arith)
pages_ascend (field ∷ []) up = λ k lt. absurd (omega arith)
pages_ascend (field ∷ next ∷ others) up =
    let step = first_page next others in
    let behind_it : List (List BaseField) = pages_of (drop (behind next others) others) in
    let page : List BaseField = take (behind next others) others in
    let more = pages_ascend (next ∷ others) (ascending_rest (field ∷ next ∷ others) 1 up) in
    let climbs_on : IsStrictlyIncreasing (page_of next ∷ map page_rva behind_it) = subst (λ (pages : List (List BaseField)). IsStrictlyIncreasing (map page_rva pages)) step more in
    let first : field.rva < next.rva = up 0 (omega arith) in
    elim (cases_Bool (eqb (page_of field) (page_of next))) [
      | inl same ↦
          subst (λ (pages : List (List BaseField)). IsStrictlyIncreasing (map page_rva pages)) (sym (ap (before_pages field) step ∙ joined_page field next page behind_it same))
          (subst (λ (n : ℕ). IsStrictlyIncreasing (n ∷ map page_rva behind_it)) (sym (eqb-true _ _ same)) climbs_on)
      | inr other ↦
          subst (λ (pages : List (List BaseField)). IsStrictlyIncreasing (map page_rva pages)) (sym (ap (before_pages field) step ∙ parted field next others page behind_it other))
          (increasing_cons (page_of field) (page_of next ∷ map page_rva behind_it) (λ some. page_below field.rva next.rva first other) climbs_on)
    ]
  where
    joined_page : (field next : BaseField) (page : List BaseField) (pages : List (List BaseField)) → eqb (page_of field) (page_of next) ≡ true → before_pages field ((next ∷ page) ∷ pages) ≡ (field ∷ next ∷ page) ∷ pages
    joined_page field next page pages same = rw same refl

-- ---- a loop over the pages

-- what stands for the first of no fields
abbrev pub first_field : BaseField
first_field = record { rva = 0; wide = false }

pub some_left : (rest : List BaseField) (is_empty : Bool) → is_empty ≡ (length rest == 0) → is_empty ≡ false → 0 < length rest
some_left [] is_empty e none = absurd (false≢true (sym none ∙ e))
some_left (field ∷ others) is_empty e some = omega arith

pub none_left : (table whole : List ℕ) (rest : List BaseField) (is_empty : Bool) → is_empty ≡ (length rest == 0) → is_empty ≡ true → table ++ blocks_of rest ≡ whole → table ≡ whole
unfolding blocks_of pages_of
none_left table whole [] is_empty e none was = sym (append-nil table) ∙ was
none_left table whole (field ∷ others) is_empty e none was =
    absurd (false≢true (sym (ne_eqb (length (field ∷ others)) 0 (λ z. omega arith)) ∙ sym e ∙ none))

pub fits_page : (fields : List BaseField) (page n : ℕ) → IsAscending fields → n ≡ prefix_len (is_on page) fields → n ≤ 4096
fits_page fields page n up e = few_on_page fields first_field page n up e

pub pages_more : (table new whole : List ℕ) (fields here others : List BaseField) (page n : ℕ) → 0 < length fields → IsAscending fields → page ≡ page_of (get_or fields 0 first_field) → n ≡ prefix_len (is_on page) fields → here ≡ take n fields → others ≡ drop n fields → new ≡ table ++ block_of here → table ++ blocks_of fields ≡ whole → IsAscending others × (new ++ blocks_of others ≡ whole)
pages_more table new whole fields here others page n some up e f front back is was = (
  subst IsAscending (sym back) (ascending_rest fields n up),
  ap (λ (xs : List ℕ). xs ++ blocks_of others) is
      ∙ append_assoc table (block_of here) (blocks_of others)
      ∙ ap (λ (xs : List BaseField). table ++ (block_of xs ++ blocks_of others)) front
      ∙ ap (λ (xs : List BaseField). table ++ (block_of (take n fields) ++ blocks_of xs)) back
      ∙ ap (λ (xs : List ℕ). table ++ xs) (sym (blocks_first fields first_field page n some e f))
      ∙ was,
)

-- ---- a block

length-filler : (count : ℕ) → length (filler_words count) ≡ count % 2
length-filler count =
    elim (cases_Bool (eqb (count % 2) 0)) [
      | inl even ↦ rw even (sym (eqb-true _ _ even))
      | inr odd ↦ let not_even = eqb-false (count % 2) 0 odd in rw odd (omega (arith, not_even))
    ]

pub length-block_words : (fields : List BaseField) → length (block_words fields) ≡ length fields + length fields % 2
unfolding block_words
length-block_words fields =
    length-append (map entry_word fields) (filler_words (length fields))
    ∙ ap (λ (k : ℕ). k + length (filler_words (length fields))) (length-map fields entry_word)
    ∙ ap (λ (k : ℕ). length fields + k) (length-filler (length fields))

pub block_is_written : (fields : List BaseField) (d : BaseField) (page : ℕ) → 0 < length fields → page ≡ page_of (get_or fields 0 d) → block_bytes page (block_words fields) ≡ block_of fields
block_is_written [] d page some e = absurd (omega arith)
block_is_written (field ∷ others) d page some e = ap (λ (k : ℕ). block_bytes k (block_words (field ∷ others))) e

flat : (old page size entries filler : List ℕ) → (((old ++ page) ++ size) ++ entries) ++ filler ≡ old ++ (page ++ (size ++ (entries ++ filler)))
flat old page size entries filler = simp append_assoc

pub block_written : (old new : List ℕ) (fields : List BaseField) (d : BaseField) (page : ℕ) → 0 < length fields → page ≡ page_of (get_or fields 0 d) → new ≡ (old ++ number_bytes 4 page) ++ number_bytes 4 (8 + 2 * (length fields + length fields % 2)) → (new ++ flat_map (number_bytes 2) (map entry_word fields)) ++ flat_map (number_bytes 2) (filler_words (length fields)) ≡ old ++ block_of fields
unfolding block_bytes block_words
block_written old new fields d page some e is =
    let size : ℕ = 8 + 2 * (length fields + length fields % 2) in
    ap (λ (xs : List ℕ). (xs ++ flat_map (number_bytes 2) (map entry_word fields)) ++ flat_map (number_bytes 2) (filler_words (length fields))) is
    ∙ flat old (number_bytes 4 page) (number_bytes 4 size) (flat_map (number_bytes 2) (map entry_word fields)) (flat_map (number_bytes 2) (filler_words (length fields)))
    ∙ ap (λ (xs : List ℕ). old ++ (number_bytes 4 page ++ (number_bytes 4 size ++ xs))) (sym (flat_map-append (number_bytes 2) (map entry_word fields) (filler_words (length fields))))
    ∙ ap (λ (k : ℕ). old ++ (number_bytes 4 page ++ (number_bytes 4 (8 + 2 * k) ++ flat_map (number_bytes 2) (block_words fields)))) (sym (length-block_words fields))
    ∙ ap (λ (xs : List ℕ). old ++ xs) (block_is_written fields d page some e)
