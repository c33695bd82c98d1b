-- Where long texts begin, by the NULs around them.
use Rattle.std.proofs.Common.{◌≡◌, ℕ, ◌+◌, ◌-◌, ◌<◌, ◌≤◌, Bool, true, false, cond, ◌&&◌, eqb, leb, ltb, List, [], drop, length, slice_index, max, Option, Some, None, ◌*◌, ◌∷◌, ◌++◌, get_or, replicate, refl, sym, ap, ◌∙◌, subst, ◌⊎◌, inl, inr, le-ltb, lt-ltb, le-leb, arith}
use Rattle.std.specs.Prelude.{unwrap_or, option_and_then}
use Rattle.std.specs.List.{position_or_len, before_first}
use Rattle.std.proofs.lemmas.Bool.{cases_lt, lt-leb, ltb-true}
use Rattle.std.proofs.lemmas.List.{length-take, length-take-le, length-drop, length-append, length-replicate, get_or-drop, get_or-take, get_or-append-add, get_or_append_left, get_or-replicate}
use Rattle.std.proofs.lemmas.List.Sums.{passes_at_first}
use Rattle.link_base.specs.Bytes.{u32_at, is_nul, text_at, bytes_at}
use Rattle.link_base.specs.Decimal.{decimal_number}
use Rattle.memchr.specs.Find.{IsFirstByte, IsLastByte}
use Rattle.coff_object.specs.declared.long_texts.LongSpan.{LongSpan}
use Rattle.coff_records.specs.StringTable.{text_in, is_long_text}
use Rattle.coff_records.specs.SectionHeader.{short_name_in, names_an_offset, name_offset, long_section_name, section_name_in}
use Rattle.coff_records.specs.SymbolRecord.{SymbolView, name_in, long_name_offset_in}
use Rattle.coff_object.specs.LongText.{is_long_at, no_text, with_span, IsNextNul, IsAfterLastNul, IsLongSpan, HoldsBlocks, HoldsSpans}
use Rattle.coff_records.proofs.CallerLemmas.{first_is_near}

-- ---- one text

-- a text is as long as the bytes before its NUL, where it has one
text_length : (table : List ℕ) (offset p : ℕ) → p ≡ position_or_len is_nul (drop offset table) → length (unwrap_or (text_at table offset) []) ≡ cond (ltb p (length (drop offset table))) p 0
text_length table offset p is =
    rw is (elim (cases_lt (position_or_len is_nul (drop offset table)) (length (drop offset table))) [
      | inl lt ↦ rw (lt-ltb _ _ lt) (length-take-le _ _ (omega arith))
      | inr le ↦ rw (le-ltb _ _ le) refl
    ])

long_by : (table : List ℕ) (offset len : ℕ) → 4 ≤ offset → length (unwrap_or (text_at table offset) []) ≡ len → is_long_text table offset ≡ ltb 32000 len
unfolding is_long_text text_in
long_by table offset len le is = rw (le-leb 4 offset le) (ap (λ (n : ℕ). ltb 32000 n) is)

early : (table : List ℕ) (offset : ℕ) → offset < 4 → is_long_text table offset ≡ false
unfolding is_long_text text_in
early table offset lt = rw (lt-leb 4 offset lt) refl

-- the byte there, from the offset on
there : (table : List ℕ) (offset k : ℕ) → offset ≤ k → is_nul (slice_index table k) ≡ is_nul (slice_index (drop offset table) (k - offset))
there table offset k le =
    let place : offset + (k - offset) ≡ k = omega arith in
    ap is_nul (sym (get_or-drop offset table (k - offset) 0 ∙ ap (λ (m : ℕ). slice_index table m) place))

-- a NUL that is near ends it soon
near_is_short : (table : List ℕ) (offset k : ℕ) → offset ≤ k → k ≤ offset + 32000 → is_nul (slice_index table k) ≡ true → is_long_text table offset ≡ false
near_is_short table offset k le near nul =
    elim (cases_lt offset 4) [
      | inl lt ↦ early table offset lt
      | inr from ↦
          let p = position_or_len is_nul (drop offset table) in
          let close = first_is_near (drop offset table) (k - offset) (sym (there table offset k le) ∙ nul) in
          long_by table offset _ from (text_length table offset (position_or_len is_nul (drop offset table)) refl)
          ∙ small (ltb (position_or_len is_nul (drop offset table)) (length (drop offset table))) (position_or_len is_nul (drop offset table)) (omega (arith, close))
    ]
  where
    small : (b : Bool) (p : ℕ) → p ≤ 32000 → ltb 32000 (cond b p 0) ≡ false
    small true p le = le-ltb 32000 p le
    small false p le = refl

-- none is longer than the table
short_table : (table : List ℕ) (offset : ℕ) → length table ≤ 32000 → is_long_text table offset ≡ false
short_table table offset le =
    elim (cases_lt offset 4) [
      | inl lt ↦ early table offset lt
      | inr from ↦
          let p = position_or_len is_nul (drop offset table) in
          long_by table offset _ from (text_length table offset p refl) ∙ small (ltb p (length (drop offset table))) p refl
    ]
  where
    small : (b : Bool) (p : ℕ) → ltb p (length (drop offset table)) ≡ b → ltb 32000 (cond b p 0) ≡ false
    small true p lt = le-ltb 32000 p (omega (arith, ltb-true p _ lt, length-drop offset table))
    small false p lt = refl

pub short_holds : (table : List ℕ) (spans : List LongSpan) → length table ≤ 32000 → spans ≡ [] → HoldsSpans table spans
short_holds table spans le none =
    subst (λ (ss : List LongSpan). HoldsSpans table ss) (sym none)
    record {
      each = λ index span lt. absurd (omega arith);
      beyond = λ offset from. short_table table offset le;
    }

-- up to the next NUL it is as long as that is away; without one it is none
next_tells : (table : List ℕ) (offset nul : ℕ) → 4 ≤ offset → offset ≤ nul → nul ≤ length table → ((k : ℕ) → offset ≤ k → k < nul → is_nul (slice_index table k) ≡ true → ⊥) → (nul < length table → is_nul (slice_index table nul) ≡ true) → is_long_text table offset ≡ cond (ltb nul (length table)) (ltb 32000 (nul - offset)) false
next_tells table offset nul from le within none here =
    elim (cases_lt nul (length table)) [
      | inl lt ↦
          let close = first_is_near (drop offset table) (nul - offset) (sym (there table offset nul le) ∙ here lt) in
          let some : position_or_len is_nul (drop offset table) < length (drop offset table) = omega (arith, close, length-drop offset table) in
          let far = far_off some in
          let same : position_or_len is_nul (drop offset table) ≡ nul - offset = omega (arith, close, far) in
          long_by table offset _ from (text_length table offset (position_or_len is_nul (drop offset table)) refl)
          ∙ rw (lt-ltb _ _ some, lt-ltb _ _ lt) (ap (λ (n : ℕ). ltb 32000 n) same)
      | inr past ↦
          let all : length (drop offset table) ≤ position_or_len is_nul (drop offset table) = nothing past (cases_lt (position_or_len is_nul (drop offset table)) (length (drop offset table))) in
          long_by table offset _ from (text_length table offset (position_or_len is_nul (drop offset table)) refl)
          ∙ rw (le-ltb _ _ all, le-ltb _ _ past) refl
    ]
  where
    p : ℕ
    p = position_or_len is_nul (drop offset table)

    here_nul : position_or_len is_nul (drop offset table) < length (drop offset table) → is_nul (slice_index table (offset + position_or_len is_nul (drop offset table))) ≡ true
    here_nul lt =
        ap is_nul (sym (get_or-drop offset table (position_or_len is_nul (drop offset table)) 0)) ∙ passes_at_first is_nul (drop offset table) 0 lt

    far_off : position_or_len is_nul (drop offset table) < length (drop offset table) → nul ≤ offset + position_or_len is_nul (drop offset table)
    far_off some = elim (cases_lt (offset + position_or_len is_nul (drop offset table)) nul) [
      | inl lt ↦ absurd (none (offset + position_or_len is_nul (drop offset table)) (omega arith) lt (here_nul some))
      | inr far ↦ far
    ]

    nothing : length table ≤ nul → (position_or_len is_nul (drop offset table) < length (drop offset table)) ⊎ (length (drop offset table) ≤ position_or_len is_nul (drop offset table)) → length (drop offset table) ≤ position_or_len is_nul (drop offset table)
    nothing past (inl lt) =
        absurd (none (offset + position_or_len is_nul (drop offset table)) (omega arith) (omega (arith, past, lt, length-drop offset table)) (here_nul lt))
    nothing past (inr le) = le

-- a text that begins beyond the table is none
pub beyond_table : (table : List ℕ) (offset : ℕ) → length table ≤ offset → is_long_text table offset ≡ false
beyond_table table offset le =
    elim (cases_lt offset 4) [
      | inl lt ↦ early table offset lt
      | inr from ↦
          let none : length (drop offset table) ≡ 0 = omega (arith, length-drop offset table) in
          long_by table offset _ from (text_length table offset (position_or_len is_nul (drop offset table)) refl)
          ∙ rw (le-ltb (position_or_len is_nul (drop offset table)) (length (drop offset table)) (omega (arith, none))) refl
    ]

-- ---- the span of a block

pub span_is : (table : List ℕ) (start end after nul : ℕ) (span : LongSpan) → end ≤ start + 32000 → end ≤ length table → (end < start + 32000 → end ≡ length table) → IsAfterLastNul table start end after → IsNextNul table end nul → span.from ≡ max after 4 → span.until ≡ cond (ltb nul (length table)) (nul - 32000) 0 → IsLongSpan table start span
span_is table start end after nul span short within reaches last next from until =
    record { holds = λ offset low high. each offset low high (cases_lt offset (length table)) (cases_lt offset after) (cases_lt offset 4) }
  where
    none_after : (offset : ℕ) → after ≤ offset → (k : ℕ) → offset ≤ k → k < nul → is_nul (slice_index table k) ≡ true → ⊥
    none_after offset le k low high e = elim (cases_lt k end) [
      | inl lt ↦ last.none k (omega arith) lt e
      | inr ge ↦ next.none k ge high e
    ]

    tells : (offset : ℕ) → ltb nul (length table) ≡ ltb nul (length table) → cond (ltb nul (length table)) (ltb 32000 (nul - offset)) false ≡ ltb offset (cond (ltb nul (length table)) (nul - 32000) 0)
    tells offset same = go (ltb nul (length table))
      where
        go : (b : Bool) → cond b (ltb 32000 (nul - offset)) false ≡ ltb offset (cond b (nul - 32000) 0)
        go true = elim (cases_lt 32000 (nul - offset)) [
          | inl far ↦ lt-ltb _ _ far ∙ sym (lt-ltb offset (nul - 32000) (omega arith))
          | inr near ↦ le-ltb _ _ near ∙ sym (le-ltb offset (nul - 32000) (omega arith))
        ]
        go false = sym (le-ltb offset 0 (omega arith))

    out : (offset : ℕ) → offset < span.from → (leb span.from offset && ltb offset span.until) ≡ false
    out offset lt = rw (lt-leb span.from offset lt) refl

    each : (offset : ℕ) → start ≤ offset → offset < start + 32000 → (offset < length table) ⊎ (length table ≤ offset) → (offset < after) ⊎ (after ≤ offset) → (offset < 4) ⊎ (4 ≤ offset) → is_long_text table offset ≡ (leb span.from offset && ltb offset span.until)
    each offset low high inside (inl before) early_or_not =
        near_is_short table offset (after - 1) (omega arith) (omega (arith, last.high)) (last.here (omega arith)) ∙ sym (out offset (omega (arith, from)))
    each offset low high inside (inr le) (inl small) = early table offset small ∙ sym (out offset (omega (arith, from)))
    each offset low high (inr past) (inr le) (inr large) =
        beyond_table table offset past ∙ sym (rw (until) (past_all (leb span.from offset) (ltb nul (length table)) past))
      where
        past_all : (a b : Bool) → length table ≤ offset → (a && ltb offset (cond b (nul - 32000) 0)) ≡ false
        past_all true true h = le-ltb offset (nul - 32000) (omega (arith, next.within))
        past_all true false h = le-ltb offset 0 (omega arith)
        past_all false b h = refl
    each offset low high (inl lt) (inr le) (inr large) =
        next_tells table offset nul large (omega (arith, next.low within, at_end (cases_lt end (start + 32000)))) next.within (none_after offset le) next.here
        ∙ tells offset refl
        ∙ sym (rw (le-leb span.from offset (omega (arith, from)), until) refl)
      where
        at_end : (end < start + 32000) ⊎ (start + 32000 ≤ end) → offset < end
        at_end (inl less) = omega (arith, reaches less)
        at_end (inr full) = omega arith

-- ---- the spans of all blocks

-- a span without offsets: no text is long
none_between : (from until offset : ℕ) → until ≤ from → (leb from offset && ltb offset until) ≡ false
none_between from until offset le = elim (cases_lt offset from) [
  | inl lt ↦ rw (lt-leb from offset lt) refl
  | inr ge ↦ rw (le-leb from offset ge) (le-ltb offset until (omega arith))
]

-- the next NUL at the end of a block is that at the start of the one after it, also where the table ends in the block
pub next_at : (table : List ℕ) (end start nul : ℕ) → end ≤ start → (end < start → end ≡ length table) → IsNextNul table end nul → IsNextNul table start nul
next_at table end start nul le reaches next = record {
  low = λ inside. elim (cases_lt end start) [
    | inl lt ↦ absurd (omega (arith, reaches lt))
    | inr ge ↦ omega (arith, next.low (omega arith))
  ];
  within = next.within;
  none = λ k low high here. next.none k (omega arith) high here;
  here = next.here;
}

-- a block in which no text is long
passed_block : (table : List ℕ) (spans : List LongSpan) (index : ℕ) (span : LongSpan) → HoldsBlocks table spans index → IsLongSpan table (32000 * index) span → span.until ≤ span.from → HoldsBlocks table spans (index + 1)
passed_block table spans index span before is none = record {
  within = omega (arith, before.within);
  each = before.each;
  others = λ offset low high. elim (cases_lt offset (32000 * index)) [
    | inl lt ↦ before.others offset low lt
    | inr ge ↦ is.holds offset ge (omega arith) ∙ none_between span.from span.until offset none
  ];
}

-- a block with a span, behind those without a long text
put_block : (table : List ℕ) (spans : List LongSpan) (index : ℕ) (span : LongSpan) → HoldsBlocks table spans index → IsLongSpan table (32000 * index) span → HoldsBlocks table (spans ++ replicate (index - length spans) no_text ++ span ∷ []) (index + 1)
put_block table spans index span before is = record {
  within = omega (arith, all);
  each = λ i d lt. each i d (omega (arith, lt, all)) (cases_lt i (length spans)) (cases_lt i index);
  others = λ offset low high. absurd (omega (arith, low, high, all));
}
  where
    gap : List LongSpan
    gap = replicate (index - length spans) no_text

    len : length (spans ++ gap) ≡ index
    len = omega (arith, length-append spans gap, length-replicate (index - length spans) no_text, before.within)

    all : length (spans ++ gap ++ span ∷ []) ≡ index + 1
    all = omega (arith, length-append (spans ++ gap) (span ∷ []), len)

    empty : (i : ℕ) → length spans ≤ i → i < index → IsLongSpan table (32000 * i) no_text
    empty i low high = record {
      holds = λ offset from below. before.others offset (omega arith) (omega arith) ∙ sym (none_between 0 0 offset (omega arith));
    }

    in_gap : (i : ℕ) (d : LongSpan) → length spans ≤ i → i < index → get_or (spans ++ gap) i d ≡ no_text
    in_gap i d low high = let place : length spans + (i - length spans) ≡ i = omega arith in
        ap (λ (k : ℕ). get_or (spans ++ gap) k d) (sym place)
        ∙ get_or-append-add spans gap (i - length spans) d
        ∙ get_or-replicate (index - length spans) (i - length spans) no_text d (omega arith)

    each : (i : ℕ) (d : LongSpan) → i < index + 1 → (i < length spans) ⊎ (length spans ≤ i) → (i < index) ⊎ (index ≤ i) → IsLongSpan table (32000 * i) (get_or (spans ++ gap ++ span ∷ []) i d)
    each i d lt (inl old) within =
        subst (IsLongSpan table (32000 * i)) (sym (get_or_append_left (spans ++ gap) (span ∷ []) d i (omega (arith, len, before.within)) ∙ get_or_append_left spans gap d i old)) (before.each i d old)
    each i d lt (inr new) (inl between) =
        subst (IsLongSpan table (32000 * i)) (sym (get_or_append_left (spans ++ gap) (span ∷ []) d i (omega (arith, len)) ∙ in_gap i d new between)) (empty i new between)
    each i d lt (inr new) (inr last) =
        let same : index ≡ i = omega arith in
        let place : length (spans ++ gap) + 0 ≡ i = omega (arith, len) in
        subst (IsLongSpan table (32000 * i)) (sym (ap (λ (k : ℕ). get_or (spans ++ gap ++ span ∷ []) k d) (sym place) ∙ get_or-append-add (spans ++ gap) (span ∷ []) 0 d)) (subst (λ (k : ℕ). IsLongSpan table (32000 * k) span) same is)

pub more_blocks : (table : List ℕ) (spans after : List LongSpan) (index : ℕ) (span : LongSpan) → HoldsBlocks table spans index → IsLongSpan table (32000 * index) span → after ≡ with_span spans index span → HoldsBlocks table after (index + 1)
more_blocks table spans after index span before is put =
    subst (λ (items : List LongSpan). HoldsBlocks table items (index + 1)) (sym put) (elim (cases_lt span.from span.until) [
      | inl some ↦ rw (lt-ltb _ _ some) (put_block table spans index span before is)
      | inr none ↦ rw (le-ltb _ _ none) (passed_block table spans index span before is none)
    ])

pub all_blocks : (table : List ℕ) (spans : List LongSpan) (count : ℕ) → length table < 32000 * count → HoldsBlocks table spans count → HoldsSpans table spans
all_blocks table spans count all blocks = record {
  each = blocks.each;
  beyond = λ offset le. elim (cases_lt offset (32000 * count)) [
    | inl lt ↦ blocks.others offset le lt
    | inr past ↦ beyond_table table offset (omega arith)
  ];
}

-- ---- NULs of a part of the table

byte : (table part : List ℕ) (at count i : ℕ) → part ≡ bytes_at table at count → i < count → is_nul (slice_index part i) ≡ is_nul (slice_index table (at + i))
byte table part at count i is lt =
    ap (λ (xs : List ℕ). is_nul (slice_index xs i)) is ∙ ap is_nul (get_or-take count (drop at table) i 0 lt ∙ get_or-drop at table i 0)

byte_at : (table part : List ℕ) (at count k : ℕ) → part ≡ bytes_at table at count → at ≤ k → k < at + count → is_nul (slice_index part (k - at)) ≡ is_nul (slice_index table k)
byte_at table part at count k is low high =
    let place : at + (k - at) ≡ k = omega arith in
    byte table part at count (k - at) is (omega arith) ∙ ap (λ (m : ℕ). is_nul (slice_index table m)) place

pub next_found : (table part : List ℕ) (at place : ℕ) → at ≤ length table → part ≡ bytes_at table at (length table - at) → length part ≡ length table - at → IsFirstByte is_nul part (Some place) → IsNextNul table at (at + place)
next_found table part at place le is len found = record {
  low = λ _. omega arith;
  within = omega (arith, found.0.high, len);
  none = λ k low high nul. found.0.before (k - at) (omega arith) (omega arith) (byte_at table part at (length table - at) k is low (omega (arith, high, found.0.high, len)) ∙ nul);
  here = λ _. sym (byte table part at (length table - at) place is (omega (arith, found.0.high, len))) ∙ found.1;
}

pub next_missing : (table part : List ℕ) (at : ℕ) → at ≤ length table → part ≡ bytes_at table at (length table - at) → length part ≡ length table - at → IsFirstByte is_nul part None → IsNextNul table at (length table)
next_missing table part at le is len none = record {
  low = λ le. le;
  within = omega arith;
  none = λ k low high nul. none (k - at) (omega arith) (omega (arith, high, len)) (byte_at table part at (length table - at) k is low (omega (arith, high)) ∙ nul);
  here = λ lt. absurd (omega arith);
}

pub last_found : (table part : List ℕ) (start end last : ℕ) → start ≤ end → part ≡ bytes_at table start (end - start) → length part ≡ end - start → IsLastByte is_nul part (Some last) → IsAfterLastNul table start end (start + last + 1)
last_found table part start end last le is len found = record {
  low = omega arith;
  high = omega (arith, found.0.high, len);
  none = λ k low high nul. found.0.after (k - start) (omega arith) (omega (arith, high, low, len)) (byte_at table part start (end - start) k is (omega arith) (omega (arith, high, le)) ∙ nul);
  here = λ _. let place : start + last + 1 - 1 ≡ start + last = omega arith in
      ap (λ (m : ℕ). is_nul (slice_index table m)) place ∙ sym (byte table part start (end - start) last is (omega (arith, found.0.high, len))) ∙ found.1;
}

pub last_missing : (table part : List ℕ) (start end : ℕ) → start ≤ end → part ≡ bytes_at table start (end - start) → length part ≡ end - start → IsLastByte is_nul part None → IsAfterLastNul table start end start
last_missing table part start end le is len none = record {
  low = omega arith;
  high = le;
  none = λ k low high nul. none (k - start) (omega arith) (omega (arith, high, low, len)) (byte_at table part start (end - start) k is low (omega (arith, high, le)) ∙ nul);
  here = λ lt. absurd (omega arith);
}

-- ---- names

short_len : (bytes : List ℕ) → length (before_first is_nul (bytes_at bytes 0 8)) ≤ 8
short_len bytes =
    omega (arith, length-take (position_or_len is_nul (bytes_at bytes 0 8)) (bytes_at bytes 0 8), length-take 8 (drop 0 bytes))

header_len : (header : List ℕ) → length (short_name_in header) ≤ 8
unfolding short_name_in
header_len header = short_len header

-- a symbol's name is long where the text is that it refers to
pub symbol_long : (symbol : SymbolView) → ltb 32000 (length (name_in symbol)) ≡ is_long_at symbol.strings (long_name_offset_in symbol)
unfolding name_in long_name_offset_in is_long_text
symbol_long symbol = go (eqb (u32_at symbol.bytes 0) 0)
  where
    go : (b : Bool) → ltb 32000 (length (cond b (unwrap_or (text_in symbol.strings (u32_at symbol.bytes 4)) []) (before_first is_nul (bytes_at symbol.bytes 0 8)))) ≡ is_long_at symbol.strings (cond b (Some (u32_at symbol.bytes 4)) None)
    go true = refl
    go false = le-ltb 32000 _ (omega (arith, short_len symbol.bytes))

-- and so is a section's
pub section_long : (strings header : List ℕ) → ltb 32000 (length (section_name_in strings header)) ≡ is_long_at strings (name_offset (short_name_in header))
unfolding section_name_in long_section_name name_offset is_long_text
section_long strings header =
    go (names_an_offset (short_name_in header)) (decimal_number (drop 1 (short_name_in header))) (short_name_in header) (header_len header)
  where
    go : (b : Bool) (d : Option ℕ) (text : List ℕ) → length text ≤ 8 → ltb 32000 (length (cond b (unwrap_or (option_and_then (text_in strings) (cond b d None)) []) text)) ≡ is_long_at strings (cond b d None)
    go true None text le = refl
    go true (Some offset) text le = refl
    go false d text le = le-ltb 32000 (length text) (omega arith)
