-- What is there in an entry whose header is not refused, and that each part ends behind its start.
use Rattle.std.proofs.Common.{◌≡◌, ℕ, ◌+◌, ◌%◌, ◌<◌, ◌≤◌, Bool, true, false, not, cond, eqb, leb, ltb, List, length, Option, Some, None, Result, Ok, Err, refl, sym, ◌∙◌, inl, inr, arith}
use Rattle.std.proofs.lemmas.Bool.{false≢true, cases_lt, ltb-false}
use Rattle.link_base.specs.Bytes.{u16_at, has_bytes}
use Rattle.link_base.specs.declared.kinds.resource.ResFault.{ResFault}
use Rattle.link_base.specs.declared.kinds.resource.ResFault.TheVariants as bad
use Rattle.link_base.proofs.TestLemmas.{or_left, or_right}
use Rattle.res_merge.specs.Entries.{Key, Number}
use Rattle.res_merge.specs.ResourceFile.{aligned, FIELDS_SIZE, NUMBER_MARK, text_units, NameRead, text_read, name_read, header_size, data_size, data_place, Heading, with_name, with_kind, heading, size_is_bad, header_is_bad, EntryRead, entry_with, with_heading, entry_read}

not_leb : (a b : ℕ) → not (leb a b) ≡ false → a ≤ b
not_leb a b e =
    elim (cases_lt b a) [
      | inl lt ↦ absurd (false≢true (sym e ∙ grind arith))
      | inr le ↦ le
    ]

pub fields_there : (bytes : List ℕ) (offset fields : ℕ) → header_is_bad bytes offset fields ≡ false → fields + 16 ≤ length bytes
unfolding header_is_bad
fields_there bytes offset fields e = not_leb (fields + 16) (length bytes) (or_left (not (has_bytes bytes fields FIELDS_SIZE)) _ e)

pub header_long : (bytes : List ℕ) (offset fields : ℕ) → header_is_bad bytes offset fields ≡ false → fields + 16 ≤ offset + header_size bytes offset
unfolding header_is_bad size_is_bad
header_long bytes offset fields e =
    ltb-false (offset + header_size bytes offset) (fields + 16)
    (or_left (ltb (offset + header_size bytes offset) (fields + FIELDS_SIZE)) _
    (or_right (not (eqb (header_size bytes offset % 4) 0)) _
    (or_right (not (has_bytes bytes fields FIELDS_SIZE)) _ e)))

pub aligned-above : (n : ℕ) → n ≤ aligned n
unfolding aligned
aligned-above n = omega arith

-- ---- each part ends behind its start

abbrev NameEnds : ℕ → Result NameRead ResFault → Type 0
NameEnds offset (Ok read) = offset < read.behind
NameEnds offset (Err fault) = Unit {0}

name_ends : (bytes : List ℕ) (offset : ℕ) → NameEnds offset (name_read bytes offset)
unfolding name_read
name_ends bytes offset =
    go (has_bytes bytes offset 2) (eqb (u16_at bytes offset) NUMBER_MARK) (has_bytes bytes offset 4) (text_units bytes offset)
  where
    text : (units : Option ℕ) → NameEnds offset (text_read bytes offset units)
    text None = tt
    text (Some units) = omega arith

    go : (b c d : Bool) (units : Option ℕ) → NameEnds offset (cond b (cond c (cond d (Ok (record { name = Number (u16_at bytes (offset + 2)); behind = offset + 4 })) (Err bad.Header)) (text_read bytes offset units)) (Err bad.Header))
    go true true true units = omega arith
    go true true false units = tt
    go true false d units = text units
    go false c d units = tt

abbrev HeadingEnds : ℕ → Result Heading ResFault → Type 0
HeadingEnds offset (Ok heading) = offset < heading.fields
HeadingEnds offset (Err fault) = Unit {0}

heading_ends : (bytes : List ℕ) (offset : ℕ) → HeadingEnds offset (heading bytes offset)
unfolding heading
heading_ends bytes offset = whole (has_bytes bytes offset 8)
  where
    named : (start : ℕ) (kind : Key) (read : Result NameRead ResFault) → offset ≤ start → NameEnds start read → HeadingEnds offset (with_name kind read)
    named start kind (Ok read) le ends = omega (arith, aligned-above read.behind)
    named start kind (Err fault) le ends = tt

    kinded : (read : Result NameRead ResFault) → NameEnds (offset + 8) read → HeadingEnds offset (with_kind bytes read)
    kinded (Ok read) ends = named read.behind read.name (name_read bytes read.behind) (omega arith) (name_ends bytes read.behind)
    kinded (Err fault) ends = tt

    whole : (b : Bool) → HeadingEnds offset (cond b (with_kind bytes (name_read bytes (offset + 8))) (Err bad.Header))
    whole true = kinded (name_read bytes (offset + 8)) (name_ends bytes (offset + 8))
    whole false = tt

abbrev pub EntryEnds : ℕ → Result EntryRead ResFault → Type 0
EntryEnds offset (Ok read) = offset < read.next
EntryEnds offset (Err fault) = Unit {0}

pub entry_ends : (bytes : List ℕ) (offset : ℕ) → EntryEnds offset (entry_read bytes offset)
unfolding entry_read entry_with
entry_ends bytes offset = headed (heading bytes offset) (heading_ends bytes offset)
  where
    whole : (heading : Heading) (b c : Bool) → offset < heading.fields → header_is_bad bytes offset heading.fields ≡ b → EntryEnds offset (cond b (Err bad.Header) (cond c (Ok (entry_with bytes offset heading)) (Err bad.Data)))
    whole heading true c lt e = tt
    whole heading false true lt e = omega (arith, header_long bytes offset heading.fields e, aligned-above (data_place bytes offset + data_size bytes offset))
    whole heading false false lt e = tt

    headed : (read : Result Heading ResFault) → HeadingEnds offset read → EntryEnds offset (with_heading bytes offset read)
    headed (Ok heading) lt = whole heading (header_is_bad bytes offset heading.fields) (has_bytes bytes (data_place bytes offset) (data_size bytes offset)) lt refl
    headed (Err fault) lt = tt
