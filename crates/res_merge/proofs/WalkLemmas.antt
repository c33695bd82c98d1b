-- A file is read one entry after another.
use Rattle.std.proofs.Common.{◌≡◌, ℕ, zero, suc, ◌+◌, ◌<◌, ◌≤◌, Bool, true, false, cond, eqb, eqb-true, ltb, List, [], ◌∷◌, length, Result, Ok, Err, refl, sym, ap, ◌∙◌, lt-ltb, le-ltb, le-leb, arith}
use Rattle.std.proofs.lemmas.Bool.{ltb-false, and_parts}
use Rattle.std.specs.Prelude.{◌&&◌}
use borrow.Author.Tests.{ltb-true}
use Rattle.link_base.proofs.TestLemmas.{and_second}
use Rattle.link_base.specs.Bytes.{has_bytes}
use Rattle.link_base.specs.declared.kinds.resource.ResFault.{ResFault}
use Rattle.link_base.specs.declared.kinds.resource.ResFault.TheVariants as bad
use Rattle.res_merge.specs.declared.resource.ResError.{ResError}
use Rattle.res_merge.specs.declared.reader.Resources.{Resources}
use Rattle.res_merge.specs.Entries.{Entry}
use Rattle.res_merge.specs.ResourceFile.{EntryRead, entry_read, item_then, entries_from, entries_at, resources_of}
use Rattle.res_merge.specs.Left.{items_left}
use Rattle.res_merge.proofs.HeaderLemmas.{EntryEnds, entry_ends}

-- how many entries may come does not matter, where the file has no more bytes
entries_enough : (n m : ℕ) (bytes : List ℕ) (offset : ℕ) → length bytes ≤ offset + n → length bytes ≤ offset + m → entries_from n bytes offset ≡ entries_from m bytes offset
unfolding entries_from
entries_enough zero zero bytes offset short also = refl
entries_enough zero (suc m) bytes offset short also = rw (le-ltb offset (length bytes) (omega arith)) refl
entries_enough (suc n) zero bytes offset short also = rw (le-ltb offset (length bytes) (omega arith)) refl
entries_enough (suc n) (suc m) bytes offset short also =
    step (λ next lt. entries_enough n m bytes next (omega arith) (omega arith)) (entry_read bytes offset) (entry_ends bytes offset) (ltb offset (length bytes))
  where
    step : ((next : ℕ) → offset < next → entries_from n bytes next ≡ entries_from m bytes next) → (read : Result EntryRead ResFault) → EntryEnds offset read → (b : Bool) → cond b (item_then offset read (λ next. entries_from n bytes next)) [] ≡ cond b (item_then offset read (λ next. entries_from m bytes next)) []
    step again (Ok read) ends true = ap (λ (items : List (Result Entry ResError)). Ok read.entry ∷ items) (again read.next ends)
    step again (Err fault) ends true = refl
    step again read ends false = refl

-- at an entry
entry_step : (n : ℕ) (bytes : List ℕ) (offset : ℕ) → length bytes ≤ offset + n → offset < length bytes → entries_from n bytes offset ≡ item_then offset (entry_read bytes offset) (λ next. entries_at bytes next)
unfolding entries_from
entry_step zero bytes offset short lt = absurd (omega arith)
entry_step (suc n) bytes offset short lt = rw (lt-ltb offset (length bytes) lt) (again (entry_read bytes offset) (entry_ends bytes offset))
  where
    again : (read : Result EntryRead ResFault) → EntryEnds offset read → item_then offset read (λ next. entries_from n bytes next) ≡ item_then offset read (λ next. entries_at bytes next)
    again (Ok read) ends = ap (λ (items : List (Result Entry ResError)). Ok read.entry ∷ items) (entries_enough n (length bytes) bytes read.next (omega arith) (omega arith))
    again (Err fault) ends = refl

pub ok_step : (bytes : List ℕ) (offset : ℕ) (read : EntryRead) → offset < length bytes → Ok read ≡ entry_read bytes offset → entries_at bytes offset ≡ Ok read.entry ∷ entries_at bytes read.next
ok_step bytes offset read lt is =
    entry_step (length bytes) bytes offset (omega arith) lt ∙ ap (λ (r : Result EntryRead ResFault). item_then offset r (λ next. entries_at bytes next)) (sym is)

pub err_step : (bytes : List ℕ) (offset : ℕ) (fault : ResFault) → offset < length bytes → Err fault ≡ entry_read bytes offset → entries_at bytes offset ≡ Err (record { kind = fault; at = offset }) ∷ []
err_step bytes offset fault lt is =
    entry_step (length bytes) bytes offset (omega arith) lt ∙ ap (λ (r : Result EntryRead ResFault). item_then offset r (λ next. entries_at bytes next)) (sym is)

pub end_step : (bytes : List ℕ) (offset : ℕ) → length bytes ≤ offset → entries_at bytes offset ≡ []
unfolding entries_from
end_step bytes offset le = entries_enough (length bytes) 0 bytes offset (omega arith) (omega arith)

-- ---- what the iterator has to give

-- at the start
pub left_cut : (reader : Resources) → (eqb reader.at 0 && ltb (length reader.bytes.now) 32) ≡ true → items_left reader ≡ Err (record { kind = bad.Header; at = 0 }) ∷ []
unfolding resources_of
left_cut reader cut =
    let both = and_parts (eqb reader.at 0) (ltb (length reader.bytes.now) 32) cut in
    rw (both.0) (by_test (has_bytes reader.bytes.now 0 32) refl (ltb-true (length reader.bytes.now) 32 both.1))
  where
    by_test : (b : Bool) → has_bytes reader.bytes.now 0 32 ≡ b → length reader.bytes.now < 32 → cond b (entries_at reader.bytes.now 32) (Err (record { kind = bad.Header; at = 0 }) ∷ []) ≡ Err (record { kind = bad.Header; at = 0 }) ∷ []
    by_test true e short = absurd (grind arith)
    by_test false e short = refl

-- behind the first entry of a file
pub left_at : (reader : Resources) (offset : ℕ) → offset ≡ cond (eqb reader.at 0) 32 reader.at → (eqb reader.at 0 && ltb (length reader.bytes.now) 32) ≡ false → items_left reader ≡ entries_at reader.bytes.now offset
unfolding resources_of
left_at reader offset is long = by_test (eqb reader.at 0) refl is
  where
    there : eqb reader.at 0 ≡ true → has_bytes reader.bytes.now 0 32 ≡ true
    there e = le-leb _ _ (omega (arith, ltb-false (length reader.bytes.now) 32 (and_second (eqb reader.at 0) _ e long)))

    by_test : (b : Bool) → eqb reader.at 0 ≡ b → offset ≡ cond b 32 reader.at → cond b (resources_of reader.bytes.now) (entries_at reader.bytes.now reader.at) ≡ entries_at reader.bytes.now offset
    by_test true e at = rw (there e, at) refl
    by_test false e at = rw at refl

pub left_behind : (bytes : List ℕ) (at : ℕ) → 0 < at → cond (eqb at 0) (resources_of bytes) (entries_at bytes at) ≡ entries_at bytes at
left_behind bytes at some = by_test (eqb at 0) refl
  where
    by_test : (b : Bool) → eqb at 0 ≡ b → cond b (resources_of bytes) (entries_at bytes at) ≡ entries_at bytes at
    by_test true e = absurd (omega (arith, eqb-true at 0 e))
    by_test false e = refl

pub cut_short : (reader : Resources) → (eqb reader.at 0 && ltb (length reader.bytes.now) 32) ≡ true → length reader.bytes.now < 32
cut_short reader cut = ltb-true (length reader.bytes.now) 32 (and_parts (eqb reader.at 0) (ltb (length reader.bytes.now) 32) cut).1
