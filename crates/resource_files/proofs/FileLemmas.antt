-- What the entries of a resource file have: whole texts that are not too long, and no more bytes together than the file.
use Rattle.std.proofs.Common.{◌≡◌, ℕ, zero, suc, ◌+◌, ◌-◌, ◌*◌, ◌/◌, ◌<◌, ◌≤◌, Bool, true, false, cond, eqb, ltb, min, List, [], ◌∷◌, length, Option, Some, None, Result, Ok, Err, refl, ap, ◌∙◌, drop, arith}
use Rattle.std.proofs.lemmas.Bool.{leb-true}
use Rattle.std.specs.Prelude.{filter_map}
use Rattle.std.specs.List.{sum_by, AllByRecursion}
use Rattle.std.specs.Option.{option_or}
use Rattle.std.proofs.lemmas.List.{length-take, length-drop}
use Rattle.std.proofs.lemmas.List.Sums.{sum_by-cons}
use borrow.Author.Tests.{ltb-true}
use Rattle.link_base.specs.Bytes.{u16_at, has_bytes, bytes_at, first_below}
use Rattle.link_base.specs.declared.kinds.resource.ResFault.{ResFault}
use Rattle.link_base.specs.declared.kinds.resource.ResFault.TheVariants as bad
use Rattle.res_merge.specs.declared.resource.ResError.{ResError}
use Rattle.res_merge.specs.Entries.{Key, Number, Entry}
use Rattle.res_merge.specs.Order.{IsShort, key_size, entry_size}
use Rattle.res_merge.specs.ResourceFile.{UNIT_END, NUMBER_MARK, is_text_end, text_units, NameRead, text_read, name_read, data_size, data_place, Heading, with_name, with_kind, heading, header_is_bad, EntryRead, entry_with, with_heading, entry_read, item_then, entries_from, resources_of}
use Rattle.res_merge.proofs.HeaderLemmas.{header_long, aligned-above, EntryEnds, entry_ends}
use Rattle.resource_files.specs.Held.{item_entry}

found_within : (n : ℕ) (test : ℕ → Bool) (k : ℕ) → first_below n test ≡ Some k → k < n
unfolding first_below
found_within zero test k is = absurd cc
found_within (suc n) test k is = go (found_within n test k) (first_below n test) refl (test n) is
  where
    go : (first_below n test ≡ Some k → k < n) → (o : Option ℕ) → first_below n test ≡ o → (b : Bool) → option_or o (cond b (Some n) None) ≡ Some k → k < suc n
    go before (Some j) e b here = let below = before (e ∙ here) in omega (arith, below)
    go before None e true here = let same : n ≡ k = cc in omega (arith, same)
    go before None e false here = absurd cc

bytes_count : (bytes : List ℕ) (offset count : ℕ) → length (bytes_at bytes offset count) ≡ min count (length bytes - offset)
bytes_count bytes offset count = length-take count (drop offset bytes) ∙ ap (min count) (length-drop offset bytes)

-- ---- a type or a name

abbrev NameFits : ℕ → Result NameRead ResFault → Type 0
NameFits offset (Ok read) = (offset + key_size read.name ≤ read.behind) × IsShort read.name
NameFits offset (Err fault) = Unit {0}

text_fits : (bytes : List ℕ) (offset : ℕ) (units : Option ℕ) → text_units bytes offset ≡ units → NameFits offset (text_read bytes offset units)
unfolding text_units
text_fits bytes offset None is = tt
text_fits bytes offset (Some units) is =
    let below = found_within (min UNIT_END ((length bytes - offset) / 2)) (is_text_end bytes offset) units is in
    let count = bytes_count bytes offset (2 * units) in
    (omega (arith, below, count), (omega (arith, below, count), omega (arith, below, count)))

name_fits : (bytes : List ℕ) (offset : ℕ) → NameFits offset (name_read bytes offset)
unfolding name_read
name_fits bytes offset = go (has_bytes bytes offset 2) (eqb (u16_at bytes offset) NUMBER_MARK) (has_bytes bytes offset 4)
  where
    go : (b c d : Bool) → NameFits offset (cond b (cond c (cond d (Ok (record { name = Number (u16_at bytes (offset + 2)); behind = offset + 4 })) (Err bad.Header)) (text_read bytes offset (text_units bytes offset))) (Err bad.Header))
    go true true true = (omega arith, tt)
    go true true false = tt
    go true false d = text_fits bytes offset (text_units bytes offset) refl
    go false c d = tt

-- ---- an entry

abbrev HeadingFits : ℕ → Result Heading ResFault → Type 0
HeadingFits offset (Ok heading) = (offset + key_size heading.kind + key_size heading.name ≤ heading.fields) × (IsShort heading.kind × IsShort heading.name)
HeadingFits offset (Err fault) = Unit {0}

heading_fits : (bytes : List ℕ) (offset : ℕ) → HeadingFits offset (heading bytes offset)
unfolding heading
heading_fits bytes offset = whole (has_bytes bytes offset 8)
  where
    named : (start : ℕ) (kind : Key) (read : Result NameRead ResFault) → offset + key_size kind ≤ start → IsShort kind → NameFits start read → HeadingFits offset (with_name kind read)
    named start kind (Ok read) le short fits = (omega (arith, le, fits.0, aligned-above read.behind), (short, fits.1))
    named start kind (Err fault) le short fits = tt

    kinded : (read : Result NameRead ResFault) → NameFits (offset + 8) read → HeadingFits offset (with_kind bytes read)
    kinded (Ok read) fits = named read.behind read.name (name_read bytes read.behind) (omega (arith, fits.0)) fits.1 (name_fits bytes read.behind)
    kinded (Err fault) fits = tt

    whole : (b : Bool) → HeadingFits offset (cond b (with_kind bytes (name_read bytes (offset + 8))) (Err bad.Header))
    whole true = kinded (name_read bytes (offset + 8)) (name_fits bytes (offset + 8))
    whole false = tt

pub record Fits (bytes : List ℕ) (offset : ℕ) (read : EntryRead) : Type 0 where
  pub before_next : offset + entry_size read.entry ≤ read.next
  pub inside : offset + entry_size read.entry ≤ length bytes
  pub short : IsShort read.entry.kind × IsShort read.entry.name

abbrev EntryFits : List ℕ → ℕ → Result EntryRead ResFault → Type 0
EntryFits bytes offset (Ok read) = Fits bytes offset read
EntryFits bytes offset (Err fault) = Unit {0}

entry_fits : (bytes : List ℕ) (offset : ℕ) → EntryFits bytes offset (entry_read bytes offset)
unfolding entry_read entry_with
entry_fits bytes offset = headed (heading bytes offset) (heading_fits bytes offset)
  where
    whole : (heading : Heading) (b c : Bool) → HeadingFits offset (Ok heading) → header_is_bad bytes offset heading.fields ≡ b → has_bytes bytes (data_place bytes offset) (data_size bytes offset) ≡ c → EntryFits bytes offset (cond b (Err bad.Header) (cond c (Ok (entry_with bytes offset heading)) (Err bad.Data)))
    whole heading true c fits e d = tt
    whole heading false true fits e d =
        let long = header_long bytes offset heading.fields e in
        let inside = leb-true (data_place bytes offset + data_size bytes offset) (length bytes) d in
        let count = bytes_count bytes (data_place bytes offset) (data_size bytes offset) in
        let above = aligned-above (data_place bytes offset + data_size bytes offset) in
        record {
          before_next = omega (arith, long, inside, count, above, fits.0);
          inside = omega (arith, long, inside, count, fits.0);
          short = fits.1;
        }
    whole heading false false fits e d = tt

    headed : (read : Result Heading ResFault) → HeadingFits offset read → EntryFits bytes offset (with_heading bytes offset read)
    headed (Ok heading) fits = whole heading (header_is_bad bytes offset heading.fields) (has_bytes bytes (data_place bytes offset) (data_size bytes offset)) fits refl refl
    headed (Err fault) fits = tt

-- ---- a file

-- the entries among some items are no more than so many, have no more bytes together, and no text is too long
pub record ItemsFit (room : ℕ) (items : List (Result Entry ResError)) : Type 0 where
  pub few : length (filter_map item_entry items) ≤ room
  pub small : sum_by entry_size (filter_map item_entry items) ≤ room
  pub short : AllByRecursion (λ entry. IsShort entry.kind × IsShort entry.name) (filter_map item_entry items)

no_items : (room : ℕ) → ItemsFit room []
no_items room = record { few = omega arith; small = omega arith; short = tt }

no_entry : (room : ℕ) (error : ResError) → ItemsFit room (Err error ∷ [])
no_entry room error = record { few = omega arith; small = omega arith; short = tt }

one_more : (room later : ℕ) (entry : Entry) (items : List (Result Entry ResError)) → later < room → entry_size entry + later ≤ room → IsShort entry.kind × IsShort entry.name → ItemsFit later items → ItemsFit room (Ok entry ∷ items)
one_more room later entry items less fits short rest = record {
  few = omega (arith, less, rest.few);
  small = omega (arith, fits, rest.small, sum_by-cons entry_size entry (filter_map item_entry items));
  short = (short, rest.short);
}

entries_fit : (n : ℕ) (bytes : List ℕ) (offset : ℕ) → ItemsFit (length bytes - offset) (entries_from n bytes offset)
unfolding entries_from
entries_fit zero bytes offset = no_items (length bytes - offset)
entries_fit (suc n) bytes offset = by_test (λ next. entries_fit n bytes next) (ltb offset (length bytes)) refl
  where
    step : ((next : ℕ) → ItemsFit (length bytes - next) (entries_from n bytes next)) → (read : Result EntryRead ResFault) → offset < length bytes → EntryEnds offset read → EntryFits bytes offset read → ItemsFit (length bytes - offset) (item_then offset read (λ next. entries_from n bytes next))
    step behind (Ok read) lt ends fits =
        one_more (length bytes - offset) (length bytes - read.next) read.entry (entries_from n bytes read.next)
        (omega (arith, lt, ends)) (omega (arith, lt, fits.before_next, fits.inside)) fits.short (behind read.next)
    step behind (Err fault) lt ends fits = no_entry (length bytes - offset) (record { kind = fault; at = offset })

    by_test : ((next : ℕ) → ItemsFit (length bytes - next) (entries_from n bytes next)) → (b : Bool) → ltb offset (length bytes) ≡ b → ItemsFit (length bytes - offset) (cond b (item_then offset (entry_read bytes offset) (λ next. entries_from n bytes next)) [])
    by_test behind true e = step behind (entry_read bytes offset) (ltb-true offset (length bytes) e) (entry_ends bytes offset) (entry_fits bytes offset)
    by_test behind false e = no_items (length bytes - offset)

wider : (room more : ℕ) (items : List (Result Entry ResError)) → room ≤ more → ItemsFit room items → ItemsFit more items
wider room more items le fits = record { few = omega (arith, le, fits.few); small = omega (arith, le, fits.small); short = fits.short }

-- those of a file
pub file_fits : (bytes : List ℕ) → ItemsFit (length bytes) (resources_of bytes)
unfolding resources_of
file_fits bytes = by_test (has_bytes bytes 0 32)
  where
    by_test : (b : Bool) → ItemsFit (length bytes) (cond b (entries_from (length bytes) bytes 32) (Err (record { kind = bad.Header; at = 0 }) ∷ []))
    by_test true = wider (length bytes - 32) (length bytes) (entries_from (length bytes) bytes 32) (omega arith) (entries_fit (length bytes) bytes 32)
    by_test false = no_entry (length bytes) (record { kind = bad.Header; at = 0 })
