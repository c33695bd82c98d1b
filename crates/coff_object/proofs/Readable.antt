-- What the readers need of an object's bytes, and that a well formed object has it.
use Rattle.std.proofs.Common.{◌≡◌, ℕ, ◌+◌, ◌-◌, ◌*◌, ◌<◌, ◌≤◌, Bool, true, false, cond, eqb, List, length, None, sym, ap, ◌∙◌, subst, arith}
use Rattle.std.proofs.lemmas.Bool.{false≢true}
use Rattle.link_base.specs.Bytes.{u32_at}
use Rattle.link_base.proofs.TestLemmas.{or_left, or_right}
use Rattle.coff_records.specs.ObjectHeader.{section_total, symbol_size}
use Rattle.coff_records.specs.StringTable.{string_table}
use Rattle.coff_records.specs.SectionHeader.{relocation_field_in, relocations_offset_in, has_overflow_count_in, lacks_section_name}
use Rattle.coff_records.specs.Relocations.{relocations_place, relocation_count_in}
use Rattle.coff_records.specs.ObjectFile.{section_at, record_offset, aux_total_of, starts_symbol}
use Rattle.coff_records.specs.FileRanges.{leaves_file, body_leaves, counted_leave, relocations_leave}
use Rattle.coff_object.specs.ObjectFaults.{object_fault}
use Rattle.coff_records.proofs.CallerLemmas.{range_whole}
use Rattle.coff_object.proofs.LoopLemmas.{section_passes}
use Rattle.coff_object.proofs.StartLemmas.{starts_below, symbol_room}
use Rattle.coff_object.proofs.WellFormedLemmas.{no_fault, range_holds, names_stay}

-- ---- relocations

counted_whole : (file : List ℕ) (offset : ℕ) → counted_leave file offset ≡ false → offset + 10 ≤ length file
unfolding counted_leave
counted_whole file offset e = range_whole file offset 10 (or_left (leaves_file file offset 10) _ e) (omega arith)

counted_all : (file : List ℕ) (offset k : ℕ) → counted_leave file offset ≡ false → k < u32_at file offset - 1 → offset + 10 + 10 * k + 10 ≤ length file
unfolding counted_leave
counted_all file offset k e lt =
    let rest = or_right (leaves_file file offset 10) _ e in
    let all = or_right (eqb (u32_at file offset) 0) (leaves_file file offset (10 * u32_at file offset)) rest in
    omega (arith, range_whole file offset (10 * u32_at file offset) all (omega arith))

-- a relocation that is counted is in the file
one_whole : (file : List ℕ) (offset field k : ℕ) (overflow : Bool) → cond overflow (counted_leave file offset) (leaves_file file offset (10 * field)) ≡ false → k < cond overflow (u32_at file offset - 1) field → offset + cond overflow 10 0 + 10 * k + 10 ≤ length file
one_whole file offset field k true e lt = counted_all file offset k e lt
one_whole file offset field k false e lt = omega (arith, range_whole file offset (10 * field) e (omega arith))

-- none are counted beyond it, however far away an empty list of them begins
pub relocation_whole : (file header : List ℕ) (k : ℕ) → relocations_leave file header ≡ false → k < relocation_count_in file header → relocations_place header + 10 * k + 10 ≤ length file
unfolding relocations_leave relocation_count_in relocations_place
relocation_whole file header k e lt =
    one_whole file (relocations_offset_in header) (relocation_field_in header) k (has_overflow_count_in header) e lt

count_there : (file : List ℕ) (offset field : ℕ) (overflow : Bool) → cond overflow (counted_leave file offset) (leaves_file file offset (10 * field)) ≡ false → overflow ≡ true → offset + 10 ≤ length file
count_there file offset field true e is = counted_whole file offset e
count_there file offset field false e is = absurd (false≢true is)

pub count_whole : (file header : List ℕ) → relocations_leave file header ≡ false → has_overflow_count_in header ≡ true → relocations_offset_in header + 10 ≤ length file
unfolding relocations_leave
count_whole file header e is =
    count_there file (relocations_offset_in header) (relocation_field_in header) (has_overflow_count_in header) e is

-- ---- sections of an open object

pub record ReadableSection (file : List ℕ) (section : ℕ) : Type 0 where
  pub body : body_leaves file (section_at file section) ≡ false
  pub named : lacks_section_name (string_table file) (section_at file section) ≡ false
  pub relocations : relocations_leave file (section_at file section) ≡ false

pub readable_section : (file : List ℕ) (section : ℕ) → object_fault file ≡ None → 1 ≤ section → section ≤ section_total file → ReadableSection file section
readable_section file section e first last =
    let none = no_fault file e in
    record {
      body = section_passes file (body_leaves file) section first last none.bodies;
      named = section_passes file (lacks_section_name (string_table file)) section first last (names_stay file none.strings);
      relocations = section_passes file (relocations_leave file) section first last none.relocations;
    }

-- ---- symbols of an open object

-- a symbol's record is in the file, and so are its auxiliary records
pub aux_whole : (file : List ℕ) (index place : ℕ) → object_fault file ≡ None → starts_symbol file index ≡ true → place < aux_total_of file index → record_offset file (index + 1 + place) + symbol_size file ≤ length file
aux_whole file index place e starts lt =
    (range_holds file (no_fault file e).symbols).whole (index + 1 + place) (omega (arith, symbol_room file index e starts))

pub symbol_whole : (file : List ℕ) (index : ℕ) → object_fault file ≡ None → starts_symbol file index ≡ true → record_offset file index + symbol_size file ≤ length file
symbol_whole file index e starts = (range_holds file (no_fault file e).symbols).whole index (starts_below file index starts)

-- ---- the same of an object, whose view is its bytes

pub section_of : (inside shown : List ℕ) (i : ℕ) → inside ≡ shown → object_fault inside ≡ None → 1 ≤ i → i ≤ section_total shown → ReadableSection inside i
section_of inside shown i same e first last =
    readable_section inside i e first (subst (λ (file : List ℕ). i ≤ section_total file) (sym same) last)

pub start_of : (inside shown : List ℕ) (j : ℕ) → inside ≡ shown → starts_symbol shown j ≡ true → starts_symbol inside j ≡ true
start_of inside shown j same starts = ap (λ (file : List ℕ). starts_symbol file j) same ∙ starts

pub count_of : (file bytes header : List ℕ) (section : ℕ) → bytes ≡ file → header ≡ section_at file section → ReadableSection file section → has_overflow_count_in header ≡ true → relocations_offset_in header + 10 ≤ length bytes
count_of file bytes header section same is readable = rw (same, is) (count_whole file (section_at file section) readable.relocations)

pub relocation_in_file : (file bytes header : List ℕ) (section place k : ℕ) → bytes ≡ file → header ≡ section_at file section → ReadableSection file section → place ≡ relocations_place header → k < relocation_count_in file (section_at file section) → place + 10 * k + 10 ≤ length bytes
relocation_in_file file bytes header section place k same is readable places lt =
    rw (places, same, is) (relocation_whole file (section_at file section) k readable.relocations lt)
