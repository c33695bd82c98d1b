-- The file of a plan ends with its raw bytes, and what loading does not copy of it is zero.
use Rattle.std.proofs.Common.{◌≡◌, ℕ, zero, suc, ◌+◌, ◌-◌, ◌<◌, ◌≤◌, ◌==◌, nat_lt, min, false, cond, List, length, slice_index, slice_get, Some, None, sym, ap, ◌∙◌, inl, inr, arith, eq-eqb, le-ltb}
use Rattle.std.proofs.lemmas.Bool.{and_cases, cases_lt, leb-false, ltb-false, cond-true, cond-false, ne_eqb}
use Rattle.std.proofs.lemmas.List.{get_or_past}
use Rattle.link_base.specs.Bytes.{first_below}
use Rattle.link_base.proofs.CallerLemmas.{first_below-none}
use Rattle.image_writer.specs.declared.headers.SectionHeader.{SectionHeader}
use Rattle.image_writer.specs.HeaderTable.{size_of_headers}
use Rattle.pe_loader.specs.LoadedImage.{file_end, is_copied_from, HasZeroSlack}
use Rattle.image_writer.specs.ExpectedImage.{ImagePlan, PlacedBytes, raw_byte, image_file, own_bytes}
use Rattle.image_writer.specs.LoadablePlan.{IsLoadable}
use Rattle.image_writer.proofs.HeaderFields.{count_reads, headers_size_reads}
use Rattle.image_writer.proofs.RowPlaces.{row_there, holder, file_after}
use Rattle.image_writer.proofs.SectionFields.{row_reads}
use Rattle.image_writer.proofs.FileBytes.{raw_place, file_length, offset_is_place, raw_byte_reads}

-- ---- the end of the file

file_end_is : (plan : ImagePlan) (k : ℕ) → IsLoadable plan → k ≤ length plan.rows → file_end (image_file plan) k ≡ raw_place plan k
file_end_is plan zero placed le = headers_size_reads plan placed
file_end_is plan (suc k) placed le =
    let there = row_there plan.rows k (omega arith) in
    let row = there.0 in
    let said = row_reads plan k row placed there.1 in
    let after = file_after plan.rows k (size_of_headers (length plan.rows)) row there.1 in
    rw (said.raw_size, said.offset, file_end_is plan k placed (omega arith)) (
    ends row.raw_size row.file_offset (raw_place plan k) (raw_place plan (suc k)) after (λ some. offset_is_place plan k row placed.writable there.1 some))
  where
    ends : (size offset place next : ℕ) → next ≡ place + size → (0 < size → offset ≡ place) → cond (size == 0) place (offset + size) ≡ next
    ends size offset place next e at =
        elim (cases_lt 0 size) [
          | inl some ↦ cond-false (size == 0) place (offset + size) (ne_eqb size 0 (λ z. omega arith)) ∙ omega (arith, at some)
          | inr none ↦ cond-true (size == 0) place (offset + size) (eq-eqb size 0 (omega arith)) ∙ omega arith
        ]

-- ---- what is not copied

-- a raw byte behind the size of its section is zero
behind_size : (pieces : List PlacedBytes) (row : SectionHeader) (j : ℕ) → row.size ≤ j → raw_byte pieces row j ≡ 0
behind_size pieces row j le = cond-false (nat_lt j row.size) _ 0 (le-ltb _ _ le)

zero_in_row : (plan : ImagePlan) (offset k : ℕ) (row : SectionHeader) → IsLoadable plan → slice_get plan.rows k ≡ Some row → raw_place plan k ≤ offset → offset < raw_place plan k + row.raw_size → is_copied_from (image_file plan) offset k ≡ false → slice_index (image_file plan) offset ≡ 0
zero_in_row plan offset k row placed e low high fails =
    let said = row_reads plan k row placed e in
    let at = offset_is_place plan k row placed.writable e (some (raw_place plan k) offset row.raw_size low high) in
    let j = offset - row.file_offset in
    let past : row.size ≤ j =
    elim (and_cases _ _ (rw (said.offset, said.raw_size, said.size) at fails)) [
      | inl early ↦ absurd (too_early row.file_offset (raw_place plan k) offset at low (leb-false _ _ early))
      | inr late ↦ behind row.file_offset (raw_place plan k) offset row.raw_size row.size at low high (ltb-false _ _ late)
    ] in
    ap (slice_index (image_file plan)) (split row.file_offset (raw_place plan k) offset at low)
    ∙ raw_byte_reads plan k j row placed.writable e (within row.file_offset (raw_place plan k) offset row.raw_size at low high)
    ∙ behind_size (own_bytes plan) row j past
  where
    some : (place offset size : ℕ) → place ≤ offset → offset < place + size → 0 < size
    some place offset size a b = omega arith

    too_early : (start place offset : ℕ) → start ≡ place → place ≤ offset → offset < start → ⊥
    too_early start place offset a b c = omega arith

    behind : (start place offset raw size : ℕ) → start ≡ place → place ≤ offset → offset < place + raw → start + min raw size ≤ offset → size ≤ offset - start
    behind start place offset raw size a b c d = omega arith

    split : (start place offset : ℕ) → start ≡ place → place ≤ offset → offset ≡ start + (offset - start)
    split start place offset a b = omega arith

    within : (start place offset raw : ℕ) → start ≡ place → place ≤ offset → offset < place + raw → offset - start < raw
    within start place offset raw a b c = omega arith

zero_in_file : (plan : ImagePlan) (offset : ℕ) → IsLoadable plan → size_of_headers (length plan.rows) ≤ offset → offset < raw_place plan (length plan.rows) → first_below (length plan.rows) (is_copied_from (image_file plan) offset) ≡ None → slice_index (image_file plan) offset ≡ 0
zero_in_file plan offset placed low high none =
    let found = holder plan.rows (length plan.rows) (size_of_headers (length plan.rows)) offset (omega arith) low high in
    let k = found.0 in
    let there = row_there plan.rows k found.1.0 in
    let after = file_after plan.rows k (size_of_headers (length plan.rows)) there.0 there.1 in
    zero_in_row plan offset k there.0 placed there.1 found.1.1.0
    (upto offset (raw_place plan (suc k)) (raw_place plan k + there.0.raw_size) found.1.1.1 after)
    (first_below-none (length plan.rows) (is_copied_from (image_file plan) offset) none k found.1.0)
  where
    upto : (a b c : ℕ) → a < b → b ≡ c → a < c
    upto a b c lt e = omega arith

pub zero_slack : (plan : ImagePlan) → IsLoadable plan → HasZeroSlack (image_file plan)
zero_slack plan placed =
    record {
      ends = rw (count_reads plan placed) (file_length plan placed.writable ∙ sym (file_end_is plan (length plan.rows) placed (omega arith)));
      zero_elsewhere = λ offset low none. elsewhere offset (rw (headers_size_reads plan placed) at low) (rw (count_reads plan placed) at none);
    }
  where
    elsewhere : (offset : ℕ) → size_of_headers (length plan.rows) ≤ offset → first_below (length plan.rows) (is_copied_from (image_file plan) offset) ≡ None → slice_index (image_file plan) offset ≡ 0
    elsewhere offset low none =
        elim (cases_lt offset (length (image_file plan))) [
          | inl there ↦ zero_in_file plan offset placed low (rw (file_length plan placed.writable) at there) none
          | inr past ↦ get_or_past (image_file plan) offset 0 past
        ]
