-- At another base a field that holds an address has the bytes of its number and the difference of the bases.
use Rattle.std.proofs.Common.{◌≡◌, ℕ, ◌+◌, ◌-◌, ◌*◌, ◌%◌, ◌^◌, ◌<◌, List, length, slice_index, true, false, sym, ap, ◌∙◌, arith}
use Rattle.std.proofs.Math.Nat.{add-sub_cancel_left}
use Rattle.link_base.specs.Bytes.{number_at, number_bytes}
use Rattle.address_layout.specs.declared.layout.Layout.{Layout}
use Rattle.relocate.specs.declared.fix.Fix.{Fix}
use Rattle.relocate.specs.Field.{field_width, no_fix, fix_at}
use Rattle.relocate.specs.Judged.{AreTheFields, ArePatchable}
use Rattle.relocate.specs.Value.{value_of, held}
use Rattle.relocate.specs.PatchedBytes.{covers, byte_by, patched_bytes, is_based}
use Rattle.relocate.proofs.PatchedLemmas.{is_covered}
use Rattle.relocate.proofs.OrderLemmas.{covered_once, bytes_in_any_order}
use Rattle.relocate.proofs.BaseLemmas.{patchable_suits, value_moves}
use Rattle.relocate.proofs.MovedLemmas.{ends_within, byte_patched, found_once, number_patched, based_moved}

module _ (base other rva : ℕ) (layout : Layout) (owner : List ℕ) (fixes fixups : List Fix) (bytes : List ℕ) where
  pub bytes_moved : AreTheFields fixes fixups → ArePatchable (length bytes) fixups → base < 2 ^ 64 → (k : ℕ) → k < length fixups → is_based (fix_at fixups k) ≡ true → (t : ℕ) → t < field_width (fix_at fixups k).kind
      → slice_index (patched_bytes other rva layout owner fixes bytes) ((fix_at fixups k).at + t)
      ≡ slice_index (number_bytes (field_width (fix_at fixups k).kind) ((number_at (field_width (fix_at fixups k).kind) (patched_bytes base rva layout owner fixes bytes) (fix_at fixups k).at + (other + 2 ^ 64 - base) % 2 ^ 64) % 2 ^ (8 * field_width (fix_at fixups k).kind))) t
  bytes_moved fields patchable low k lt based t inside =
      let fix : Fix = fix_at fixups k in
      let width = field_width fix.kind in
      let here = bytes_in_any_order base rva layout owner fixes fixups bytes (length bytes) fields patchable in
      let there = bytes_in_any_order other rva layout owner fixes fixups bytes (length bytes) fields patchable in
      let suits = patchable_suits (length bytes) fix (patchable.each k no_fix lt) in
      let some = (patchable.each k no_fix lt).some in
      let end = ends_within (length bytes) fixups k patchable lt in
      let value = value_of base rva layout owner bytes fix in
      let number : held width (value_of other rva layout owner bytes fix) ≡ (number_at width (patched_bytes base rva layout owner fixups bytes) fix.at + (other + 2 ^ 64 - base) % 2 ^ 64) % 2 ^ (8 * width) =
      ap (held width) (value_moves false false base other rva layout owner bytes fix suits based)
      ∙ based_moved base other value fix based low
      ∙ ap (λ (n : ℕ). (n + (other + 2 ^ 64 - base) % 2 ^ 64) % 2 ^ (8 * width)) (sym (number_patched base rva layout owner fixups bytes k patchable lt)) in
      rw (sym here, sym there)
      (byte_patched other rva layout owner fixups bytes (fix.at + t) (omega (arith, end, inside))
      ∙ ap (byte_by other rva layout owner bytes (fix.at + t)) (found_once (covers (fix.at + t)) fixups k (covered_once fixups (fix.at + t) patchable.apart) lt (is_covered (fix.at + t) fix.at width some (omega arith) (omega (arith, inside))))
      ∙ ap (λ (n : ℕ). slice_index (number_bytes width (held width (value_of other rva layout owner bytes fix))) n) (add-sub_cancel_left fix.at t)
      ∙ ap (λ (n : ℕ). slice_index (number_bytes width n) t) number)
