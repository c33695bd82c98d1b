-- What layouts say of fields: the places of pieces and of sections decide it.
use Rattle.std.proofs.Common.{◌≡◌, ℕ, ◌+◌, ◌-◌, cond, ◌&&◌, not, List, length, map, slice_index, Option, Some, None, refl, ap}
use Rattle.std.specs.List.{range_with_len, find}
use Rattle.std.proofs.Math.Path.{fun_ext}
use Rattle.link_base.specs.Bytes.{number_bytes}
use Rattle.link_base.specs.Refusals.{first_refusal_below}
use Rattle.address_layout.specs.declared.layout.Layout.{Layout}
use Rattle.address_layout.specs.declared.layout.Placed.{Placed}
use Rattle.address_layout.specs.Layout.{placed_at}
use Rattle.relocate.specs.declared.fix.Fix.{Fix}
use Rattle.relocate.specs.declared.fix.Target.{Target}
use Rattle.relocate.specs.declared.fix.Target.TheVariants as target
use Rattle.relocate.specs.declared.range.RelocRange.{RelocRange}
use Rattle.relocate.specs.declared.value.Parts.{Parts}
use Rattle.relocate.specs.Field.{field_width, has_field, fix_at}
use Rattle.relocate.specs.Value.{address_of, section_start, target_of, held, field_value, value_fits, parts_of}
use Rattle.relocate.specs.PatchedBytes.{covers, byte_by, patched_bytes, range_of, range_fault}

address_in : ℕ → ℕ → ℕ → List ℕ → ℕ
address_in base piece value rvas = base + slice_index rvas piece + value

-- a range by what the value is computed from
range_with : Fix → Parts → Option RelocRange
range_with fix parts =
    cond (has_field fix && not (value_fits fix.kind parts)) (Some (record { index = fix.index; value = field_value fix.kind parts })) None

module _ (layout other : Layout) (pieces : layout.pieces.items ≡ other.pieces.items) (sections : layout.sections.items ≡ other.sections.items) where
  address_same : (base : ℕ) (t : Target) → address_of base layout t ≡ address_of base other t
  unfolding address_in
  address_same base (target.Piece piece value) = ap (address_in base piece value) pieces
  address_same base (target.Absolute value) = refl
  address_same base target.ImageBase = refl

  start_same : (owner : List ℕ) (t : Target) → section_start layout owner t ≡ section_start other owner t
  start_same owner (target.Piece piece value) = ap (λ (placed : List Placed). (placed_at placed (slice_index owner piece)).rva) sections
  start_same owner (target.Absolute value) = refl
  start_same owner target.ImageBase = refl

  parts_same : (base rva : ℕ) (owner bytes : List ℕ) (fix : Fix) → parts_of base rva layout owner bytes fix ≡ parts_of base rva other owner bytes fix
  unfolding parts_of
  parts_same base rva owner bytes fix = rw (address_same base (target_of fix), address_same 0 (target_of fix), start_same owner (target_of fix)) refl

  byte_same : (base rva : ℕ) (owner bytes : List ℕ) (byte : ℕ) (found : Option Fix) → byte_by base rva layout owner bytes byte found ≡ byte_by base rva other owner bytes byte found
  byte_same base rva owner bytes byte None = refl
  byte_same base rva owner bytes byte (Some fix) =
      ap (λ (parts : Parts). slice_index (number_bytes (field_width fix.kind) (held (field_width fix.kind) (field_value fix.kind parts))) (byte - fix.at)) (parts_same base rva owner bytes fix)

  pub bytes_by_places : (base rva : ℕ) (owner : List ℕ) (fixes : List Fix) (bytes : List ℕ) → patched_bytes base rva layout owner fixes bytes ≡ patched_bytes base rva other owner fixes bytes
  unfolding patched_bytes
  bytes_by_places base rva owner fixes bytes =
      ap (λ (f : ℕ → ℕ). map f (range_with_len 0 (length bytes))) (fun_ext (λ byte. byte_same base rva owner bytes byte (find (covers byte) fixes)))

  pub range_by_places : (base rva : ℕ) (owner : List ℕ) (fixes : List Fix) (bytes : List ℕ) → range_fault base rva layout owner fixes bytes ≡ range_fault base rva other owner fixes bytes
  unfolding range_fault range_with
  range_by_places base rva owner fixes bytes =
      ap (λ (f : ℕ → Option RelocRange). first_refusal_below (length fixes) f) (fun_ext (λ k. range_here (fix_at fixes k)))
    where
      range_here : (fix : Fix) → range_of base rva layout owner bytes fix ≡ range_of base rva other owner bytes fix
      range_here fix = ap (range_with fix) (parts_same base rva owner bytes fix)
