-- The definitions on small sections: a compare of a byte at main, `80 3D 00 00 00 00 07` and `C3` behind it, whose field
-- at 2 is relative to main itself, by each of the types that count from behind the field.
use Rattle.std.proofs.Common.{◌≡◌, ℕ, List, [], ◌∷◌, true, false, Some, None, refl}
use Rattle.std.specs.Prelude.{pos, negsuc, map, slice_index, Ok, Err}
use Rattle.link_base.specs.Bytes.{number_at, number_bytes, first_below}
use Rattle.link_base.specs.Refusals.{first_refusal_below}
use Rattle.link_base.specs.declared.kinds.target.RelocKind.TheVariants as kind
use Rattle.link_base.specs.declared.kinds.target.TargetFault.TheVariants as fault
use Rattle.address_layout.specs.declared.layout.Layout.{Layout}
use Rattle.relocate.specs.declared.fix.Fix.{Fix}
use Rattle.relocate.specs.declared.fix.Target.TheVariants.{Piece}
use Rattle.relocate.specs.declared.error.FieldError.TheVariants as error
use Rattle.relocate.specs.declared.value.Parts.{Parts}
use Rattle.relocate.specs.Field.{field_width}
use Rattle.relocate.specs.FieldFaults.{place_faults, overlaps_earlier, target_faults, fault_of, field_fault}
use Rattle.relocate.specs.Value.{old_number, field_value, value_fits, held, parts_of}
use Rattle.relocate.specs.PatchedBytes.{patched_bytes, range_fault}

-- main at 0x1000 of an image at 0x140000000, in its second section that begins there, and the field at 0x1002
to_main : ℕ → ℕ → Parts
to_main kind contents =
    record { address = pos 0x1_4000_1000; rva = pos 0x1000; number = pos 2; start = pos 0x1000; old = old_number kind contents; place = pos 0x1_4000_1002 }

bytes_of : ℕ → ℕ → List ℕ
bytes_of kind contents = number_bytes (field_width kind) (held (field_width kind) (field_value kind (to_main kind contents)))

behind_the_field : map (λ kind. bytes_of kind 0) (4 ∷ 5 ∷ 6 ∷ 7 ∷ 8 ∷ 9 ∷ []) ≡ (0xFA ∷ 0xFF ∷ 0xFF ∷ 0xFF ∷ []) ∷ (0xF9 ∷ 0xFF ∷ 0xFF ∷ 0xFF ∷ []) ∷ (0xF8 ∷ 0xFF ∷ 0xFF ∷ 0xFF ∷ []) ∷ (0xF7 ∷ 0xFF ∷ 0xFF ∷ 0xFF ∷ []) ∷ (0xF6 ∷ 0xFF ∷ 0xFF ∷ 0xFF ∷ []) ∷ (0xF5 ∷ 0xFF ∷ 0xFF ∷ 0xFF ∷ []) ∷ []
unfolding bytes_of to_main old_number field_width field_value held number_bytes
behind_the_field = refl

-- the old contents 2 are added, and -1 as four bytes is one less
other_types : map (λ kind. bytes_of kind 2) (1 ∷ 2 ∷ 3 ∷ 10 ∷ 11 ∷ []) ≡ (2 ∷ 0x10 ∷ 0 ∷ 0x40 ∷ 1 ∷ 0 ∷ 0 ∷ 0 ∷ []) ∷ (2 ∷ 0x10 ∷ 0 ∷ 0x40 ∷ []) ∷ (2 ∷ 0x10 ∷ 0 ∷ 0 ∷ []) ∷ (4 ∷ 0 ∷ []) ∷ (2 ∷ 0 ∷ 0 ∷ 0 ∷ []) ∷ []
unfolding bytes_of to_main old_number field_width field_value held number_bytes
other_types = refl

signed_contents : bytes_of 3 0xFFFF_FFFF ≡ 0xFF ∷ 0x0F ∷ 0 ∷ 0 ∷ []
unfolding bytes_of to_main old_number field_width field_value held number_bytes
signed_contents = refl

-- a value in range, one below the least, and the least
out_of_range : map (λ contents. value_fits 4 (to_main 4 contents)) (0x7FFF_FFFF ∷ 0x8000_0005 ∷ 0x8000_0006 ∷ []) ≡ true ∷ false ∷ true ∷ []
unfolding to_main old_number field_value value_fits
out_of_range = refl

-- ---- bytes

main_at : ℕ → ℕ → ℕ → Fix
main_at index at kind = record { index = index; at = at; kind = kind; target = Some (Ok (Piece 0 0)) }

-- the compare itself, where main stands at 0x1000: its field is one byte before the end of the instruction
compare_patched : (layout : Layout) → slice_index layout.pieces.items 0 ≡ 0x1000
    → patched_bytes 0x1_4000_0000 0x1000 layout (0 ∷ []) (main_at 0 2 5 ∷ []) (0x80 ∷ 0x3D ∷ 0 ∷ 0 ∷ 0 ∷ 0 ∷ 7 ∷ 0xC3 ∷ []) ≡ 0x80 ∷ 0x3D ∷ 0xF9 ∷ 0xFF ∷ 0xFF ∷ 0xFF ∷ 7 ∷ 0xC3 ∷ []
unfolding main_at patched_bytes parts_of old_number field_width field_value held number_at number_bytes
compare_patched layout e = rw e refl

-- of two values of which the second is out of range
second_out_of_range : (layout : Layout) → slice_index layout.pieces.items 0 ≡ 0x1000
    → range_fault 0x1_4000_0000 0x1000 layout (0 ∷ []) (main_at 0 0 4 ∷ main_at 1 4 4 ∷ []) (0 ∷ 0 ∷ 0 ∷ 0 ∷ 0 ∷ 0 ∷ 0 ∷ 0x80 ∷ []) ≡ Some (record { index = 1; value = negsuc 0x8000_0007 })
unfolding main_at range_fault first_refusal_below parts_of old_number field_width field_value value_fits number_at
second_out_of_range layout e = rw e refl

-- ---- faults

to_g : ℕ → ℕ → ℕ → Fix
to_g index at kind = record { index = index; at = at; kind = kind; target = Some (Ok (Piece 1 0)) }

-- two fields of four bytes, at 1 and at 2
two_overlap : field_fault (Some 6) true false (to_g 0 1 4 ∷ to_g 1 2 4 ∷ []) ≡ Some (error.Reloc 1 kind.Overlap)
unfolding to_g place_faults overlaps_earlier target_faults fault_of first_refusal_below first_below field_width
two_overlap = refl

-- the second type is none, and its field leaves the section too
first_test : field_fault (Some 6) true false (to_g 0 1 4 ∷ to_g 1 2 12 ∷ []) ≡ Some (error.Reloc 1 kind.Kind)
unfolding to_g place_faults overlaps_earlier target_faults fault_of first_refusal_below first_below field_width
first_test = refl

absolute_passes : field_fault None true true (record { index = 3; at = 9; kind = 0; target = Some (Err fault.Local) } ∷ []) ≡ None
unfolding place_faults overlaps_earlier target_faults fault_of first_refusal_below first_below field_width
absolute_passes = refl
