-- Another base moves the fields that hold addresses and no others, and no value into its range or out of it.
use Rattle.std.proofs.Common.{◌≡◌, ◌≢◌, ℕ, ◌+◌, ◌-◌, ◌<◌, ℤ, pos, ◌+ℤ◌, ◌-ℤ◌, List, [], length, Option, Some, None, Bool, true, false, ◌&&◌, ◌||◌, not, option_map, Result, Ok, Err, eqb, refl, sym, ap, ◌∙◌, inl, inr, ◌⊎◌, arith, nat_le, le-leb, subst, slice_index}
use Rattle.std.proofs.lemmas.Bool.{false≢true}
use Rattle.std.proofs.lemmas.Bool.Decides.{eqb_tells}
use Rattle.std.proofs.lemmas.Int.{ints}
use Rattle.std.proofs.lemmas.List.Elements.{All-from_get_or, All-weaker}
use Rattle.std.proofs.lemmas.List.FromFn.{fill_by_all, length-map-range_with_len}
use Rattle.std.specs.List.{find}
use Rattle.std.specs.Option.{is_some, is_none}
use Rattle.link_base.specs.Bytes.{number_bytes}
use Rattle.link_base.specs.Refusals.{shown, first_standing}
use Rattle.link_base.specs.declared.kinds.target.TargetFault.{TargetFault}
use Rattle.link_base.specs.declared.kinds.target.TargetFault.TheVariants as fault
use Rattle.link_base.specs.declared.kinds.target.RelocKind.TheVariants as kind
use Rattle.link_base.proofs.RefusalLemmas.{none_below, same_below}
use Rattle.link_base.proofs.OptionLemmas.{none_mapped, both_none}
use Rattle.address_layout.specs.declared.layout.Layout.{Layout}
use Rattle.relocate.specs.declared.fix.Fix.{Fix}
use Rattle.relocate.specs.declared.fix.Target.{Target}
use Rattle.relocate.specs.declared.fix.Target.TheVariants.{Piece, Absolute, ImageBase}
use Rattle.relocate.specs.declared.value.Parts.{Parts}
use Rattle.relocate.specs.declared.error.FieldError.TheVariants as error
use Rattle.relocate.specs.Field.{field_width, has_field, no_fix, fix_at}
use Rattle.relocate.specs.FieldFaults.{leaves_body, own_fault, is_absolute, place_faults, target_faults, overlaps_earlier, fault_at, field_fault}
use Rattle.relocate.specs.Judged.{IsPatchable, AreTheFields, ArePatchable}
use Rattle.relocate.specs.Value.{address_of, meant, field_value, value_fits, parts_of, value_of, fits, held}
use Rattle.relocate.specs.PatchedBytes.{covers, byte_by, patched_byte, patched_bytes, range_of, range_fault, is_based, IsSuited, AreSuited, HaveNoBased}
use Rattle.relocate.proofs.JudgeLemmas.{shown_none, passes}
use Rattle.relocate.proofs.PatchableLemmas.{none_each, with_field}
use Rattle.relocate.proofs.ValueLemmas.{row_addr64, row_addr32, row_addr32nb, row_section, row_secrel, row_rel32, fits_addr32}
use Rattle.relocate.proofs.FindLemmas.{found_in, map_range_same}
use Rattle.relocate.proofs.PatchedLemmas.{covers_is}
use Rattle.relocate.proofs.OrderLemmas.{among_fields, no_range}

-- ---- a target that suits its type

pub suited : (large pdata : Bool) (fix : Fix) → IsSuited large pdata fix → (own_fault fix.target ≡ None) × (nat_le 3 fix.kind && is_absolute fix.target ≡ false)
unfolding target_faults
suited large pdata fix h =
    let own = both_none (option_map (error.Target fix.index) (own_fault fix.target)) _ h.1 in
    let relative = both_none (shown (nat_le 3 fix.kind && is_absolute fix.target) (error.Target fix.index fault.AbsRelative)) _ own.1 in
    (none_mapped (error.Target fix.index) (own_fault fix.target) own.0, shown_none (nat_le 3 fix.kind && is_absolute fix.target) (error.Target fix.index fault.AbsRelative) relative.0)

not_none : {A : Type 0} (x : Option A) → is_none x ≡ false → is_some x ≡ true
not_none None e = absurd (false≢true (sym e))
not_none (Some x) e = refl

has_symbol : (body_len : Option ℕ) (fix : Fix) → first_standing (place_faults body_len fix) ≡ None → is_some fix.target ≡ true
unfolding place_faults
has_symbol body_len fix e =
    let first = both_none (shown (nat_le 12 fix.kind) (error.Reloc fix.index kind.Kind)) _ e in
    let second = both_none (shown (leaves_body body_len fix) (error.Reloc fix.index kind.Field)) _ first.1 in
    let third = both_none (shown (is_none fix.target) (error.Reloc fix.index kind.Index)) _ second.1 in
    not_none fix.target (shown_none (is_none fix.target) (error.Reloc fix.index kind.Index) third.0)

-- relocations of which none has a fault
pub judged_suited : (body_len : Option ℕ) (large pdata : Bool) (fixes : List Fix) → field_fault body_len large pdata fixes ≡ None → AreSuited large pdata fixes
judged_suited body_len large pdata fixes none =
    All-from_get_or (λ fix. has_field fix ≡ true → IsSuited large pdata fix) fixes no_fix
    (λ k lt some.
    let passed = passes body_len large pdata (fix_at fixes k) (overlaps_earlier fixes k) (none_each (length fixes) (fault_at body_len large pdata fixes) none k lt) (with_field (fix_at fixes k) some) in
    (has_symbol body_len (fix_at fixes k) passed.place, passed.target))

-- a relocation that can be patched
pub patchable_suits : (len : ℕ) (fix : Fix) → IsPatchable len fix → IsSuited false false fix
patchable_suits len fix patchable = (has_symbol (Some len) fix patchable.place, patchable.target)

-- relocations whose fields can be patched
pub fields_suited : (fixes fixups : List Fix) (len : ℕ) → AreTheFields fixes fixups → ArePatchable len fixups → AreSuited false false fixes
fields_suited fixes fixups len fields patchable =
    All-from_get_or (λ fix. has_field fix ≡ true → IsSuited false false fix) fixes no_fix
    (λ k lt some. among_fields (IsSuited false false) fixes fixups k fields (All-weaker (IsPatchable len) (IsSuited false false) (patchable_suits len) fixups patchable.each) lt some)

-- ---- the address of a target

address_stays : (base other : ℕ) (layout : Layout) (target : Option (Result Target TargetFault)) → is_absolute target ≡ true → address_of base layout (meant target) ≡ address_of other layout (meant target)
address_stays base other layout None e = absurd (false≢true e)
address_stays base other layout (Some (Err fault)) e = absurd (false≢true e)
address_stays base other layout (Some (Ok (Piece piece value))) e = absurd (false≢true e)
address_stays base other layout (Some (Ok (Absolute value))) e = refl
address_stays base other layout (Some (Ok ImageBase)) e = absurd (false≢true e)

address_moves : (base other : ℕ) (layout : Layout) (target : Option (Result Target TargetFault)) → is_some target ≡ true → own_fault target ≡ None → is_absolute target ≡ false → address_of base layout (meant target) + other ≡ address_of other layout (meant target) + base
address_moves base other layout None some own e = absurd (false≢true some)
address_moves base other layout (Some (Err fault)) some own e = absurd cc
address_moves base other layout (Some (Ok (Piece piece value))) some own e = omega arith
address_moves base other layout (Some (Ok (Absolute value))) some own e = absurd (false≢true (sym e))
address_moves base other layout (Some (Ok ImageBase)) some own e = omega arith

-- ---- based fields

absolute_by : (a b c : Bool) → (a ≡ true) ⊎ (b ≡ true) → (a || b) && not c ≡ false → c ≡ true
absolute_by a b true one e = refl
absolute_by true b false one e = absurd (false≢true (sym e))
absolute_by false true false one e = absurd (false≢true (sym e))
absolute_by false false false (inl one) e = absurd (false≢true one)
absolute_by false false false (inr one) e = absurd (false≢true one)

pub based_by : (a b c : Bool) → (a || b) && not c ≡ true → ((a ≡ true) ⊎ (b ≡ true)) × (c ≡ false)
based_by true b false e = (inl refl, refl)
based_by true b true e = absurd (false≢true e)
based_by false true false e = (inr refl, refl)
based_by false true true e = absurd (false≢true e)
based_by false false c e = absurd (false≢true e)

neither : {a b : Bool} → (a ≡ true) ⊎ (b ≡ true) → a ≡ false → b ≡ false → ⊥
neither (inl h) e f = false≢true (sym e ∙ h)
neither (inr h) e f = false≢true (sym f ∙ h)

-- ---- ranges

same_kind : (kind : ℕ) (first second : Parts) → kind ≡ 1 → value_fits kind first ≡ value_fits kind second
unfolding value_fits
same_kind kind first second e = rw e refl

same_value : (kind : ℕ) (first second : Parts) → first.rva ≡ second.rva → first.old ≡ second.old → field_value kind first ≡ field_value kind second → value_fits kind first ≡ value_fits kind second
unfolding value_fits
same_value kind first second e f g = rw (g, e, f) refl

-- ---- sums

pub relative_sum : (a b p q n : ℕ) (old : ℤ) → a + q ≡ b + p → (pos a +ℤ old) -ℤ (pos p +ℤ pos n) ≡ (pos b +ℤ old) -ℤ (pos q +ℤ pos n)
relative_sum a b p q n old e = omega (arith, ints)

moved_sum : (a b p q : ℕ) (old : ℤ) → a + q ≡ b + p → pos b +ℤ old ≡ (pos a +ℤ old) +ℤ (pos q -ℤ pos p)
moved_sum a b p q old e = omega (arith, ints)

-- ---- the value of a field

module _ (large pdata : Bool) (base other rva : ℕ) (layout : Layout) (owner bytes : List ℕ) (fix : Fix) where
  pub from_behind : has_field fix ≡ true → IsSuited large pdata fix → fix.kind ≢ 1 → fix.kind ≢ 2 → address_of base layout (meant fix.target) + other ≡ address_of other layout (meant fix.target) + base
  from_behind some suits a b =
      let whole = with_field fix some in
      let facts = suited large pdata fix suits in
      let above : nat_le 3 fix.kind ≡ true = le-leb 3 fix.kind (omega arith) in
      address_moves base other layout fix.target suits.0 facts.0 (sym (ap (λ (t : Bool). t && is_absolute fix.target) above) ∙ facts.1)

  -- one that is not based
  pub value_stays : has_field fix ≡ true → IsSuited large pdata fix → is_based fix ≡ false → value_of base rva layout owner bytes fix ≡ value_of other rva layout owner bytes fix
  unfolding parts_of
  value_stays some suits still =
      let here : Parts = parts_of base rva layout owner bytes fix in
      let there : Parts = parts_of other rva layout owner bytes fix in
      elim (eqb_tells fix.kind 1) [
        | inl a ↦
            row_addr64 fix.kind here a.1
            ∙ ap (λ (n : ℕ). pos n +ℤ here.old) (address_stays base other layout fix.target (absolute_by (eqb fix.kind 1) (eqb fix.kind 2) (is_absolute fix.target) (inl a.0) still))
            ∙ sym (row_addr64 fix.kind there a.1)
        | inr a ↦ elim (eqb_tells fix.kind 2) [
          | inl b ↦
              row_addr32 fix.kind here b.1
              ∙ ap (λ (n : ℕ). pos n +ℤ here.old) (address_stays base other layout fix.target (absolute_by (eqb fix.kind 1) (eqb fix.kind 2) (is_absolute fix.target) (inr b.0) still))
              ∙ sym (row_addr32 fix.kind there b.1)
          | inr b ↦ elim (eqb_tells fix.kind 3) [
            | inl c ↦ row_addr32nb fix.kind here c.1 ∙ sym (row_addr32nb fix.kind there c.1)
            | inr c ↦ elim (eqb_tells fix.kind 10) [
              | inl d ↦ row_section fix.kind here d.1 ∙ sym (row_section fix.kind there d.1)
              | inr d ↦ elim (eqb_tells fix.kind 11) [
                | inl e ↦ row_secrel fix.kind here e.1 ∙ sym (row_secrel fix.kind there e.1)
                | inr e ↦
                    let moves = from_behind some suits a.1 b.1 in
                    row_rel32 fix.kind here a.1 b.1 c.1 d.1 e.1
                    ∙ relative_sum (address_of base layout (meant fix.target)) (address_of other layout (meant fix.target)) (base + rva + fix.at) (other + rva + fix.at) (4 + (fix.kind - 4)) here.old (omega arith)
                    ∙ sym (row_rel32 fix.kind there a.1 b.1 c.1 d.1 e.1)
              ]
            ]
          ]
        ]
      ]

  -- one that is based moves by the difference of the bases
  pub value_moves : IsSuited large pdata fix → is_based fix ≡ true → value_of other rva layout owner bytes fix ≡ value_of base rva layout owner bytes fix +ℤ (pos other -ℤ pos base)
  unfolding parts_of
  value_moves suits based =
      let here : Parts = parts_of base rva layout owner bytes fix in
      let there : Parts = parts_of other rva layout owner bytes fix in
      let parts = based_by (eqb fix.kind 1) (eqb fix.kind 2) (is_absolute fix.target) based in
      let moves = address_moves base other layout fix.target suits.0 (suited large pdata fix suits).0 parts.1 in
      let sums = moved_sum (address_of base layout (meant fix.target)) (address_of other layout (meant fix.target)) base other here.old moves in
      elim (eqb_tells fix.kind 1) [
        | inl a ↦ row_addr64 fix.kind there a.1 ∙ sums ∙ ap (λ (z : ℤ). z +ℤ (pos other -ℤ pos base)) (sym (row_addr64 fix.kind here a.1))
        | inr a ↦ elim (eqb_tells fix.kind 2) [
          | inl b ↦ row_addr32 fix.kind there b.1 ∙ sums ∙ ap (λ (z : ℤ). z +ℤ (pos other -ℤ pos base)) (sym (row_addr32 fix.kind here b.1))
          | inr b ↦ absurd (neither parts.0 a.0 b.0)
        ]
      ]

  -- whether it is in range is the same at each base
  pub fits_stays : has_field fix ≡ true → IsSuited large pdata fix → fits base rva layout owner bytes fix ≡ fits other rva layout owner bytes fix
  unfolding parts_of
  fits_stays some suits = by (is_based fix) refl
    where
      here : Parts
      here = parts_of base rva layout owner bytes fix

      there : Parts
      there = parts_of other rva layout owner bytes fix

      by : (b : Bool) → is_based fix ≡ b → fits base rva layout owner bytes fix ≡ fits other rva layout owner bytes fix
      by false still = same_value fix.kind here there refl refl (value_stays some suits still)
      by true based =
          elim (eqb_tells fix.kind 1) [
            | inl a ↦ same_kind fix.kind here there a.1
            | inr a ↦ elim (eqb_tells fix.kind 2) [
              | inl b ↦ fits_addr32 fix.kind here b.1 ∙ sym (fits_addr32 fix.kind there b.1)
              | inr b ↦ absurd (neither (based_by (eqb fix.kind 1) (eqb fix.kind 2) (is_absolute fix.target) based).0 a.0 b.0)
            ]
          ]

-- ---- all fields

not_shown : {A : Type 0} (b : Bool) (x : A) → b ≡ true → shown b x ≡ None → ⊥
not_shown b x stands e = false≢true (sym (shown_none b x e) ∙ stands)

range_there : (base rva : ℕ) (layout : Layout) (owner bytes : List ℕ) (fix : Fix) → range_of base rva layout owner bytes fix ≡ None → has_field fix ≡ true → fits base rva layout owner bytes fix ≡ true
range_there base rva layout owner bytes fix none some = by (fits base rva layout owner bytes fix) refl
  where
    by : (fit : Bool) → fits base rva layout owner bytes fix ≡ fit → fit ≡ true
    by true fitting = refl
    by false misfit = absurd (not_shown (has_field fix && not (fits base rva layout owner bytes fix)) _ (rw (some, misfit) refl) none)

module _ (large pdata : Bool) (base other rva : ℕ) (layout : Layout) (owner : List ℕ) (fixes : List Fix) (bytes : List ℕ) where
  -- where no field is based, the bytes are the same at each base
  pub bytes_stay : AreSuited large pdata fixes → HaveNoBased fixes → patched_bytes base rva layout owner fixes bytes ≡ patched_bytes other rva layout owner fixes bytes
  unfolding patched_bytes
  bytes_stay all still =
      map_range_same (patched_byte base rva layout owner fixes bytes) (patched_byte other rva layout owner fixes bytes) (length bytes) (λ byte lt. by byte (find (covers byte) fixes) refl)
    where
      by : (byte : ℕ) (found : Option Fix) → find (covers byte) fixes ≡ found → byte_by base rva layout owner bytes byte found ≡ byte_by other rva layout owner bytes byte found
      by byte None e = refl
      by byte (Some fix) e =
          let found = found_in (covers byte) fixes fix no_fix e in
          let some = (covers_is byte fix found.3).0 in
          let suits = subst (λ (each : Fix). has_field each ≡ true → IsSuited large pdata each) found.2 (all found.0 no_fix found.1) some in
          let stays = subst (λ (each : Fix). has_field each ≡ true → is_based each ≡ false) found.2 (still found.0 no_fix found.1) some in
          ap (λ (value : ℤ). slice_index (number_bytes (field_width fix.kind) (held (field_width fix.kind) value)) (byte - fix.at)) (value_stays large pdata base other rva layout owner bytes fix some suits stays)

  -- and so is the first value that does not fit
  pub range_stays : AreSuited large pdata fixes → HaveNoBased fixes → range_fault base rva layout owner fixes bytes ≡ range_fault other rva layout owner fixes bytes
  unfolding range_fault
  range_stays all still =
      same_below (length fixes) (λ k. range_of base rva layout owner bytes (fix_at fixes k)) (λ k. range_of other rva layout owner bytes (fix_at fixes k)) (λ k lt. by k lt (has_field (fix_at fixes k)) refl)
    where
      by : (k : ℕ) → k < length fixes → (b : Bool) → has_field (fix_at fixes k) ≡ b → range_of base rva layout owner bytes (fix_at fixes k) ≡ range_of other rva layout owner bytes (fix_at fixes k)
      by k lt false nothing = rw nothing refl
      by k lt true some =
          let fitting = fits_stays large pdata base other rva layout owner bytes (fix_at fixes k) some (all k no_fix lt some) in
          let value = value_stays large pdata base other rva layout owner bytes (fix_at fixes k) some (all k no_fix lt some) (still k no_fix lt some) in
          rw (fitting, value) refl

  -- where each value fits at one base, each does at any, also of based fields
  pub no_range_stays : AreSuited large pdata fixes → range_fault base rva layout owner fixes bytes ≡ None → range_fault other rva layout owner fixes bytes ≡ None
  unfolding range_fault
  no_range_stays all none =
      none_below (length fixes) (λ k. range_of other rva layout owner bytes (fix_at fixes k))
      (λ k lt. no_range other rva layout owner bytes (fix_at fixes k)
      (λ some.
      sym (fits_stays large pdata base other rva layout owner bytes (fix_at fixes k) some (all k no_fix lt some))
      ∙ range_there base rva layout owner bytes (fix_at fixes k) (none_each (length fixes) (λ j. range_of base rva layout owner bytes (fix_at fixes j)) none k lt) some))

-- ---- as many bytes, and those of no relocations

pub length_patched : (base rva : ℕ) (layout : Layout) (owner : List ℕ) (fixes : List Fix) (bytes : List ℕ) → length (patched_bytes base rva layout owner fixes bytes) ≡ length bytes
unfolding patched_bytes
length_patched base rva layout owner fixes bytes = length-map-range_with_len (patched_byte base rva layout owner fixes bytes) 0 (length bytes)

pub nothing_patched : (base rva : ℕ) (layout : Layout) (owner bytes : List ℕ) → patched_bytes base rva layout owner [] bytes ≡ bytes
unfolding patched_bytes
nothing_patched base rva layout owner bytes = sym (fill_by_all (patched_byte base rva layout owner [] bytes) bytes (length bytes) 0 refl (λ k lt. refl))
