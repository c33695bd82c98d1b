-- What the first byte of a section's name field tells: the text of the field begins with a slash where the field does.
use Rattle.std.proofs.Common.{◌≡◌, ℕ, suc, ◌+◌, Bool, true, false, cond, not, eqb, List, [], ◌∷◌, take, refl, sym, arith}
use Rattle.std.specs.List.{before_first, position_or_len}
use Rattle.std.proofs.lemmas.Bool.{eqb-true}
use Rattle.link_base.specs.Bytes.{is_nul}
use Rattle.coff_records.specs.SectionHeader.{name_field_in, short_name_in, names_an_offset, section_name_in}

slash_first : (field : List ℕ) → names_an_offset (before_first is_nul field) ≡ names_an_offset field
slash_first [] = refl
slash_first (byte ∷ rest) = go (is_nul byte) refl
  where
    go : (b : Bool) → is_nul byte ≡ b → names_an_offset (take (cond (not b) (1 + position_or_len is_nul rest) 0) (byte ∷ rest)) ≡ eqb byte 47
    go true nul = rw (eqb-true byte 0 nul) refl
    go false other =
        let more : 1 + position_or_len is_nul rest ≡ suc (position_or_len is_nul rest) = omega arith in
        rw more refl

pub field_tells : (header : List ℕ) → names_an_offset (name_field_in header) ≡ names_an_offset (short_name_in header)
unfolding short_name_in
field_tells header = sym (slash_first (name_field_in header))

-- a name whose field does not begin with a slash is the text of the field
pub name_in_field : (strings header : List ℕ) → names_an_offset (name_field_in header) ≡ false → section_name_in strings header ≡ before_first is_nul (name_field_in header)
unfolding section_name_in short_name_in
name_in_field strings header short = rw (slash_first (name_field_in header), short) refl
