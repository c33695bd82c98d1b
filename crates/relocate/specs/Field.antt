-- The bytes of the fields of relocations (PE Format, "Type Indicators", x64 Processors).
use Rattle.std.specs.Prelude.{ℕ, ◌+◌, Bool, ◌==◌, nat_lt, nat_le, min, max, if◌then◌else◌, List, slice_index_or, None}
use Rattle.link_base.specs.PeFormat.{REL_AMD64_ABSOLUTE, REL_AMD64_ADDR64, REL_AMD64_SECTION, REL_AMD64_SECREL}
use Rattle.relocate.specs.declared.fix.Fix.{Fix}

-- the bytes of a field by the type; a type that is not linked has none, as ABSOLUTE
unfoldable pub field_width : ℕ → ℕ
field_width kind =
    if kind == REL_AMD64_ABSOLUTE then 0
    else (if kind == REL_AMD64_ADDR64 then 8
    else (if kind == REL_AMD64_SECTION then 2
    else (if nat_le kind REL_AMD64_SECREL then 4
    else 0)))

abbrev pub has_field : Fix → Bool
has_field fix = nat_lt 0 (field_width fix.kind)

abbrev pub field_end : Fix → ℕ
field_end fix = fix.at + field_width fix.kind

-- two ranges have a byte in common: one from the later of their starts on, and before the earlier of their ends
abbrev pub ranges_meet : ℕ → ℕ → ℕ → ℕ → Bool
ranges_meet start end other_start other_end = nat_lt (max start other_start) (min end other_end)

abbrev pub shares_byte : Fix → Fix → Bool
shares_byte first second = ranges_meet first.at (field_end first) second.at (field_end second)

-- the relocation at a position
abbrev pub no_fix : Fix
no_fix = record { index = 0; at = 0; kind = REL_AMD64_ABSOLUTE; target = None }

abbrev pub fix_at : List Fix → ℕ → Fix
fix_at fixes k = slice_index_or fixes k no_fix
