-- The relocations of a section, one after the other.
use Rattle.std.proofs.Common.{◌≡◌, ℕ, ◌+◌, List, [], ◌∷◌, ◌++◌, length, Option, Result, refl, sym, ap, ◌∙◌, append_assoc}
use Rattle.std.specs.List.{range_with_len}
use Rattle.std.proofs.lemmas.List.{length-map}
use Rattle.std.proofs.lemmas.List.FromFn.{length-range_with_len}
use Rattle.link_base.specs.declared.kinds.target.TargetFault.{TargetFault}
use Rattle.coff_records.specs.declared.relocation.Relocation.{Relocation}
use Rattle.coff_records.specs.ObjectFile.{relocation_total, relocations_of}
use Rattle.coff_records.specs.Relocations.{relocations_from}
use Rattle.relocate.specs.declared.fix.Fix.{Fix}
use Rattle.relocate.specs.declared.fix.Target.{Target}
use Rattle.link_pieces.specs.LinkParts.{LinkParts}
use Rattle.link_fields.specs.Targets.{record_target}
use Rattle.link_fields.specs.Fixes.{fix_of, fixes_from, section_fixes}

abbrev with_target : ℕ → Relocation → Option (Result Target TargetFault) → Fix
with_target index relocation target = record { index = index; at = relocation.at; kind = relocation.kind; target = target }

pub relocations_count : (bytes : List ℕ) (section : ℕ) → length (relocations_of bytes section) ≡ relocation_total bytes section
unfolding relocations_from
relocations_count bytes section = length-map (range_with_len 0 (relocation_total bytes section)) _ ∙ length-range_with_len 0 (relocation_total bytes section)

-- one more relocation
pub fixes_more : (link : LinkParts) (position : ℕ) (bytes : List ℕ) (index : ℕ) (before after : List Relocation) (relocation : Relocation) (was now whole : List Fix) → before ≡ relocation ∷ after → was ++ fixes_from link position bytes index before ≡ whole → now ≡ was ++ fix_of link position bytes index relocation ∷ [] → now ++ fixes_from link position bytes (index + 1) after ≡ whole
unfolding fixes_from
fixes_more link position bytes index before after relocation was now whole is sum grown =
    ap (λ (fs : List Fix). fs ++ fixes_from link position bytes (index + 1) after) grown
    ∙ append_assoc was (fix_of link position bytes index relocation ∷ []) (fixes_from link position bytes (index + 1) after)
    ∙ ap (λ (rs : List Relocation). was ++ fixes_from link position bytes index rs) (sym is)
    ∙ sum

pub no_more : (link : LinkParts) (position : ℕ) (bytes : List ℕ) (index : ℕ) (rest : List Relocation) (now whole : List Fix) → rest ≡ [] → now ++ fixes_from link position bytes index rest ≡ whole → now ++ [] ≡ whole
unfolding fixes_from
no_more link position bytes index rest now whole none sum =
    ap (λ (rs : List Relocation). now ++ fixes_from link position bytes index rs) (sym none) ∙ sum

-- a relocation as it was read
pub fix_read : (link : LinkParts) (position : ℕ) (bytes : List ℕ) (index : ℕ) (relocation : Relocation) (target : Option (Result Target TargetFault)) → target ≡ record_target link position bytes relocation.symbol → record { index = index; at = relocation.at; kind = relocation.kind; target = target } ≡ fix_of link position bytes index relocation
fix_read link position bytes index relocation target read = ap (with_target index relocation) read

pub no_relocations : (link : LinkParts) (position : ℕ) (bytes : List ℕ) (section : ℕ) → relocation_total bytes section ≡ 0 → section_fixes link position bytes section ≡ []
unfolding fixes_from relocations_from
no_relocations link position bytes section none = rw none refl
