-- One more alignment that is asked for a name, and the greatest of those so far.
use Rattle.std.proofs.Common.{◌≡◌, ℕ, ◌≤◌, Bool, true, false, cond, List, Option, Some, None, inl, inr, refl, ap, ◌∙◌, arith, max}
use Rattle.std.proofs.Math.Pow.{pow_mono}
use Rattle.std.proofs.lemmas.Bool.{cases_lt}
use Rattle.link_base.specs.NameText.{same_name}
use Rattle.link_base.proofs.NameTextLemmas.{same_is}
use Rattle.link_directives.specs.LinkDirectives.{asked_alignment}
use Rattle.link_directives.specs.Alignments.{raised_by}

asked_more : (log other : ℕ) → log ≤ other → asked_alignment log ≤ asked_alignment other
asked_more log other le = pow_mono (omega arith)

-- the greater exponent asks for the greater alignment
raised_max : (before log alignment : ℕ) → max alignment (asked_alignment (max log before)) ≡ max (max alignment (asked_alignment before)) (asked_alignment log)
raised_max before log alignment =
    elim (cases_lt before log) [
      | inl lt ↦
          let top : max log before ≡ log = omega arith in
          let more = asked_more before log (omega arith) in
          ap (λ (n : ℕ). max alignment (asked_alignment n)) top ∙ last alignment (asked_alignment before) (asked_alignment log) more
      | inr le ↦
          let top : max log before ≡ before = omega arith in
          let more = asked_more log before le in
          ap (λ (n : ℕ). max alignment (asked_alignment n)) top ∙ most alignment (asked_alignment before) (asked_alignment log) more
    ]
  where
    most : (a b c : ℕ) → c ≤ b → max a b ≡ max (max a b) c
    most a b c le = omega arith

    last : (a b c : ℕ) → b ≤ c → max a c ≡ max (max a b) c
    last a b c le = omega arith

-- the exponent that is noted of a name, where one is noted before
abbrev pub power_with : Option ℕ → ℕ → ℕ
power_with None log = log
power_with (Some before) log = max log before

raised_with : (noted : Option ℕ) (log alignment : ℕ) → raised_by (Some (power_with noted log)) alignment ≡ max (raised_by noted alignment) (asked_alignment log)
raised_with None log alignment = refl
raised_with (Some before) log alignment = raised_max before log alignment

-- one more is noted
pub raised_next : (key other : List ℕ) (log power alignment : ℕ) (old new : List ℕ → Option ℕ) → power ≡ power_with (old key) log → new other ≡ cond (same_name key other) (Some power) (old other) → raised_by (new other) alignment ≡ cond (same_name key other) (max (raised_by (old other) alignment) (asked_alignment log)) (raised_by (old other) alignment)
raised_next key other log power alignment old new is now = ap (λ (o : Option ℕ). raised_by o alignment) now ∙ go (same_name key other) refl
  where
    go : (b : Bool) → same_name key other ≡ b → raised_by (cond b (Some power) (old other)) alignment ≡ cond b (max (raised_by (old other) alignment) (asked_alignment log)) (raised_by (old other) alignment)
    go true same =
        ap (λ (n : ℕ). raised_by (Some n) alignment) (is ∙ ap (λ (name : List ℕ). power_with (old name) log) (same_is key other same))
        ∙ raised_with (old other) log alignment
    go false differs = refl

-- of two that are noted one after another the last counts
pub noted_last : (here : Bool) (last first : ℕ) (between old : Option ℕ) → between ≡ cond here (Some first) old → cond here (Some last) between ≡ cond here (Some last) old
noted_last true last first between old is = refl
noted_last false last first between old is = is
