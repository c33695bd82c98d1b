use Rattle.std.proofs.Common.{◌≡◌, ◌<◌, ◌⊎◌, ℕ, List, length, get_or, set, sym, ap, subst, ◌∙◌, inl, inr, arith}
use Rattle.std.proofs.lemmas.Bool.{cases_eq}
use Rattle.std.proofs.lemmas.List.{get_or-set_other, get_or-set_same}
use Rattle.comdat.proofs.ChainLemmas.{DoEnd, end_above, known_more}
use Rattle.comdat.proofs.chains.note_end.Goals as goal

-- the section whose end is noted is the first, and then it stays
noted_more : (known : List ℕ) (at section end : ℕ) → at < length known → (at ≡ section) ⊎ (get_or known section 0 ≡ end) → get_or (set known at end) section 0 ≡ end
noted_more known at section end within (inl here) = ap (λ (k : ℕ). get_or (set known at end) k 0) (sym here) ∙ get_or-set_same known at end 0 within
noted_more known at section end within (inr noted) =
    elim (cases_eq section at) [
      | inl here ↦ ap (λ (k : ℕ). get_or (set known at end) k 0) here ∙ get_or-set_same known at end 0 within
      | inr apart ↦ get_or-set_other known at section end 0 apart ∙ noted
    ]

-- what is known stays, where nothing is known that is noted
kept_more : (known : List ℕ) (at other end : ℕ) → get_or known at 0 ≡ 0 → 0 < get_or known other 0 → get_or (set known at end) other 0 ≡ get_or known other 0
kept_more known at other end none some =
    elim (cases_eq other at) [
      | inl here ↦ absurd (omega (arith, some, ap (λ (k : ℕ). get_or known k 0) here, none))
      | inr apart ↦ get_or-set_other known at other end 0 apart
    ]

pub loop-preserved : goal.loop-preserved
loop-preserved c =
    let parents = c.args.parents.now in
    let at = c.loop.at in
    let before = c.loop.invariant in
    let are : DoEnd parents = record { are = c.requires.parents; ends = c.requires.ends } in
    let some : 0 < at = omega (arith, c.if-at-eq0.false) in
    record {
      within = c.requires.parents.within at before.within;
      same = λ above. sym (end_above parents at are some before.within above) ∙ before.same some;
      known = known_more parents c.loop.known at c.args.section c.args.end before.known before.within (before.same some) c.requires.end;
      noted = inr (noted_more c.loop.known at c.args.section c.args.end (omega (arith, before.within, before.known.same_length)) (first before.noted));
      kept = λ other was.
          kept_more c.loop.known at other c.args.end (omega arith) (subst (λ (n : ℕ). 0 < n) (sym (before.kept other was)) was)
          ∙ before.kept other was;
    }
  where
    first : ((c.loop.counter ≡ 0) × (c.loop.at ≡ c.args.section)) ⊎ (get_or c.loop.known c.args.section 0 ≡ c.args.end) → (c.loop.at ≡ c.args.section) ⊎ (get_or c.loop.known c.args.section 0 ≡ c.args.end)
    first (inl both) = inl both.1
    first (inr noted) = inr noted
