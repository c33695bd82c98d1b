use Rattle.std.proofs.Common.{◌≡◌, ◌≤◌, ◌<◌, ℕ, ◌-◌, Bool, false, List, [], ◌∷◌, ◌++◌, length, get_or, map, sym, ap, ◌∙◌, arith}
use Rattle.std.specs.List.{range_with_len}
use Rattle.std.proofs.lemmas.List.FromFn.{map-range_with_len_more, length-map-range_with_len, get_or-map-range_with_len}
use Rattle.comdat.specs.Chains.{chain_end, at_chain_end}
use Rattle.comdat.proofs.ChainLemmas.{DoEnd, behind_first, end_some, end_within}
use Rattle.comdat.proofs.chains.follow_chains.Goals as goal

pub index-requires : goal.index-requires
index-requires c =
    let ends = ap length c.in_ok-ends.ensures in
    omega (arith, c.loop-section-test.true, ends, length-map-range_with_len (chain_end c.args.parents.now) 0 (length c.args.parents.now), c.in_ok-ends.ends.ok.0)

-- the end of a section's chain, as it is read
end_read : (parents ends : List ℕ) (section n : ℕ) → ends ≡ map (chain_end parents) (range_with_len 0 (length parents)) → section < length parents → n ≡ get_or ends section n → n ≡ chain_end parents section
end_read parents ends section n is lt read =
    read ∙ ap (λ (xs : List ℕ). get_or xs section n) is ∙ get_or-map-range_with_len (chain_end parents) 0 (length parents) section section n lt (omega arith)

pub overflow_sub-end : goal.overflow_sub-end
overflow_sub-end c =
    let parents = c.args.parents.now in
    let are : DoEnd parents = record { are = c.requires.parents; ends = c.requires.ends } in
    let is = end_read parents c.in_ok-ends.ends.items c.loop-section.section c.index.result.now c.in_ok-ends.ensures c.loop-section-test.true c.index.ensures in
    let some = end_some parents c.loop-section.section are (omega (arith, c.loop-section.auto.section)) c.loop-section-test.true in
    omega (arith, is, some)

pub bounds-own-end : goal.bounds-own-end
bounds-own-end c =
    let parents = c.args.parents.now in
    let is = end_read parents c.in_ok-ends.ends.items c.loop-section.section c.index.result.now c.in_ok-ends.ensures c.loop-section-test.true c.index.ensures in
    let within = end_within parents c.loop-section.section c.requires.parents c.loop-section-test.true in
    omega (arith, is, within, c.requires.own)

pub loop-section-preserved : goal.loop-section-preserved
loop-section-preserved c =
    let parents = c.args.parents.now in
    let own = false ∷ c.args.own.now in
    let section = c.loop-section.section in
    let before = c.loop-section.invariant in
    let low : 1 ≤ section = c.loop-section.auto.section in
    let are : DoEnd parents = record { are = c.requires.parents; ends = c.requires.ends } in
    let is = end_read parents c.in_ok-ends.ends.items section c.index.result.now c.in_ok-ends.ensures c.loop-section-test.true c.index.ensures in
    let some = end_some parents section are (omega (arith, low)) c.loop-section-test.true in
    let flag = behind_first c.args.own.now c.index.result.now (omega (arith, is, some)) ∙ ap (λ (n : ℕ). get_or own n false) is in
    record {
      within = omega (arith, c.loop-section-test.true, low);
      flags =
          c.in_ok-push.ensures.items
          ∙ ap (λ (flags : List Bool). flags ++ get_or c.args.own.now (c.index.result.now - 1) false ∷ []) before.flags
          ∙ ap (λ (b : Bool). map (at_chain_end parents own) (range_with_len 1 (section - 1)) ++ b ∷ []) flag
          ∙ sym (ap (λ (n : ℕ). map (at_chain_end parents own) (range_with_len 1 n)) (omega (arith, low)) ∙ map-range_with_len_more (at_chain_end parents own) 1 (section - 1) section (omega (arith, low)));
    }
