use Rattle.std.proofs.Common.{◌≡◌, length, Some, None, sym, ap, ◌∙◌, arith}
use Rattle.symbol_names.specs.References.{all_asked}
use Rattle.symbol_table.specs.OpenNames.{open_from}
use Rattle.lib_search.specs.SearchSteps.{Searched}
use Rattle.lib_search.proofs.FromLemmas.{first_open, passed_to, passed_behind, passed_all, member_found, member_none}
use Rattle.lib_search.proofs.searched.Searched.member_from.Goals as goal

pub returns-in-Some-listed_member-clause-place : goal.returns-in-Some-listed_member-clause-place
returns-in-Some-listed_member-clause-place c =
    let s = c.args.self.now in
    let passed = c.loop-number.passed in
    let opens : open_from s.link passed ≡ Some (c.in-Some.number, c.in-Some.name) =
    ap (λ (v : Searched). open_from v.link passed) (sym c.self.view_is) ∙ sym c.open_from.ensures ∙ c.in-Some.is in
    let first = first_open s.link passed c.in-Some.number c.in-Some.name c.loop-number.invariant.within opens in
    sym (member_found s passed c.in-Some.number c.in-Some.name c.in-Some-listed_member.place c.loop-number.invariant first (sym c.listed_member.ensures ∙ c.in-Some-listed_member.is))

pub returns-in-Some-listed_member-clause-passed : goal.returns-in-Some-listed_member-clause-passed
returns-in-Some-listed_member-clause-passed c =
    let s = c.args.self.now in
    let passed = c.loop-number.passed in
    let opens : open_from s.link passed ≡ Some (c.in-Some.number, c.in-Some.name) =
    ap (λ (v : Searched). open_from v.link passed) (sym c.self.view_is) ∙ sym c.open_from.ensures ∙ c.in-Some.is in
    passed_to s passed c.in-Some.number c.in-Some.name c.loop-number.invariant (first_open s.link passed c.in-Some.number c.in-Some.name c.loop-number.invariant.within opens)

pub overflow_add-passed : goal.overflow_add-passed
overflow_add-passed c =
    let s = c.args.self.now in
    let passed = c.loop-number.passed in
    let opens : open_from s.link passed ≡ Some (c.in-Some.number, c.in-Some.name) =
    ap (λ (v : Searched). open_from v.link passed) (sym c.self.view_is) ∙ sym c.open_from.ensures ∙ c.in-Some.is in
    let first = first_open s.link passed c.in-Some.number c.in-Some.name c.loop-number.invariant.within opens in
    let count : c.asked_count-count.result ≡ length (all_asked s.link) = c.asked_count-count.ensures ∙ ap (λ (v : Searched). length (all_asked v.link)) c.self.view_is in
    omega (arith, first.high, count, c.asked_count-count.type_inv)

pub loop-number-smaller : goal.loop-number-smaller
loop-number-smaller c =
    let s = c.args.self.now in
    let passed = c.loop-number.passed in
    let opens : open_from s.link passed ≡ Some (c.in-Some.number, c.in-Some.name) =
    ap (λ (v : Searched). open_from v.link passed) (sym c.self.view_is) ∙ sym c.open_from.ensures ∙ c.in-Some.is in
    let first = first_open s.link passed c.in-Some.number c.in-Some.name c.loop-number.invariant.within opens in
    omega (arith, first.high, first.low)

pub loop-number-preserved : goal.loop-number-preserved
loop-number-preserved c =
    let s = c.args.self.now in
    let passed = c.loop-number.passed in
    let opens : open_from s.link passed ≡ Some (c.in-Some.number, c.in-Some.name) =
    ap (λ (v : Searched). open_from v.link passed) (sym c.self.view_is) ∙ sym c.open_from.ensures ∙ c.in-Some.is in
    passed_behind s passed c.in-Some.number c.in-Some.name c.loop-number.invariant (first_open s.link passed c.in-Some.number c.in-Some.name c.loop-number.invariant.within opens) (sym c.listed_member.ensures ∙ c.in_default-listed_member.is)

pub returns-clause-place : goal.returns-clause-place
returns-clause-place c =
    let s = c.args.self.now in
    let passed = c.loop-number.passed in
    let opens : open_from s.link passed ≡ None =
    ap (λ (v : Searched). open_from v.link passed) (sym c.self.view_is) ∙ sym c.open_from.ensures ∙ c.in_default.is in
    let count : c.asked_count-count.result ≡ length (all_asked s.link) = c.asked_count-count.ensures ∙ ap (λ (v : Searched). length (all_asked v.link)) c.self.view_is in
    sym (member_none s c.asked_count-count.result (passed_all s passed c.asked_count-count.result c.loop-number.invariant opens count) count)

pub returns-clause-passed : goal.returns-clause-passed
returns-clause-passed c =
    let s = c.args.self.now in
    let passed = c.loop-number.passed in
    let opens : open_from s.link passed ≡ None =
    ap (λ (v : Searched). open_from v.link passed) (sym c.self.view_is) ∙ sym c.open_from.ensures ∙ c.in_default.is in
    let count : c.asked_count-count.result ≡ length (all_asked s.link) = c.asked_count-count.ensures ∙ ap (λ (v : Searched). length (all_asked v.link)) c.self.view_is in
    passed_all s passed c.asked_count-count.result c.loop-number.invariant opens count
