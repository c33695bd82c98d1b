use Rattle.std.proofs.Common.{[], ◌∷◌, arith, sym, subst, ◌≡◌, ◌++◌, ◌+◌, ◌-◌, ◌/◌}
use Rattle.std.proofs.lemmas.Result.{IfOk-at_ok}
use Rattle.std.specs.List.{flat_map}
use Rattle.par_read.specs.Opened.{AreOpenedAs}
use Rattle.par_read.specs.Parts.{jobs_between}
use Rattle.par_read.proofs.OpenedLemmas.{part_opened, lists_opened}
use Rattle.par_read.proofs.opening.+parts.Goals as goal

pub returns-then-end-first-eq1 : goal.returns-then-end-first-eq1
returns-then-end-first-eq1 g t c =
    let next : c.args.first + 1 ≡ c.args.end = omega (arith, c.if-end-first-eq1.true, c.requires.order) in
    let only : c.in_ok-vec.field-0.items ≡ c.in_ok-list.list ∷ [] = c.in_ok-vec.ensures.items in
    part_opened c.args.parts c.args.first c.args.end c.args.jobs.now c.in_ok-list.list c.in_ok-vec.field-0.items next only c.in_ok-list.ensures

pub returns : goal.returns
returns g t c =
    let low = c.in_ok-lists.lists.items in
    let high = c.in_ok-high.field-0.items in
    let all : c.append.new.self.items ≡ low ++ high = c.in_ok-append.ensures.items in
    let parts = c.args.parts in
    let first = c.args.first in
    let end = c.args.end in
    let jobs = c.args.jobs.now in
    let middle = first + (end - first) / 2 in
    let front : AreOpenedAs (jobs_between parts first middle jobs) (flat_map (λ list. list.items) low) = IfOk-at_ok (λ lists. AreOpenedAs (jobs_between parts first middle jobs) (flat_map (λ list. list.items) lists.items)) {r = c.join-low.result.0} c.in_ok-lists.was c.join-low.ensures.first in
    let back : AreOpenedAs (jobs_between parts middle end jobs) (flat_map (λ list. list.items) high) = IfOk-at_ok (λ lists. AreOpenedAs (jobs_between parts middle end jobs) (flat_map (λ list. list.items) lists.items)) {r = c.join-low.result.1} c.in_ok-high.was c.join-low.ensures.second in
    subst (λ lists. AreOpenedAs (jobs_between parts first end jobs) (flat_map (λ list. list.items) lists)) (sym all) (lists_opened parts first middle end jobs low high (omega arith) (omega arith) (omega arith) front back)
