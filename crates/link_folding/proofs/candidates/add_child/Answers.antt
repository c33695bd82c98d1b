use Rattle.std.proofs.Common.{ℕ, Option, List, refl, sym, ap, ◌∙◌, arith}
use Rattle.link_folding.specs.Steps.{candidate_at}
use Rattle.link_folding.proofs.ChildLemmas.{no_child, no_root, root_within, one_child}
use Rattle.link_folding.proofs.candidates.add_child.Goals as goal

pub returns-in_default : goal.returns-in_default
returns-in_default c =
    no_child c.args.names.now c.args.kept.now c.args.position c.args.section c.args.end c.requires.first c.args.index.now c.requires.indexed c.requires.end c.args.found.now
    (sym c.kept_child.ensures ∙ c.in_default.is) c.requires.gathered

pub returns-in_default-candidate_at : goal.returns-in_default-candidate_at
returns-in_default-candidate_at c =
    no_root c.args.names.now c.args.kept.now c.args.position c.args.section c.args.end c.requires.first c.args.index.now c.requires.indexed c.requires.end c.args.found.now
    (ap (λ (numbers : List (Option ℕ)). candidate_at c.args.index.now.sections numbers c.args.position c.args.end) (sym c.deref.ensures.value) ∙ sym c.candidate_at.ensures ∙ c.in_default-candidate_at.is) c.requires.gathered

pub index_mut-requires : goal.index_mut-requires
index_mut-requires c =
    let told = ap (λ (numbers : List (Option ℕ)). candidate_at c.args.index.now.sections numbers c.args.position c.args.end) (sym c.deref.ensures.value) ∙ sym c.candidate_at.ensures ∙ c.in-Some-candidate_at.is in
    let lt = root_within c.args.names.now c.args.kept.now c.args.position c.args.section c.args.end c.requires.first c.args.index.now c.requires.indexed c.requires.end c.args.found.now c.in-Some-candidate_at.number c.requires.gathered told in
    omega (arith, lt, c.args.found.now.list.ok.0)

pub returns : goal.returns
returns c =
    let told = ap (λ (numbers : List (Option ℕ)). candidate_at c.args.index.now.sections numbers c.args.position c.args.end) (sym c.deref.ensures.value) ∙ sym c.candidate_at.ensures ∙ c.in-Some-candidate_at.is in
    one_child c.args.names.now c.args.kept.now c.args.position c.args.section c.args.end c.requires.first c.args.index.now c.requires.indexed c.requires.end c.args.found.now c.in-Some-candidate_at.number c.in-Some.child c.index_mut.result.now _ _
    told (sym c.kept_child.ensures ∙ c.in-Some.is) c.index_mut.ensures.value refl c.in_ok-push.ensures.items refl refl c.requires.gathered
