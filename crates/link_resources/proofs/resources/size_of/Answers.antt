use Rattle.std.proofs.Common.{◌≡◌, ℕ, length, subst, sym, ◌∙◌}
use Rattle.std.specs.Result.{IfOk}
use Rattle.std.proofs.lemmas.Bool.{eqb-true}
use Rattle.link_base.proofs.NumberLemmas.{above_zero}
use Rattle.res_merge.specs.Entries.{entry_of}
use Rattle.link_resources.proofs.TreeLemmas.{no_tree, has_tree}
use Rattle.link_resources.proofs.resources.size_of.Goals as goal

pub returns-then-is_empty : goal.returns-then-is_empty
returns-then-is_empty c =
    no_tree entry_of c.args.list.now (eqb-true (length c.args.list.now) 0 (sym c.is_empty.ensures ∙ c.if-is_empty.true))

pub returns : goal.returns
returns c =
    subst (λ (n : ℕ). IfOk c.tree_length.result (λ size. size ≡ n))
    (has_tree entry_of c.args.list.now (above_zero (length c.args.list.now) (sym c.is_empty.ensures ∙ c.if-is_empty.false)))
    c.tree_length.ensures
