use Rattle.std.proofs.Common.{◌≡◌, ◌<◌, map, ℕ, List, sym, ap, subst, ◌∙◌, arith}
use Rattle.std.specs.Result.{IfOk}
use Rattle.res_merge.specs.Entries.{Entry, entry_of}
use Rattle.res_merge.specs.Order.{in_order}
use Rattle.res_merge.specs.Tree.{tree_of, tree_size}
use Rattle.link_resources.specs.LinkResources.{ResourcesView}
use Rattle.link_resources.proofs.TreeLemmas.{sized_tree, bytes_are}
use Rattle.link_resources.proofs.resources.LinkResources.tree.Goals as goal

pub tree-requires-clause-fits : goal.tree-requires-clause-fits
tree-requires-clause-fits c =
    let entries : map entry_of c.deref.result.now ≡ c.args.self.now.entries =
    ap (map entry_of) c.deref.ensures.value ∙ ap (λ (resources : ResourcesView). resources.entries) c.self.view_is in
    let size : c.self.inside.size ≡ c.args.self.now.size = ap (λ (resources : ResourcesView). resources.size) c.self.view_is in
    let some : 0 < c.args.self.now.size = omega (arith, size, c.if-self-eq0.false) in
    let whole : tree_size (in_order (map entry_of c.deref.result.now)) ≡ c.args.self.now.size =
    ap (λ (es : List Entry). tree_size (in_order es)) entries
    ∙ sym (c.requires.sized ∙ sized_tree c.args.self.now.entries (omega (arith, some, c.requires.sized))) in
    omega (arith, c.requires.fits, whole)

pub returns : goal.returns
returns c =
    let entries : map entry_of c.deref.result.now ≡ c.args.self.now.entries =
    ap (map entry_of) c.deref.ensures.value ∙ ap (λ (resources : ResourcesView). resources.entries) c.self.view_is in
    let size : c.self.inside.size ≡ c.args.self.now.size = ap (λ (resources : ResourcesView). resources.size) c.self.view_is in
    let time : c.self.inside.time ≡ c.args.self.now.time = ap (λ (resources : ResourcesView). resources.time) c.self.view_is in
    let some : 0 < c.args.self.now.size = omega (arith, size, c.if-self-eq0.false) in
    subst (λ (all : List ℕ). IfOk c.tree.result (λ bytes. bytes.items ≡ all))
    (ap (λ (es : List Entry). tree_of c.self.inside.time c.args.rva (in_order es)) entries
    ∙ ap (λ (t : ℕ). tree_of t c.args.rva (in_order c.args.self.now.entries)) time
    ∙ sym (bytes_are c.args.self.now c.args.rva some))
    c.tree.ensures
