use Rattle.std.proofs.Common.{◌≤◌, ◌<◌, ◌^◌, length, subst, List, map, sym, ap, ◌∙◌}
use Rattle.res_merge.specs.declared.runs.Run as code
use Rattle.res_merge.specs.declared.resource.Resource.{Resource}
use Rattle.res_merge.specs.Entries.{Entry, entry_of}
use Rattle.res_merge.specs.Runs.{Run, runs, heads, same_name, same_kind}
use Rattle.res_merge.specs.Levels.{run_of}
use Rattle.res_merge.proofs.SizeLemmas.{tree_small, order_few, AreShort, order_short}
use Rattle.res_merge.specs.Tree.{tree_size}
use Rattle.res_merge.proofs.parts.parts_of.Goals as goal

pub returns-clause-parts : goal.returns-clause-parts
returns-clause-parts c =
    let entries = map entry_of c.in_ok-resources.resources.items in
    let ordered = c.in_ok-resources.ensures in
    let names = c.in_ok-names.ensures ∙ ap (λ (list : List Resource). runs same_name (map entry_of list)) c.deref.ensures.value in
    record {
      names_are = names;
      types_are =
          c.in_ok-types.ensures
          ∙ ap (λ (list : List Resource). runs same_kind (map entry_of list)) c.deref-3.ensures.value
          ∙ ap (runs same_kind) c.in_ok-heads.ensures
          ∙ ap (λ (list : List code.Run). runs same_kind (heads (map run_of list))) c.deref-2.ensures.value
          ∙ ap (λ (list : List Run). runs same_kind (heads list)) names;
      few = subst (λ (list : List Entry). length list ≤ 65535) (sym ordered) (order_few (map entry_of c.args.list.now) c.requires);
      short = subst (λ (list : List Entry). AreShort list) (sym ordered) (order_short (map entry_of c.args.list.now) c.requires);
      small = subst (λ (list : List Entry). tree_size list < 2 ^ 31) (sym ordered) (tree_small (map entry_of c.args.list.now) c.requires);
    }
