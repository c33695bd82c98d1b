use Rattle.std.proofs.Common.{◌∷◌, map, Result, ap, ◌∙◌}
use Rattle.std.proofs.lemmas.Result.{err_from_is_err_and}
use Rattle.res_merge.specs.declared.resource.Resource.{Resource}
use Rattle.res_merge.specs.declared.resource.ResError.{ResError}
use Rattle.res_merge.specs.Entries.{entry_of, item_said}
use Rattle.res_merge.specs.Left.{items_left}
use Rattle.file_search.specs.Reading.{file_found}
use Rattle.resource_files.specs.Held.{entries_in}
use Rattle.resource_files.proofs.ResourceLemmas.{adds_one, adds_all, refuses_again}
use Rattle.resource_files.proofs.files.ResourceFiles.add_all.Goals as goal

pub loop-item-preserved : goal.loop-item-preserved
loop-item-preserved c =
    let before = map entry_of c.args.self.now.resources.items in
    let now = map entry_of c.loop-item.self.resources.items in
    let later = map entry_of c.add.new.self.resources.items in
    let added = c.in_ok-add-in-Ok.ensures in
    let step = c.in-Some.ensures.steps ∙ ap (λ (i : Result Resource ResError). item_said i ∷ items_left c.next.new.self) c.in-Ok.is in
    record {
      can = tt;
      ends = tt;
      kept = added.kept;
      opened = added.opened ∙ c.loop-item.invariant.opened;
      adds =
          adds_one before (entries_in (file_found c.args.file.now)) now later (items_left c.loop-item.item-iterator) (items_left c.next.new.self) (entry_of c.in-Ok.resource)
          step added.added added.accepted c.loop-item.invariant.adds;
    }

pub returns-in_err-add-in-Ok-clause-refused : goal.returns-in_err-add-in-Ok-clause-refused
returns-in_err-add-in-Ok-clause-refused c =
    let before = map entry_of c.args.self.now.resources.items in
    let now = map entry_of c.loop-item.self.resources.items in
    let step = c.in-Some.ensures.steps ∙ ap (λ (i : Result Resource ResError). item_said i ∷ items_left c.next.new.self) c.in-Ok.is in
    let given = err_from_is_err_and c.from_residual.result c.from_residual.ensures.1 in
    rw (given.1, given.2)
    (refuses_again before (entries_in (file_found c.args.file.now)) now (items_left c.loop-item.item-iterator) (items_left c.next.new.self) (entry_of c.in-Ok.resource)
    c.args.file.now.file c.in_err-add-in-Ok.field-0.0 step c.loop-item.invariant.adds c.in_err-add-in-Ok.ensures.refused)

pub returns-clause-accepted : goal.returns-clause-accepted
returns-clause-accepted c =
    let before = map entry_of c.args.self.now.resources.items in
    let now = map entry_of c.loop-item.self.resources.items in
    (adds_all before (entries_in (file_found c.args.file.now)) now (items_left c.loop-item.item-iterator) c.in-None.ensures.steps.0 c.loop-item.invariant.adds).1
