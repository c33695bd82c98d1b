use Rattle.std.proofs.Common.{List, [], ◌∷◌, ◌++◌, length, map, drop, Bool, ◌+◌, ◌||◌, Option, refl, sym, ap, subst, ◌∙◌, arith}
use Rattle.std.specs.List.{list_any}
use Rattle.std.proofs.lemmas.Result.{err_from_is_err_and}
use Rattle.link_base.specs.declared.fault.Fault.{Fault}
use Rattle.link_base.specs.Refusals.{first_refusal_below}
use Rattle.link_base.proofs.RefusalLemmas.{first_refusal_below-more}
use Rattle.module_view.specs.Module.{ModuleView}
use Rattle.file_search.specs.FoundFiles.{FoundFile}
use Rattle.file_search.specs.Reading.{file_found, files_found}
use Rattle.res_merge.specs.Entries.{Entry, entry_of}
use Rattle.resource_files.specs.SaidFaults.{RefusesSaid}
use Rattle.resource_files.specs.Held.{entries_among, merges_resources}
use Rattle.par_read.specs.Joining.{brings_resources}
use Rattle.lib_search.specs.Inputs.{modules_among, libraries_among, opening_fault_at}
use Rattle.lib_search.proofs.InputLemmas.{modules_more, libraries_more, entries_more, merges_more, opens_here, opening_stops}
use Rattle.lib_search.proofs.OpenedFileLemmas.{holds_from}
use Rattle.lib_search.proofs.open.open_inputs.Goals as goal

pub loop-file-init : goal.loop-file-init
unfolding first_refusal_below
loop-file-init g c = record {
  modules = c.in_ok-with_capacity.ensures.items;
  libraries = c.new.ensures.items;
  resources = c.new-2.ensures.none;
  merges = c.new-2.ensures.unopened;
  kept = c.new-2.ensures.kept;
  brings = sym (ap (list_any brings_resources) c.in_ok-with_capacity.ensures.items);
  few = let none = ap (λ (ms : List ModuleView). length ms) c.in_ok-with_capacity.ensures.items in omega (arith, none);
  accepted = refl;
  answers = c.in_ok-answers.ensures;
}

pub returns-in_err-open_one-clause-refused : goal.returns-in_err-open_one-clause-refused
returns-in_err-open_one-clause-refused g c =
    let files = c.args.files.now in
    let i = c.loop-file.file-index in
    let here = opens_here files i c.file-item.result c.loop-file.opened.modules.items (map entry_of c.loop-file.opened.resource_files.resources.items) c.loop-file.opened.resource_files.opened (omega (arith, c.loop-file-test.true)) c.file-item.is c.loop-file.invariant.modules c.loop-file.invariant.resources c.loop-file.invariant.merges in
    let given = err_from_is_err_and c.from_residual-in_err-open_one.result c.from_residual-in_err-open_one.ensures.1 in
    rw (given.1, given.2)
    (opening_stops files i c.in_err-open_one.field-0.0 (omega (arith, c.loop-file-test.true)) c.loop-file.invariant.accepted
    (subst (λ (fault : Option Fault). RefusesSaid fault c.in_err-open_one.field-0.0) (sym here) c.in_err-open_one.ensures.refused))

pub open_one-requires-clause-answer : goal.open_one-requires-clause-answer
open_one-requires-clause-answer g c =
    let files = c.args.files.now in
    let i = c.loop-file.file-index in
    (c.next_answer-answer.ensures (drop (i + 1) files)
    (holds_from files i c.file-item.result c.loop-file.answers (omega (arith, c.loop-file-test.true)) c.file-item.is c.loop-file.invariant.answers)).0

pub loop-file-preserved : goal.loop-file-preserved
loop-file-preserved g c =
    let files = c.args.files.now in
    let i = c.loop-file.file-index in
    let file = c.file-item.result in
    let one = file_found file ∷ [] in
    record {
      modules =
          c.in_ok-open_one.ensures.modules
          ∙ ap (λ (ms : List ModuleView). ms ++ modules_among one) c.loop-file.invariant.modules
          ∙ sym (modules_more files i file (omega (arith, c.loop-file-test.true)) c.file-item.is);
      libraries =
          c.in_ok-open_one.ensures.libraries
          ∙ ap (λ (ls : List FoundFile). ls ++ libraries_among one) c.loop-file.invariant.libraries
          ∙ sym (libraries_more files i file (omega (arith, c.loop-file-test.true)) c.file-item.is);
      resources =
          c.in_ok-open_one.ensures.resources
          ∙ ap (λ (es : List Entry). es ++ entries_among one) c.loop-file.invariant.resources
          ∙ sym (entries_more files i file (omega (arith, c.loop-file-test.true)) c.file-item.is);
      merges =
          c.in_ok-open_one.ensures.merges
          ∙ ap (λ (b : Bool). b || merges_resources one) c.loop-file.invariant.merges
          ∙ sym (merges_more files i file (omega (arith, c.loop-file-test.true)) c.file-item.is);
      kept = c.in_ok-open_one.ensures.kept;
      brings = c.in_ok-open_one.ensures.brings;
      few = c.in_ok-open_one.ensures.few c.loop-file.invariant.few;
      accepted =
          first_refusal_below-more i (opening_fault_at (files_found files)) c.loop-file.invariant.accepted
          (opens_here files i file c.loop-file.opened.modules.items (map entry_of c.loop-file.opened.resource_files.resources.items) c.loop-file.opened.resource_files.opened (omega (arith, c.loop-file-test.true)) c.file-item.is c.loop-file.invariant.modules c.loop-file.invariant.resources c.loop-file.invariant.merges
          ∙ c.in_ok-open_one.ensures.accepted);
      answers =
          (c.next_answer-answer.ensures (drop (i + 1) files)
          (holds_from files i file c.loop-file.answers (omega (arith, c.loop-file-test.true)) c.file-item.is c.loop-file.invariant.answers)).1;
    }
