use Rattle.std.proofs.Common.{◌≡◌, ◌≤◌, length, map, take, drop, None}
use Rattle.std.specs.List.{list_any}
use Rattle.link_base.specs.Limits.{MODULE_LIMIT}
use Rattle.link_base.specs.Refusals.{first_refusal_below}
use Rattle.file_search.specs.Reading.{files_found}
use Rattle.res_merge.specs.Entries.{entry_of}
use Rattle.resource_files.specs.Held.{entries_among, merges_resources}
use Rattle.resource_files.specs.Parts.{KeepsResources}
use Rattle.par_read.specs.Joining.{brings_resources}
use Rattle.lib_search.specs.Inputs.{modules_among, libraries_among, opening_fault_at}
use Rattle.lib_search.specs.OpenedFiles.{HoldsAnswers}
use Rattle.lib_search.proofs.open.open_inputs.Given as goal

abbrev pub invariant-loop-file : goal.invariant-loop-file
invariant-loop-file g l = record {
  modules : l.opened.modules.items ≡ modules_among (files_found (take l.file-index l.files));
  libraries : l.opened.libraries.items ≡ libraries_among (files_found (take l.file-index l.files));
  resources : map entry_of l.opened.resource_files.resources.items ≡ entries_among (files_found (take l.file-index l.files));
  merges : l.opened.resource_files.opened ≡ merges_resources (files_found (take l.file-index l.files));
  kept : KeepsResources l.opened.resource_files;
  brings : l.opened.brings ≡ list_any brings_resources l.opened.modules.items;
  few : length l.opened.modules.items ≤ MODULE_LIMIT;
  accepted : first_refusal_below l.file-index (opening_fault_at (files_found l.files)) ≡ None;
  answers : HoldsAnswers (drop l.file-index l.files) l.answers;
}
