use Rattle.std.proofs.Common.{◌≡◌, ◌*◌, ◌^◌, ◌≤◌, take}
use Rattle.std.specs.List.{sum_by}
use Rattle.pdb_dbi.specs.ModuleInfo.{module_size}
use Rattle.pdb_file.proofs.sizes.modules_len.Given as goal

abbrev pub invariant-loop-names : goal.invariant-loop-names
invariant-loop-names l = record {
  sum : l.len ≡ sum_by module_size (take l.names-index l.modules);
  most : l.len ≤ 2 ^ 66 * l.names-index;
}
