use Rattle.std.proofs.Common.{◌≡◌, true, eqb, length, take}
use Rattle.std.specs.List.{list_all}
use Rattle.coff_aux.specs.AuxRecords.{COMDAT_SELECT_ANY}
use Rattle.comdat.proofs.FirstLemmas.{FirstsSoFar}
use Rattle.comdat.proofs.firsts.firsts_of_any.Given as goal

abbrev pub invariant-loop-index : goal.invariant-loop-index
invariant-loop-index l = record {
  any : list_all (λ entry. eqb entry.selection COMDAT_SELECT_ANY) (take l.index l.entries) ≡ true;
  firsts : FirstsSoFar l.entries (length l.names.keys) l.index l.seen.items l.flags.items;
}
