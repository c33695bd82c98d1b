use Rattle.std.proofs.Common.{◌≡◌, true, eqb, take}
use Rattle.std.specs.List.{list_all}
use Rattle.coff_aux.specs.AuxRecords.{COMDAT_SELECT_ANY}
use Rattle.comdat.specs.Entries.{selection_at}
use Rattle.comdat.proofs.groups.are_all_any.Given as goal

abbrev pub invariant-loop-place : goal.invariant-loop-place
invariant-loop-place l =
    list_all (λ k. eqb (selection_at l.entries k) COMDAT_SELECT_ANY) (take l.place-index l.places) ≡ true
