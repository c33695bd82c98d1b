use Rattle.std.proofs.Common.{◌≡◌, ℕ, Bool, List, None}
use Rattle.link_base.specs.Bytes.{first_below}
use Rattle.coff_object.specs.ObjectFaults.{Decides, of_section}
use Rattle.coff_object.proofs.section_fault.first_section.Given as goal

abbrev pub invariant-loop-index : goal.invariant-loop-index
invariant-loop-index g l =
    (test : List ℕ → Bool) → Decides (goal.F-post g l.fails) test → first_below l.index (of_section l.file test) ≡ None
