use Rattle.std.proofs.Common.{◌≡◌, None}
use Rattle.link_base.specs.Refusals.{first_refusal_below}
use Rattle.link_plan.specs.Plan.{kept_parts}
use Rattle.link_image.specs.TableFaults.{pdata_fault_at}
use Rattle.link_image.proofs.pdata.check_pdata.Given as goal

abbrev pub invariant-loop-k : goal.invariant-loop-k
invariant-loop-k l = first_refusal_below l.k (pdata_fault_at (kept_parts l.plan)) ≡ None
