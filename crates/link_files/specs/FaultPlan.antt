-- Which calls of an object in memory fail: those whose numbers are listed. Own.
use Rattle.std.specs.Prelude.{◌+◌, ◌-◌, ◌^◌, ◌==◌, ℕ, Bool, List, min}
use Rattle.std.specs.List.{list_any}

-- the numbers of the calls that are to fail, and how many calls there were
pub record FaultPlan : Type 0 where
  pub fails : List ℕ
  pub calls : ℕ

-- the plan of an object that was not called yet
abbrev pub fresh_plan : List ℕ → FaultPlan
fresh_plan fails = record { fails = fails; calls = 0 }

-- the number of the next call: calls are numbered from 1, and at its type's end the number stands still
abbrev pub next_call : FaultPlan → ℕ
next_call plan = min (plan.calls + 1) (2 ^ 64 - 1)

-- whether the next call is to fail
abbrev pub fails_next : FaultPlan → Bool
fails_next plan = list_any (λ number. number == next_call plan) plan.fails

-- the plan after that call
abbrev pub after_call : FaultPlan → FaultPlan
after_call plan = record { fails = plan.fails; calls = next_call plan }
