-- A sink in memory: what it took, its count of faults, and the puts that are to fail. Own.
use Rattle.std.specs.Prelude.{◌≡◌, ◌+◌, ◌/◌, ◌++◌, ℕ, true, false, List, [], length, take, Result, Ok, Err}
use Rattle.link_files.specs.declared.sink.PutError.{PutError}
use Rattle.link_files.specs.declared.sink.PutError.TheVariants.{Fault, Memory}
use Rattle.link_files.specs.FaultPlan.{FaultPlan, fresh_plan, fails_next, after_call}

-- the bytes taken, how many puts failed, and the plan of failures
pub record SinkState : Type 0 where
  pub taken : List ℕ
  pub faults : ℕ
  pub plan : FaultPlan

-- nothing taken, no failure and no put yet
abbrev pub fresh_sink : List ℕ → SinkState
fresh_sink fails = record { taken = []; faults = 0; plan = fresh_plan fails }

-- the put succeeded, as planned
pub record TakesWhole (old new : SinkState) (bytes : List ℕ) : Type 0 where
  pub planned : fails_next old.plan ≡ false
  pub state : new ≡ record old { taken = old.taken ++ bytes; plan = after_call old.plan }

-- the put failed, as planned: it took the first half of the bytes, rounded down
pub record TakesHalf (old new : SinkState) (bytes : List ℕ) : Type 0 where
  pub planned : fails_next old.plan ≡ true
  pub state : new ≡ record old { taken = old.taken ++ take (length bytes / 2) bytes; faults = old.faults + 1; plan = after_call old.plan }

-- what a put leaves, by its answer: a planned failure may also want memory
abbrev pub LeavesSink : {T : Type 0} → SinkState → SinkState → List ℕ → Result T PutError → Type 0
LeavesSink old new bytes (Ok _) = TakesWhole old new bytes
LeavesSink old new bytes (Err Fault) = TakesHalf old new bytes
LeavesSink old new bytes (Err Memory) = new ≡ record old { plan = after_call old.plan }
