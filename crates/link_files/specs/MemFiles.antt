-- Files in memory: their store, their counts, and the calls that are to fail. Own.
use Rattle.std.specs.Prelude.{◌≡◌, ◌+◌, ◌/◌, ℕ, true, false, List, length, take, cond, refl, Result, Ok, Err}
use Rattle.std.specs.Coded.{Coded, code_by, coded×, coded_ℕ, coded_list}
use Rattle.link_files.specs.declared.files.WriteError.{WriteError}
use Rattle.link_files.specs.declared.files.WriteError.TheVariants.{Fault, Memory}
use Rattle.link_files.specs.Store.{Store, store_code, no_files, with_file}
use Rattle.link_files.specs.FaultPlan.{FaultPlan, fresh_plan, fails_next, after_call}

-- the files, how many reads and writes failed, and the plan of failures
pub record MemState : Type 0 where
  pub files : Store
  pub read_faults : ℕ
  pub write_faults : ℕ
  pub plan : FaultPlan

-- a state is stored as the tuple of its parts
abbrev pub mem_state_code : Coded MemState
mem_state_code =
    code_by (Store × (ℕ × (ℕ × (List ℕ × ℕ)))) (coded× store_code (coded× coded_ℕ (coded× coded_ℕ (coded× (coded_list coded_ℕ) coded_ℕ)))) (λ s. (s.files, (s.read_faults, (s.write_faults, (s.plan.fails, s.plan.calls))))) (λ p. record { files = p.0; read_faults = p.1.0; write_faults = p.1.1.0; plan = record { fails = p.1.1.1.0; calls = p.1.1.1.1 } }) (λ _. refl)

-- no file, no failure and no call yet
abbrev pub fresh_files : List ℕ → MemState
fresh_files fails = record { files = no_files; read_faults = 0; write_faults = 0; plan = fresh_plan fails }

-- a file was added from outside, which is no call
abbrev pub with_added : MemState → List ℕ → List ℕ → MemState
with_added state name bytes = record state { files = with_file state.files name bytes }

-- a read changes the counts alone
abbrev pub after_read : MemState → MemState
after_read state = record state { read_faults = state.read_faults + cond (fails_next state.plan) 1 0; plan = after_call state.plan }

-- the write succeeded, as planned
pub record StoresWhole (old new : MemState) (name bytes : List ℕ) : Type 0 where
  pub planned : fails_next old.plan ≡ false
  pub state : new ≡ record old { files = with_file old.files name bytes; plan = after_call old.plan }

-- the write failed, as planned: it left the first half of the bytes, rounded down
pub record StoresHalf (old new : MemState) (name bytes : List ℕ) : Type 0 where
  pub planned : fails_next old.plan ≡ true
  pub state : new ≡ record old { files = with_file old.files name (take (length bytes / 2) bytes); write_faults = old.write_faults + 1; plan = after_call old.plan }

-- what a write leaves, by its answer: a planned failure may also want memory
abbrev pub LeavesState : {T : Type 0} → MemState → MemState → List ℕ → List ℕ → Result T WriteError → Type 0
LeavesState old new name bytes (Ok _) = StoresWhole old new name bytes
LeavesState old new name bytes (Err Fault) = StoresHalf old new name bytes
LeavesState old new name bytes (Err Memory) = new ≡ record old { plan = after_call old.plan }
