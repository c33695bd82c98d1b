-- Jobs of eight bytes, 16 bytes apart in a file.
use Rattle.std.proofs.Common.{◌≡◌, ℕ, ◌+◌, ◌*◌, ◌≤◌, List, [], ◌∷◌, ◌++◌, arith}
use Rattle.std.proofs.lemmas.List.Elements.{All-push, All-weaker}
use Rattle.std.proofs.lemmas.List.Quantifiers.{all_pairs_push}
use Rattle.std.specs.List.{All, AllPairs}
use Rattle.address_layout.specs.declared.layout.Layout.{Layout}
use Rattle.par_patch.specs.declared.job.Job.{Job}
use Rattle.par_patch.specs.PatchedJobs.{EndsBefore, EndsWithin, IsReady}

-- so many jobs, from 0x200 on
pub record AreInARow (layout : Layout) (owner : List ℕ) (k : ℕ) (jobs : List Job) : Type 0 where
  pub apart : AllPairs EndsBefore jobs
  pub within : All (EndsWithin (512 + 16 * k)) jobs
  pub ready : All (IsReady layout owner) jobs

pub none_in_a_row : (layout : Layout) (owner : List ℕ) → AreInARow layout owner 0 []
none_in_a_row layout owner =
    record { apart = λ i j d before lt. absurd (omega arith); within = λ k d lt. absurd (omega arith); ready = λ k d lt. absurd (omega arith) }

pub one_more : (layout : Layout) (owner : List ℕ) (k : ℕ) (jobs : List Job) (job : Job) → job.start ≡ 512 + 16 * k → job.len ≡ 8 → IsReady layout owner job → AreInARow layout owner k jobs → AreInARow layout owner (k + 1) (jobs ++ job ∷ [])
one_more layout owner k jobs job start len ready are =
    record {
      apart = all_pairs_push EndsBefore jobs job are.apart (λ i d lt. let h = are.within i d lt in omega arith);
      within = All-push (EndsWithin (512 + 16 * (k + 1))) jobs job (All-weaker (EndsWithin (512 + 16 * k)) (EndsWithin (512 + 16 * (k + 1))) (λ j h. omega arith) jobs are.within) (omega arith);
      ready = All-push (IsReady layout owner) jobs job are.ready ready;
    }

pub ten_within : (layout : Layout) (owner : List ℕ) (k : ℕ) (jobs : List Job) → k ≤ 10 → AreInARow layout owner k jobs → All (EndsWithin 1024) jobs
ten_within layout owner k jobs few are = All-weaker (EndsWithin (512 + 16 * k)) (EndsWithin 1024) (λ j h. omega arith) jobs are.within
