-- The answers for jobs, one after another.
use Rattle.std.proofs.Common.{◌≡◌, ◌⊎◌, inl, inr, ℕ, zero, suc, ◌+◌, ◌-◌, ◌<◌, ◌≤◌, List, [], ◌∷◌, ◌++◌, length, get_or, take, length-append, refl, sym, ap, ap₂, subst, ◌∙◌, arith}
use Rattle.std.specs.List.{flat_map}
use Rattle.std.specs.Prelude.{Vec}
use Rattle.std.specs.declared.alloc.Global.{Global}
use Rattle.std.proofs.lemmas.Grind.{flat_map-append}
use Rattle.std.proofs.lemmas.List.{append-nil}
use Rattle.std.proofs.lemmas.Bool.{cases_lt}
use Rattle.std.proofs.lemmas.List.{get_or_append_left, get_or-append_right, take_more}
use Rattle.par_read.specs.declared.job.Job.{Job}
use Rattle.par_read.specs.Opened.{Answer, IsOpenedAs, AreOpenedAs}
use Rattle.par_read.specs.Parts.{jobs_between}
use Rattle.par_read.proofs.PartLemmas.{parts_joined}

-- one answer for one job
pub one_opened : (job : Job) (answer : Answer) → IsOpenedAs job answer → AreOpenedAs (job ∷ []) (answer ∷ [])
one_opened job answer opened = record { len = λ i. 1; each = only }
  where
    only : (k : ℕ) (j : Job) (a : Answer) → k < 1 → IsOpenedAs (get_or (job ∷ []) k j) (get_or (answer ∷ []) k a)
    only zero j a lt = opened
    only (suc k) j a lt = absurd (omega (arith, lt))

module _ (jobs more : List Job) (answers others : List Answer) (front : AreOpenedAs jobs answers) (back : AreOpenedAs more others) where
  abbrev IsOpenedAt : (k : ℕ) (job : Job) (answer : Answer) → Type 0
  IsOpenedAt k job answer = IsOpenedAs (get_or (jobs ++ more) k job) (get_or (answers ++ others) k answer)

  front_opened : (k : ℕ) (job : Job) (answer : Answer) → k < length jobs → IsOpenedAt k job answer
  front_opened k job answer lt =
      let inside : k < length answers = omega (arith, lt, front.len) in
      subst (λ j. IsOpenedAs j (get_or (answers ++ others) k answer)) (sym (get_or_append_left jobs more job k lt))
      (subst (IsOpenedAs (get_or jobs k job)) (sym (get_or_append_left answers others answer k inside)) (front.each k job answer lt))

  back_opened : (k : ℕ) (job : Job) (answer : Answer) → k < length (jobs ++ more) → length jobs ≤ k → IsOpenedAt k job answer
  back_opened k job answer lt past =
      let inside : k - length jobs < length more = omega (arith, lt, past, length-append jobs more) in
      subst (λ j. IsOpenedAs j (get_or (answers ++ others) k answer)) (sym (get_or-append_right jobs more (length jobs) k job refl past))
      (subst (IsOpenedAs (get_or more (k - length jobs) job)) (sym (get_or-append_right answers others (length jobs) k answer front.len past)) (back.each (k - length jobs) job answer inside))

  either_opened : (k : ℕ) (job : Job) (answer : Answer) → k < length (jobs ++ more) → (k < length jobs) ⊎ (length jobs ≤ k) → IsOpenedAt k job answer
  either_opened k job answer lt (inl low) = front_opened k job answer low
  either_opened k job answer lt (inr past) = back_opened k job answer lt past

  -- the answers for jobs, and behind them those for more jobs
  pub opened_joined : AreOpenedAs (jobs ++ more) (answers ++ others)
  opened_joined = record {
    len = length-append answers others ∙ (ap₂ ◌+◌ front.len back.len ∙ sym (length-append jobs more));
    each = λ k job answer lt. either_opened k job answer lt (cases_lt k (length jobs));
  }

-- one answer more, for the job of its place
pub opened_more : (jobs : List Job) (answers : List Answer) (k : ℕ) (job : Job) (answer : Answer) → k < length jobs → job ≡ get_or jobs k job → AreOpenedAs (take k jobs) answers → IsOpenedAs job answer → AreOpenedAs (take (k + 1) jobs) (answers ++ answer ∷ [])
opened_more jobs answers k job answer lt is before opened =
    subst (λ js. AreOpenedAs js (answers ++ answer ∷ [])) (ap (λ j. take k jobs ++ j ∷ []) is ∙ sym (take_more jobs k job lt))
    (opened_joined (take k jobs) (job ∷ []) answers (answer ∷ []) before (one_opened job answer opened))

-- the answers of some parts, and behind them those of the parts that follow
pub parts_opened : (parts first middle end : ℕ) (jobs : List Job) (answers others : List Answer) → first ≤ middle → middle ≤ end → 0 < parts → AreOpenedAs (jobs_between parts first middle jobs) answers → AreOpenedAs (jobs_between parts middle end jobs) others → AreOpenedAs (jobs_between parts first end jobs) (answers ++ others)
parts_opened parts first middle end jobs answers others low high some front back =
    subst (λ js. AreOpenedAs js (answers ++ others)) (sym (parts_joined parts first middle end jobs some low high))
    (opened_joined (jobs_between parts first middle jobs) (jobs_between parts middle end jobs) answers others front back)

-- the answers of one part, as a list of one list
pub part_opened : (parts first end : ℕ) (jobs : List Job) (list : Vec Answer Global) (lists : List (Vec Answer Global)) → first + 1 ≡ end → lists ≡ list ∷ [] → AreOpenedAs (jobs_between parts first (first + 1) jobs) list.items → AreOpenedAs (jobs_between parts first end jobs) (flat_map (λ list. list.items) lists)
part_opened parts first end jobs list lists next only opened =
    subst (λ e. AreOpenedAs (jobs_between parts first e jobs) (flat_map (λ list. list.items) lists)) next
    (subst (AreOpenedAs (jobs_between parts first (first + 1) jobs)) (sym (ap (flat_map (λ list. list.items)) only ∙ append-nil list.items)) opened)

-- the lists of answers of some parts, and behind them those of the parts that follow
pub lists_opened : (parts first middle end : ℕ) (jobs : List Job) (lists others : List (Vec Answer Global)) → first ≤ middle → middle ≤ end → 0 < parts → AreOpenedAs (jobs_between parts first middle jobs) (flat_map (λ list. list.items) lists) → AreOpenedAs (jobs_between parts middle end jobs) (flat_map (λ list. list.items) others) → AreOpenedAs (jobs_between parts first end jobs) (flat_map (λ list. list.items) (lists ++ others))
lists_opened parts first middle end jobs lists others low high some front back =
    subst (AreOpenedAs (jobs_between parts first end jobs)) (sym (flat_map-append (λ list. list.items) lists others))
    (parts_opened parts first middle end jobs (flat_map (λ list. list.items) lists) (flat_map (λ list. list.items) others) low high some front back)
