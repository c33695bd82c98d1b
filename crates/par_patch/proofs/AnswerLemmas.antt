-- The answers for jobs: of other bytes where those of the jobs are the same, counted from an offset, and of joined lists.
use Rattle.std.proofs.Common.{◌≡◌, ℕ, ◌<◌, ◌≤◌, ◌⊎◌, inl, inr, Bool, true, false, cond, List, [], ◌∷◌, ◌++◌, length, map, get_or, Result, Ok, Err, refl, sym, ◌∙◌, subst, arith}
use Rattle.std.proofs.lemmas.Bool.{cases_lt}
use Rattle.std.proofs.lemmas.Bool.Decides.{nat_tests}
use Rattle.std.proofs.lemmas.List.{get_or-map, length-map}
use Rattle.std.proofs.lemmas.List.Elements.{All-append, All-contains, Contains-append_left, Contains-append_right, Contains-get_or}
use Rattle.std.specs.List.{All, Contains}
use Rattle.address_layout.specs.declared.layout.Layout.{Layout}
use Rattle.relocate.specs.Value.{fits, IsLeastOutside}
use Rattle.par_patch.specs.declared.job.Job.{Job}
use Rattle.par_patch.specs.declared.job.JobRange.{JobRange}
use Rattle.par_patch.specs.LeastRange.{ComesBefore, IsRangeOf, IsLeastRange}
use Rattle.par_patch.specs.PatchedJobs.{FieldsFit, bytes_of, rva_of}
use Rattle.par_patch.specs.Slices.{IsAnswer, IsAnswerOf, comes_first, least_of, shifted}
use Rattle.par_patch.proofs.JobLemmas.{BeginsBehind, bytes_of-behind}

-- ---- the same bytes

-- whether the fields of a job fit goes by its bytes, its fixups and its piece
fit_as : (base : ℕ) (layout : Layout) (owner image other : List ℕ) (job : Job) → bytes_of image job ≡ bytes_of other job → FieldsFit base layout owner image job → FieldsFit base layout owner other job
fit_as base layout owner image other job same fit =
    subst (λ (bytes : List ℕ). All (λ fix. fits base (rva_of layout job) layout owner bytes fix ≡ true) job.fixups.now) same fit

range_as : (base : ℕ) (layout : Layout) (owner image other : List ℕ) (range : JobRange) (job : Job) → bytes_of image job ≡ bytes_of other job → IsRangeOf base layout owner image range job → IsRangeOf base layout owner other range job
range_as base layout owner image other range job same its =
    record {
      module_is = its.module_is;
      section_is = its.section_is;
      outside = subst (λ (bytes : List ℕ). IsLeastOutside base (rva_of layout job) layout owner job.fixups.now bytes (record { index = range.index; value = range.value })) same its.outside;
    }

pub answer_of_as : (base : ℕ) (layout : Layout) (owner image other : List ℕ) (job : Job) (answer : Result Unit JobRange) → bytes_of image job ≡ bytes_of other job → IsAnswerOf base layout owner job image answer → IsAnswerOf base layout owner job other answer
answer_of_as base layout owner image other job (Ok done) same fit = fit_as base layout owner image other job same fit
answer_of_as base layout owner image other job (Err range) same its = range_as base layout owner image other range job same its

pub answer_as : (base : ℕ) (layout : Layout) (owner image other : List ℕ) (jobs : List Job) (answer : Result Unit JobRange) → All (λ job. bytes_of image job ≡ bytes_of other job) jobs → IsAnswer base layout owner jobs image answer → IsAnswer base layout owner jobs other answer
answer_as base layout owner image other jobs (Ok done) same fit = λ k d lt. fit_as base layout owner image other (get_or jobs k d) (same k d lt) (fit k d lt)
answer_as base layout owner image other jobs (Err range) same least =
    record {
      job = least.job;
      there = least.there;
      its = range_as base layout owner image other range least.job (All-contains (λ job. bytes_of image job ≡ bytes_of other job) jobs least.job same least.there) least.its;
      least = λ k d lt before. fit_as base layout owner image other (get_or jobs k d) (same k d lt) (least.least k d lt before);
    }

-- ---- counted from an offset

-- what holds of each job once it is shifted
unmapped : (P : Job → Type 0) (offset : ℕ) (jobs : List Job) → All P (map (shifted offset) jobs) → All (λ job. P (shifted offset job)) jobs
unmapped P offset jobs all = λ k d lt. subst P (get_or-map (shifted offset) jobs k d (shifted offset d) lt) (all k (shifted offset d) (omega (arith, length-map jobs (shifted offset))))

-- the job that stands where a shifted one does
record Unshifted (offset : ℕ) (jobs : List Job) (moved : Job) : Type 0 where
  job : Job
  there : Contains jobs job
  is : shifted offset job ≡ moved

unshifted : (offset : ℕ) (jobs : List Job) (moved : Job) → Contains (map (shifted offset) jobs) moved → Unshifted offset jobs moved
unshifted offset jobs moved there =
    let lt : there.0 < length jobs = omega (arith, there.1, length-map jobs (shifted offset)) in
    record {
      job = get_or jobs there.0 moved;
      there = Contains-get_or jobs there.0 moved lt;
      is = sym (get_or-map (shifted offset) jobs there.0 moved moved lt) ∙ there.2;
    }

fit_behind : (base : ℕ) (layout : Layout) (owner xs ys : List ℕ) (job : Job) → BeginsBehind (length xs) job → FieldsFit base layout owner ys (shifted (length xs) job) → FieldsFit base layout owner (xs ++ ys) job
fit_behind base layout owner xs ys job behind fit =
    subst (λ (bytes : List ℕ). All (λ fix. fits base (rva_of layout job) layout owner bytes fix ≡ true) job.fixups.now) (sym (bytes_of-behind job xs ys behind)) fit

range_behind : (base : ℕ) (layout : Layout) (owner xs ys : List ℕ) (range : JobRange) (job : Job) → BeginsBehind (length xs) job → IsRangeOf base layout owner ys range (shifted (length xs) job) → IsRangeOf base layout owner (xs ++ ys) range job
range_behind base layout owner xs ys range job behind its =
    record {
      module_is = its.module_is;
      section_is = its.section_is;
      outside = subst (λ (bytes : List ℕ). IsLeastOutside base (rva_of layout job) layout owner job.fixups.now bytes (record { index = range.index; value = range.value })) (sym (bytes_of-behind job xs ys behind)) its.outside;
    }

pub answer_behind : (base : ℕ) (layout : Layout) (owner : List ℕ) (jobs : List Job) (xs ys : List ℕ) (answer : Result Unit JobRange) → All (BeginsBehind (length xs)) jobs → IsAnswer base layout owner (map (shifted (length xs)) jobs) ys answer → IsAnswer base layout owner jobs (xs ++ ys) answer
answer_behind base layout owner jobs xs ys (Ok done) behind fit =
    let each = unmapped (FieldsFit base layout owner ys) (length xs) jobs fit in
    λ k d lt. fit_behind base layout owner xs ys (get_or jobs k d) (behind k d lt) (each k d lt)
answer_behind base layout owner jobs xs ys (Err range) behind least =
    let from = unshifted (length xs) jobs least.job least.there in
    let each = unmapped (λ other. ComesBefore other range → FieldsFit base layout owner ys other) (length xs) jobs least.least in
    record {
      job = from.job;
      there = from.there;
      its = range_behind base layout owner xs ys range from.job (All-contains (BeginsBehind (length xs)) jobs from.job behind from.there) (subst (IsRangeOf base layout owner ys range) (sym from.is) least.its);
      least = λ k d lt before. fit_behind base layout owner xs ys (get_or jobs k d) (behind k d lt) (each k d lt before);
    }

-- ---- joined lists

pub answer_one : (base : ℕ) (layout : Layout) (owner image : List ℕ) (job : Job) (answer : Result Unit JobRange) → IsAnswerOf base layout owner job image answer → IsAnswer base layout owner (job ∷ []) image answer
answer_one base layout owner image job (Ok done) fit = one (FieldsFit base layout owner image) job fit
  where
    one : (P : Job → Type 0) (job : Job) → P job → All P (job ∷ [])
    one P job holds = λ k d lt. let first : k ≡ 0 = omega arith in subst (λ (i : ℕ). P (get_or (job ∷ []) i d)) (sym first) holds
answer_one base layout owner image job (Err range) its =
    record {
      job = job;
      there = (0, omega arith, refl);
      its = its;
      least = λ k d lt before.
          let first : k ≡ 0 = omega arith in
          absurd (itself job range (subst (λ (i : ℕ). ComesBefore (get_or (job ∷ []) i d) range) first before) its.module_is its.section_is);
    }
  where
    itself : (job : Job) (range : JobRange) → ComesBefore job range → range.module ≡ job.module → range.section ≡ job.section → ⊥
    itself job range (inl lesser) same also = omega arith
    itself job range (inr lesser) same also = omega arith

-- the first of two places is not behind the second
abbrev LiesUpTo : ℕ → ℕ → ℕ → ℕ → Type 0
LiesUpTo a b c d = (a < c) ⊎ ((a ≡ c) × (b ≤ d))

comes_up_to : (range other : JobRange) → comes_first other range ≡ false → LiesUpTo range.module range.section other.module other.section
comes_up_to range other e =
    elim (cases_lt range.module other.module) [
      | inl less ↦ inl less
      | inr le ↦ (elim (cases_lt other.module range.module) [
        | inl greater ↦ absurd (grind (arith, nat_tests))
        | inr ge ↦ inr (
          omega arith,
          (elim (cases_lt other.section range.section) [
            | inl beyond ↦ absurd (grind (arith, nat_tests))
            | inr within ↦ within
          ]),
        )
      ])
    ]

comes_strictly : (range other : JobRange) → comes_first other range ≡ true → LiesUpTo other.module other.section range.module range.section
comes_strictly range other e =
    elim (cases_lt other.module range.module) [
      | inl less ↦ inl less
      | inr le ↦ (elim (cases_lt range.module other.module) [
        | inl greater ↦ absurd (grind (arith, nat_tests))
        | inr ge ↦ inr (
          omega arith,
          (elim (cases_lt range.section other.section) [
            | inl beyond ↦ absurd (grind (arith, nat_tests))
            | inr within ↦ within
          ]),
        )
      ])
    ]

-- a job before a range is before one that is not less
carried : (job : Job) (range other : JobRange) → LiesUpTo range.module range.section other.module other.section → ComesBefore job range → ComesBefore job other
carried job range other (inl up) (inl lesser) = inl (omega arith)
carried job range other (inl up) (inr lesser) = inl (omega arith)
carried job range other (inr up) (inl lesser) = inl (omega arith)
carried job range other (inr up) (inr lesser) = inr (omega arith, omega arith)

-- of two lists, the jobs before the one range and those before the other
both : (base : ℕ) (layout : Layout) (owner image : List ℕ) (first second : List Job) (range : JobRange) → All (λ job. ComesBefore job range → FieldsFit base layout owner image job) first → All (λ job. ComesBefore job range → FieldsFit base layout owner image job) second → All (λ job. ComesBefore job range → FieldsFit base layout owner image job) (first ++ second)
both base layout owner image first second range fit fits = All-append (λ job. ComesBefore job range → FieldsFit base layout owner image job) first second fit fits

in_first : (base : ℕ) (layout : Layout) (owner image : List ℕ) (first second : List Job) (range : JobRange) → IsLeastRange base layout owner first image range → All (λ job. ComesBefore job range → FieldsFit base layout owner image job) second → IsLeastRange base layout owner (first ++ second) image range
in_first base layout owner image first second range least fits =
    record {
      job = least.job;
      there = Contains-append_left first second least.job least.there;
      its = least.its;
      least = both base layout owner image first second range least.least fits;
    }

in_second : (base : ℕ) (layout : Layout) (owner image : List ℕ) (first second : List Job) (range : JobRange) → All (λ job. ComesBefore job range → FieldsFit base layout owner image job) first → IsLeastRange base layout owner second image range → IsLeastRange base layout owner (first ++ second) image range
in_second base layout owner image first second range fit least =
    record {
      job = least.job;
      there = Contains-append_right first second least.job least.there;
      its = least.its;
      least = both base layout owner image first second range fit least.least;
    }

chosen : (base : ℕ) (layout : Layout) (owner image : List ℕ) (first second : List Job) (range other : JobRange) (test : Bool) → comes_first other range ≡ test → IsLeastRange base layout owner first image range → IsLeastRange base layout owner second image other
    → IsAnswer base layout owner (first ++ second) image (cond test (Err other) (Err range))
chosen base layout owner image first second range other true e least lesser =
    in_second base layout owner image first second other (λ k d lt before. least.least k d lt (carried (get_or first k d) other range (comes_strictly range other e) before)) lesser
chosen base layout owner image first second range other false e least lesser =
    in_first base layout owner image first second range least (λ k d lt before. lesser.least k d lt (carried (get_or second k d) range other (comes_up_to range other e) before))

pub answer_joined : (base : ℕ) (layout : Layout) (owner image : List ℕ) (first second : List Job) (answer other : Result Unit JobRange) → IsAnswer base layout owner first image answer → IsAnswer base layout owner second image other → IsAnswer base layout owner (first ++ second) image (least_of answer other)
answer_joined base layout owner image first second (Ok done) (Ok also) fit fits = All-append (FieldsFit base layout owner image) first second fit fits
answer_joined base layout owner image first second (Ok done) (Err other) fit least = in_second base layout owner image first second other (λ k d lt before. fit k d lt) least
answer_joined base layout owner image first second (Err range) (Ok done) least fits = in_first base layout owner image first second range least (λ k d lt before. fits k d lt)
answer_joined base layout owner image first second (Err range) (Err other) least lesser =
    chosen base layout owner image first second range other (comes_first other range) refl least lesser
