-- Slices of an image that are patched: one more job, and two slices that are joined.
use Rattle.std.proofs.Common.{◌≡◌, ℕ, ◌+◌, ◌-◌, ◌<◌, ◌≤◌, inl, inr, Bool, true, false, cond, List, [], ◌∷◌, ◌++◌, length, map, take, drop, get_or, Result, Ok, Err, refl, sym, ap, ap₂, ◌∙◌, subst, length-append, arith}
use Rattle.std.proofs.lemmas.Bool.{cases_lt}
use Rattle.std.proofs.lemmas.List.{map-append, take_more, length-take, get_or_default, get_or-take, get_or-drop, length-drop, take-take, take-append-drop}
use Rattle.std.proofs.lemmas.List.Elements.{All-map, All-head, All-take, All-drop}
use Rattle.std.specs.List.{All, AllPairs}
use Rattle.std.specs.Result.{OnOk, IfErr}
use Rattle.address_layout.specs.declared.layout.Layout.{Layout}
use Rattle.par_patch.specs.declared.job.Job.{Job}
use Rattle.par_patch.specs.declared.job.JobRange.{JobRange}
use Rattle.par_patch.specs.LeastRange.{IsLeastRange}
use Rattle.par_patch.specs.PatchedJobs.{EndsBefore, EndsWithin, FieldsFit, IsReady, bytes_of, patched_job, patched_jobs}
use Rattle.par_patch.specs.Slices.{AreJobsIn, IsAnswer, IsAnswerOf, IsJobIn, IsPatchedSlice, comes_first, first_start, least_of, shifted}
use Rattle.par_patch.proofs.JobLemmas.{BeginsBehind, bytes_of-front, patched_jobs-append, patched_jobs-one, patched_jobs-front, patched_jobs-behind, shifted-twice, shifted-zero}
use Rattle.par_patch.proofs.AnswerLemmas.{answer_of_as, answer_as, answer_behind, answer_one, answer_joined}

-- ---- two slices

-- the jobs of the one slice end inside it, and those of the other begin behind it
ends_shifted : (offset len : ℕ) (jobs : List Job) → All (IsJobIn offset len) jobs → All (EndsWithin len) (map (shifted offset) jobs)
ends_shifted offset len jobs inside =
    All-map (EndsWithin len) (shifted offset) jobs (λ k d lt. let h = inside k d lt in omega (arith, h.above, h.within))

begins_shifted : (offset len : ℕ) (jobs : List Job) → All (BeginsBehind (offset + len)) jobs → All (BeginsBehind len) (map (shifted offset) jobs)
begins_shifted offset len jobs behind =
    All-map (BeginsBehind len) (shifted offset) jobs (λ k d lt. let h = behind k d lt in omega (arith, h))

joined_bytes : (base : ℕ) (layout : Layout) (owner : List ℕ) (offset : ℕ) (front back : List Job) (xs ys xs' ys' : List ℕ) → All (IsJobIn offset (length xs)) front → All (BeginsBehind (offset + length xs)) back → length xs' ≡ length xs
    → xs' ≡ patched_jobs base layout owner (map (shifted offset) front) xs → ys' ≡ patched_jobs base layout owner (map (shifted (offset + length xs)) back) ys
    → xs' ++ ys' ≡ patched_jobs base layout owner (map (shifted offset) (front ++ back)) (xs ++ ys)
joined_bytes base layout owner offset front back xs ys xs' ys' inside behind len first second =
    let patched = patched_jobs base layout owner in
    let moved : map (shifted (length xs')) (map (shifted offset) back) ≡ map (shifted (offset + length xs)) back =
    ap (λ (n : ℕ). map (shifted n) (map (shifted offset) back)) len ∙ shifted-twice offset (length xs) back in
    sym (
    ap (λ (jobs : List Job). patched jobs (xs ++ ys)) (map-append (shifted offset) front back)
    ∙ patched_jobs-append base layout owner (map (shifted offset) front) (map (shifted offset) back) (xs ++ ys)
    ∙ ap (patched (map (shifted offset) back)) (patched_jobs-front base layout owner (map (shifted offset) front) xs ys (ends_shifted offset (length xs) front inside))
    ∙ ap (λ (bytes : List ℕ). patched (map (shifted offset) back) (bytes ++ ys)) (sym first)
    ∙ patched_jobs-behind base layout owner (map (shifted offset) back) xs' ys (subst (λ (n : ℕ). All (BeginsBehind n) (map (shifted offset) back)) (sym len) (begins_shifted offset (length xs) back behind))
    ∙ ap (λ (jobs : List Job). xs' ++ patched jobs ys) moved
    ∙ ap (λ (bytes : List ℕ). xs' ++ bytes) (sym second))

joined_answers : (base : ℕ) (layout : Layout) (owner : List ℕ) (offset : ℕ) (front back : List Job) (xs ys : List ℕ) (answer other : Result Unit JobRange) → All (IsJobIn offset (length xs)) front → All (BeginsBehind (offset + length xs)) back
    → IsAnswer base layout owner (map (shifted offset) front) xs answer → IsAnswer base layout owner (map (shifted (offset + length xs)) back) ys other
    → IsAnswer base layout owner (map (shifted offset) (front ++ back)) (xs ++ ys) (least_of answer other)
joined_answers base layout owner offset front back xs ys answer other inside behind first second =
    let moved = shifted-twice offset (length xs) back in
    subst (λ (jobs : List Job). IsAnswer base layout owner jobs (xs ++ ys) (least_of answer other)) (sym (map-append (shifted offset) front back))
    (answer_joined base layout owner (xs ++ ys) (map (shifted offset) front) (map (shifted offset) back) answer other
    (answer_as base layout owner xs (xs ++ ys) (map (shifted offset) front) answer (λ k d lt. sym (bytes_of-front (get_or (map (shifted offset) front) k d) xs ys (ends_shifted offset (length xs) front inside k d lt))) first)
    (answer_behind base layout owner (map (shifted offset) back) xs ys other (begins_shifted offset (length xs) back behind)
    (subst (λ (jobs : List Job). IsAnswer base layout owner jobs ys other) (sym moved) second)))

-- of two refusals one is the answer, and nothing is said of the bytes
refused : (P : Type 0) (test : Bool) (range other : JobRange) → OnOk {T = Unit {0}} (cond test (Err other) (Err range)) P
refused P true range other = tt
refused P false range other = tt

joined : (base : ℕ) (layout : Layout) (owner : List ℕ) (offset : ℕ) (front back : List Job) (xs ys xs' ys' : List ℕ) (answer other : Result Unit JobRange) → All (IsJobIn offset (length xs)) front → All (BeginsBehind (offset + length xs)) back
    → IsPatchedSlice base layout owner offset front xs xs' answer → IsPatchedSlice base layout owner (offset + length xs) back ys ys' other
    → IsPatchedSlice base layout owner offset (front ++ back) (xs ++ ys) (xs' ++ ys') (least_of answer other)
joined base layout owner offset front back xs ys xs' ys' answer other inside behind first second =
    record {
      len = omega (arith, length-append xs ys, length-append xs' ys', first.len, second.len);
      bytes = whole answer other first.bytes second.bytes;
      answered = joined_answers base layout owner offset front back xs ys answer other inside behind first.answered second.answered;
    }
  where
    whole : (answer other : Result Unit JobRange) → OnOk answer (xs' ≡ patched_jobs base layout owner (map (shifted offset) front) xs) → OnOk other (ys' ≡ patched_jobs base layout owner (map (shifted (offset + length xs)) back) ys)
        → OnOk (least_of answer other) (xs' ++ ys' ≡ patched_jobs base layout owner (map (shifted offset) (front ++ back)) (xs ++ ys))
    whole (Ok done) (Ok also) e f = joined_bytes base layout owner offset front back xs ys xs' ys' inside behind first.len e f
    whole (Ok done) (Err other) e f = tt
    whole (Err range) (Ok done) e f = tt
    whole (Err range) (Err other) e f = refused _ (comes_first other range) range other

-- ---- one more job

-- the first k jobs of a slice are patched, and no byte behind them is changed
pub record PatchedTo (base : ℕ) (layout : Layout) (owner : List ℕ) (offset : ℕ) (jobs : List Job) (k : ℕ) (old new : List ℕ) (answer : Result Unit JobRange) : Type 0 where
  pub slice : IsPatchedSlice base layout owner offset (take k jobs) old new answer
  pub behind : (place : ℕ) → All (EndsWithin (offset + place)) (take k jobs) → drop place new ≡ drop place old

pub none_patched : (base : ℕ) (layout : Layout) (owner : List ℕ) (offset : ℕ) (jobs : List Job) (image : List ℕ) → PatchedTo base layout owner offset jobs 0 image image (Ok tt)
unfolding patched_jobs
none_patched base layout owner offset jobs image =
    record {
      slice = record { len = refl; bytes = refl; answered = λ k d lt. absurd (omega arith) };
      behind = λ place ends. refl;
    }

-- the bytes of a job stay until it is patched itself
untouched : (base : ℕ) (layout : Layout) (owner : List ℕ) (offset : ℕ) (jobs : List Job) (k : ℕ) (job : Job) (old new : List ℕ) (answer : Result Unit JobRange) → k < length jobs → get_or jobs k job ≡ job → AllPairs EndsBefore jobs → offset ≤ job.start → PatchedTo base layout owner offset jobs k old new answer
    → bytes_of new (shifted offset job) ≡ bytes_of old (shifted offset job)
untouched base layout owner offset jobs k job old new answer lt is apart above so_far =
    let start : (get_or jobs k job).start ≡ job.start = ap (λ (j : Job). j.start) is in
    ap (take job.len) (so_far.behind (job.start - offset) (λ j e less.
    let before : j < k = omega (arith, length-take k jobs) in
    rw (get_or-take k jobs j e before, get_or_default jobs j e job (omega arith)) (omega (arith, apart j k job before lt))))

step_bytes : (base : ℕ) (layout : Layout) (owner : List ℕ) (offset : ℕ) (jobs : List Job) (job : Job) (old now new : List ℕ) (answer other : Result Unit JobRange) → OnOk answer (now ≡ patched_jobs base layout owner (map (shifted offset) jobs) old) → OnOk other (new ≡ patched_job base layout owner (shifted offset job) now)
    → OnOk (least_of answer other) (new ≡ patched_jobs base layout owner (map (shifted offset) (jobs ++ job ∷ [])) old)
step_bytes base layout owner offset jobs job old now new (Ok done) (Ok also) e f =
    f
    ∙ ap (patched_job base layout owner (shifted offset job)) e
    ∙ sym (patched_jobs-one base layout owner (shifted offset job) (patched_jobs base layout owner (map (shifted offset) jobs) old))
    ∙ sym (patched_jobs-append base layout owner (map (shifted offset) jobs) (shifted offset job ∷ []) old)
    ∙ sym (ap (λ (all : List Job). patched_jobs base layout owner all old) (map-append (shifted offset) jobs (job ∷ [])))
step_bytes base layout owner offset jobs job old now new (Ok done) (Err other) e f = tt
step_bytes base layout owner offset jobs job old now new (Err range) (Ok done) e f = tt
step_bytes base layout owner offset jobs job old now new (Err range) (Err other) e f = refused _ (comes_first other range) range other

step_slice : (base : ℕ) (layout : Layout) (owner : List ℕ) (offset : ℕ) (jobs : List Job) (job : Job) (old now new : List ℕ) (answer other : Result Unit JobRange) → IsPatchedSlice base layout owner offset jobs old now answer → bytes_of now (shifted offset job) ≡ bytes_of old (shifted offset job) → length new ≡ length now
    → OnOk other (new ≡ patched_job base layout owner (shifted offset job) now) → IsAnswerOf base layout owner (shifted offset job) now other → IsPatchedSlice base layout owner offset (jobs ++ job ∷ []) old new (least_of answer other)
step_slice base layout owner offset jobs job old now new answer other so_far same len bytes its =
    record {
      len = len ∙ so_far.len;
      bytes = step_bytes base layout owner offset jobs job old now new answer other so_far.bytes bytes;
      answered =
          subst (λ (all : List Job). IsAnswer base layout owner all old (least_of answer other)) (sym (map-append (shifted offset) jobs (job ∷ [])))
          (answer_joined base layout owner old (map (shifted offset) jobs) (shifted offset job ∷ []) answer other so_far.answered
          (answer_one base layout owner old (shifted offset job) other (answer_of_as base layout owner now old (shifted offset job) other same its)));
    }

pub step : (base : ℕ) (layout : Layout) (owner : List ℕ) (offset : ℕ) (jobs : List Job) (k : ℕ) (job : Job) (old now new : List ℕ) (answer other : Result Unit JobRange) → k < length jobs → get_or jobs k job ≡ job → AllPairs EndsBefore jobs → offset ≤ job.start → PatchedTo base layout owner offset jobs k old now answer → length new ≡ length now
    → OnOk other (new ≡ patched_job base layout owner (shifted offset job) now) → ((place : ℕ) → EndsWithin (offset + place) job → drop place new ≡ drop place now) → IsAnswerOf base layout owner (shifted offset job) now other
    → PatchedTo base layout owner offset jobs (k + 1) old new (least_of answer other)
step base layout owner offset jobs k job old now new answer other lt is apart above so_far len bytes behind its =
    let more : take (k + 1) jobs ≡ take k jobs ++ job ∷ [] = take_more jobs k job lt ∙ ap (λ (j : Job). take k jobs ++ j ∷ []) is in
    record {
      slice = rw more (step_slice base layout owner offset (take k jobs) job old now new answer other so_far.slice (untouched base layout owner offset jobs k job old now answer lt is apart above so_far) len bytes its);
      behind = λ place ends.
          behind place (last (EndsWithin (offset + place)) jobs k job lt is ends) ∙ so_far.behind place (front (EndsWithin (offset + place)) jobs k ends);
    }
  where
    last : (P : Job → Type 0) (jobs : List Job) (k : ℕ) (job : Job) → k < length jobs → get_or jobs k job ≡ job → All P (take (k + 1) jobs) → P job
    last P jobs k job lt is all = subst P (get_or-take (k + 1) jobs k job (omega arith) ∙ is) (all k job (omega (arith, length-take (k + 1) jobs)))

    front : (P : Job → Type 0) (jobs : List Job) (k : ℕ) → All P (take (k + 1) jobs) → All P (take k jobs)
    front P jobs k all = subst (All P) (take-take k (k + 1) jobs (omega arith)) (All-take P k (take (k + 1) jobs) all)

-- ---- jobs that are cut in two

-- the first of some jobs begins inside the slice, or stands for its end
start_within : (jobs : List Job) (offset len : ℕ) → All (IsJobIn offset len) jobs → first_start jobs offset len ≤ len
start_within [] offset len inside = omega arith
start_within (job ∷ jobs) offset len inside =
    let h = All-head (IsJobIn offset len) job jobs inside in
    omega (arith, h.above, h.within)

-- a job that ends before each of others ends before the first of them begins
ends_at_start : (job : Job) (jobs : List Job) (offset len : ℕ) → IsJobIn offset len job → All (EndsBefore job) jobs → IsJobIn offset (first_start jobs offset len) job
ends_at_start job [] offset len inside before = inside
ends_at_start job (next ∷ jobs) offset len inside before =
    let h = All-head (EndsBefore job) next jobs before in
    record { above = inside.above; within = omega (arith, h, inside.above) }

-- jobs that ascend begin where the first of them does, or behind it
from_start : (jobs : List Job) (offset len : ℕ) → AllPairs EndsBefore jobs → All (IsJobIn offset len) jobs → All (IsJobIn (offset + first_start jobs offset len) (len - first_start jobs offset len)) jobs
from_start [] offset len apart inside = λ k d lt. absurd (omega arith)
from_start (job ∷ jobs) offset len apart inside = λ k d lt.
    let h = inside k d lt in
    let first = inside 0 d (omega arith) in
    elim (cases_lt 0 k) [
      | inl later ↦
          let up = apart 0 k d later lt in
          record { above = omega (arith, up, first.above); within = omega (arith, up, first.above, h.within) }
      | inr none ↦
          let here : k ≡ 0 = omega arith in
          subst (λ (i : ℕ). IsJobIn (offset + (job.start - offset)) (len - (job.start - offset)) (get_or (job ∷ jobs) i d)) (sym here)
          (record { above = omega (arith, first.above); within = omega (arith, first.above, first.within) })
    ]

front_in : (layout : Layout) (owner : List ℕ) (offset len n : ℕ) (jobs : List Job) → AreJobsIn layout owner offset len jobs → AreJobsIn layout owner offset (first_start (drop n jobs) offset len) (take n jobs)
front_in layout owner offset len n jobs are =
    record {
      apart = λ i j d before lt.
          let less : j < n = omega (arith, length-take n jobs) in
          rw (get_or-take n jobs i d (omega arith), get_or-take n jobs j d less) (are.apart i j d before (omega (arith, length-take n jobs)));
      inside = λ k d lt.
          let less : k < n = omega (arith, length-take n jobs) in
          rw (get_or-take n jobs k d less)
          (ends_at_start (get_or jobs k d) (drop n jobs) offset len (are.inside k d (omega (arith, length-take n jobs))) (λ i e there.
          rw (get_or-drop n jobs i e, get_or_default jobs k d e (omega (arith, length-take n jobs))) (are.apart k (n + i) e (omega arith) (omega (arith, length-drop n jobs)))));
      end = omega (arith, are.end, start_within (drop n jobs) offset len (All-drop (IsJobIn offset len) n jobs are.inside));
      ready = All-take (IsReady layout owner) n jobs are.ready;
    }

back_in : (layout : Layout) (owner : List ℕ) (offset len n : ℕ) (jobs : List Job) → AreJobsIn layout owner offset len jobs → AreJobsIn layout owner (offset + first_start (drop n jobs) offset len) (len - first_start (drop n jobs) offset len) (drop n jobs)
back_in layout owner offset len n jobs are =
    let inside = All-drop (IsJobIn offset len) n jobs are.inside in
    let apart : AllPairs EndsBefore (drop n jobs) =
    λ i j d before lt. rw (get_or-drop n jobs i d, get_or-drop n jobs j d) (are.apart (n + i) (n + j) d (omega arith) (omega (arith, length-drop n jobs))) in
    record {
      apart = apart;
      inside = from_start (drop n jobs) offset len apart inside;
      end = omega (arith, are.end, start_within (drop n jobs) offset len inside);
      ready = All-drop (IsReady layout owner) n jobs are.ready;
    }

pub cut_within : (layout : Layout) (owner : List ℕ) (offset len n : ℕ) (jobs : List Job) → AreJobsIn layout owner offset len jobs → first_start (drop n jobs) offset len ≤ len
cut_within layout owner offset len n jobs are = start_within (drop n jobs) offset len (All-drop (IsJobIn offset len) n jobs are.inside)

-- the same of the values that the code has for them
pub front_jobs_in : (layout : Layout) (owner : List ℕ) (offset len n : ℕ) (jobs front back : List Job) (cut count : ℕ) → front ≡ take n jobs → back ≡ drop n jobs → cut ≡ first_start back offset len → count ≡ cut → AreJobsIn layout owner offset len jobs → AreJobsIn layout owner offset count front
front_jobs_in layout owner offset len n jobs front back cut count front_is back_is cut_is count_is are =
    rw (count_is, cut_is, back_is, front_is) (front_in layout owner offset len n jobs are)

pub back_jobs_in : (layout : Layout) (owner : List ℕ) (offset len n : ℕ) (jobs back : List Job) (cut count : ℕ) → back ≡ drop n jobs → cut ≡ first_start back offset len → count + cut ≡ len → AreJobsIn layout owner offset len jobs → AreJobsIn layout owner (offset + cut) count back
back_jobs_in layout owner offset len n jobs back cut count back_is cut_is count_is are =
    let rest : count ≡ len - cut = omega arith in
    rw (rest, cut_is, back_is) (back_in layout owner offset len n jobs are)

pub halves_joined : (base : ℕ) (layout : Layout) (owner : List ℕ) (offset n cut : ℕ) (jobs front back : List Job) (image xs ys xs' ys' : List ℕ) (answer other whole : Result Unit JobRange) → front ≡ take n jobs → back ≡ drop n jobs → cut ≡ first_start back offset (length image) → image ≡ xs ++ ys → length xs ≡ cut → whole ≡ least_of answer other
    → AreJobsIn layout owner offset (length image) jobs → IsPatchedSlice base layout owner offset front xs xs' answer → IsPatchedSlice base layout owner (offset + cut) back ys ys' other → IsPatchedSlice base layout owner offset jobs image (xs' ++ ys') whole
halves_joined base layout owner offset n cut jobs front back image xs ys xs' ys' answer other whole front_is back_is cut_is image_is len whole_is are first second =
    let count : length ys + cut ≡ length image = omega (arith, ap length image_is, length-append xs ys, len) in
    let inside = (front_jobs_in layout owner offset (length image) n jobs front back cut (length xs) front_is back_is cut_is len are).inside in
    let behind = (back_jobs_in layout owner offset (length image) n jobs back cut (length ys) back_is cut_is count are).inside in
    let all : front ++ back ≡ jobs = ap₂ ◌++◌ front_is back_is ∙ take-append-drop n jobs in
    rw (image_is, whole_is)
    (subst (λ (js : List Job). IsPatchedSlice base layout owner offset js (xs ++ ys) (xs' ++ ys') (least_of answer other)) all
    (joined base layout owner offset front back xs ys xs' ys' answer other inside
    (λ k d lt. let h = behind k d lt in omega (arith, h.above, len))
    first (subst (λ (m : ℕ). IsPatchedSlice base layout owner (offset + m) back ys ys' other) (sym len) second)))

-- ---- the whole image

pub whole_bytes : (base : ℕ) (layout : Layout) (owner : List ℕ) (jobs : List Job) (old new : List ℕ) (answer : Result Unit JobRange) → IsPatchedSlice base layout owner 0 jobs old new answer → OnOk answer (new ≡ patched_jobs base layout owner jobs old)
whole_bytes base layout owner jobs old new answer slice =
    subst (λ (all : List Job). OnOk answer (new ≡ patched_jobs base layout owner all old)) (shifted-zero jobs) slice.bytes

whole_answer : (base : ℕ) (layout : Layout) (owner : List ℕ) (jobs : List Job) (old new : List ℕ) (answer : Result Unit JobRange) → IsPatchedSlice base layout owner 0 jobs old new answer → IsAnswer base layout owner jobs old answer
whole_answer base layout owner jobs old new answer slice =
    subst (λ (all : List Job). IsAnswer base layout owner all old answer) (shifted-zero jobs) slice.answered

all_fit : (base : ℕ) (layout : Layout) (owner : List ℕ) (jobs : List Job) (image : List ℕ) (answer : Result Unit JobRange) → IsAnswer base layout owner jobs image answer → OnOk answer (All (FieldsFit base layout owner image) jobs)
all_fit base layout owner jobs image (Ok done) fit = fit
all_fit base layout owner jobs image (Err range) least = tt

pub whole_fits : (base : ℕ) (layout : Layout) (owner : List ℕ) (jobs : List Job) (old new : List ℕ) (answer : Result Unit JobRange) → IsPatchedSlice base layout owner 0 jobs old new answer → OnOk answer (All (FieldsFit base layout owner old) jobs)
whole_fits base layout owner jobs old new answer slice = all_fit base layout owner jobs old answer (whole_answer base layout owner jobs old new answer slice)

is_least : (base : ℕ) (layout : Layout) (owner : List ℕ) (jobs : List Job) (image : List ℕ) (answer : Result Unit JobRange) → IsAnswer base layout owner jobs image answer → IfErr answer (IsLeastRange base layout owner jobs image)
is_least base layout owner jobs image (Ok done) fit = tt
is_least base layout owner jobs image (Err range) least = least

pub whole_refused : (base : ℕ) (layout : Layout) (owner : List ℕ) (jobs : List Job) (old new : List ℕ) (answer : Result Unit JobRange) → IsPatchedSlice base layout owner 0 jobs old new answer → IfErr answer (IsLeastRange base layout owner jobs old)
whole_refused base layout owner jobs old new answer slice = is_least base layout owner jobs old answer (whole_answer base layout owner jobs old new answer slice)
