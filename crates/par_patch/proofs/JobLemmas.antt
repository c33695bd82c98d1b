-- Jobs that are patched one after the other: in one of two slices of an image that are joined, and counted from an offset.
use Rattle.std.proofs.Common.{◌≡◌, ℕ, ◌+◌, ◌-◌, ◌≤◌, List, [], ◌∷◌, ◌++◌, length, map, refl, sym, ap, ◌∙◌, subst, length-drop, arith}
use Rattle.std.proofs.Math.Nat.{add-sub_of_le, sub-add-eq}
use Rattle.std.proofs.lemmas.List.{length-take-le}
use Rattle.std.proofs.lemmas.List.Elements.{All-head, All-tail}
use Rattle.std.specs.List.{All}
use Rattle.link_base.proofs.PutLemmas.{length-put_over}
use Rattle.address_layout.specs.declared.layout.Layout.{Layout}
use Rattle.relocate.proofs.CallerLemmas.{length_patched}
use Rattle.relocate.specs.PatchedBytes.{patched_bytes}
use Rattle.par_patch.specs.declared.job.Job.{Job}
use Rattle.par_patch.specs.PatchedJobs.{EndsWithin, bytes_of, patched_job, patched_jobs, put_over, rva_of}
use Rattle.par_patch.specs.Slices.{shifted}
use Rattle.par_patch.proofs.PlaceLemmas.{put_in_front, bytes_in_front, put_behind, bytes_behind}

-- ---- lengths

-- the bytes that are put over those of a job
abbrev new_bytes : ℕ → Layout → List ℕ → Job → List ℕ → List ℕ
new_bytes base layout owner job image = patched_bytes base (rva_of layout job) layout owner job.fixups.now (bytes_of image job)

length-new : (base : ℕ) (layout : Layout) (owner : List ℕ) (job : Job) (image : List ℕ) → EndsWithin (length image) job → length (new_bytes base layout owner job image) ≡ job.len
length-new base layout owner job image within =
    length_patched base (rva_of layout job) layout owner job.fixups.now (bytes_of image job) ∙ length-take-le job.len _ (omega (arith, length-drop job.start image))

pub length-patched_job : (base : ℕ) (layout : Layout) (owner : List ℕ) (job : Job) (image : List ℕ) → EndsWithin (length image) job → length (patched_job base layout owner job image) ≡ length image
length-patched_job base layout owner job image within =
    length-put_over job.start (new_bytes base layout owner job image) image (omega (arith, length-new base layout owner job image within))

pub length-patched_jobs : (base : ℕ) (layout : Layout) (owner : List ℕ) (jobs : List Job) (image : List ℕ) → All (EndsWithin (length image)) jobs → length (patched_jobs base layout owner jobs image) ≡ length image
unfolding patched_jobs
length-patched_jobs base layout owner [] image within = refl
length-patched_jobs base layout owner (job ∷ jobs) image within =
    let same = length-patched_job base layout owner job image (All-head (EndsWithin (length image)) job jobs within) in
    length-patched_jobs base layout owner jobs (patched_job base layout owner job image) (subst (λ (n : ℕ). All (EndsWithin n) jobs) (sym same) (All-tail (EndsWithin (length image)) job jobs within))
    ∙ same

-- ---- joined jobs

pub patched_jobs-append : (base : ℕ) (layout : Layout) (owner : List ℕ) (first second : List Job) (image : List ℕ) → patched_jobs base layout owner (first ++ second) image ≡ patched_jobs base layout owner second (patched_jobs base layout owner first image)
unfolding patched_jobs
patched_jobs-append base layout owner [] second image = refl
patched_jobs-append base layout owner (job ∷ jobs) second image = patched_jobs-append base layout owner jobs second (patched_job base layout owner job image)

pub patched_jobs-one : (base : ℕ) (layout : Layout) (owner : List ℕ) (job : Job) (image : List ℕ) → patched_jobs base layout owner (job ∷ []) image ≡ patched_job base layout owner job image
unfolding patched_jobs
patched_jobs-one base layout owner job image = refl

-- ---- in the first of two slices

pub bytes_of-front : (job : Job) (xs ys : List ℕ) → EndsWithin (length xs) job → bytes_of (xs ++ ys) job ≡ bytes_of xs job
bytes_of-front job xs ys within = bytes_in_front job.start job.len xs ys within

patched_job-front : (base : ℕ) (layout : Layout) (owner : List ℕ) (job : Job) (xs ys : List ℕ) → EndsWithin (length xs) job → patched_job base layout owner job (xs ++ ys) ≡ patched_job base layout owner job xs ++ ys
patched_job-front base layout owner job xs ys within =
    ap (λ (bytes : List ℕ). put_over job.start (patched_bytes base (rva_of layout job) layout owner job.fixups.now bytes) (xs ++ ys)) (bytes_of-front job xs ys within)
    ∙ put_in_front job.start (new_bytes base layout owner job xs) xs ys (omega (arith, length-new base layout owner job xs within))

pub patched_jobs-front : (base : ℕ) (layout : Layout) (owner : List ℕ) (jobs : List Job) (xs ys : List ℕ) → All (EndsWithin (length xs)) jobs → patched_jobs base layout owner jobs (xs ++ ys) ≡ patched_jobs base layout owner jobs xs ++ ys
unfolding patched_jobs
patched_jobs-front base layout owner [] xs ys within = refl
patched_jobs-front base layout owner (job ∷ jobs) xs ys within =
    let here = All-head (EndsWithin (length xs)) job jobs within in
    let same = length-patched_job base layout owner job xs here in
    ap (patched_jobs base layout owner jobs) (patched_job-front base layout owner job xs ys here)
    ∙ patched_jobs-front base layout owner jobs (patched_job base layout owner job xs) ys (subst (λ (n : ℕ). All (EndsWithin n) jobs) (sym same) (All-tail (EndsWithin (length xs)) job jobs within))

-- ---- in the second

-- a job begins behind so many bytes
abbrev pub BeginsBehind : ℕ → Job → Type 0
BeginsBehind len job = len ≤ job.start

pub bytes_of-behind : (job : Job) (xs ys : List ℕ) → BeginsBehind (length xs) job → bytes_of (xs ++ ys) job ≡ bytes_of ys (shifted (length xs) job)
bytes_of-behind job xs ys behind =
    ap (λ (start : ℕ). bytes_of (xs ++ ys) (record job { start = start })) (sym (add-sub_of_le behind))
    ∙ bytes_behind (job.start - length xs) job.len xs ys

patched_job-behind : (base : ℕ) (layout : Layout) (owner : List ℕ) (job : Job) (xs ys : List ℕ) → BeginsBehind (length xs) job → patched_job base layout owner job (xs ++ ys) ≡ xs ++ patched_job base layout owner (shifted (length xs) job) ys
patched_job-behind base layout owner job xs ys behind =
    let part = new_bytes base layout owner (shifted (length xs) job) ys in
    ap (λ (bytes : List ℕ). put_over job.start (patched_bytes base (rva_of layout job) layout owner job.fixups.now bytes) (xs ++ ys)) (bytes_of-behind job xs ys behind)
    ∙ ap (λ (start : ℕ). put_over start part (xs ++ ys)) (sym (add-sub_of_le behind))
    ∙ put_behind (job.start - length xs) part xs ys

pub patched_jobs-behind : (base : ℕ) (layout : Layout) (owner : List ℕ) (jobs : List Job) (xs ys : List ℕ) → All (BeginsBehind (length xs)) jobs → patched_jobs base layout owner jobs (xs ++ ys) ≡ xs ++ patched_jobs base layout owner (map (shifted (length xs)) jobs) ys
unfolding patched_jobs
patched_jobs-behind base layout owner [] xs ys behind = refl
patched_jobs-behind base layout owner (job ∷ jobs) xs ys behind =
    ap (patched_jobs base layout owner jobs) (patched_job-behind base layout owner job xs ys (All-head (BeginsBehind (length xs)) job jobs behind))
    ∙ patched_jobs-behind base layout owner jobs xs (patched_job base layout owner (shifted (length xs) job) ys) (All-tail (BeginsBehind (length xs)) job jobs behind)

-- ---- offsets

pub shifted-twice : (offset more : ℕ) (jobs : List Job) → map (shifted more) (map (shifted offset) jobs) ≡ map (shifted (offset + more)) jobs
shifted-twice offset more [] = refl
shifted-twice offset more (job ∷ jobs) = rw (sym (sub-add-eq job.start offset more), shifted-twice offset more jobs) refl

pub shifted-zero : (jobs : List Job) → map (shifted 0) jobs ≡ jobs
shifted-zero [] = refl
shifted-zero (job ∷ jobs) = rw (none job.start, shifted-zero jobs) refl
  where
    none : (start : ℕ) → start - 0 ≡ start
    none start = omega arith
