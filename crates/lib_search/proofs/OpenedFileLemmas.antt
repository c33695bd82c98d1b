-- The modules among the inputs, and their answers in the order of the files.
use Rattle.std.proofs.Common.{◌≡◌, ℕ, zero, suc, ◌+◌, ◌<◌, ◌≤◌, Bool, true, false, List, [], ◌∷◌, ◌++◌, length, map, take, drop, get_or, All, Option, None, Some, cond, sym, ap, subst, ◌∙◌, arith}
use Rattle.std.specs.Prelude.{filter}
use Rattle.std.specs.Vec.Iter.{into_iter_items, into_iter_steps}
use Rattle.std.specs.declared.vec.IntoIter.{IntoIter}
use Rattle.std.proofs.lemmas.List.{append-nil, map-append, take_more, drop_more}
use Rattle.std.proofs.lemmas.List.Elements.{All-filter, All-map, filter-append}
use Rattle.file_search.specs.declared.found.FoundFile.{FoundFile as Found}
use Rattle.par_read.specs.Opened.{Answer, IsOpenedAs, AreOpenedAs}
use Rattle.par_read.specs.declared.job.Job.{Job}
use Rattle.lib_search.specs.OpenedFiles.{job_of, opens_as_module, jobs_among, AnswersFile, HoldsAnswers}

-- ---- the jobs

jobs-append : (xs ys : List Found) → jobs_among (xs ++ ys) ≡ jobs_among xs ++ jobs_among ys
jobs-append xs ys =
    ap (map job_of) (filter-append opens_as_module xs ys) ∙ map-append job_of (filter opens_as_module xs) (filter opens_as_module ys)

jobs_more : (files : List Found) (i : ℕ) (file : Found) → i < length files → file ≡ get_or files i file → jobs_among (take (i + 1) files) ≡ jobs_among (take i files) ++ jobs_among (file ∷ [])
jobs_more files i file lt is =
    ap jobs_among (take_more files i file lt ∙ ap (λ (f : Found). take i files ++ f ∷ []) (sym is))
    ∙ jobs-append (take i files) (file ∷ [])

-- with those of a file: one where it is a module, and else none
jobs_of_one : (file : Found) (later : List Found) (b : Bool) → opens_as_module file ≡ b → jobs_among (file ∷ later) ≡ map job_of (cond b (file ∷ filter opens_as_module later) (filter opens_as_module later))
jobs_of_one file later b is =
    ap (λ (t : Bool). map job_of (cond t (file ∷ filter opens_as_module later) (filter opens_as_module later))) is

pub jobs_with : (files : List Found) (i : ℕ) (file : Found) (jobs : List Job) → i < length files → file ≡ get_or files i file → opens_as_module file ≡ true → jobs ≡ jobs_among (take i files) → jobs ++ job_of file ∷ [] ≡ jobs_among (take (i + 1) files)
jobs_with files i file jobs lt is module_is jobs_are =
    ap (λ (js : List Job). js ++ job_of file ∷ []) jobs_are
    ∙ (ap (λ (js : List Job). jobs_among (take i files) ++ js) (sym (jobs_of_one file [] true module_is))
    ∙ sym (jobs_more files i file lt is))

pub jobs_without : (files : List Found) (i : ℕ) (file : Found) (jobs : List Job) → i < length files → file ≡ get_or files i file → opens_as_module file ≡ false → jobs ≡ jobs_among (take i files) → jobs ≡ jobs_among (take (i + 1) files)
jobs_without files i file jobs lt is other jobs_are =
    jobs_are
    ∙ (sym (append-nil (jobs_among (take i files)))
    ∙ (ap (λ (js : List Job). jobs_among (take i files) ++ js) (sym (jobs_of_one file [] false other))
    ∙ sym (jobs_more files i file lt is)))

pub short_jobs : (files : List Found) (most : ℕ) → All (λ (file : Found). length file.bytes.now ≤ most) files → All (λ (job : Job). length job.bytes.now ≤ most) (jobs_among files)
short_jobs files most short =
    All-map (λ (job : Job). length job.bytes.now ≤ most) job_of (filter opens_as_module files)
    (All-filter opens_as_module (λ (file : Found). length file.bytes.now ≤ most) files short)

-- ---- the answers

first_opened : (job : Job) (jobs : List Job) (answer : Answer) (answers : List Answer) → AreOpenedAs (job ∷ jobs) (answer ∷ answers) → IsOpenedAs job answer
first_opened job jobs answer answers opened = opened.each zero job answer (omega arith)

rest_opened : (job : Job) (jobs : List Job) (answer : Answer) (answers : List Answer) → AreOpenedAs (job ∷ jobs) (answer ∷ answers) → AreOpenedAs jobs answers
rest_opened job jobs answer answers opened = record {
  len = let all = opened.len in omega (arith, all);
  each = λ k j a lt. opened.each (suc k) j a (omega (arith, lt));
}

module _ {Z : Type 0} where
  -- those of a file and of the files behind it
  pub holds_from : (files : List Found) (i : ℕ) (file : Found) (answers : IntoIter Answer Z) → i < length files → file ≡ get_or files i file → HoldsAnswers (drop i files) answers → HoldsAnswers (file ∷ drop (i + 1) files) answers
  holds_from files i file answers lt is held =
      subst (λ (fs : List Found). HoldsAnswers fs answers) (drop_more files i file lt ∙ ap (λ (f : Found). f ∷ drop (i + 1) files) (sym is)) held

  -- the next answer is that of a module
  pub next_holds : (file : Found) (later : List Found) (before after : IntoIter Answer Z) (answer : Option Answer) → opens_as_module file ≡ true → into_iter_steps before answer after → HoldsAnswers (file ∷ later) before → AnswersFile file answer × HoldsAnswers later after
  next_holds file later before after (Some answer) is step held =
      let jobs = jobs_of_one file later true is in
      let count = ap (λ (js : List Job). length js) jobs in
      let len = held.len in
      let opened : AreOpenedAs (job_of file ∷ jobs_among later) (answer ∷ into_iter_items after) =
      subst (λ (js : List Job). AreOpenedAs js (answer ∷ into_iter_items after)) jobs
      (subst (AreOpenedAs (jobs_among (file ∷ later))) step.0 held.opened) in (
        (is, first_opened (job_of file) (jobs_among later) answer (into_iter_items after) opened),
        record {
          len = let one = step.1 in omega (arith, one, len, count);
          opened = rest_opened (job_of file) (jobs_among later) answer (into_iter_items after) opened;
        },
      )
  next_holds file later before after None is step held =
      let count = ap (λ (js : List Job). length js) (jobs_of_one file later true is) in
      let len = held.len in
      let none = step.0 in
      absurd (omega (arith, none, len, count))
