-- What callers may cite: jobs that are patched one after the other, of joined lists and in slices, and how long the image is.
pub use Rattle.par_patch.proofs.JobLemmas.{length-patched_job, length-patched_jobs, patched_jobs-append, patched_jobs-one, patched_jobs-front, patched_jobs-behind}
pub use Rattle.par_patch.proofs.Theorems.{one_range}
