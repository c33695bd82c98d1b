-- The bytes of an image once the fields of its jobs are patched, and whether their values fit. Own.
use Rattle.std.specs.Prelude.{◌≡◌, ℕ, ◌+◌, ◌<◌, ◌≤◌, true, List, [], ◌∷◌, ◌++◌, length, take, drop, slice_index}
use Rattle.std.specs.List.{All}
use Rattle.link_base.specs.Bytes.{bytes_at}
use Rattle.address_layout.specs.declared.layout.Layout.{Layout}
use Rattle.relocate.specs.Judged.{ArePatchable}
use Rattle.relocate.specs.PatchedBytes.{patched_bytes}
use Rattle.relocate.specs.Value.{HaveEntries, fits}
use Rattle.par_patch.specs.declared.job.Job.{Job}

-- ---- a job

-- the RVA of its piece
abbrev pub rva_of : Layout → Job → ℕ
rva_of layout job = slice_index layout.pieces.items job.piece

-- the bytes of its piece in an image
abbrev pub bytes_of : List ℕ → Job → List ℕ
bytes_of image job = bytes_at image job.start job.len

-- its fields can be patched, its targets have their entries, and its piece has an RVA
pub record IsReady (layout : Layout) (owner : List ℕ) (job : Job) : Type 0 where
  pub patchable : ArePatchable job.len job.fixups.now
  pub entries : HaveEntries layout owner job.fixups.now
  pub piece : job.piece < length layout.pieces.items

-- its piece ends before that of another begins
abbrev pub EndsBefore : Job → Job → Type 0
EndsBefore job other = job.start + job.len ≤ other.start

-- its piece ends inside so many bytes
abbrev pub EndsWithin : ℕ → Job → Type 0
EndsWithin len job = job.start + job.len ≤ len

-- ---- the bytes

-- bytes put over those from a place on
abbrev pub put_over : ℕ → List ℕ → List ℕ → List ℕ
put_over place part bytes = take place bytes ++ (part ++ drop (place + length part) bytes)

-- the image with the fields of a job patched, by their old contents in it
abbrev pub patched_job : ℕ → Layout → List ℕ → Job → List ℕ → List ℕ
patched_job base layout owner job image =
    put_over job.start (patched_bytes base (rva_of layout job) layout owner job.fixups.now (bytes_of image job)) image

-- the same of the jobs of a list, one after the other
unfoldable pub patched_jobs : ℕ → Layout → List ℕ → List Job → List ℕ → List ℕ
patched_jobs base layout owner [] image = image
patched_jobs base layout owner (job ∷ jobs) image = patched_jobs base layout owner jobs (patched_job base layout owner job image)

-- ---- the values

-- each field of a job has a value in the range of its type
abbrev pub FieldsFit : ℕ → Layout → List ℕ → List ℕ → Job → Type 0
FieldsFit base layout owner image job =
    All (λ fix. fits base (rva_of layout job) layout owner (bytes_of image job) fix ≡ true) job.fixups.now
