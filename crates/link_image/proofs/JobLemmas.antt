-- The jobs that patch the fields of the pieces in the file of the image, and what they leave.
use Rattle.std.proofs.Common.{◌≡◌, ◌⊎◌, ℕ, suc, eqb, ltb, ◌+◌, ◌<◌, Bool, true, false, ◌||◌, List, [], ◌∷◌, ◌++◌, length, map, get_or, set, Option, Some, None, refl, sym, ap, subst, ◌∙◌, inl, inr, eq-eqb, length-set, arith}
use Rattle.std.specs.List.{All, AllPairs, Contains, list_any, range_with_len}
use Rattle.std.proofs.lemmas.Bool.{false≢true, cases_lt, cases_eq, ltb-true, eqb-true, lt-ltb, and_parts}
use Rattle.std.proofs.lemmas.List.{get_or_default, get_or_append_left, get_or_past, get_or-map, get_or-set_same, get_or-set_other, ext_get_or, length-map}
use Rattle.std.proofs.lemmas.List.Elements.{All-head, All-tail, All-contains}
use Rattle.std.proofs.lemmas.List.Folds.{list_any_at}
use Rattle.std.proofs.lemmas.List.FromFn.{get_or-map-range_with_len, length-map-range_with_len}
use Rattle.link_base.specs.Bytes.{bytes_at}
use Rattle.link_base.specs.declared.fault.Fault.{Fault}
use Rattle.link_base.specs.declared.fault.Fault.TheVariants as faults
use Rattle.link_base.proofs.RefusalLemmas.{first_refusal_below-found, none_below}
use Rattle.section_group.specs.declared.piece.Piece.{Piece}
use Rattle.section_group.specs.declared.piece.OutSection.{OutSection}
use Rattle.section_group.specs.BarePieces.{bare}
use Rattle.section_group.specs.SectionOrder.{no_piece}
use Rattle.section_group.specs.Uniqueness.{rows_of}
use Rattle.address_layout.specs.declared.layout.Layout.{Layout}
use Rattle.address_layout.specs.Places.{row_at}
use Rattle.image_writer.specs.declared.headers.Headers.{Headers}
use Rattle.image_writer.specs.PieceInFile.{piece_place}
use Rattle.relocate.specs.declared.fix.Fix.{Fix}
use Rattle.relocate.specs.declared.range.RelocRange.{RelocRange}
use Rattle.relocate.specs.Judged.{AreTheFields, ArePatchable}
use Rattle.relocate.specs.PatchedBytes.{patched_bytes}
use Rattle.relocate.specs.Value.{IsLeastOutside, HaveEntries, fits}
use Rattle.relocate.proofs.CallerLemmas.{length_patched}
use Rattle.piece_bytes.specs.Owners.{section_of}
use Rattle.piece_bytes.specs.PieceBytes.{size_at}
use Rattle.par_patch.specs.declared.job.Job.{Job}
use Rattle.par_patch.specs.declared.job.JobRange.{JobRange}
use Rattle.par_patch.specs.PatchedJobs.{EndsBefore, EndsWithin, FieldsFit, IsReady as CanPatch, put_over, bytes_of, patched_job, patched_jobs}
use Rattle.par_patch.specs.LeastRange.{ComesBefore, IsLeastRange}
use Rattle.link_pieces.specs.TablePieces.{KeptParts, whole_pieces}
use Rattle.link_pieces.specs.Pieces.{link_pieces}
use Rattle.link_pieces.proofs.CallerLemmas.{whole_at}
use Rattle.link_plan.specs.Planned.{planned_fixes}
use Rattle.link_plan.proofs.CallerLemmas.{fixes_kept}
use Rattle.link_image.specs.LinkedBytes.{owners_in, contents_at, placed_contents, linked_bytes, linked_contents, piece_range_fault, fields_range_fault}
use Rattle.link_image.specs.PatchJobs.{has_fields, piece_and_place, CanHaveJobs, IsJob, job_place, AreJobs}
use Rattle.link_image.specs.Steps.{IsReady, RefusesRange, file_of}
use Rattle.link_image.proofs.HeldLemmas.{some_fixes, patchable_at, unnamed, length-placed, placed_read}
use Rattle.link_image.proofs.UsedLemmas.{fields_used}
use Rattle.link_image.proofs.StandsLemmas.{OwnerAt, entries}
use Rattle.link_image.proofs.FieldLemmas.{size_here, total_is, owned, rva_here, same_bytes, piece_so, range_here, no_range_here, nothing_linked, no_field, some_bytes, initialised}
use Rattle.link_image.proofs.SortLemmas.{AreLike, lies_at, read_at, put_at, like_after}
use Rattle.link_image.proofs.OrderLemmas.{Precedes, piece_precedes}
use Rattle.link_image.proofs.JobPlaceLemmas.{EndsFirst, IsPlace, all_are, all_apart, place_there, starts_above}

-- no fields, and some
not_some : {X : Type 0} (xs : List X) → ltb 0 (length xs) ≡ false → length xs ≡ 0
not_some [] none = refl
not_some (x ∷ xs) none = absurd (false≢true (sym none ∙ lt-ltb 0 (length (x ∷ xs)) (omega arith)))

-- a job of a piece, among those of which something holds
record HasJobOf (P : Job → Type 0) (k : ℕ) : Type 0 where
  job : Job
  piece : job.piece ≡ k
  holds : P job

job_among : (P : Job → Type 0) (k : ℕ) (jobs : List Job) → All P jobs → list_any (λ (at : ℕ × ℕ). eqb at.0 k) (map job_place jobs) ≡ true → HasJobOf P k
job_among P k [] all any = absurd (false≢true any)
job_among P k (job ∷ jobs) all any = by (eqb job.piece k) refl (job_among P k jobs (All-tail P job jobs all))
  where
    by : (b : Bool) → eqb job.piece k ≡ b → (list_any (λ (at : ℕ × ℕ). eqb at.0 k) (map job_place jobs) ≡ true → HasJobOf P k) → HasJobOf P k
    by true is later = record { job = job; piece = eqb-true job.piece k is; holds = All-head P job jobs all }
    by false apart later =
        later (sym (ap (λ (b : Bool). b || list_any (λ (at : ℕ × ℕ). eqb at.0 k) (map job_place jobs)) apart) ∙ any)

module _ (link : KeptParts) (pieces : List Piece) (fixups : List (List Fix)) (sections : List OutSection) (layout : Layout) (owner : List ℕ) (tables : List (List ℕ)) (ready : IsReady link pieces fixups sections layout owner tables) where
  -- ---- a piece with fields

  pub record IsFielded (k : ℕ) : Type 0 where
    pub within : k < length pieces
    pub init : (get_or pieces k no_piece).init ≡ true
    pub some : 0 < size_at pieces k
    pub size : length (contents_at link layout k) ≡ size_at pieces k
    pub at : OwnerAt sections k
    pub fields : AreTheFields (planned_fixes link k) (get_or fixups k [])
    pub patchable : ArePatchable (length (contents_at link layout k)) (get_or fixups k [])
    pub relocated : 0 < length (planned_fixes link k)

  in_pieces : (k : ℕ) → 0 < length (get_or fixups k []) → k < length pieces
  in_pieces k some =
      elim (cases_lt k (length fixups)) [
        | inl inside ↦ omega (arith, inside, ready.fields.for_each)
        | inr past ↦ absurd (let none = ap (λ (fs : List Fix). length fs) (get_or_past fixups k [] past) in omega (arith, some, none))
      ]

  pub fielded : (k : ℕ) → has_fields fixups k ≡ true → IsFielded k
  fielded k has =
      let some = ltb-true 0 (length (get_or fixups k [])) has in
      let lt = in_pieces k some in
      let fields = ready.fields.fields k lt in
      let patchable = patchable_at link layout fixups (length pieces) ready.fields k lt in
      let relocated = some_fixes (planned_fixes link k) (get_or fixups k []) fields some in
      let both = initialised link pieces fixups sections layout owner tables ready k lt (some_bytes link pieces fixups sections layout owner tables ready k (get_or fixups k []) patchable some) in
      record {
        within = lt;
        init = both.0;
        some = both.1;
        size = size_here link pieces fixups sections layout owner tables ready k lt both.0;
        at = owned link pieces fixups sections layout owner tables ready k lt (fields_used ready.options link k ready.kept_are relocated) both.1;
        fields = fields;
        patchable = patchable;
        relocated = relocated;
      }

  abbrev whole : List Piece
  whole = pieces ++ ready.rest

  in_whole : (k : ℕ) → k < length pieces → get_or whole k no_piece ≡ get_or pieces k no_piece
  in_whole k lt = get_or_append_left pieces ready.rest no_piece k lt

  filled_at : (k : ℕ) → has_fields fixups k ≡ true → ((get_or whole k no_piece).init ≡ true) × (0 < (get_or whole k no_piece).size)
  filled_at k has =
      let f = fielded k has in
      let is = in_whole k f.within in
      (ap (λ (p : Piece). p.init) is ∙ f.init, omega (arith, f.some, ap (λ (p : Piece). p.size) is))

  pub can_have_jobs : CanHaveJobs pieces fixups sections layout
  can_have_jobs i there j d lt has =
      let k = get_or (row_at sections i).1 j d in
      let f = fielded k has in
      let start = starts_above whole fixups sections layout ready.laid i j there lt in
      let rva = ap (λ (n : ℕ). get_or layout.pieces.items n 0) (get_or_default (row_at sections i).1 j d 0 lt) in
      record {
        piece = f.within;
        fields = omega (arith, f.within, ready.fields.for_each);
        placed = rva_here link pieces fixups sections layout owner tables ready k f.within;
        in_layout = omega (arith, there, ready.laid.section_for_each);
        above = omega (arith, start, rva);
      }

  -- ---- the order of pieces with fields

  in_link : (k : ℕ) → IsFielded k → k < length (link_pieces link.parts)
  in_link k f =
      ltb-true k (length (link_pieces link.parts))
      (and_parts (ltb k (length (link_pieces link.parts))) (get_or link.kept k false) (fixes_kept link k f.relocated)).0

  same_piece : (k : ℕ) → k < length pieces → k < length (link_pieces link.parts) → unnamed (bare (get_or pieces k no_piece)) ≡ unnamed (get_or (link_pieces link.parts) k no_piece)
  same_piece k lt inside = piece_so link pieces fixups sections layout owner tables ready k lt ∙ ap unnamed (whole_at link k inside)

  precedes : (k later : ℕ) → k < later → IsFielded k → IsFielded later → Precedes (get_or pieces k no_piece) (get_or pieces later no_piece)
  precedes k later lt f g =
      let first = same_piece k f.within (in_link k f) in
      let second = same_piece later g.within (in_link later g) in
      let init = sym (ap (λ (p : Piece). p.init) second) ∙ g.init in
      elim (piece_precedes link.parts ready.few_modules k later lt (in_link later g) init) [
        | inl before ↦ inl (omega (arith, before, ap (λ (p : Piece). p.«module») first, ap (λ (p : Piece). p.«module») second))
        | inr after ↦
            inr (ap (λ (p : Piece). p.«module») first ∙ after.0 ∙ sym (ap (λ (p : Piece). p.«module») second), omega (arith, after.1, ap (λ (p : Piece). p.number) first, ap (λ (p : Piece). p.number) second))
      ]

  module _ (headers : Headers) (directories : length headers.directories ≡ 16) (jobs : List Job) (are : AreJobs pieces fixups sections layout jobs) where
    abbrev file : List (List ℕ) → List ℕ
    file contents = file_of headers sections layout contents tables

    abbrev before : List (List ℕ)
    before = placed_contents link layout

    abbrev linked : ℕ → List ℕ
    linked k = linked_bytes link (rows_of sections) layout headers.base k

    abbrev Like : List (List ℕ) → Type 0
    Like contents = AreLike link pieces fixups sections layout owner tables ready headers directories contents

    -- ---- the jobs

    record IsPlacedJob (job : Job) : Type 0 where
      section : ℕ
      there : section < length sections
      number : ℕ
      within : number < length (row_at sections section).1
      is : get_or (row_at sections section).1 number 0 ≡ job.piece
      start : job.start ≡ piece_place layout section job.piece
      fields : has_fields fixups job.piece ≡ true
      own : IsJob pieces fixups job

    placed_job : (job : Job) → IsPlace whole fixups sections layout ready.laid (job_place job) → IsJob pieces fixups job → IsPlacedJob job
    placed_job job at own = record {
      section = at.section;
      there = at.there;
      number = at.stands.number;
      within = at.stands.within;
      is = at.stands.is;
      start = at.stands.place;
      fields = at.stands.fields;
      own = own;
    }

    jobs_placed : All IsPlacedJob jobs
    jobs_placed k d lt =
        let places : All (IsPlace whole fixups sections layout ready.laid) (map job_place jobs) =
        subst (All (IsPlace whole fixups sections layout ready.laid)) (sym are.places) (all_are whole fixups sections layout ready.laid) in
        placed_job (get_or jobs k d)
        (subst (IsPlace whole fixups sections layout ready.laid) (get_or-map job_place jobs k d (job_place d) lt) (places k (job_place d) (omega (arith, lt, length-map jobs job_place))))
        (are.each k d lt)

    -- one ends before another, in the file and in memory
    record IsBefore (job other : Job) : Type 0 where
      in_file : EndsBefore job other
      pieces_apart : other.piece ≡ job.piece → ⊥

    one_before : (job other : Job) → EndsFirst whole fixups sections layout ready.laid (job_place job) (job_place other) → IsPlacedJob job → IsBefore job other
    one_before job other ends placed =
        let f = fielded job.piece placed.fields in
        let size = ap (λ (p : Piece). p.size) (in_whole job.piece f.within) in
        record {
          in_file = omega (arith, ends.in_file, placed.own.len_is, size);
          pieces_apart = λ same.
              let rva = ap (λ (n : ℕ). get_or layout.pieces.items n 0) same in
              omega (arith, ends.in_memory, rva, size, f.some);
        }

    pairs_before : AllPairs IsBefore jobs
    pairs_before i j d lt within =
        let places : AllPairs (EndsFirst whole fixups sections layout ready.laid) (map job_place jobs) =
        subst (AllPairs (EndsFirst whole fixups sections layout ready.laid)) (sym are.places) (all_apart whole fixups sections layout ready.laid filled_at) in
        one_before (get_or jobs i d) (get_or jobs j d)
        (subst (λ (at : ℕ × ℕ). EndsFirst whole fixups sections layout ready.laid at (job_place (get_or jobs j d))) (get_or-map job_place jobs i d (job_place d) (omega (arith, lt, within)))
        (subst (EndsFirst whole fixups sections layout ready.laid (get_or (map job_place jobs) i (job_place d))) (get_or-map job_place jobs j d (job_place d) within)
        (places i j (job_place d) lt (omega (arith, within, length-map jobs job_place)))))
        (jobs_placed i d (omega (arith, lt, within)))

    pub jobs_apart : AllPairs EndsBefore jobs
    jobs_apart i j d lt within = (pairs_before i j d lt within).in_file

    -- ---- what each can be given

    like_placed : Like (placed_contents link layout)
    like_placed = record {
      count = length-placed link layout;
      long = λ k lt. ap (λ (bytes : List ℕ). length bytes) (placed_read link layout k lt);
    }

    pub jobs_within : All (EndsWithin (length (file_of headers sections layout (placed_contents link layout) tables))) jobs
    jobs_within k d lt =
        let job = get_or jobs k d in
        let placed = jobs_placed k d lt in
        let f = fielded job.piece placed.fields in
        let lies = lies_at link pieces fixups sections layout owner tables ready headers directories placed.section placed.there (placed_contents link layout) placed.number job.piece like_placed placed.within placed.is (f.within, f.size) in
        omega (arith, lies.inside f.some, placed.start, placed.own.len_is)

    pub jobs_ready : All (CanPatch layout owner) jobs
    jobs_ready k d lt =
        let job = get_or jobs k d in
        let placed = jobs_placed k d lt in
        let f = fielded job.piece placed.fields in
        let fields = sym placed.own.fixups_are in
        record {
          patchable =
              subst (λ (n : ℕ). ArePatchable n job.fixups.now) (f.size ∙ sym placed.own.len_is)
              (subst (ArePatchable (length (contents_at link layout job.piece))) fields f.patchable);
          entries =
              subst (HaveEntries layout owner) fields
              (entries link pieces fixups sections layout owner tables ready job.piece (get_or fixups job.piece []) f.within f.fields);
          piece = rva_here link pieces fixups sections layout owner tables ready job.piece f.within;
        }

    -- ---- the bytes

    length_linked : (k : ℕ) → length (linked_bytes link (rows_of sections) layout headers.base k) ≡ length (contents_at link layout k)
    length_linked k = length_patched headers.base (get_or layout.pieces.items k 0) layout (owners_in (rows_of sections) layout) (planned_fixes link k) (contents_at link layout k)

    -- contents in which the piece of a job is not patched yet
    abbrev IsFresh : List (List ℕ) → Job → Type 0
    IsFresh contents job = get_or contents job.piece [] ≡ contents_at link layout job.piece

    fresh_bytes : (job : Job) (contents : List (List ℕ)) → Like contents → IsPlacedJob job → IsFresh contents job → bytes_of (file contents) job ≡ contents_at link layout job.piece
    fresh_bytes job contents like placed fresh =
        let f = fielded job.piece placed.fields in
        ap (λ (start : ℕ). bytes_at (file contents) start job.len) placed.start
        ∙ ap (bytes_at (file contents) (piece_place layout placed.section job.piece)) placed.own.len_is
        ∙ read_at link pieces fixups sections layout owner tables ready headers directories placed.section placed.there contents placed.number job.piece like placed.within placed.is (f.within, f.size)
        ∙ fresh

    patched_one : (job : Job) (contents : List (List ℕ)) → Like contents → IsPlacedJob job → IsFresh contents job → patched_job headers.base layout owner job (file contents) ≡ file (set contents job.piece (linked job.piece))
    patched_one job contents like placed fresh =
        let k = job.piece in
        let f = fielded k placed.fields in
        let rva = get_or layout.pieces.items k 0 in
        let part : patched_bytes headers.base rva layout owner job.fixups.now (bytes_of (file contents) job) ≡ linked k =
        ap (patched_bytes headers.base rva layout owner job.fixups.now) (fresh_bytes job contents like placed fresh)
        ∙ ap (λ (fields : List Fix). patched_bytes headers.base rva layout owner fields (contents_at link layout k)) placed.own.fixups_are
        ∙ same_bytes link pieces fixups sections layout owner tables ready headers.base k (get_or fixups k []) f.within f.fields f.patchable in
        ap (λ (bytes : List ℕ). put_over job.start bytes (file contents)) part
        ∙ ap (λ (start : ℕ). put_over start (linked k) (file contents)) placed.start
        ∙ put_at link pieces fixups sections layout owner tables ready headers directories placed.section placed.there contents placed.number k (linked k) like placed.within placed.is f.within (length_linked k ∙ sym (ap (λ (bytes : List ℕ). length bytes) fresh))

    -- contents in which the pieces of jobs are patched
    filled : List (List ℕ) → List Job → List (List ℕ)
    filled contents [] = contents
    filled contents (job ∷ rest) = filled (set contents job.piece (linked job.piece)) rest

    patched_all : (rest : List Job) (contents : List (List ℕ)) → Like contents → All IsPlacedJob rest → AllPairs IsBefore rest → All (IsFresh contents) rest → patched_jobs headers.base layout owner rest (file contents) ≡ file (filled contents rest)
    unfolding patched_jobs filled
    patched_all [] contents like placed apart fresh = refl
    patched_all (job ∷ rest) contents like placed apart fresh =
        let k = job.piece in
        let here = All-head IsPlacedJob job rest placed in
        let own = All-head (IsFresh contents) job rest fresh in
        let f = fielded k here.fields in
        let lt : k < length contents = omega (arith, f.within, total_is link pieces fixups sections layout owner tables ready, like.count) in
        let len = length_linked k ∙ sym (ap (λ (bytes : List ℕ). length bytes) own) in
        ap (patched_jobs headers.base layout owner rest) (patched_one job contents like here own)
        ∙ patched_all rest (set contents k (linked k)) (like_after link pieces fixups sections layout owner tables ready headers directories here.section here.there contents k (linked k) like len lt) (All-tail IsPlacedJob job rest placed)
        (λ i j d lt within. apart (suc i) (suc j) d (omega (arith, lt)) (omega (arith, within)))
        (λ j d within.
        get_or-set_other contents k (get_or rest j d).piece (linked k) [] (apart 0 (suc j) d (omega arith) (omega (arith, within))).pieces_apart
        ∙ fresh (suc j) d (omega (arith, within)))

    -- ---- all contents

    filled_count : (rest : List Job) (contents : List (List ℕ)) → length (filled contents rest) ≡ length contents
    unfolding filled
    filled_count [] contents = refl
    filled_count (job ∷ rest) contents =
        filled_count rest (set contents job.piece (linked job.piece)) ∙ length-set contents job.piece (linked job.piece)

    abbrev has_job : List Job → ℕ → Bool
    has_job rest k = list_any (λ (at : ℕ × ℕ). eqb at.0 k) (map job_place rest)

    filled_read : (rest : List Job) (contents : List (List ℕ)) (k : ℕ) → k < length contents → (get_or contents k [] ≡ linked k) ⊎ (has_job rest k ≡ true) → get_or (filled contents rest) k [] ≡ linked k
    unfolding filled
    filled_read [] contents k lt (inl is) = is
    filled_read [] contents k lt (inr any) = absurd (false≢true any)
    filled_read (job ∷ rest) contents k lt known =
        filled_read rest (set contents job.piece (linked job.piece)) k (omega (arith, lt, length-set contents job.piece (linked job.piece)))
        (elim (cases_eq k job.piece) [
          | inl same ↦
              inl (ap (λ (n : ℕ). get_or (set contents n (linked n)) k []) (sym same) ∙ get_or-set_same contents k (linked k) [] lt)
          | inr apart ↦ elim known [
            | inl is ↦ inl (get_or-set_other contents job.piece k (linked job.piece) [] apart ∙ is)
            | inr any ↦ inr (sym (ap (λ (b : Bool). b || has_job rest k) (other job.piece k apart)) ∙ any)
          ]
        ])
      where
        other : (a b : ℕ) → (b ≡ a → ⊥) → eqb a b ≡ false
        other a b apart = by (eqb a b) refl
          where
            by : (c : Bool) → eqb a b ≡ c → c ≡ false
            by true is = absurd (apart (sym (eqb-true a b is)))
            by false is = refl

    -- a piece with fields has a job
    job_there : (k : ℕ) → has_fields fixups k ≡ true → has_job jobs k ≡ true
    job_there k has =
        let f = fielded k has in
        let i = section_of (rows_of sections) k in
        let m = get_or (row_at sections i).1 f.at.number 0 in
        let own : has_fields fixups m ≡ true = subst (λ (n : ℕ). has_fields fixups n ≡ true) (sym f.at.is) has in
        let found = place_there whole fixups sections layout ready.laid i f.at.number f.at.there f.at.within own in
        let among : Contains (map job_place jobs) (piece_and_place layout i m) = subst (λ (ps : List (ℕ × ℕ)). Contains ps (piece_and_place layout i m)) (sym are.places) found in
        list_any_at (λ (at : ℕ × ℕ). eqb at.0 k) (map job_place jobs) among.0 (piece_and_place layout i m) among.1 (ap (λ (at : ℕ × ℕ). eqb at.0 k) among.2 ∙ eq-eqb m k f.at.is)

    all_linked : filled (placed_contents link layout) jobs ≡ linked_contents link (rows_of sections) layout headers.base
    unfolding linked_contents
    all_linked =
        let total = length (whole_pieces link) in
        let same = total_is link pieces fixups sections layout owner tables ready in
        let count = filled_count jobs (placed_contents link layout) ∙ length-placed link layout in
        ext_get_or [] (filled (placed_contents link layout) jobs) (map linked (range_with_len 0 total)) (count ∙ sym (length-map-range_with_len linked 0 total)) (λ k lt.
        let within : k < total = omega (arith, lt, count) in
        filled_read jobs (placed_contents link layout) k (omega (arith, within, length-placed link layout)) (by k (omega (arith, within, same)) (has_fields fixups k) refl)
        ∙ sym (get_or-map-range_with_len linked 0 total k k [] within (omega arith)))
      where
        by : (k : ℕ) → k < length pieces → (b : Bool) → has_fields fixups k ≡ b → (get_or (placed_contents link layout) k [] ≡ linked k) ⊎ (has_job jobs k ≡ true)
        by k lt true has = inr (job_there k has)
        by k lt false none =
            let total = total_is link pieces fixups sections layout owner tables ready in
            inl (placed_read link layout k (omega (arith, lt, total))
            ∙ sym (nothing_linked link pieces fixups sections layout owner tables ready headers.base k (get_or fixups k []) lt (ready.fields.fields k lt) (patchable_at link layout fixups (length pieces) ready.fields k lt) (not_some (get_or fixups k []) none)))

    fresh_placed : All (IsFresh (placed_contents link layout)) jobs
    fresh_placed k d lt =
        let f = fielded (get_or jobs k d).piece (jobs_placed k d lt).fields in
        placed_read link layout (get_or jobs k d).piece (omega (arith, f.within, total_is link pieces fixups sections layout owner tables ready))

    pub all_patched : patched_jobs headers.base layout owner jobs (file_of headers sections layout (placed_contents link layout) tables) ≡ file_of headers sections layout (linked_contents link (rows_of sections) layout headers.base) tables
    all_patched =
        patched_all jobs (placed_contents link layout) like_placed jobs_placed pairs_before fresh_placed ∙ ap file all_linked

    -- ---- values that do not fit

    abbrev Fit : Job → Type 0
    Fit job = FieldsFit headers.base layout owner (file_of headers sections layout (placed_contents link layout) tables) job

    abbrev fault_at : ℕ → Option Fault
    fault_at k = piece_range_fault link (rows_of sections) layout headers.base k

    read_so : (job : Job) → IsPlacedJob job → bytes_of (file (placed_contents link layout)) job ≡ contents_at link layout job.piece
    read_so job placed =
        let f = fielded job.piece placed.fields in
        fresh_bytes job (placed_contents link layout) like_placed placed (placed_read link layout job.piece (omega (arith, f.within, total_is link pieces fixups sections layout owner tables ready)))

    job_fits : (job : Job) → IsPlacedJob job → Fit job → fault_at job.piece ≡ None
    job_fits job placed fit =
        let k = job.piece in
        let f = fielded k placed.fields in
        let rva = get_or layout.pieces.items k 0 in
        no_range_here link pieces fixups sections layout owner tables ready headers.base k (get_or fixups k []) f.within f.fields
        (subst (λ (fields : List Fix). All (λ fix. fits headers.base rva layout owner (contents_at link layout k) fix ≡ true) fields) placed.own.fixups_are
        (subst (λ (bytes : List ℕ). All (λ fix. fits headers.base rva layout owner bytes fix ≡ true) job.fixups.now) (read_so job placed) fit))

    none_here : (k : ℕ) → k < length pieces → (has_fields fixups k ≡ true → fault_at k ≡ None) → fault_at k ≡ None
    none_here k lt fit = by (has_fields fixups k) refl
      where
        by : (b : Bool) → has_fields fixups k ≡ b → fault_at k ≡ None
        by true has = fit has
        by false none =
            no_range_here link pieces fixups sections layout owner tables ready headers.base k (get_or fixups k []) lt (ready.fields.fields k lt)
            (no_field link pieces fixups sections layout owner tables ready headers.base (get_or layout.pieces.items k 0) (contents_at link layout k) (get_or fixups k []) (not_some (get_or fixups k []) none))

    pub all_fit : All Fit jobs → fields_range_fault link (rows_of sections) layout headers.base ≡ None
    unfolding fields_range_fault
    all_fit fit =
        none_below (length (whole_pieces link)) (piece_range_fault link (rows_of sections) layout headers.base) (λ k lt.
        none_here k (omega (arith, lt, total_is link pieces fixups sections layout owner tables ready)) (λ has.
        let own = job_among (λ job. IsPlacedJob job × Fit job) k jobs (λ j d within. (jobs_placed j d within, fit j d within)) (job_there k has) in
        subst (λ (n : ℕ). fault_at n ≡ None) own.piece (job_fits own.job own.holds.0 own.holds.1)))

    -- the one that is told is the first
    pub least_told : (range : JobRange) → IsLeastRange headers.base layout owner jobs (file_of headers sections layout (placed_contents link layout) tables) range → fields_range_fault link (rows_of sections) layout headers.base ≡ Some (faults.RelocRange (Some range.«module») range.section range.index range.value)
    unfolding fields_range_fault
    least_told range told =
        first_refusal_below-found k (length (whole_pieces link)) (piece_range_fault link (rows_of sections) layout headers.base) (faults.RelocRange (Some range.«module») range.section range.index range.value) (omega (arith, f.within, total_is link pieces fixups sections layout owner tables ready))
        (none_below k (piece_range_fault link (rows_of sections) layout headers.base) (λ j lt. none_here j (omega (arith, lt, f.within)) (earlier j lt)))
        (range_here link pieces fixups sections layout owner tables ready headers.base k (get_or fixups k []) (faults.RelocRange (Some range.«module») range.section range.index range.value) f.within f.fields refused)
      where
        job : Job
        job = told.job

        placed : IsPlacedJob told.job
        placed = All-contains IsPlacedJob jobs told.job jobs_placed told.there

        k : ℕ
        k = told.job.piece

        f : IsFielded told.job.piece
        f = fielded told.job.piece placed.fields

        of_module : range.«module» ≡ (get_or pieces told.job.piece no_piece).«module»
        of_module = told.its.module_is ∙ placed.own.module_is

        of_section : range.section ≡ (get_or pieces told.job.piece no_piece).number
        of_section = told.its.section_is ∙ placed.own.section_is

        outside : RelocRange
        outside = record { index = range.index; value = range.value }

        refused : RefusesRange headers.base (get_or layout.pieces.items told.job.piece 0) layout owner (get_or fixups told.job.piece []) (contents_at link layout told.job.piece) (get_or pieces told.job.piece no_piece) (faults.RelocRange (Some range.«module») range.section range.index range.value)
        refused = record {
          range = record { index = range.index; value = range.value };
          least =
              subst (λ (fields : List Fix). IsLeastOutside headers.base (get_or layout.pieces.items told.job.piece 0) layout owner fields (contents_at link layout told.job.piece) (record { index = range.index; value = range.value })) placed.own.fixups_are
              (subst (λ (bytes : List ℕ). IsLeastOutside headers.base (get_or layout.pieces.items told.job.piece 0) layout owner told.job.fixups.now bytes (record { index = range.index; value = range.value })) (read_so told.job placed) told.its.outside);
          is =
              ap (λ (m : ℕ). faults.RelocRange (Some m) range.section range.index range.value) of_module
              ∙ ap (λ (n : ℕ). faults.RelocRange (Some (get_or pieces told.job.piece no_piece).«module») n range.index range.value) of_section;
        }

        earlier : (j : ℕ) → j < told.job.piece → has_fields fixups j ≡ true → fault_at j ≡ None
        earlier j lt has =
            let own = job_among (λ other. IsPlacedJob other × (ComesBefore other range → Fit other)) j jobs (λ i d within. (jobs_placed i d within, told.least i d within)) (job_there j has) in
            let first = own.holds.0.own in
            let module_is : own.job.«module» ≡ (get_or pieces j no_piece).«module» = first.module_is ∙ ap (λ (n : ℕ). (get_or pieces n no_piece).«module») own.piece in
            let section_is : own.job.section ≡ (get_or pieces j no_piece).number = first.section_is ∙ ap (λ (n : ℕ). (get_or pieces n no_piece).number) own.piece in
            let comes : ComesBefore own.job range =
            elim (precedes j told.job.piece lt (fielded j has) f) [
              | inl before ↦ inl (omega (arith, before, module_is, of_module))
              | inr after ↦ inr (module_is ∙ after.0 ∙ sym of_module, omega (arith, after.1, section_is, of_section))
            ] in
            subst (λ (n : ℕ). fault_at n ≡ None) own.piece (job_fits own.job own.holds.0 (own.holds.1 comes))
