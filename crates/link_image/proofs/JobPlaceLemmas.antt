-- Where the pieces with fields stand in the file: each ends before the next one begins.
use Rattle.std.proofs.Common.{◌≡◌, ℕ, zero, suc, ◌+◌, ◌<◌, ◌≤◌, Bool, true, false, cond, eqb, List, [], ◌∷◌, ◌++◌, length, map, filter, take, get_or, append_assoc, append-nil, refl, sym, ap, ◌∙◌, subst, inl, inr, arith}
use Rattle.std.specs.List.{All, AllPairs, Contains}
use Rattle.std.proofs.lemmas.Bool.{cases_lt, false≢true, eqb-true}
use Rattle.std.proofs.lemmas.List.{get_or_default, map-append}
use Rattle.std.proofs.lemmas.List.Elements.{All-nil, All-cons, All-map, All-weaker, filter_more}
use Rattle.std.proofs.lemmas.List.Kept.{AllPairs-filter}
use Rattle.link_base.proofs.RangeLemmas.{all_joined, joined_grows, joined_there}
use Rattle.section_group.specs.declared.piece.Piece.{Piece}
use Rattle.section_group.specs.declared.piece.OutSection.{OutSection}
use Rattle.section_group.specs.SectionOrder.{no_piece}
use Rattle.address_layout.specs.declared.layout.Layout.{Layout}
use Rattle.address_layout.specs.declared.layout.Placed.{Placed}
use Rattle.address_layout.specs.Layout.{placed_at}
use Rattle.address_layout.specs.Places.{row_at, piece_in, end_before, file_before}
use Rattle.address_layout.proofs.CallerLemmas.{row_here}
use Rattle.relocate.specs.declared.fix.Fix.{Fix}
use Rattle.image_writer.specs.PieceInFile.{piece_place}
use Rattle.image_writer.specs.WrittenImage.{place_in, IsLaidOut}
use Rattle.par_patch.specs.declared.job.Job.{Job}
use Rattle.link_image.specs.PatchJobs.{has_fields, piece_and_place, places_at, section_places, places_below, job_place}
use Rattle.link_image.proofs.OrderLemmas.{pairs_map, pairs_joined}

-- ---- lists of what passes a test

kept_each : (P : ℕ → Type 0) (test : ℕ → Bool) (xs : List ℕ) → ((j : ℕ) → j < length xs → test (get_or xs j 0) ≡ true → P (get_or xs j 0)) → All P (filter test xs)
kept_each P test [] each = All-nil P
kept_each P test (x ∷ xs) each = by (test x) refl (kept_each P test xs (λ j lt is. each (suc j) (omega (arith, lt)) is))
  where
    by : (b : Bool) → test x ≡ b → All P (filter test xs) → All P (cond b (x ∷ filter test xs) (filter test xs))
    by true is rest = All-cons P x (filter test xs) (each 0 (omega arith) is) rest
    by false is rest = rest

kept_there : {Y : Type 0} (f : ℕ → Y) (test : ℕ → Bool) (xs : List ℕ) (j : ℕ) → j < length xs → test (get_or xs j 0) ≡ true → Contains (map f (filter test xs)) (f (get_or xs j 0))
kept_there f test [] j lt is = absurd (omega (arith, lt))
kept_there {Y} f test (x ∷ xs) zero lt is = by (test x) is
  where
    by : (b : Bool) → b ≡ true → Contains (map f (cond b (x ∷ filter test xs) (filter test xs))) (f x)
    by true e = (0, omega arith, refl)
    by false e = absurd (false≢true e)
kept_there {Y} f test (x ∷ xs) (suc j) lt is = by (test x) (kept_there f test xs j (omega (arith, lt)) is)
  where
    by : (b : Bool) → Contains (map f (filter test xs)) (f (get_or xs j 0)) → Contains (map f (cond b (x ∷ filter test xs) (filter test xs))) (f (get_or xs j 0))
    by true there = (suc there.0, omega (arith, there.1), there.2)
    by false there = there

-- raw data stand in the file where there are some
file_is : (raw file before : ℕ) → file ≡ cond (eqb raw 0) 0 before → 0 < raw → file ≡ before
file_is raw file before is some = is ∙ by (eqb raw 0) refl
  where
    by : (b : Bool) → eqb raw 0 ≡ b → cond b 0 before ≡ before
    by true none = absurd (let zero = eqb-true raw 0 none in omega (arith, some, zero))
    by false some = refl

module _ (whole : List Piece) (fixups : List (List Fix)) (sections : List OutSection) (layout : Layout) (laid : IsLaidOut whole sections layout) where
  abbrev rvas : List ℕ
  rvas = layout.pieces.items

  abbrev members : ℕ → List ℕ
  members i = (row_at sections i).1

  abbrev placed : ℕ → Placed
  placed i = placed_at layout.sections.items i

  abbrev size : ℕ → ℕ
  size k = (get_or whole k no_piece).size

  -- ---- in a section

  ends_below : (i j later : ℕ) → i < length sections → j < later → later < length (members i) → place_in rvas (row_at sections i) j + (piece_in whole (row_at sections i) j).size ≤ place_in rvas (row_at sections i) later
  ends_below i j zero there lt within = absurd (omega (arith, lt))
  ends_below i j (suc later) there lt within =
      let next = (laid.each i there).ascending (suc later) within in
      elim (cases_lt j later) [
        | inl below ↦ let rest = ends_below i j later there below (omega (arith, within)) in omega (arith, rest, next)
        | inr level ↦
            let same : later ≡ j = omega (arith, lt, level) in
            subst (λ (n : ℕ). place_in rvas (row_at sections i) n + (piece_in whole (row_at sections i) n).size ≤ place_in rvas (row_at sections i) (suc later)) same next
      ]

  pub starts_above : (i j : ℕ) → i < length sections → j < length (members i) → (placed i).rva ≤ place_in rvas (row_at sections i) j
  starts_above i zero there within = (laid.each i there).ascending 0 within
  starts_above i (suc j) there within =
      let before = starts_above i j there (omega (arith, within)) in
      let next = (laid.each i there).ascending (suc j) within in
      omega (arith, before, next)

  -- ---- the places of pieces with fields

  -- one piece ends before another begins, in the file and in memory
  pub record EndsFirst (at other : ℕ × ℕ) : Type 0 where
    pub in_file : at.1 + size at.0 ≤ other.1
    pub in_memory : get_or rvas at.0 0 + size at.0 ≤ get_or rvas other.0 0

  -- a piece of a section with fields, at its place
  pub record IsPlaceIn (i : ℕ) (at : ℕ × ℕ) : Type 0 where
    pub number : ℕ
    pub within : number < length (members i)
    pub is : get_or (members i) number 0 ≡ at.0
    pub place : at.1 ≡ piece_place layout i at.0
    pub fields : has_fields fixups at.0 ≡ true

  pub record IsPlace (at : ℕ × ℕ) : Type 0 where
    pub section : ℕ
    pub there : section < length sections
    pub stands : IsPlaceIn section at

  section_are : (i : ℕ) → All (IsPlaceIn i) (section_places fixups sections layout i)
  section_are i =
      All-map (IsPlaceIn i) (piece_and_place layout i) (filter (has_fields fixups) (members i))
      (kept_each (λ k. IsPlaceIn i (piece_and_place layout i k)) (has_fields fixups) (members i) (λ j lt has.
      record { number = j; within = lt; is = refl; place = refl; fields = has }))

  pub all_are : All IsPlace (places_below fixups sections layout (length sections))
  unfolding places_below
  all_are =
      all_joined IsPlace (section_places fixups sections layout) 0 (length sections) (λ i low high.
      All-weaker (IsPlaceIn i) IsPlace (λ at is. record { section = i; there = omega (arith, high); stands = is }) (section_places fixups sections layout i) (section_are i))

  pub place_there : (i j : ℕ) → i < length sections → j < length (members i) → has_fields fixups (get_or (members i) j 0) ≡ true → Contains (places_below fixups sections layout (length sections)) (piece_and_place layout i (get_or (members i) j 0))
  unfolding places_below
  place_there i j there within has =
      joined_there (section_places fixups sections layout) 0 (length sections) i (piece_and_place layout i (get_or (members i) j 0)) (omega arith) (omega (arith, there))
      (kept_there (piece_and_place layout i) (has_fields fixups) (members i) j within has)

  one_after : (i j later k m : ℕ) → i < length sections → j < later → later < length (members i) → k ≡ get_or (members i) j 0 → m ≡ get_or (members i) later 0 → EndsFirst (piece_and_place layout i k) (piece_and_place layout i m)
  one_after i j later k m there lt within is other =
      let ends = ends_below i j later there lt within in
      let above = starts_above i j there (omega (arith, lt, within)) in
      let rva = ap (λ (n : ℕ). get_or rvas n 0) is in
      let next = ap (λ (n : ℕ). get_or rvas n 0) other in
      let len = ap (λ (n : ℕ). size n) is in
      record { in_file = omega (arith, ends, above, rva, next, len); in_memory = omega (arith, ends, rva, next, len) }

  section_apart : (i : ℕ) → i < length sections → AllPairs EndsFirst (section_places fixups sections layout i)
  section_apart i there =
      pairs_map EndsFirst (piece_and_place layout i) (filter (has_fields fixups) (members i))
      (AllPairs-filter (λ k later. EndsFirst (piece_and_place layout i k) (piece_and_place layout i later)) (has_fields fixups) (members i) (λ j later d lt within.
      one_after i j later (get_or (members i) j d) (get_or (members i) later d) there lt within (get_or_default (members i) j d 0 (omega (arith, lt, within))) (get_or_default (members i) later d 0 within)))

  -- ---- from one section to the next

  files_rise : (i later : ℕ) → i ≤ later → file_before layout.headers placed i ≤ file_before layout.headers placed later
  files_rise i zero le =
      let same : 0 ≡ i = omega (arith, le) in
      subst (λ (n : ℕ). file_before layout.headers placed n ≤ file_before layout.headers placed 0) same (omega arith)
  files_rise i (suc later) le =
      elim (cases_lt i (suc later)) [
        | inl below ↦ let rest = files_rise i later (omega (arith, below)) in omega (arith, rest)
        | inr level ↦
            let same : suc later ≡ i = omega (arith, le, level) in
            subst (λ (n : ℕ). file_before layout.headers placed n ≤ file_before layout.headers placed (suc later)) same (omega arith)
      ]

  ends_rise : (i later : ℕ) → i ≤ later → later ≤ length sections → end_before layout.headers placed i ≤ end_before layout.headers placed later
  ends_rise i zero le within =
      let same : 0 ≡ i = omega (arith, le) in
      subst (λ (n : ℕ). end_before layout.headers placed n ≤ end_before layout.headers placed 0) same (omega arith)
  ends_rise i (suc later) le within =
      elim (cases_lt i (suc later)) [
        | inl below ↦
            let rest = ends_rise i later (omega (arith, below)) (omega (arith, within)) in
            let above = (laid.each later (omega (arith, within))).above in
            omega (arith, rest, above)
        | inr level ↦
            let same : suc later ≡ i = omega (arith, le, level) in
            subst (λ (n : ℕ). end_before layout.headers placed n ≤ end_before layout.headers placed (suc later)) same (omega arith)
      ]

  module _ (filled : (k : ℕ) → has_fields fixups k ≡ true → ((get_or whole k no_piece).init ≡ true) × (0 < size k)) where
    -- a piece stands between the ends of two sections
    record IsBetween (i : ℕ) (at : ℕ × ℕ) : Type 0 where
      above : file_before layout.headers placed i ≤ at.1
      below : at.1 + size at.0 ≤ file_before layout.headers placed (suc i)
      after : end_before layout.headers placed i ≤ get_or rvas at.0 0
      before : get_or rvas at.0 0 + size at.0 ≤ end_before layout.headers placed (suc i)

    between : (i : ℕ) (at : ℕ × ℕ) → i < length sections → IsPlaceIn i at → IsBetween i at
    between i at there stands =
        let here = laid.each i there in
        let both = filled at.0 stands.fields in
        let rva = ap (λ (n : ℕ). get_or rvas n 0) stands.is in
        let len = ap (λ (n : ℕ). size n) stands.is in
        let start = starts_above i stands.number there stands.within in
        let raw = here.in_raw stands.number stands.within (ap (λ (n : ℕ). (get_or whole n no_piece).init) stands.is ∙ both.0) in
        let end = here.in_size stands.number stands.within (omega (arith, both.1, len)) in
        let file = file_is (placed i).raw (placed i).file (file_before layout.headers placed i) here.file (omega (arith, both.1, raw, start, len)) in
        record {
          above = omega (arith, stands.place, file);
          below = omega (arith, stands.place, file, rva, len, start, raw);
          after = omega (arith, here.above, start, rva);
          before = omega (arith, end, rva, len);
        }

    pub all_apart : AllPairs EndsFirst (places_below fixups sections layout (length sections))
    unfolding places_below
    all_apart =
        pairs_joined EndsFirst (section_places fixups sections layout) 0 (length sections) (λ i lt. section_apart i (omega (arith, lt)))
        (λ i later lt within a d inside b e there.
        let first = between i (get_or (section_places fixups sections layout i) a d) (omega (arith, lt, within)) (section_are i a d inside) in
        let second = between later (get_or (section_places fixups sections layout later) b e) (omega (arith, within)) (section_are later b e there) in
        let file = files_rise (suc i) later (omega (arith, lt)) in
        let end = ends_rise (suc i) later (omega (arith, lt)) (omega (arith, within)) in
        record { in_file = omega (arith, first.below, second.above, file); in_memory = omega (arith, first.before, second.after, end) })

-- ---- how they are listed

-- one piece more
places_more : (fixups : List (List Fix)) (layout : Layout) (section : ℕ) (members : List ℕ) (n k : ℕ) → n < length members → k ≡ get_or members n k → places_at fixups layout section (take (n + 1) members) ≡ places_at fixups layout section (take n members) ++ map (piece_and_place layout section) (cond (has_fields fixups k) (k ∷ []) [])
places_more fixups layout section members n k lt read =
    ap (map (piece_and_place layout section)) (filter_more (has_fields fixups) members n k lt)
    ∙ map-append (piece_and_place layout section) (filter (has_fields fixups) (take n members)) (cond (has_fields fixups (get_or members n k)) (get_or members n k ∷ []) [])
    ∙ ap (λ (m : ℕ). places_at fixups layout section (take n members) ++ map (piece_and_place layout section) (cond (has_fields fixups m) (m ∷ []) [])) (sym read)

pub jobs_with : (fixups : List (List Fix)) (layout : Layout) (section : ℕ) (members : List ℕ) (n k : ℕ) (before jobs after : List Job) (job : Job) → n < length members → k ≡ get_or members n k → has_fields fixups k ≡ true → job_place job ≡ piece_and_place layout section k → after ≡ jobs ++ job ∷ [] → map job_place jobs ≡ map job_place before ++ places_at fixups layout section (take n members) → map job_place after ≡ map job_place before ++ places_at fixups layout section (take (n + 1) members)
jobs_with fixups layout section members n k before jobs after job lt read has place is was =
    ap (map job_place) is
    ∙ map-append job_place jobs (job ∷ [])
    ∙ ap (λ (at : ℕ × ℕ). map job_place jobs ++ at ∷ []) place
    ∙ ap (λ (ps : List (ℕ × ℕ)). ps ++ piece_and_place layout section k ∷ []) was
    ∙ append_assoc (map job_place before) (places_at fixups layout section (take n members)) (piece_and_place layout section k ∷ [])
    ∙ ap (λ (ps : List (ℕ × ℕ)). map job_place before ++ ps)
    (sym (places_more fixups layout section members n k lt read
    ∙ ap (λ (b : Bool). places_at fixups layout section (take n members) ++ map (piece_and_place layout section) (cond b (k ∷ []) [])) has))

pub jobs_without : (fixups : List (List Fix)) (layout : Layout) (section : ℕ) (members : List ℕ) (n k : ℕ) (before jobs after : List Job) → n < length members → k ≡ get_or members n k → has_fields fixups k ≡ false → after ≡ jobs → map job_place jobs ≡ map job_place before ++ places_at fixups layout section (take n members) → map job_place after ≡ map job_place before ++ places_at fixups layout section (take (n + 1) members)
jobs_without fixups layout section members n k before jobs after lt read none is was =
    ap (map job_place) is
    ∙ was
    ∙ ap (λ (ps : List (ℕ × ℕ)). map job_place before ++ ps)
    (sym (places_more fixups layout section members n k lt read
    ∙ ap (λ (b : Bool). places_at fixups layout section (take n members) ++ map (piece_and_place layout section) (cond b (k ∷ []) [])) none
    ∙ append-nil (places_at fixups layout section (take n members))))

-- one section more
pub members_are : (sections : List OutSection) (i : ℕ) (section : OutSection) → i < length sections → section ≡ get_or sections i section → section.pieces.items ≡ (row_at sections i).1
members_are sections i section lt read = sym (ap (λ (row : List ℕ × List ℕ). row.1) (row_here sections i section lt read))

pub section_more : (fixups : List (List Fix)) (sections : List OutSection) (layout : Layout) (i : ℕ) (members : List ℕ) (now after : List (ℕ × ℕ)) → members ≡ (row_at sections i).1 → now ≡ places_below fixups sections layout i → after ≡ now ++ places_at fixups layout i members → after ≡ places_below fixups sections layout (i + 1)
unfolding places_below
section_more fixups sections layout i members now after same was is =
    joined_grows (section_places fixups sections layout) 0 i i now after (places_at fixups layout i members) (omega arith) was is (ap (places_at fixups layout i) same)
