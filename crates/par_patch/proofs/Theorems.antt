-- Of jobs one range alone is the least.
use Rattle.std.proofs.Common.{◌≡◌, ◌≢◌, ℕ, ℤ, ◌<◌, inl, inr, List, length, get_or, sym, ap, ◌∙◌, subst, arith}
use Rattle.std.proofs.lemmas.Bool.{cases_lt, false≢true}
use Rattle.std.proofs.lemmas.List.{get_or_default}
use Rattle.std.proofs.lemmas.List.Elements.{All-contains}
use Rattle.std.specs.List.{All, AllPairs, Contains}
use Rattle.address_layout.specs.declared.layout.Layout.{Layout}
use Rattle.relocate.specs.declared.fix.Fix.{Fix}
use Rattle.relocate.specs.declared.range.RelocRange.{RelocRange}
use Rattle.relocate.specs.Field.{fix_at, no_fix}
use Rattle.relocate.specs.Value.{IsLeastOutside, value_of}
use Rattle.par_patch.specs.declared.job.Job.{Job}
use Rattle.par_patch.specs.declared.job.JobRange.{JobRange}
use Rattle.par_patch.specs.LeastRange.{AreOfTwoSections, ComesBefore, HasDistinctIndexes, IsLeastRange, IsRangeOf}
use Rattle.par_patch.specs.PatchedJobs.{FieldsFit, bytes_of, rva_of}

-- ---- of the fields of a job

one_place : (fixups : List Fix) (first second : ℕ) → AllPairs (λ (fix other : Fix). fix.index ≢ other.index) fixups → first < length fixups → second < length fixups → (fix_at fixups first).index ≡ (fix_at fixups second).index → first ≡ second
one_place fixups first second apart there also same =
    elim (cases_lt first second) [
      | inl before ↦ absurd (apart first second no_fix before also same)
      | inr le ↦ (elim (cases_lt second first) [
        | inl behind ↦ absurd (apart second first no_fix behind there (sym same))
        | inr ge ↦ omega arith
      ])
    ]

one_outside : (base rva : ℕ) (layout : Layout) (owner : List ℕ) (fixups : List Fix) (bytes : List ℕ) (range other : RelocRange) → AllPairs (λ (fix other : Fix). fix.index ≢ other.index) fixups → IsLeastOutside base rva layout owner fixups bytes range → IsLeastOutside base rva layout owner fixups bytes other → (range.index ≡ other.index) × (range.value ≡ other.value)
one_outside base rva layout owner fixups bytes range other apart first second =
    let up = first.least second.place second.there second.outside in
    let down = second.least first.place first.there first.outside in
    let same : range.index ≡ other.index = omega (arith, up, down, first.index, second.index) in
    let place = one_place fixups first.place second.place apart first.there second.there (sym first.index ∙ same ∙ second.index) in
    (same, first.value ∙ ap (λ (k : ℕ). value_of base rva layout owner bytes (fix_at fixups k)) place ∙ sym second.value)

-- ---- of the jobs

-- the fields of the range's job do not all fit
not_all : (base : ℕ) (layout : Layout) (owner image : List ℕ) (range : JobRange) (job : Job) → IsRangeOf base layout owner image range job → FieldsFit base layout owner image job → ⊥
not_all base layout owner image range job its fit =
    let out = its.outside in
    false≢true (sym out.outside ∙ fit out.place no_fix out.there)

-- a least range does not come before another
not_before : (base : ℕ) (layout : Layout) (owner image : List ℕ) (jobs : List Job) (range other : JobRange) (least : IsLeastRange base layout owner jobs image range) → IsLeastRange base layout owner jobs image other → ComesBefore least.job other → ⊥
not_before base layout owner image jobs range other least lesser before =
    not_all base layout owner image range least.job least.its
    (All-contains (λ job. ComesBefore job other → FieldsFit base layout owner image job) jobs least.job lesser.least least.there before)

-- two of which neither comes before the other are of the same section
one_section : (base : ℕ) (layout : Layout) (owner image : List ℕ) (jobs : List Job) (range other : JobRange) → IsLeastRange base layout owner jobs image range → IsLeastRange base layout owner jobs image other → (range.module ≡ other.module) × (range.section ≡ other.section)
one_section base layout owner image jobs range other least lesser =
    let up : ComesBefore least.job other → ⊥ = not_before base layout owner image jobs range other least lesser in
    let down : ComesBefore lesser.job range → ⊥ = not_before base layout owner image jobs other range lesser least in
    let its = least.its in
    let also = lesser.its in
    let same : range.module ≡ other.module =
    elim (cases_lt range.module other.module) [
      | inl less ↦ absurd (up (inl (omega arith)))
      | inr le ↦ (elim (cases_lt other.module range.module) [ inl more ↦ absurd (down (inl (omega arith))) | inr ge ↦ omega arith ])
    ] in
    let too : range.section ≡ other.section =
    elim (cases_lt range.section other.section) [
      | inl less ↦ absurd (up (inr (omega arith, omega arith)))
      | inr le ↦ (elim (cases_lt other.section range.section) [ inl more ↦ absurd (down (inr (omega arith, omega arith))) | inr ge ↦ omega arith ])
    ] in
    (same, too)

-- two jobs of the same section stand at the same place
not_two : (job other : Job) → job.module ≡ other.module → job.section ≡ other.section → AreOfTwoSections job other → ⊥
not_two job other same too (inl differs) = differs same
not_two job other same too (inr differs) = differs too

at_place : (jobs : List Job) (job : Job) (there : Contains jobs job) (d : Job) → get_or jobs there.0 d ≡ job
at_place jobs job there d = get_or_default jobs there.0 d job there.1 ∙ there.2

one_job : (jobs : List Job) (job other : Job) → AllPairs AreOfTwoSections jobs → Contains jobs job → Contains jobs other → job.module ≡ other.module → job.section ≡ other.section → job ≡ other
one_job jobs job other apart there also same too =
    elim (cases_lt there.0 also.0) [
      | inl before ↦ absurd (not_two job other same too (rw (at_place jobs job there job, at_place jobs other also job) at (apart there.0 also.0 job before also.1)))
      | inr le ↦ (elim (cases_lt also.0 there.0) [
        | inl behind ↦ absurd (not_two other job (sym same) (sym too) (rw (at_place jobs other also job, at_place jobs job there job) at (apart also.0 there.0 job behind there.1)))
        | inr ge ↦
            let place : there.0 ≡ also.0 = omega arith in
            sym (at_place jobs job there job) ∙ ap (λ (k : ℕ). get_or jobs k job) place ∙ at_place jobs other also job
      ])
    ]

abbrev made : ℕ → ℕ → ℕ → ℤ → JobRange
made place section index value = record { «module» = place; section = section; index = index; value = value }

pub one_range : (base : ℕ) (layout : Layout) (owner image : List ℕ) (jobs : List Job) (range other : JobRange) → AllPairs AreOfTwoSections jobs → All HasDistinctIndexes jobs → IsLeastRange base layout owner jobs image range → IsLeastRange base layout owner jobs image other → range ≡ other
one_range base layout owner image jobs range other apart distinct least lesser =
    let section = one_section base layout owner image jobs range other least lesser in
    let its = least.its in
    let also = lesser.its in
    let job : lesser.job ≡ least.job = one_job jobs lesser.job least.job apart lesser.there least.there (omega (arith, section.0)) (omega (arith, section.1)) in
    let out = subst (λ (job : Job). IsLeastOutside base (rva_of layout job) layout owner job.fixups.now (bytes_of image job) (record { index = other.index; value = other.value })) job also.outside in
    let field = one_outside base (rva_of layout least.job) layout owner least.job.fixups.now (bytes_of image least.job) (record { index = range.index; value = range.value }) (record { index = other.index; value = other.value }) (All-contains HasDistinctIndexes jobs least.job distinct least.there) its.outside out in
    ap (λ (n : ℕ). made n range.section range.index range.value) section.0
    ∙ ap (λ (n : ℕ). made other.module n range.index range.value) section.1
    ∙ ap (λ (n : ℕ). made other.module other.section n range.value) field.0
    ∙ ap (made other.module other.section other.index) field.1
