-- What the reader of contributions meets.
use Rattle.std.proofs.Common.{◌≡◌, ℕ, ◌+◌, ◌-◌, ◌/◌, ◌≤◌, List, [], ◌∷◌, ◌++◌, length, map, Option, Some, None, Err, refl, sym, ap, subst, ◌∙◌, arith}
use Rattle.std.specs.List.{range_with_len}
use Rattle.std.specs.Option.{unwrap_or}
use Rattle.std.proofs.lemmas.List.FromFn.{map-range_with_len_more}
use Rattle.link_base.specs.declared.kinds.database.PdbKind.TheVariants as bad
use Rattle.pdb_msf.specs.declared.msf.StreamError.{StreamError}
use Rattle.pdb_msf.specs.declared.msf.StreamError.TheVariants.{Missing, Memory as WantOfMemory}
use Rattle.pdb_msf.specs.Streams.{stream_of, GivesStream}
use Rattle.pdb_dbi.specs.declared.reading.DbiError.TheVariants.{Kind}
use Rattle.pdb_dbi.specs.declared.rows.Contribution.{Contribution}
use Rattle.pdb_dbi.specs.declared.form.Form.{Form}
use Rattle.pdb_dbi.specs.Contribution.{record_size}
use Rattle.pdb_dbi.specs.DbiReading.{has_header, part_of, record_in, records_of, contributions_in, contributions_of, GivesContributions}

pub one_read : (form : Form) (part : List ℕ) (index : ℕ) (row : Contribution) (now after : List Contribution) → row ≡ record_in form part index → now ≡ map (record_in form part) (range_with_len 0 index) → after ≡ now ++ row ∷ [] → after ≡ map (record_in form part) (range_with_len 0 (index + 1))
one_read form part index row now after is was grown =
    grown
    ∙ ap (λ (rows : List Contribution). rows ++ row ∷ []) was
    ∙ ap (λ (x : Contribution). map (record_in form part) (range_with_len 0 index) ++ x ∷ []) is
    ∙ sym (map-range_with_len_more (record_in form part) 0 index index (omega arith))

pub all_read : (form : Form) (part : List ℕ) (index size : ℕ) (rows : List Contribution) → size ≡ record_size form → index ≤ (length part - 4) / size → (length part - 4) / size ≤ index → rows ≡ map (record_in form part) (range_with_len 0 index) → rows ≡ records_of form part
unfolding records_of
all_read form part index size rows is low high was =
    let same : index ≡ (length part - 4) / size = omega (arith, low, high) in
    was ∙ ap (λ (k : ℕ). map (record_in form part) (range_with_len 0 k)) (same ∙ ap (λ (k : ℕ). (length part - 4) / k) is)

-- ---- a file without the stream

missing_is : (A : Type 0) (stream : Option (List ℕ)) (error : StreamError) → GivesStream {A = A} stream (Err error) → error ≡ Missing → stream ≡ None
missing_is A None error gives is = refl
missing_is A (Some bytes) error gives is = absurd (differ (sym is ∙ gives))
  where
    differ : Missing ≡ WantOfMemory → ⊥
    differ e = cc

none_in_empty : contributions_in [] ≡ None
unfolding part_of has_header
none_in_empty = refl

pub refused_without : (A B : Type 0) (file : List ℕ) (error : StreamError) → GivesStream {A = A} (stream_of file 3) (Err error) → error ≡ Missing → GivesContributions {A = B} (contributions_of file) (Err (Kind bad.Header))
refused_without A B file error gives is =
    let none : contributions_of file ≡ None = ap (λ (stream : Option (List ℕ)). contributions_in (unwrap_or stream [])) (missing_is A (stream_of file 3) error gives is) ∙ none_in_empty in
    subst (λ (list : Option (List Contribution)). GivesContributions {A = B} list (Err (Kind bad.Header))) (sym none) refl
