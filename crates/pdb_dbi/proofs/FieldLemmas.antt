-- Fields that are written one after the other, read where they stand.
use Rattle.std.proofs.Common.{◌≡◌, ℕ, zero, suc, ◌+◌, ◌^◌, ◌<◌, List, [], ◌∷◌, ◌++◌, length, get_or, take, refl, sym, ap, ◌∙◌, append_assoc, arith, length-append}
use Rattle.std.proofs.lemmas.List.{drop_at}
use Rattle.link_base.specs.Bytes.{number_at, number_bytes}
use Rattle.link_base.specs.Fields.{field_bytes, fields}
use Rattle.link_base.specs.declared.numbers.LeNumber.{LeNumber}
use Rattle.link_base.specs.declared.numbers.LeNumber.TheVariants.{U8, U16, U32, U64}
use Rattle.link_base.proofs.CallerLemmas.{number_at-number_bytes, number_at-drop}

abbrev pub width_of : LeNumber → ℕ
width_of (U8 number) = 1
width_of (U16 number) = 2
width_of (U32 number) = 4
width_of (U64 number) = 8

abbrev pub number_of : LeNumber → ℕ
number_of (U8 number) = number
number_of (U16 number) = number
number_of (U32 number) = number
number_of (U64 number) = number

bytes_are : (field : LeNumber) → field_bytes field ≡ number_bytes (width_of field) (number_of field)
bytes_are (U8 number) = refl
bytes_are (U16 number) = refl
bytes_are (U32 number) = refl
bytes_are (U64 number) = refl

-- a number stands behind a list where it stands in what follows
pub number_behind : (width offset i place : ℕ) (front rest : List ℕ) → length front ≡ offset → offset + i ≡ place → number_at width (front ++ rest) place ≡ number_at width rest i
number_behind width offset i place front rest long is =
    ap (number_at width (front ++ rest)) (sym is)
    ∙ sym (number_at-drop width offset i (front ++ rest))
    ∙ ap (λ (xs : List ℕ). number_at width xs i) (drop_at front rest offset long)

-- the k-th field of a table
pub field_read : (table : List LeNumber) (rest : List ℕ) (k : ℕ) (d : LeNumber) → k < length table → number_of (get_or table k d) < 256 ^ width_of (get_or table k d) → number_at (width_of (get_or table k d)) (fields table ++ rest) (length (fields (take k table))) ≡ number_of (get_or table k d)
field_read [] rest k d lt fits = absurd (omega (arith, lt))
field_read (field ∷ table) rest zero d lt fits =
    ap (λ (xs : List ℕ). number_at (width_of field) xs 0) (append_assoc (field_bytes field) (fields table) rest ∙ ap (λ (xs : List ℕ). xs ++ (fields table ++ rest)) (bytes_are field))
    ∙ number_at-number_bytes (width_of field) (number_of field) (fields table ++ rest) fits
field_read (field ∷ table) rest (suc k) d lt fits =
    let both = length-append (field_bytes field) (fields (take k table)) in
    ap (λ (xs : List ℕ). number_at (width_of (get_or table k d)) xs (length (field_bytes field ++ fields (take k table)))) (append_assoc (field_bytes field) (fields table) rest)
    ∙ number_behind (width_of (get_or table k d)) (length (field_bytes field)) (length (fields (take k table))) (length (field_bytes field ++ fields (take k table))) (field_bytes field) (fields table ++ rest) refl (sym both)
    ∙ field_read table rest k d (omega (arith, lt)) fits
