-- Streams that stand one after the other, one more at a time.
use Rattle.std.proofs.Common.{◌≡◌, ℕ, suc, ◌<◌, ◌≤◌, Bool, true, false, nat_lt, List, [], ◌∷◌, ◌++◌, length, map, take, drop, Result, Ok, Err, Vec, inl, inr, refl, sym, ap, ◌∙◌, subst, arith}
use Rattle.std.specs.Prelude.{IfErr}
use Rattle.std.specs.List.{sum}
use Rattle.std.proofs.lemmas.List.{take_all, take-append-le, drop-append-le, length-drop}
use Rattle.link_base.proofs.NumberLemmas.{is_below}
use Rattle.link_base.proofs.ListLemmas.{more_bytes}
use Rattle.pdb_msf.specs.declared.writing.MsfError.{MsfError}
use Rattle.pdb_msf.specs.declared.writing.MsfError.TheVariants.{TooLarge}
use Rattle.pdb_msf.specs.WrittenFile.{MSF_LIMIT, file_size, msf_of, parted, Writes, WritesFor}
use Rattle.pdb_file.specs.PdbFile.{IsTooLarge}

-- a list is its first bytes, so many as it has
first_all : (joined stream : List ℕ) → 0 ≡ length joined → take (length stream) (joined ++ stream) ≡ stream
first_all [] stream none = take_all (length stream) stream (omega arith)
first_all (b ∷ joined) stream none = absurd (omega (arith, none))

pub parted_more : (joined lengths stream : List ℕ) → sum lengths ≡ length joined → parted (joined ++ stream) (lengths ++ length stream ∷ []) ≡ parted joined lengths ++ stream ∷ []
unfolding parted
parted_more joined [] stream whole = ap (λ (bytes : List ℕ). bytes ∷ []) (first_all joined stream whole)
parted_more joined (len ∷ lengths) stream whole =
    let total = more_bytes len lengths in
    let short : len ≤ length joined = omega (arith, whole, total) in
    let rest : sum lengths ≡ length (drop len joined) = omega (arith, whole, total, length-drop len joined) in
    ap (λ (bytes : List ℕ). bytes ∷ parted (drop len (joined ++ stream)) (lengths ++ length stream ∷ [])) (take-append-le len joined stream short)
    ∙ ap (λ (bytes : List ℕ). take len joined ∷ parted bytes (lengths ++ length stream ∷ [])) (drop-append-le len joined stream short)
    ∙ ap (λ (streams : List (List ℕ)). take len joined ∷ streams) (parted_more (drop len joined) lengths stream rest)

pub length-parted : (joined lengths : List ℕ) → length (parted joined lengths) ≡ length lengths
unfolding parted
length-parted joined [] = refl
length-parted joined (len ∷ lengths) = ap suc (length-parted (drop len joined) lengths)

-- ---- what writing them answers

pub too_large : {A : Type 0} (sizes : List ℕ) (streams : List (List ℕ)) (result : Result (Vec ℕ A) MsfError) → map length streams ≡ sizes → Writes sizes streams result → IfErr result (IsTooLarge streams)
too_large sizes streams (Ok file) same writes = tt
too_large {A} sizes streams (Err error) same writes = go (nat_lt MSF_LIMIT (file_size sizes)) refl writes
  where
    refused : MsfError → Result (Vec ℕ A) MsfError
    refused e = Err e

    error_or : MsfError → Result (Vec ℕ A) MsfError → MsfError
    error_or e (Ok file) = e
    error_or e (Err other) = other

    go : (b : Bool) → nat_lt MSF_LIMIT (file_size sizes) ≡ b → WritesFor b (file_size sizes) (msf_of streams) (refused error) → IsTooLarge streams error
    go true e large = inr (ap (error_or error) large ∙ ap (λ (ss : List ℕ). TooLarge (file_size ss)) (sym same), subst (λ (ss : List ℕ). MSF_LIMIT < file_size ss) (sym same) (is_below MSF_LIMIT (file_size sizes) e))
    go false e none = inl none
