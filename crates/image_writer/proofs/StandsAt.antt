-- What stands at a place of a list of bytes: a part, the parts of a part, and the numbers of a table.
use Rattle.std.proofs.Common.{◌≡◌, ℕ, zero, suc, ◌+◌, ◌*◌, ◌^◌, ◌<◌, List, [], ◌∷◌, ◌++◌, length, drop, slice_index, slice_get, Some, refl, sym, ap, ◌∙◌, subst, append_assoc, length-append, arith}
use Rattle.std.specs.List.{flat_map}
use Rattle.std.proofs.lemmas.List.{append-nil, drop_at, drop-drop, get_or-drop, get_or_append_left}
use Rattle.link_base.specs.Bytes.{number_at, number_bytes}
use Rattle.link_base.proofs.CallerLemmas.{number_at-drop, number_at-number_bytes, length-number_bytes}

-- the bytes from a place on begin with a part
pub record StandsAt (part : List ℕ) (place : ℕ) (bytes : List ℕ) : Type 0 where
  pub rest : List ℕ
  pub is : drop place bytes ≡ part ++ rest

pub whole : (bytes : List ℕ) → StandsAt bytes 0 bytes
whole bytes = record { rest = []; is = sym (append-nil bytes) }

pub first_part : (first second : List ℕ) (place : ℕ) (bytes : List ℕ) → StandsAt (first ++ second) place bytes → StandsAt first place bytes
first_part first second place bytes h = record { rest = second ++ h.rest; is = h.is ∙ append_assoc first second h.rest }

pub second_part : (first second : List ℕ) (place len next : ℕ) (bytes : List ℕ) → length first ≡ len → place + len ≡ next → StandsAt (first ++ second) place bytes → StandsAt second next bytes
second_part first second place len next bytes e at h =
    record {
      rest = h.rest;
      is = ap (λ (k : ℕ). drop k bytes) (sym at) ∙ sym (drop-drop len place bytes) ∙ ap (drop len) (h.is ∙ append_assoc first second h.rest) ∙ drop_at first (second ++ h.rest) len e;
    }

pub byte_of : (part : List ℕ) (place i : ℕ) (bytes : List ℕ) → StandsAt part place bytes → i < length part → slice_index bytes (place + i) ≡ slice_index part i
byte_of part place i bytes h lt =
    sym (get_or-drop place bytes i 0) ∙ ap (λ (xs : List ℕ). slice_index xs i) h.is ∙ get_or_append_left part h.rest 0 i lt

-- ---- the numbers of a table, one after the other

-- what stands behind a number
pub behind : {place : ℕ} {bytes : List ℕ} (width number : ℕ) (rest : List ℕ) → StandsAt (number_bytes width number ++ rest) place bytes → StandsAt rest (place + width) bytes
behind {place} {bytes} width number rest h = second_part (number_bytes width number) rest place width (place + width) bytes (length-number_bytes width number) refl h

-- the first number is read at its place
pub reads : {place : ℕ} {bytes : List ℕ} (width number : ℕ) (rest : List ℕ) (at : ℕ) → StandsAt (number_bytes width number ++ rest) place bytes → place ≡ at → number < 256 ^ width → number_at width bytes at ≡ number
reads {place} {bytes} width number rest at h e fits =
    let here = first_part (number_bytes width number) rest place bytes h in
    ap (number_at width bytes) (sym e ∙ zero_more place) ∙ sym (number_at-drop width place 0 bytes) ∙ ap (λ (xs : List ℕ). number_at width xs 0) here.is ∙ number_at-number_bytes width number here.rest fits
  where
    zero_more : (n : ℕ) → n ≡ n + 0
    zero_more n = omega arith

-- ---- parts of one length

pub length-parts : {X : Type 0} (f : X → List ℕ) (n : ℕ) → ((x : X) → length (f x) ≡ n) → (xs : List X) → length (flat_map f xs) ≡ n * length xs
length-parts f n each [] = omega arith
length-parts f n each (x ∷ xs) = omega (arith, length-append (f x) (flat_map f xs), each x, length-parts f n each xs)

pub part_at : {X : Type 0} (f : X → List ℕ) (n : ℕ) → ((x : X) → length (f x) ≡ n) → (xs : List X) (k : ℕ) (x : X) (place : ℕ) (bytes : List ℕ) → StandsAt (flat_map f xs) place bytes → slice_get xs k ≡ Some x → StandsAt (f x) (place + n * k) bytes
part_at f n each [] k x place bytes h e = absurd cc
part_at f n each (first ∷ xs) zero x place bytes h e =
    let same : first ≡ x = cc in
    let here : StandsAt (f first) place bytes = first_part (f first) (flat_map f xs) place bytes h in
    subst (λ (y : _). StandsAt (f y) (place + n * 0) bytes) same (subst (λ (i : ℕ). StandsAt (f first) i bytes) (omega arith) here)
part_at f n each (first ∷ xs) (suc k) x place bytes h e =
    let there = second_part (f first) (flat_map f xs) place n (place + n) bytes (each first) refl h in
    subst (λ (i : ℕ). StandsAt (f x) i bytes) (omega arith) (part_at f n each xs k x (place + n) bytes there e)
