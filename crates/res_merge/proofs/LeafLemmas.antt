-- What the leaves of a tree lead to where they and their data stand.
use Rattle.std.proofs.Common.{◌≡◌, ℕ, zero, suc, ◌+◌, ◌-◌, ◌^◌, ◌<◌, ◌≤◌, Bool, true, false, cond, eqb, leb, ltb, List, [], ◌∷◌, ◌++◌, length, take, drop, Option, Some, refl, sym, ap, ◌∙◌, lt-ltb, le-leb, append_assoc, length-append, length-drop, arith}
use Rattle.std.specs.Prelude.{replicate}
use Rattle.std.specs.Option.{option_map, option_and_then}
use Rattle.std.proofs.lemmas.List.{length-replicate}
use Rattle.link_base.specs.Bytes.{number_bytes, u32_at, has_bytes, bytes_at}
use Rattle.link_base.proofs.CallerLemmas.{length-number_bytes}
use Rattle.link_base.proofs.PartLemmas.{number_there}
use Rattle.res_merge.specs.Entries.{Number, Entry}
use Rattle.res_merge.specs.ResourceFile.{aligned}
use Rattle.res_merge.specs.Tree.{HIGH_BIT, LEAF_SIZE, leaves, padding, data_from, language_rows}
use Rattle.res_merge.specs.Lookup.{is_named, first_named, leaf_target, leaf_data}
use Rattle.res_merge.specs.Found.{body_of}
use Rattle.res_merge.proofs.WritingLemmas.{leaf_fields, aligned-above}
use Rattle.res_merge.proofs.FoundLemmas.{behind}

-- the leaves of resources stand at an offset, and their data at another, behind so many zeros
pub record Stand (part : List ℕ) (rva leaf place filling : ℕ) (entries : List Entry) : Type 0 where
  pub rest : List ℕ
  pub leaves_are : drop leaf part ≡ leaves (rva + (place + filling)) entries ++ rest
  pub data_are : drop place part ≡ data_from filling entries
  pub inside : place ≤ length part

leaf_length : (rva : ℕ) (entry : Entry) → length (leaf_fields rva entry) ≡ 16
leaf_length rva entry = simp (length-append) (omega (arith, length-number_bytes 4 rva, length-number_bytes 4 (length entry.body), length-number_bytes 4 0))

module _ (part : List ℕ) (rva leaf place filling : ℕ) (entry : Entry) (entries : List Entry) (stand : Stand part rva leaf place filling (entry ∷ entries)) where
  size : ℕ
  size = length entry.body

  leaf_is : drop leaf part ≡ leaf_fields (rva + (place + filling)) entry ++ (leaves (rva + (place + filling) + aligned (length entry.body)) entries ++ stand.rest)
  unfolding leaves
  leaf_is = stand.leaves_are ∙ append_assoc (leaf_fields (rva + (place + filling)) entry) (leaves (rva + (place + filling) + aligned (length entry.body)) entries) stand.rest

  body_is : drop (place + filling) part ≡ entry.body ++ data_from (padding (length entry.body)) entries
  unfolding data_from
  body_is = behind part (replicate filling 0) (entry.body ++ data_from (padding (length entry.body)) entries) place filling stand.data_are (length-replicate filling 0)

  pub body_inside : place + filling + length entry.body ≤ length part
  unfolding data_from
  body_inside =
      let whole : length part - place ≡ filling + (length entry.body + length (data_from (padding (length entry.body)) entries)) =
      sym (length-drop place part) ∙ ap length stand.data_are ∙ length-append (replicate filling 0) (entry.body ++ data_from (padding (length entry.body)) entries) ∙ ap (λ (n : ℕ). n + length (entry.body ++ data_from (padding (length entry.body)) entries)) (length-replicate filling 0) ∙ ap (λ (n : ℕ). filling + n) (length-append entry.body (data_from (padding (length entry.body)) entries)) in
      body_end (length part) place filling (length entry.body) (length (data_from (padding (length entry.body)) entries)) stand.inside whole
    where
      body_end : (whole place filling size rest : ℕ) → place ≤ whole → whole - place ≡ filling + (size + rest) → place + filling + size ≤ whole
      body_end whole place filling size rest inside is = omega arith

  pub leaf_inside : leaf + 16 ≤ length part
  leaf_inside =
      let whole : length part - leaf ≡ 16 + length (leaves (rva + (place + filling) + aligned (length entry.body)) entries ++ stand.rest) =
      sym (length-drop leaf part) ∙ ap length leaf_is ∙ length-append (leaf_fields (rva + (place + filling)) entry) _ ∙ ap (λ (n : ℕ). n + length (leaves (rva + (place + filling) + aligned (length entry.body)) entries ++ stand.rest)) (leaf_length (rva + (place + filling)) entry) in
      leaf_end (length part) leaf (length (leaves (rva + (place + filling) + aligned (length entry.body)) entries ++ stand.rest)) whole
    where
      leaf_end : (whole leaf rest : ℕ) → whole - leaf ≡ 16 + rest → leaf + 16 ≤ whole
      leaf_end whole leaf rest is = omega arith

  -- the leaf behind this one, and the data behind these
  pub stand_next : Stand part rva (leaf + 16) (place + filling + length entry.body) (padding (length entry.body)) entries
  stand_next =
      let next : rva + (place + filling) + aligned (length entry.body) ≡ rva + (place + filling + length entry.body + padding (length entry.body)) = omega (arith, aligned-above (length entry.body)) in
      record {
        rest = stand.rest;
        leaves_are = behind part (leaf_fields (rva + (place + filling)) entry) (leaves (rva + (place + filling) + aligned (length entry.body)) entries ++ stand.rest) leaf 16 leaf_is (leaf_length (rva + (place + filling)) entry) ∙ ap (λ (n : ℕ). leaves n entries ++ stand.rest) next;
        data_are = behind part entry.body (data_from (padding (length entry.body)) entries) (place + filling) (length entry.body) body_is refl;
        inside = body_inside;
      }

  module _ (small : length part < 2 ^ 31) (fits : rva + length part < 2 ^ 32) where
    pub target_is : leaf_target part leaf ≡ Some leaf
    target_is =
        let low : ltb leaf HIGH_BIT ≡ true = lt-ltb leaf HIGH_BIT (omega (arith, leaf_inside, small)) in
        let there : has_bytes part leaf LEAF_SIZE ≡ true = le-leb _ _ leaf_inside in
        rw (low, there) refl

    tail : ℕ → List ℕ
    tail n = number_bytes 4 0 ++ (number_bytes 4 0 ++ [])

    place_read : u32_at part leaf ≡ rva + (place + filling)
    place_read = number_there 4 (rva + (place + filling)) leaf part _ (leaf_is ∙ append_assoc (number_bytes 4 (rva + (place + filling))) (number_bytes 4 (length entry.body) ++ (number_bytes 4 0 ++ (number_bytes 4 0 ++ []))) _) (omega (arith, body_inside, fits))

    size_read : u32_at part (leaf + 4) ≡ length entry.body
    size_read =
        number_there 4 (length entry.body) (leaf + 4) part _
        (behind part (number_bytes 4 (rva + (place + filling))) _ leaf 4 (leaf_is ∙ append_assoc (number_bytes 4 (rva + (place + filling))) (number_bytes 4 (length entry.body) ++ (number_bytes 4 0 ++ (number_bytes 4 0 ++ []))) _) (length-number_bytes 4 (rva + (place + filling)))
        ∙ append_assoc (number_bytes 4 (length entry.body)) (number_bytes 4 0 ++ (number_bytes 4 0 ++ [])) _)
        (omega (arith, body_inside, fits))

    pub leaf_read : leaf_data part rva leaf ≡ Some (rva + (place + filling), length entry.body)
    unfolding leaf_data
    leaf_read =
        let above : leb rva (rva + (place + filling)) ≡ true = le-leb _ _ (omega arith) in
        let below : leb (rva + (place + filling) + length entry.body) (rva + length part) ≡ true = le-leb _ _ (omega (arith, body_inside)) in
        rw (place_read, size_read, above, below) refl

    pub body_read : bytes_at part (rva + (place + filling) - rva) (length entry.body) ≡ entry.body
    body_read =
        let back : rva + (place + filling) - rva ≡ place + filling = omega arith in
        ap (λ (n : ℕ). take (length entry.body) (drop n part)) back ∙ ap (take (length entry.body)) body_is ∙ go entry.body
      where
        go : (xs : List ℕ) → take (length xs) (xs ++ data_from (padding (length entry.body)) entries) ≡ xs
        go [] = refl
        go (x ∷ xs) = ap (λ (ys : List ℕ). x ∷ ys) (go xs)

-- the bytes that a leaf leads to
abbrev pub bytes_of : List ℕ → ℕ → Option ℕ → Option (List ℕ)
bytes_of part rva leaf = option_map (λ (place : ℕ × ℕ). bytes_at part (place.0 - rva) place.1) (option_and_then (leaf_data part rva) leaf)

-- among the first resources, the language decides
pub language_found : (part : List ℕ) (rva language : ℕ) → length part < 2 ^ 31 → rva + length part < 2 ^ 32 → (count leaf place filling : ℕ) (entries : List Entry) → Stand part rva leaf place filling entries → bytes_of part rva (option_and_then (leaf_target part) (first_named part (Number language) (language_rows leaf (take count entries)))) ≡ body_of language (take count entries)
unfolding first_named language_rows body_of is_named
language_found part rva language small fits zero leaf place filling entries stand = refl
language_found part rva language small fits (suc count) leaf place filling [] stand = refl
language_found part rva language small fits (suc count) leaf place filling (entry ∷ entries) stand =
    by_test (eqb entry.language language) (language_found part rva language small fits count (leaf + 16) (place + filling + length entry.body) (padding (length entry.body)) entries (stand_next part rva leaf place filling entry entries stand))
  where
    later : Option ℕ
    later = first_named part (Number language) (language_rows (leaf + 16) (take count entries))

    by_test : (b : Bool) → bytes_of part rva (option_and_then (leaf_target part) (first_named part (Number language) (language_rows (leaf + 16) (take count entries)))) ≡ body_of language (take count entries) → bytes_of part rva (option_and_then (leaf_target part) (cond b (Some leaf) (first_named part (Number language) (language_rows (leaf + 16) (take count entries))))) ≡ cond b (Some entry.body) (body_of language (take count entries))
    by_test true h =
        ap (bytes_of part rva) (target_is part rva leaf place filling entry entries stand small fits)
        ∙ ap (option_map (λ (place : ℕ × ℕ). bytes_at part (place.0 - rva) place.1)) (leaf_read part rva leaf place filling entry entries stand small fits)
        ∙ ap Some (body_read part rva leaf place filling entry entries stand small fits)
    by_test false h = h
