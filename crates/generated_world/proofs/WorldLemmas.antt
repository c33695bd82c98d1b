-- The files and the words of a generated program, as far as they are made; and what the files hold.
use Rattle.std.proofs.Common.{String, Vec, string_bytes, ◌≡◌, ℕ, zero, suc, ◌+◌, ◌-◌, ◌<◌, ◌≤◌, ◌^◌, List, [], ◌∷◌, ◌++◌, length, take, drop, replicate, map, fold, Some, None, refl, sym, ap, ◌∙◌, inl, inr, append_assoc, length-append, arith}
use Rattle.std.proofs.Math.Seq.{take-append-add}
use Rattle.std.specs.Prelude.{codes}
use Rattle.std.proofs.lemmas.Bool.{cases_lt}
use Rattle.std.proofs.lemmas.List.{map-append}
use Rattle.std.proofs.lemmas.Fmt.{decimal_injective}
use Rattle.std.proofs.lemmas.List.FromFn.{map-range_with_len_more}
use Rattle.std.proofs.lemmas.List.Sums.{fold-append}
use Rattle.std.specs.List.{range_with_len}
use Rattle.link_files.specs.Store.{Store, no_files, file_of, with_file}
use Rattle.link_files.proofs.CallerLemmas.{file_of-no_files, file_of-with_file_same, file_of-with_file_other}
use Rattle.generated_world.specs.GeneratedObject.{object_name, short_name, generated_object}
use Rattle.generated_world.specs.GeneratedWorld.{named_object, with_named, generated_files, generated_words}

-- a name behind a buffer, cut or filled to eight bytes
pub short_name_after : (old name : List ℕ) (len now : ℕ) → len ≡ length old → now ≡ length (old ++ name) → take (len + 8) (old ++ name) ++ replicate (len + 8 - now) 0 ≡ old ++ short_name name
unfolding short_name
short_name_after old name len now e f =
    let zeros : len + 8 - now ≡ 8 - length name = omega (arith, length-append old name) in
    rw (e, take-append-add, ← e, zeros) (append_assoc old (take 8 name) (replicate (8 - length name) 0))

-- ---- the first objects

unfoldable pub first_files : ℕ → ℕ → Store
first_files count n = fold with_named no_files (map (named_object count) (range_with_len 0 n))

pub one_file_more : (count n : ℕ) → first_files count (n + 1) ≡ with_file (first_files count n) (object_name n) (generated_object count n)
unfolding first_files
one_file_more count n =
    ap (fold with_named no_files) (map-range_with_len_more (named_object count) 0 n n (omega arith))
    ∙ fold-append with_named no_files (map (named_object count) (range_with_len 0 n)) (named_object count n ∷ [])

pub one_name_more : (n : ℕ) → map object_name (range_with_len 0 (n + 1)) ≡ map object_name (range_with_len 0 n) ++ object_name n ∷ []
one_name_more n = map-range_with_len_more object_name 0 n n (omega arith)

pub no_file_yet : (count : ℕ) → first_files count 0 ≡ no_files
unfolding first_files
no_file_yet count = refl

-- ---- what the files hold

names_apart : (i j : ℕ) → i < 2 ^ 64 → j < 2 ^ 64 → i < j → object_name i ≡ object_name j → ⊥
names_apart i j small small_too lt same =
    let numbers = decimal_injective i j small small_too (ap (λ (name : List ℕ). drop 1 name) same) in
    omega (arith, numbers, lt)

held : (count n i : ℕ) → n ≤ 2000 → i < n → file_of (first_files count n) (object_name i) ≡ Some (generated_object count i)
held count zero i few lt = absurd (omega (arith, lt))
held count (suc n) i few lt =
    let more : suc n ≡ n + 1 = omega arith in
    rw (more, one_file_more) (
    elim (cases_lt i n) [
      | inl before ↦
          file_of-with_file_other (first_files count n) (object_name n) (generated_object count n) (object_name i) (names_apart i n (omega (arith, few, before)) (omega (arith, few)) before)
          ∙ held count n i (omega (arith, few)) before
      | inr last ↦
          let same : i ≡ n = omega (arith, last, lt) in
          rw same (file_of-with_file_same (first_files count n) (object_name n) (generated_object count n))
    ])

pub objects_held : (count i : ℕ) → count ≤ 2000 → i < count → file_of (generated_files count) (object_name i) ≡ Some (generated_object count i)
unfolding generated_files first_files
objects_held count i few lt = held count count i few lt

lacked : (count n : ℕ) (name : List ℕ) → ((i : ℕ) → i < n → name ≡ object_name i → ⊥) → file_of (first_files count n) name ≡ None
lacked count zero name apart = ap (λ (files : Store). file_of files name) (no_file_yet count) ∙ file_of-no_files name
lacked count (suc n) name apart =
    let more : suc n ≡ n + 1 = omega arith in
    rw (more, one_file_more) (
    file_of-with_file_other (first_files count n) (object_name n) (generated_object count n) name (apart n (omega arith))
    ∙ lacked count n name (λ i lt. apart i (omega (arith, lt))))

pub others_lacked : (count : ℕ) (name : List ℕ) → ((i : ℕ) → i < count → name ≡ object_name i → ⊥) → file_of (generated_files count) name ≡ None
unfolding generated_files first_files
others_lacked count name apart = lacked count count name apart

-- ---- the loops

pub file_added : (count n : ℕ) (old new : Store) (name bytes : List ℕ) → old ≡ first_files count n → new ≡ with_file old name bytes → name ≡ object_name n → bytes ≡ generated_object count n → new ≡ first_files count (n + 1)
file_added count n old new name bytes so_far added name_is bytes_are =
    added
    ∙ ap (λ (files : Store). with_file files name bytes) so_far
    ∙ ap (λ (text : List ℕ). with_file (first_files count n) text bytes) name_is
    ∙ ap (with_file (first_files count n) (object_name n)) bytes_are
    ∙ sym (one_file_more count n)

pub all_files : (count n : ℕ) (files : Store) → n ≡ count → files ≡ first_files count n → files ≡ generated_files count
unfolding generated_files first_files
all_files count n files all so_far = so_far ∙ ap (first_files count) all

pub name_added : {Z : Type 0} → (n : ℕ) (old new : Vec (String Z) Z) (text : String Z) → map string_bytes old.items ≡ codes "link" ∷ map object_name (range_with_len 0 n) → new.items ≡ old.items ++ text ∷ [] → string_bytes text ≡ object_name n → map string_bytes new.items ≡ codes "link" ∷ map object_name (range_with_len 0 (n + 1))
name_added n old new text so_far pushed text_is =
    ap (map string_bytes) pushed
    ∙ map-append string_bytes old.items (text ∷ [])
    ∙ ap (λ (words : List (List ℕ)). words ++ string_bytes text ∷ []) so_far
    ∙ ap (λ (word : List ℕ). (codes "link" ∷ map object_name (range_with_len 0 n)) ++ word ∷ []) text_is
    ∙ ap (λ (names : List (List ℕ)). codes "link" ∷ names) (sym (one_name_more n))

pub all_words : {Z : Type 0} → (count n : ℕ) (old middle new : Vec (String Z) Z) (entry out : String Z) → n ≡ count → map string_bytes old.items ≡ codes "link" ∷ map object_name (range_with_len 0 n)
    → middle.items ≡ old.items ++ entry ∷ [] → string_bytes entry ≡ codes "/ENTRY:f0" → new.items ≡ middle.items ++ out ∷ [] → string_bytes out ≡ codes "/OUT:g.exe" → map string_bytes new.items ≡ generated_words count
unfolding generated_words
all_words count n old middle new entry out all so_far pushed entry_is pushed_too out_is =
    let names = codes "link" ∷ map object_name (range_with_len 0 count) in
    ap (map string_bytes) pushed_too
    ∙ map-append string_bytes middle.items (out ∷ [])
    ∙ ap (λ (words : List (List ℕ)). words ++ string_bytes out ∷ []) (ap (map string_bytes) pushed ∙ map-append string_bytes old.items (entry ∷ []) ∙ ap (λ (words : List (List ℕ)). words ++ string_bytes entry ∷ []) (so_far ∙ ap (λ (k : ℕ). codes "link" ∷ map object_name (range_with_len 0 k)) all))
    ∙ ap (λ (word : List ℕ). (names ++ word ∷ []) ++ string_bytes out ∷ []) entry_is
    ∙ ap (λ (word : List ℕ). (names ++ codes "/ENTRY:f0" ∷ []) ++ word ∷ []) out_is
    ∙ append_assoc names (codes "/ENTRY:f0" ∷ []) (codes "/OUT:g.exe" ∷ [])
