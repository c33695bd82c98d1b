-- The entries of resource files that are not too large together, and of which no two are one resource, are such as a tree can
-- hold.
use Rattle.std.proofs.Common.{◌≡◌, ℕ, ◌≤◌, Bool, true, false, cond, eqb, ltb, List, [], ◌∷◌, ◌++◌, length, refl, sym, ap, ◌∙◌, eqb-true, subst, arith}
use Rattle.std.specs.Prelude.{◌&&◌, filter}
use Rattle.std.specs.List.{flat_map, sum_by, list_any, AllByRecursion, IsDistinct}
use Rattle.std.specs.Ordering.{nat_cmp, ordering_then, is_eq}
use Rattle.std.specs.declared.cmp.Ordering.{Ordering}
use Rattle.std.specs.declared.cmp.Ordering.TheVariants.{Less, Equal, Greater}
use Rattle.std.proofs.lemmas.Bool.{false≢true}
use Rattle.std.proofs.lemmas.Bool.Decides.{Decides-eqb}
use Rattle.std.proofs.lemmas.Slice.Eq.{bytes_eq-Decides}
use Rattle.std.proofs.lemmas.List.Sums.{sum_by-cons, sum_by-append}
use Rattle.std.proofs.lemmas.List.Elements.{All-from_recursion}
use Rattle.link_base.specs.Limits.{INPUT_LIMIT}
use Rattle.link_base.proofs.TestLemmas.{or_left, or_right}
use Rattle.res_merge.specs.Entries.{Key, Number, Text, Entry}
use Rattle.res_merge.specs.Order.{RESOURCE_LIMIT, IsShort, entry_size, key_cmp, same_resource, AreMergeable}
use Rattle.res_merge.specs.Found.{equal_key}
use Rattle.res_merge.proofs.GroupLemmas.{keys_one}
use Rattle.file_search.specs.FoundFiles.{FoundFile}
use Rattle.resource_files.specs.Held.{is_resource_file, entries_in, entries_among, same_entry}
use Rattle.resource_files.proofs.FileLemmas.{file_fits}

abbrev pub HasShortTexts : Entry → Type 0
HasShortTexts entry = IsShort entry.kind × IsShort entry.name

abbrev pub file_len : FoundFile → ℕ
file_len file = length file.bytes

-- ---- lists

all_append : {A : Type 0} (P : A → Type 0) (xs ys : List A) → AllByRecursion P xs → AllByRecursion P ys → AllByRecursion P (xs ++ ys)
all_append P [] ys p q = q
all_append P (x ∷ xs) ys p q = (p.0, all_append P xs ys p.1 q)

-- one more, which none before it is
pub distinct_push : {A : Type 0} (same : A → A → Bool) (xs : List A) (y : A) → IsDistinct same xs → list_any (λ x. same x y) xs ≡ false → IsDistinct same (xs ++ y ∷ [])
unfolding IsDistinct
distinct_push same [] y p q = (tt, tt)
distinct_push same (x ∷ xs) y p q =
    let here = or_left (same x y) (list_any (λ z. same z y) xs) q in
    let rest = or_right (same x y) (list_any (λ z. same z y) xs) q in
    (all_append (λ z. same x z ≡ false) xs (y ∷ []) p.0 (here, tt), distinct_push same xs y p.1 rest)

-- ---- several files

among_small : (files : List FoundFile) → sum_by entry_size (entries_among files) ≤ sum_by file_len files
among_small [] = omega arith
among_small (file ∷ files) = go (among_small files) (is_resource_file file)
  where
    go : sum_by entry_size (entries_among files) ≤ sum_by file_len files → (b : Bool) → sum_by entry_size (flat_map entries_in (cond b (file ∷ filter is_resource_file files) (filter is_resource_file files))) ≤ sum_by file_len (file ∷ files)
    go rest true =
        omega (arith, rest, (file_fits file.bytes).small, sum_by-append entry_size (entries_in file) (entries_among files), sum_by-cons file_len file files)
    go rest false = omega (arith, rest, sum_by-cons file_len file files)

among_short : (files : List FoundFile) → AllByRecursion HasShortTexts (entries_among files)
among_short [] = tt
among_short (file ∷ files) = go (among_short files) (is_resource_file file)
  where
    go : AllByRecursion HasShortTexts (entries_among files) → (b : Bool) → AllByRecursion HasShortTexts (flat_map entries_in (cond b (file ∷ filter is_resource_file files) (filter is_resource_file files)))
    go rest true = all_append HasShortTexts (entries_in file) (entries_among files) (file_fits file.bytes).short rest
    go rest false = rest

-- ---- one type, name and language

key_itself : (key : Key) → equal_key key key ≡ true
key_itself (Number number) = (Decides-eqb number number).1 refl
key_itself (Text units) = (bytes_eq-Decides units units).1 refl

then_both : (a b : Ordering) → is_eq (ordering_then a b) ≡ true → (is_eq a ≡ true) × (is_eq b ≡ true)
then_both Less b e = absurd (false≢true e)
then_both Equal b e = (refl, e)
then_both Greater b e = absurd (false≢true e)

number_one : (m n : ℕ) → is_eq (nat_cmp m n) ≡ true → m ≡ n
number_one m n e = go (ltb m n) (eqb m n) refl e
  where
    go : (b c : Bool) → eqb m n ≡ c → is_eq (cond b Less (cond c Equal Greater)) ≡ true → m ≡ n
    go true c same e = absurd (false≢true e)
    go false true same e = eqb-true m n same
    go false false same e = absurd (false≢true e)

one_entry : (a b : Entry) → HasShortTexts a → HasShortTexts b → same_resource a b ≡ true → same_entry a b ≡ true
one_entry a b short also e =
    let first = then_both (key_cmp a.kind b.kind) (ordering_then (key_cmp a.name b.name) (nat_cmp a.language b.language)) e in
    let second = then_both (key_cmp a.name b.name) (nat_cmp a.language b.language) first.1 in
    let kind = keys_one a.kind b.kind short.0 also.0 first.0 in
    let name = keys_one a.name b.name short.1 also.1 second.0 in
    let language = number_one a.language b.language second.1 in
    let kinds : equal_key a.kind b.kind ≡ true = ap (equal_key a.kind) (sym kind) ∙ key_itself a.kind in
    let names : equal_key a.name b.name ≡ true = ap (equal_key a.name) (sym name) ∙ key_itself a.name in
    let languages : eqb b.language a.language ≡ true = (Decides-eqb b.language a.language).1 (sym language) in
    ap (λ (x : Bool). x && (equal_key a.name b.name && eqb b.language a.language)) kinds
    ∙ ap (λ (x : Bool). x && eqb b.language a.language) names
    ∙ languages

apart_entries : (entries : List Entry) → AllByRecursion HasShortTexts entries → IsDistinct same_entry entries → IsDistinct same_resource entries
unfolding IsDistinct
apart_entries [] short apart = tt
apart_entries (entry ∷ rest) short apart = (each rest short.1 apart.0, apart_entries rest short.1 apart.1)
  where
    differ : (other : Entry) (b : Bool) → same_resource entry other ≡ b → HasShortTexts other → same_entry entry other ≡ false → same_resource entry other ≡ false
    differ other true e also apart = absurd (false≢true (sym apart ∙ one_entry entry other short.0 also e))
    differ other false e also apart = e

    each : (others : List Entry) → AllByRecursion HasShortTexts others → AllByRecursion (λ other. same_entry entry other ≡ false) others → AllByRecursion (λ other. same_resource entry other ≡ false) others
    each [] also apart = tt
    each (other ∷ others) also apart = (differ other (same_resource entry other) refl also.0 apart.0, each others also.1 apart.1)

pub mergeable : (files : List FoundFile) (entries : List Entry) → entries ≡ entries_among files → sum_by file_len files ≤ INPUT_LIMIT → length entries ≤ RESOURCE_LIMIT → IsDistinct same_entry entries → AreMergeable entries
mergeable files entries is together few apart =
    let small = among_small files in
    let size = ap (sum_by entry_size) is in
    let short = subst (AllByRecursion HasShortTexts) (sym is) (among_short files) in
    record {
      few = few;
      apart = apart_entries entries short apart;
      short = All-from_recursion HasShortTexts entries short;
      small = omega (arith, small, size, together);
    }
