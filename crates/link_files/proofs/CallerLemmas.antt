-- What callers may cite: the files of a store after a file was put into it.
use Rattle.std.proofs.Common.{◌≡◌, ◌≢◌, ℕ, Bool, true, false, cond, List, Some, None, refl, ap, ◌∙◌}
use Rattle.std.specs.Ordering.{nat_cmp, eq_by_cmp}
use Rattle.std.specs.Cmp.Lexicographic.{slice_cmp, nat_list_cmp_total}
use Rattle.std.specs.Str.{bytes_eq}
use Rattle.std.specs.FinMap.{get-empty, get-insert, same_map, slice_cmp-IsAntisymmetric, nat_cmp-IsAntisymmetric}
use Rattle.std.proofs.lemmas.Bool.{false_from_ne_true}
use Rattle.std.proofs.lemmas.Map.Text.{is_eq-slice_cmp}
use Rattle.std.proofs.lemmas.Slice.Eq.{bytes_eq-Decides}
use Rattle.link_files.specs.Store.{Store, no_files, file_of, with_file}

pub file_of-no_files : (name : List ℕ) → file_of no_files name ≡ None
file_of-no_files name = get-empty (slice_cmp nat_cmp) name

test_true : (name other : List ℕ) → name ≡ other → eq_by_cmp (slice_cmp nat_cmp) name other ≡ true
test_true name other same = is_eq-slice_cmp name other ∙ (bytes_eq-Decides name other).1 same

test_false : (name other : List ℕ) → name ≢ other → eq_by_cmp (slice_cmp nat_cmp) name other ≡ false
test_false name other apart =
    is_eq-slice_cmp name other ∙ false_from_ne_true (bytes_eq name other) (λ e. apart ((bytes_eq-Decides name other).0 e))

-- the file that was put is there
pub file_of-with_file_same : (files : Store) (name bytes : List ℕ) → file_of (with_file files name bytes) name ≡ Some bytes
file_of-with_file_same files name bytes =
    get-insert nat_list_cmp_total files name bytes name
    ∙ ap (λ (b : Bool). cond b (Some bytes) (file_of files name)) (test_true name name refl)

-- every other file is as it was
pub file_of-with_file_other : (files : Store) (name bytes other : List ℕ) → other ≢ name → file_of (with_file files name bytes) other ≡ file_of files other
file_of-with_file_other files name bytes other apart =
    get-insert nat_list_cmp_total files name bytes other
    ∙ ap (λ (b : Bool). cond b (Some bytes) (file_of files other)) (test_false other name apart)

-- two stores with the same files are one
pub same_store : (one two : Store) → ((name : List ℕ) → file_of one name ≡ file_of two name) → one ≡ two
same_store one two same = same_map nat_list_cmp_total (slice_cmp-IsAntisymmetric nat_cmp-IsAntisymmetric) one two same
