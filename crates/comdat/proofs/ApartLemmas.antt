-- The sections of modules that go by a name are apart from one another.
use Rattle.std.proofs.Common.{◌≡◌, ℕ, zero, suc, ◌+◌, ◌<◌, Bool, true, false, cond, eqb, ◌&&◌, List, [], ◌∷◌, ◌++◌, length, get_or, filter, map, refl, ap, ◌∙◌, arith}
use Rattle.std.proofs.Math.Bool.{and-false}
use Rattle.std.specs.List.{All, AllPairs, range_with_len, flat_map}
use Rattle.std.proofs.lemmas.Bool.{ne_eqb}
use Rattle.std.proofs.lemmas.List.Elements.{All-append, All-weaker}
use Rattle.std.proofs.lemmas.List.Kept.{AllPairs-cons}
use Rattle.link_base.proofs.RangeLemmas.{all_kept, all_joined}
use Rattle.coff_records.specs.ObjectFile.{section_total}
use Rattle.module_view.specs.Module.{ModuleView, module_at}
use Rattle.comdat.specs.Entries.{AreApart}
use Rattle.comdat.specs.Groups.{Named}
use Rattle.comdat.specs.Selection.{goes_by_name, entry_in, entries_of, all_entries}

joined : (xs ys : List Named) → AllPairs AreApart xs → AllPairs AreApart ys → All (λ x. All (AreApart x) ys) xs → AllPairs AreApart (xs ++ ys)
joined [] ys first second across = second
joined (x ∷ xs) ys first second across =
    AllPairs-cons AreApart x (xs ++ ys)
    (All-append (AreApart x) xs ys (λ k d lt. first 0 (suc k) d (omega arith) (omega (arith, lt))) (across 0 x (omega arith)))
    (joined xs ys (λ i j d before lt. first (suc i) (suc j) d (omega (arith, before)) (omega (arith, lt))) second (λ k d lt. across (suc k) d (omega (arith, lt))))

-- those of other modules, and of other numbers
other_module : (one other : Named) → one.candidate.«module» < other.candidate.«module» → AreApart one other
other_module one other lt =
    ap (λ (b : Bool). b && eqb other.candidate.section one.candidate.section) (ne_eqb other.candidate.«module» one.candidate.«module» (λ e. absurd (omega (arith, lt, e))))

other_number : (one other : Named) → one.candidate.section < other.candidate.section → AreApart one other
other_number one other lt =
    ap (λ (b : Bool). eqb other.candidate.«module» one.candidate.«module» && b) (ne_eqb other.candidate.section one.candidate.section (λ e. absurd (omega (arith, lt, e))))
    ∙ and-false (eqb other.candidate.«module» one.candidate.«module»)

of_module : (position : ℕ) (bytes : List ℕ) (a n : ℕ) → AllPairs AreApart (map (entry_in position bytes) (filter (goes_by_name bytes) (range_with_len a n)))
of_module position bytes a zero = λ i j d before lt. absurd (omega (arith, lt))
of_module position bytes a (suc n) = go (goes_by_name bytes a) (of_module position bytes (a + 1) n)
  where
    rest : List ℕ
    rest = filter (goes_by_name bytes) (range_with_len (a + 1) n)

    later : All (AreApart (entry_in position bytes a)) (map (entry_in position bytes) rest)
    later = all_kept (AreApart (entry_in position bytes a)) (entry_in position bytes) (goes_by_name bytes) (a + 1) n (λ k low high passes. other_number (entry_in position bytes a) (entry_in position bytes k) (omega (arith, low)))

    go : (b : Bool) → AllPairs AreApart (map (entry_in position bytes) rest) → AllPairs AreApart (map (entry_in position bytes) (cond b (a ∷ rest) rest))
    go true others = AllPairs-cons AreApart (entry_in position bytes a) (map (entry_in position bytes) rest) later others
    go false others = others

module_is : (position : ℕ) (bytes : List ℕ) → All (λ entry. entry.candidate.«module» ≡ position) (entries_of position bytes)
module_is position bytes =
    all_kept (λ entry. entry.candidate.«module» ≡ position) (entry_in position bytes) (goes_by_name bytes) 1 (section_total bytes) (λ k low high passes. refl)

pub entries_apart : (modules : List ModuleView) → AllPairs AreApart (all_entries modules)
entries_apart modules = go 0 (length modules)
  where
    of : ℕ → List Named
    of m = entries_of m (module_at modules m).bytes

    go : (a n : ℕ) → AllPairs AreApart (flat_map of (range_with_len a n))
    go a zero = λ i j d before lt. absurd (omega (arith, lt))
    go a (suc n) =
        let rest = flat_map of (range_with_len (a + 1) n) in
        let above : All (λ entry. a < entry.candidate.«module») rest =
        all_joined (λ entry. a < entry.candidate.«module») of (a + 1) n (λ k low high.
        All-weaker (λ entry. entry.candidate.«module» ≡ k) (λ entry. a < entry.candidate.«module») (λ entry is. omega (arith, is, low)) (of k) (module_is k (module_at modules k).bytes)) in
        joined (of a) rest (of_module a (module_at modules a).bytes 1 (section_total (module_at modules a).bytes)) (go (a + 1) n)
        (λ k d lt j e within. other_module (get_or (of a) k d) (get_or rest j e) (omega (arith, module_is a (module_at modules a).bytes k d lt, above j e within)))
