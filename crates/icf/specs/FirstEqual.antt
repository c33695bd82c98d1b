-- What the numbers of first equal keys are. It decides nothing.
use Rattle.std.specs.Prelude.{◌≡◌, ℕ, ◌<◌, Bool, true, false, List, length, slice_index, slice_index_or, Option, Some, MatchOption, if◌then◌else◌}
use Rattle.icf.specs.Folding.{AreLeast}

-- each of the first keys has the number of the first that equals it
pub record AreFirstTo {K : Type 0} (eq : K → K → Bool) (keys : List K) (count : ℕ) (numbers : List ℕ) : Type 0 where
  pub same_length : length numbers ≡ count
  pub first : AreLeast numbers
  pub equal : (i j : ℕ) (d : K) → i < count → j < count → slice_index numbers i ≡ slice_index numbers j
      → eq (slice_index_or keys i d) (slice_index_or keys j d) ≡ true
  pub every : (i j : ℕ) (d : K) → i < count → j < count → eq (slice_index_or keys i d) (slice_index_or keys j d) ≡ true
      → slice_index numbers i ≡ slice_index numbers j

abbrev pub AreFirstEqual : {K : Type 0} → (K → K → Bool) → List K → List ℕ → Type 0
AreFirstEqual eq keys numbers = AreFirstTo eq keys (length keys) numbers

-- what a look-up of a key among the first keys finds: the number of the first that equals it
abbrev pub FindsFirst : {K : Type 0} → (K → K → Bool) → List K → ℕ → List ℕ → K → Option ℕ → Type 0
FindsFirst {K} eq keys count numbers key found =
    MatchOption found
    ((i : ℕ) (d : K) → i < count → eq (slice_index_or keys i d) key ≡ false)
    (λ first. (first < count) × ((slice_index numbers first ≡ first) × ((d : K) → eq (slice_index_or keys first d) key ≡ true)))

-- a key is entered under a number where it was not there; the answer is its number then
abbrev pub Enters : {K : Type 0} → (K → K → Bool) → (K → Option ℕ) → (K → Option ℕ) → K → ℕ → ℕ → Type 0
Enters {K} eq old new key number answer =
    MatchOption (old key)
    ((answer ≡ number) × ((other : K) → new other ≡ (if eq key other then Some number else old other)))
    (λ first. (answer ≡ first) × ((other : K) → new other ≡ old other))
