-- The fields of a walk lie in the memory, and raising them by nothing leaves a memory of bytes as it is.
use Rattle.std.proofs.Common.{◌≡◌, ℕ, zero, suc, ◌+◌, ◌*◌, ◌/◌, ◌%◌, ◌^◌, ◌<◌, ◌≤◌, Bool, true, false, cond, List, [], ◌∷◌, ◌++◌, length, take, drop, slice_index, inl, inr, refl, sym, ap, ◌∙◌, subst, ◌-◌, arith}
use Rattle.std.specs.List.{All}
use Rattle.std.specs.Int.{byte_at, bytes_low_first}
use Rattle.std.proofs.Math.Nat.{div-one, div-div-eq-div-mul, pow-suc}
use Rattle.std.proofs.lemmas.Bool.{and_parts, cases_lt, leb-true}
use Rattle.std.proofs.lemmas.List.{drop_more, drop-drop, get_or_past, take-append-drop}
use Rattle.byteorder.specs.Endian.{little_from, little_bytes}
use Rattle.byteorder.specs.Numbers.{little_from-lt}
use Rattle.link_base.specs.Bytes.{number_at, u16_at}
use Rattle.base_reloc.specs.declared.field.BaseField.{BaseField}
use Rattle.base_reloc.specs.declared.entry.Entry.{Entry}
use Rattle.base_reloc.specs.declared.entry.Entry.TheVariants.{Skip, Field, Malformed}
use Rattle.base_reloc.specs.Blocks.{Walk, Fields, MalformedAt, width_of, entry_of, with_entry, then_walk, entries_at, block_size, block_page, block_entries, blocks_at, walk_of, walked_fields, raised, raised_all}

-- ---- bytes

abbrev pub HaveBytes : List ℕ → Type 0
HaveBytes bytes = (k : ℕ) → slice_index bytes k < 256

-- a list of bytes has bytes, and zeros past its end
pub have_bytes : (bytes : List ℕ) → All (λ byte. byte < 256) bytes → HaveBytes bytes
have_bytes bytes all k =
    elim (cases_lt k (length bytes)) [
      | inl lt ↦ all k 0 lt
      | inr past ↦ let none = get_or_past bytes k 0 past in omega (arith, none)
    ]

byte_at-pow : (k x : ℕ) → byte_at k x ≡ x / 256 ^ k % 256
byte_at-pow zero x = ap (λ (y : ℕ). y % 256) (sym (div-one x))
byte_at-pow (suc k) x = refl

-- the bytes of a number that was read are those that it was read from
bytes_back : (k j x i : ℕ) (xs : List ℕ) → ((n : ℕ) → slice_index xs n < 256) → x / 256 ^ j ≡ little_from i k xs → i + k ≤ length xs → bytes_low_first j k x ≡ take k (drop i xs)
bytes_back zero j x i xs small is fits = refl
bytes_back (suc k) j x i xs small is fits =
    let byte = slice_index xs i in
    let rest = little_from (suc i) k xs in
    let here : byte_at j x ≡ byte = byte_at-pow j x ∙ low (x / 256 ^ j) byte rest is (small i) in
    let shift : x / 256 ^ suc j ≡ rest = ap (λ (p : ℕ). x / p) (pow-suc 256 j) ∙ sym (div-div-eq-div-mul x (256 ^ j) 256) ∙ high (x / 256 ^ j) byte rest is (small i) in
    let next : suc i ≡ i + 1 = omega arith in
    let more = bytes_back k (suc j) x (suc i) xs small shift (omega arith) ∙ ap (λ (n : ℕ). take k (drop n xs)) next in
    ap (λ (n : ℕ). n ∷ bytes_low_first (suc j) k x) here
    ∙ ap (λ (ns : List ℕ). byte ∷ ns) more
    ∙ sym (ap (take (suc k)) (drop_more xs i 0 (omega arith)))
  where
    low : (whole byte rest : ℕ) → whole ≡ byte + 256 * rest → byte < 256 → whole % 256 ≡ byte
    low whole byte rest e lt = omega arith

    high : (whole byte rest : ℕ) → whole ≡ byte + 256 * rest → byte < 256 → whole / 256 ≡ rest
    high whole byte rest e lt = omega arith

-- ---- one field

whole_number : (number : ℕ) (wide : Bool) → number < 256 ^ cond wide 8 4 → (number + 0) % 2 ^ (8 * cond wide 8 4) ≡ number
whole_number number true lt = omega (arith, lt)
whole_number number false lt = omega (arith, lt)

put_back : (rva width : ℕ) (memory : List ℕ) → take rva memory ++ (take width (drop rva memory) ++ drop (rva + width) memory) ≡ memory
put_back rva width memory =
    ap (λ (xs : List ℕ). take rva memory ++ (take width (drop rva memory) ++ xs)) (sym (drop-drop width rva memory))
    ∙ ap (λ (xs : List ℕ). take rva memory ++ xs) (take-append-drop width (drop rva memory))
    ∙ take-append-drop rva memory

pub raised_nothing : (memory : List ℕ) (field : BaseField) → HaveBytes memory → field.rva + width_of field ≤ length memory → raised 0 memory field ≡ memory
unfolding number_at
raised_nothing memory field small fits =
    let width : ℕ = width_of field in
    let number = little_from field.rva width memory in
    let same : (number + 0) % 2 ^ (8 * width) ≡ number = whole_number number field.wide (little_from-lt field.rva width memory small) in
    ap (λ (n : ℕ). take field.rva memory ++ (little_bytes width n ++ drop (field.rva + width) memory)) same
    ∙ ap (λ (xs : List ℕ). take field.rva memory ++ (xs ++ drop (field.rva + width) memory)) (bytes_back width 0 number field.rva memory small (div-one number) fits)
    ∙ put_back field.rva width memory

-- ---- the fields of a walk

Fit : ℕ → List BaseField → Type 0
Fit size [] = Unit {0}
Fit size (field ∷ fields) = (field.rva + width_of field ≤ size) × Fit size fields

fit_both : (size : ℕ) (xs ys : List BaseField) → Fit size xs → Fit size ys → Fit size (xs ++ ys)
unfolding Fit
fit_both size [] ys a b = b
fit_both size (x ∷ xs) ys a b = (a.0, fit_both size xs ys a.1 b)

WalkFits : ℕ → Walk → Type 0
WalkFits size (Fields fields) = Fit size fields
WalkFits size (MalformedAt offset) = Unit {0}

EntryFits : ℕ → Entry → Type 0
EntryFits size Skip = Unit {0}
EntryFits size (Field field) = field.rva + width_of field ≤ size
EntryFits size Malformed = Unit {0}

entry_fits : (size page word : ℕ) → EntryFits size (entry_of size page word)
unfolding EntryFits
entry_fits size page word =
    go _ _ _
    (λ e. leb-true (page + word % 4096 + 4) size (and_parts _ _ e).1)
    (λ e. leb-true (page + word % 4096 + 8) size (and_parts _ _ e).1)
  where
    go : (a b c : Bool) → (b ≡ true → page + word % 4096 + 4 ≤ size) → (c ≡ true → page + word % 4096 + 8 ≤ size) → EntryFits size (cond a Skip (cond b (Field (record { rva = page + word % 4096; wide = false })) (cond c (Field (record { rva = page + word % 4096; wide = true })) Malformed)))
    go true b c narrow wide = tt
    go false true c narrow wide = narrow refl
    go false false true narrow wide = wide refl
    go false false false narrow wide = tt

with_entry_fits : (size offset : ℕ) (entry : Entry) (rest : Walk) → EntryFits size entry → WalkFits size rest → WalkFits size (with_entry offset entry rest)
unfolding WalkFits EntryFits Fit
with_entry_fits size offset Skip rest here later = later
with_entry_fits size offset (Field field) (Fields fields) here later = (here, later)
with_entry_fits size offset (Field field) (MalformedAt other) here later = tt
with_entry_fits size offset Malformed rest here later = tt

then_walk_fits : (size : ℕ) (first second : Walk) → WalkFits size first → WalkFits size second → WalkFits size (then_walk first second)
unfolding WalkFits
then_walk_fits size (Fields first) (Fields second) a b = fit_both size first second a b
then_walk_fits size (Fields first) (MalformedAt offset) a b = tt
then_walk_fits size (MalformedAt offset) second a b = tt

entries_fit : (size page : ℕ) (blocks : List ℕ) (offset count : ℕ) → WalkFits size (entries_at size page blocks offset count)
unfolding entries_at WalkFits Fit
entries_fit size page blocks offset zero = tt
entries_fit size page blocks offset (suc count) =
    with_entry_fits size offset (entry_of size page (u16_at blocks offset)) (entries_at size page blocks (offset + 2) count) (entry_fits size page (u16_at blocks offset)) (entries_fit size page blocks (offset + 2) count)

blocks_fit : (most size : ℕ) (blocks : List ℕ) (offset : ℕ) → WalkFits size (blocks_at most size blocks offset)
unfolding blocks_at block_entries WalkFits Fit
blocks_fit zero size blocks offset = tt
blocks_fit (suc most) size blocks offset =
    go _ _ (then_walk (block_entries size blocks offset) (blocks_at most size blocks (offset + block_size blocks offset)))
    (then_walk_fits size (block_entries size blocks offset) (blocks_at most size blocks (offset + block_size blocks offset)) (entries_fit size (block_page blocks offset) blocks (offset + 8) ((block_size blocks offset - 8) / 2)) (blocks_fit most size blocks (offset + block_size blocks offset)))
  where
    go : (a b : Bool) (walk : Walk) → WalkFits size walk → WalkFits size (cond a (Fields []) (cond b walk (MalformedAt offset)))
    go true b walk fits = tt
    go false true walk fits = fits
    go false false walk fits = tt

fields_fit : (size : ℕ) (walk : Walk) → WalkFits size walk → Fit size (walked_fields walk)
unfolding WalkFits Fit
fields_fit size (Fields fields) fits = fits
fields_fit size (MalformedAt offset) fits = tt

all_nothing : (memory : List ℕ) (fields : List BaseField) → HaveBytes memory → Fit (length memory) fields → raised_all 0 memory fields ≡ memory
unfolding Fit
all_nothing memory [] small fits = refl
all_nothing memory (field ∷ fields) small fits =
    ap (λ (xs : List ℕ). raised_all 0 xs fields) (raised_nothing memory field small fits.0) ∙ all_nothing memory fields small fits.1

-- the fields of a walk over blocks, raised by nothing
pub walk_raises_nothing : (memory blocks : List ℕ) (size : ℕ) → HaveBytes memory → length memory ≡ size → raised_all 0 memory (walked_fields (walk_of size blocks)) ≡ memory
walk_raises_nothing memory blocks size small len =
    all_nothing memory (walked_fields (walk_of size blocks)) small
    (subst (λ (n : ℕ). Fit n (walked_fields (walk_of size blocks))) (sym len) (fields_fit size (walk_of size blocks) (blocks_fit (length blocks + 1) size blocks 0)))
