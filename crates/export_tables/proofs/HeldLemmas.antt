-- Bytes that a mapped image holds at an RVA: their parts, the items in them, and fields.
use Rattle.std.proofs.Common.{◌≡◌, ℕ, ◌+◌, ◌^◌, ◌<◌, ◌≤◌, List, [], ◌∷◌, ◌++◌, length, take, drop, get_or, Some, le-leb, refl, sym, ap, ◌∙◌, arith, subst}
use Rattle.std.specs.List.{flat_map}
use Rattle.std.proofs.lemmas.List.{take-append-drop, drop_more, append-nil}
use Rattle.std.proofs.lemmas.List.Concat.{flat_map-append}
use Rattle.link_base.specs.Bytes.{number_bytes, field}
use Rattle.link_base.proofs.CallerLemmas.{length-number_bytes}
use Rattle.link_base.proofs.HeldLemmas.{held_part, held_fits, held_number}
use Rattle.export_tables.specs.ReadBack.{Holds}

-- ---- parts

-- of two parts the first, and the second
pub held_first : (memory : List ℕ) (rva : ℕ) (bytes after : List ℕ) → Holds memory rva (bytes ++ after) → Holds memory rva bytes
held_first memory rva bytes after held =
    subst (λ (n : ℕ). Holds memory n bytes) (omega arith) (held_part memory rva [] bytes after held)

pub held_rest : (memory : List ℕ) (rva at : ℕ) (before bytes : List ℕ) → Holds memory rva (before ++ bytes) → rva + length before ≡ at → Holds memory at bytes
held_rest memory rva at before bytes held is =
    subst (λ (n : ℕ). Holds memory n bytes) is
    (held_part memory rva before bytes [] (subst (λ (xs : List ℕ). Holds memory rva (before ++ xs)) (sym (append-nil bytes)) held))

-- ---- items, one behind the other

split_items : {X : Type 0} (bytes_of : X → List ℕ) (items : List X) (place : ℕ) (d : X) → place < length items → flat_map bytes_of items ≡ flat_map bytes_of (take place items) ++ (bytes_of (get_or items place d) ++ flat_map bytes_of (drop (place + 1) items))
split_items bytes_of items place d lt =
    ap (flat_map bytes_of) (sym (take-append-drop place items) ∙ ap (λ (xs : List _). take place items ++ xs) (drop_more items place d lt))
    ∙ flat_map-append bytes_of (take place items) (get_or items place d ∷ drop (place + 1) items)

pub held_item : {X : Type 0} (bytes_of : X → List ℕ) (memory : List ℕ) (rva at : ℕ) (items : List X) (place : ℕ) (d : X) → Holds memory rva (flat_map bytes_of items) → place < length items → rva + length (flat_map bytes_of (take place items)) ≡ at → Holds memory at (bytes_of (get_or items place d))
held_item bytes_of memory rva at items place d held lt is =
    subst (λ (n : ℕ). Holds memory n (bytes_of (get_or items place d))) is
    (held_part memory rva (flat_map bytes_of (take place items)) (bytes_of (get_or items place d)) (flat_map bytes_of (drop (place + 1) items))
    (subst (Holds memory rva) (split_items bytes_of items place d lt) held))

-- ---- numbers

pub held_field : (memory : List ℕ) (rva width number : ℕ) → Holds memory rva (number_bytes width number) → 0 < width → number < 256 ^ width → field width memory rva ≡ Some number
held_field memory rva width number held some fits =
    let size = length-number_bytes width number in
    let there : rva + width ≤ length memory = omega (arith, size, held_fits memory rva (number_bytes width number) held (omega (arith, size, some))) in
    rw (le-leb _ _ there, held_number memory rva width number held fits) refl
