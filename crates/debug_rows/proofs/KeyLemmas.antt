-- The orders of the keys of pieces and of public symbols are total, and keys that tie are one.
use Rattle.std.proofs.Common.{◌≡◌, ℕ, List, ap, rules}
use Rattle.std.specs.List.Sorted.{IsSorted, IsPermutation}
use Rattle.std.specs.Ordering.{nat_cmp}
use Rattle.std.specs.Cmp.{IsTotalOrder}
use Rattle.std.specs.Cmp.Lexicographic.{slice_cmp}
use Rattle.std.specs.Cmp.Rules.{comparing}
use Rattle.std.specs.declared.cmp.Ordering.TheVariants.{Equal}
use Rattle.std.proofs.lemmas.Map.Lookups.{exact_unsigned, exact_bytes, exact_pairs}
use Rattle.sorted_lists.specs.Order.{in_order}
use Rattle.sorted_lists.proofs.CallerLemmas.{is_in_order}
use Rattle.debug_rows.specs.declared.piece_rows.PieceKey.{PieceKey}
use Rattle.debug_rows.specs.declared.placed_publics.PublicKey.{PublicKey}
use Rattle.debug_rows.specs.MapPieces.{key_cmp}
use Rattle.debug_rows.specs.PlacedPublics.{key_cmp as public_cmp}

-- ---- pieces

key_total : IsTotalOrder key_cmp
key_total = search (comparing, rules) depth 8

-- what a key is made of
abbrev piece_parts : PieceKey → ℕ × (ℕ × (ℕ × ℕ))
piece_parts key = (key.rva, (key.«module», (key.number, key.index)))

abbrev of_parts : ℕ × (ℕ × (ℕ × ℕ)) → PieceKey
of_parts parts = record { rva = parts.0; «module» = parts.1.0; number = parts.1.1.0; index = parts.1.1.1 }

one_key : (a b : PieceKey) → key_cmp a b ≡ Equal → a ≡ b
one_key a b e =
    ap of_parts (exact_pairs nat_cmp _ exact_unsigned (exact_pairs nat_cmp _ exact_unsigned (exact_pairs nat_cmp nat_cmp exact_unsigned exact_unsigned)) (piece_parts a) (piece_parts b) e)

pub keys_in_order : (keys sorted : List PieceKey) → IsPermutation keys sorted → IsSorted key_cmp sorted → sorted ≡ in_order key_cmp keys
keys_in_order keys sorted moved up = is_in_order key_cmp key_total one_key keys sorted moved up

-- ---- public symbols

public_total : IsTotalOrder public_cmp
public_total = search (comparing, rules) depth 8

abbrev public_parts : PublicKey → ℕ × (List ℕ × ℕ)
public_parts key = (key.rva, (key.name, key.«module»))

abbrev of_public_parts : ℕ × (List ℕ × ℕ) → PublicKey
of_public_parts parts = record { rva = parts.0; name = parts.1.0; «module» = parts.1.1 }

one_public : (a b : PublicKey) → public_cmp a b ≡ Equal → a ≡ b
one_public a b e =
    ap of_public_parts (exact_pairs nat_cmp _ exact_unsigned (exact_pairs (slice_cmp nat_cmp) nat_cmp exact_bytes exact_unsigned) (public_parts a) (public_parts b) e)

pub publics_in_order : (keys sorted : List PublicKey) → IsPermutation keys sorted → IsSorted public_cmp sorted → sorted ≡ in_order public_cmp keys
publics_in_order keys sorted moved up = is_in_order public_cmp public_total one_public keys sorted moved up
