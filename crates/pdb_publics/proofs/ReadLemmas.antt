-- The bytes of a stream as they are read.
use Rattle.std.proofs.Common.{◌≡◌, ◌≢◌, ℕ, suc, ◌+◌, ◌-◌, ◌*◌, ◌<◌, ◌≤◌, Bool, true, false, cond, eqb, lt-ltb, le-ltb, ◌&&◌, List, [], ◌∷◌, ◌++◌, length, get_or, take, drop, Option, Some, None, option_map, unwrap_or, refl, sym, ap, ◌∙◌, arith, rules, length-drop, length-append}
use Rattle.std.specs.List.{slice_get, position, position_or_len}
use Rattle.std.specs.Cmp.Lexicographic.{bytes_decides}
use Rattle.std.proofs.lemmas.List.{get_or-take, get_or-drop, take-append-drop, take-take, drop-drop, drop-take, ext_get_or}
use Rattle.std.proofs.lemmas.List.Sums.{position_or_len_is}
use Rattle.std.proofs.lemmas.Option.{unwrap_or-slice_get}
use Rattle.link_base.specs.Bytes.{number_at, bytes_at, is_nul, text_at}
use Rattle.link_base.specs.NameText.{same_name, import_prefix, import_prefix_of, begins_import, behind_import}
use Rattle.link_base.proofs.NameTextLemmas.{same_refl}
use Rattle.link_base.proofs.PartLemmas.{length_part}
use Rattle.pdb_msf.specs.Streams.{stream_of, byte_of, stream_byte}
use Rattle.pdb_publics.specs.Lookup.{stream_bytes_of}
use Rattle.pdb_publics.proofs.HashLemmas.{whole_import, whole_other}

-- ---- numbers

byte_of_empty : (stream : Option (List ℕ)) (offset : ℕ) → byte_of stream offset ≡ slice_get (unwrap_or stream []) offset
byte_of_empty None offset = refl
byte_of_empty (Some bytes) offset = refl

pub byte_missing : (file : List ℕ) (stream offset : ℕ) → None ≡ stream_byte file stream offset → 0 ≡ get_or (stream_bytes_of file stream) offset 0
byte_missing file stream offset none =
    ap (λ (o : Option ℕ). unwrap_or o 0) (none ∙ byte_of_empty (stream_of file stream) offset) ∙ unwrap_or-slice_get (stream_bytes_of file stream) offset 0

pub two_bytes : (bytes : List ℕ) (at low high : ℕ) → low ≡ get_or bytes at 0 → high ≡ get_or bytes (at + 1) 0 → low + 256 * high ≡ number_at 2 bytes at
unfolding number_at
two_bytes bytes at low high is_low is_high =
    let next : at + 1 ≡ suc at = omega arith in
    let second = is_high ∙ ap (λ (k : ℕ). get_or bytes k 0) next in
    omega (arith, is_low, second)

pub four_bytes : (bytes : List ℕ) (at low high : ℕ) → low ≡ number_at 2 bytes at → high ≡ number_at 2 bytes (at + 2) → low + 65536 * high ≡ number_at 4 bytes at
unfolding number_at
four_bytes bytes at low high is_low is_high =
    let third : at + 2 ≡ suc (suc at) = omega arith in
    let c = ap (λ (k : ℕ). get_or bytes k 0) third in
    let d = ap (λ (k : ℕ). get_or bytes (suc k) 0) third in
    omega (arith, is_low, is_high, c, d)

-- ---- texts

pub byte_at : (bytes : List ℕ) (at n k : ℕ) → k < n → get_or (bytes_at bytes at n) k 0 ≡ get_or bytes (at + k) 0
byte_at bytes at n k lt = get_or-take n (drop at bytes) k 0 lt ∙ get_or-drop at bytes k 0

pub other_byte : (xs ys : List ℕ) (k : ℕ) → get_or xs k 0 ≢ get_or ys k 0 → false ≡ same_name xs ys
other_byte xs ys k differ = go (same_name xs ys) refl
  where
    go : (b : Bool) → same_name xs ys ≡ b → false ≡ b
    go false e = refl
    go true e = absurd (differ (ap (λ (zs : List ℕ). get_or zs k 0) ((bytes_decides xs ys).0 e)))

-- a byte of a stream differs from that of a text
pub other_text : (bytes text : List ℕ) (at k byte : ℕ) → k < length text → byte ≡ get_or bytes (at + k) 0 → byte ≢ get_or text k 0 → false ≡ same_name (bytes_at bytes at (length text)) text
other_text bytes text at k byte lt is differ =
    other_byte (bytes_at bytes at (length text)) text k (λ e. differ (is ∙ sym (byte_at bytes at (length text) k lt) ∙ e))

-- each is that of the text
pub one_text : (bytes text : List ℕ) (at : ℕ) → at + length text ≤ length bytes → ((k : ℕ) → k < length text → get_or bytes (at + k) 0 ≡ get_or text k 0) → true ≡ same_name (bytes_at bytes at (length text)) text
one_text bytes text at fits each =
    let len = length_part bytes at (length text) fits in
    let same : bytes_at bytes at (length text) ≡ text = ext_get_or 0 (bytes_at bytes at (length text)) text len (λ k lt. let here : k < length text = omega (arith, lt, len) in byte_at bytes at (length text) k here ∙ each k here) in
    sym (ap (λ (xs : List ℕ). same_name xs text) same ∙ same_refl text)

same_behind : (xs ys zs : List ℕ) → same_name (xs ++ ys) (xs ++ zs) ≡ same_name ys zs
same_behind [] ys zs = refl
same_behind (x ∷ xs) ys zs = ap (λ (b : Bool). b && same_name (xs ++ ys) (xs ++ zs)) (itself x) ∙ same_behind xs ys zs
  where
    itself : (n : ℕ) → eqb n n ≡ true
    itself n = search rules

pub in_two : (bytes : List ℕ) (at m n : ℕ) → bytes_at bytes at (m + n) ≡ bytes_at bytes at m ++ bytes_at bytes (at + m) n
in_two bytes at m n =
    sym (take-append-drop m (bytes_at bytes at (m + n)))
    ∙ ap (λ (xs : List ℕ). xs ++ drop m (bytes_at bytes at (m + n))) (take-take m (m + n) (drop at bytes) (omega arith))
    ∙ ap (λ (xs : List ℕ). bytes_at bytes at m ++ xs) (drop-take m n (drop at bytes) ∙ ap (take n) (drop-drop m at bytes))

pub whole_name : (name : List ℕ) → import_prefix_of name ++ behind_import name ≡ name
whole_name name = go (begins_import name) refl
  where
    go : (b : Bool) → begins_import name ≡ b → import_prefix_of name ++ behind_import name ≡ name
    go true e = ap (λ (b : Bool). cond b import_prefix [] ++ behind_import name) e ∙ whole_import name e
    go false e = ap (λ (b : Bool). cond b import_prefix [] ++ behind_import name) e ∙ whole_other name e

-- a name is its prefix, and then the rest
pub named_in_two : (bytes name prefix rest : List ℕ) (at len : ℕ) (b : Bool) → len ≡ length name → prefix ≡ import_prefix_of name → rest ≡ behind_import name → true ≡ same_name (bytes_at bytes at (length prefix)) prefix → b ≡ same_name (bytes_at bytes (at + length prefix) (length rest)) rest → b ≡ same_name (bytes_at bytes at len) name
named_in_two bytes name prefix rest at len b is_len is_prefix is_rest first second =
    let whole : prefix ++ rest ≡ name = ap (λ (xs : List ℕ). xs ++ rest) is_prefix ∙ ap (λ (xs : List ℕ). import_prefix_of name ++ xs) is_rest ∙ whole_name name in
    let size : length prefix + length rest ≡ len = sym (length-append prefix rest) ∙ ap length whole ∙ sym is_len in
    let front : bytes_at bytes at (length prefix) ≡ prefix = (bytes_decides (bytes_at bytes at (length prefix)) prefix).0 (sym first) in
    second
    ∙ sym (same_behind prefix (bytes_at bytes (at + length prefix) (length rest)) rest)
    ∙ ap (λ (xs : List ℕ). same_name (xs ++ bytes_at bytes (at + length prefix) (length rest)) (prefix ++ rest)) (sym front)
    ∙ ap (λ (xs : List ℕ). same_name xs (prefix ++ rest)) (sym (in_two bytes at (length prefix) (length rest)))
    ∙ ap (λ (n : ℕ). same_name (bytes_at bytes at n) (prefix ++ rest)) size
    ∙ ap (same_name (bytes_at bytes at len)) whole

-- ---- the first NUL in a record

tail_byte : (bytes : List ℕ) (at size k : ℕ) → 14 + k < size → get_or (drop 14 (bytes_at bytes at size)) k 0 ≡ get_or bytes (at + 14 + k) 0
tail_byte bytes at size k lt =
    let place : at + (14 + k) ≡ at + 14 + k = omega arith in
    get_or-drop 14 (bytes_at bytes at size) k 0 ∙ byte_at bytes at size (14 + k) lt ∙ ap (λ (n : ℕ). get_or bytes n 0) place

length_tail : (bytes : List ℕ) (at size : ℕ) → at + size ≤ length bytes → length (drop 14 (bytes_at bytes at size)) ≡ size - 14
length_tail bytes at size fits = length-drop 14 (bytes_at bytes at size) ∙ ap (λ (n : ℕ). n - 14) (length_part bytes at size fits)

pub nul_found : (bytes : List ℕ) (at size len byte : ℕ) → at + size ≤ length bytes → 14 + len < size → ((k : ℕ) → k < len → eqb (get_or bytes (at + 14 + k) 0) 0 ≡ false) → byte ≡ get_or bytes (at + 14 + len) 0 → byte ≡ 0 → Some (bytes_at bytes (at + 14) len) ≡ text_at (bytes_at bytes at size) 14
nul_found bytes at size len byte fits inside before is zero =
    let tail = drop 14 (bytes_at bytes at size) in
    let long = length_tail bytes at size fits in
    let here : position_or_len is_nul tail ≡ len =
    position_or_len_is is_nul tail len 0 (omega (arith, long, inside))
    (λ k lt. ap (λ (n : ℕ). eqb n 0) (tail_byte bytes at size k (omega (arith, lt, inside))) ∙ before k lt)
    (λ lt. ap (λ (n : ℕ). eqb n 0) (tail_byte bytes at size len inside ∙ sym is ∙ zero)) in
    let found : position is_nul tail ≡ Some len = rw here (rw (lt-ltb len (length tail) (omega (arith, long, inside))) refl) in
    let cut : take len tail ≡ bytes_at bytes (at + 14) len = sym (ap (take len) (drop-take-size)) ∙ take-take-size in
    sym (ap (option_map (λ n. take n tail)) found ∙ ap Some cut)
  where
    size_of : 14 + (size - 14) ≡ size
    size_of = omega (arith, inside)

    drop-take-size : take (size - 14) (drop 14 (drop at bytes)) ≡ drop 14 (bytes_at bytes at size)
    drop-take-size = sym (drop-take 14 (size - 14) (drop at bytes)) ∙ ap (λ (n : ℕ). drop 14 (take n (drop at bytes))) size_of

    take-take-size : take len (take (size - 14) (drop 14 (drop at bytes))) ≡ bytes_at bytes (at + 14) len
    take-take-size = take-take len (size - 14) (drop 14 (drop at bytes)) (omega (arith, inside)) ∙ ap (take len) (drop-drop 14 at bytes)

pub nul_missing : (bytes : List ℕ) (at size : ℕ) → at + size ≤ length bytes → ((k : ℕ) → k < size - 14 → eqb (get_or bytes (at + 14 + k) 0) 0 ≡ false) → None ≡ text_at (bytes_at bytes at size) 14
nul_missing bytes at size fits before =
    let tail = drop 14 (bytes_at bytes at size) in
    let long = length_tail bytes at size fits in
    let here : position_or_len is_nul tail ≡ length tail =
    position_or_len_is is_nul tail (length tail) 0 (omega arith)
    (λ k lt. ap (λ (n : ℕ). eqb n 0) (tail_byte bytes at size k (omega (arith, lt, long))) ∙ before k (omega (arith, lt, long)))
    (λ lt. absurd (omega (arith, lt))) in
    let none : position is_nul tail ≡ None = rw here (rw (le-ltb (length tail) (length tail) (omega arith)) refl) in
    sym (ap (option_map (λ n. take n tail)) none)
