-- Pieces beside what they hold, and their alignments.
use Rattle.std.proofs.Common.{◌≡◌, ℕ, zero, suc, ◌+◌, ◌-◌, ◌*◌, ◌%◌, ◌^◌, ◌<◌, ◌≤◌, Bool, true, false, cond, not, None, Some, List, [], ◌∷◌, ◌++◌, length, map, filter, take, get_or, refl, sym, ap, subst, ◌∙◌, append_assoc, arith}
use Rattle.std.specs.Prelude.{unwrap_or}
use Rattle.std.specs.Bool.{IsTrue}
use Rattle.std.specs.List.{All, range_with_len, flat_map}
use Rattle.std.proofs.lemmas.Bool.{false≢true}
use Rattle.std.proofs.lemmas.List.{length-map, take_more}
use Rattle.std.proofs.lemmas.List.Elements.{All-nil, All-cons, All-append, All-push}
use Rattle.std.proofs.Math.ListN.{get_or-map}
use Rattle.std.proofs.lemmas.Nat.{pow-add, pow_pos}
use Rattle.std.proofs.Math.Nat.{mul-mod_left}
use Rattle.link_base.specs.Bytes.{bytes_at}
use Rattle.link_base.proofs.RangeLemmas.{all_kept, all_joined}
use Rattle.coff_object.specs.ObjectFaults.{object_fault}
use Rattle.coff_records.specs.ObjectFile.{section_total, flags_of, alignment_of, raw_size_of, raw_offset_of, is_uninitialised}
use Rattle.coff_object.proofs.CallerLemmas.{body_length, section_alignment, IsAlignment as IsPower}
use Rattle.section_group.specs.declared.piece.Piece.{Piece}
use Rattle.section_group.specs.BarePieces.{bare}
use Rattle.address_layout.specs.Layout.{IsAlignment}
use Rattle.section_group.specs.PieceContents.{piece_contents, HasItsBytes}
use Rattle.module_view.specs.Module.{ModuleView, no_module, module_at}
use Rattle.link_pieces.specs.LinkParts.{LinkParts}
use Rattle.module_view.specs.Opening.{IsOpened}
use Rattle.module_view.specs.declared.definition.Common.{Common}
use Rattle.module_view.proofs.CallerLemmas.{opened_sound}
use Rattle.link_directives.specs.LinkDirectives.{raised_alignment}
use Rattle.link_directives.proofs.CallerLemmas.{raised_holds}
use Rattle.link_pieces.specs.Commons.{meant_commons, common_alignment, common_piece}
use Rattle.link_pieces.specs.Pieces.{is_linked, linked_sections, piece_of, section_contents, no_contents, pieces_in, contents_in, module_pieces, module_contents, link_pieces, link_contents}
use Rattle.synthetic_sections.specs.LinkerPieces.{thunk_piece, slot_piece}
use Rattle.link_imports.specs.ImportPieces.{has_thunk, jump, thunk_pieces, thunk_contents}
use Rattle.link_pieces.specs.LocalSlots.{slot_names}
use Rattle.link_pieces.specs.LinkerPieces.{pointer, slots_below, pointers_below, linker_pieces, linker_contents}
use Rattle.link_pieces.proofs.LinkerLemmas.{linker_aligned}
use Rattle.link_pieces.proofs.CommonLemmas.{common_aligned}

-- ---- pieces beside what they hold

-- the items of two lists, two at a time
abbrev Paired : {X Y : Type 0} → (X → Y → Type 0) → List X → List Y → Type 0
Paired P [] [] = Unit {0}
Paired P [] (y ∷ ys) = ⊥
Paired P (x ∷ xs) [] = ⊥
Paired P (x ∷ xs) (y ∷ ys) = P x y × Paired P xs ys

paired_append : {X Y : Type 0} (P : X → Y → Type 0) (xs xs' : List X) (ys ys' : List Y) → Paired P xs ys → Paired P xs' ys' → Paired P (xs ++ xs') (ys ++ ys')
paired_append P [] xs' [] ys' h h' = h'
paired_append P [] xs' (y ∷ ys) ys' h h' = absurd h
paired_append P (x ∷ xs) xs' [] ys' h h' = absurd h
paired_append P (x ∷ xs) xs' (y ∷ ys) ys' h h' = (h.0, paired_append P xs xs' ys ys' h.1 h')

paired_kept : {X Y : Type 0} (P : X → Y → Type 0) (f : ℕ → X) (g : ℕ → Y) (test : ℕ → Bool) (a n : ℕ) → ((k : ℕ) → a ≤ k → k < a + n → P (f k) (g k)) → Paired P (map f (filter test (range_with_len a n))) (map g (filter test (range_with_len a n)))
paired_kept P f g test a zero each = tt
paired_kept P f g test a (suc n) each =
    go (test a) (each a (omega arith) (omega arith)) (paired_kept P f g test (a + 1) n (λ k low high. each k (omega arith) (omega arith)))
  where
    go : (b : Bool) → P (f a) (g a) → Paired P (map f (filter test (range_with_len (a + 1) n))) (map g (filter test (range_with_len (a + 1) n))) → Paired P (map f (cond b (a ∷ filter test (range_with_len (a + 1) n)) (filter test (range_with_len (a + 1) n)))) (map g (cond b (a ∷ filter test (range_with_len (a + 1) n)) (filter test (range_with_len (a + 1) n))))
    go true here rest = (here, rest)
    go false here rest = rest

paired_joined : {X Y : Type 0} (P : X → Y → Type 0) (f : ℕ → List X) (g : ℕ → List Y) (a n : ℕ) → ((k : ℕ) → a ≤ k → k < a + n → Paired P (f k) (g k)) → Paired P (flat_map f (range_with_len a n)) (flat_map g (range_with_len a n))
paired_joined P f g a zero each = tt
paired_joined P f g a (suc n) each =
    paired_append P (f a) (flat_map f (range_with_len (a + 1) n)) (g a) (flat_map g (range_with_len (a + 1) n)) (each a (omega arith) (omega arith))
    (paired_joined P f g (a + 1) n (λ k low high. each k (omega arith) (omega arith)))

-- what it holds is as long as it is
abbrev IsFilled : Piece → List ℕ → Type 0
IsFilled piece bytes = IsTrue piece.init → length bytes ≡ piece.size

filled : (uninitialised : Bool) (size : ℕ) (bytes : List ℕ) → (uninitialised ≡ false → length bytes ≡ size) → IsTrue (not uninitialised) → length (unwrap_or (cond uninitialised None (Some bytes)) []) ≡ size
filled true size bytes whole e = absurd (false≢true e)
filled false size bytes whole e = whole refl

section_filled : (position : ℕ) (bytes : List ℕ) (section : ℕ) → object_fault bytes ≡ None → 1 ≤ section → section ≤ section_total bytes → IsFilled (piece_of position bytes section) (section_contents bytes section)
section_filled position bytes section sound first last =
    filled (is_uninitialised bytes section) (raw_size_of bytes section) (bytes_at bytes (raw_offset_of bytes section) (raw_size_of bytes section)) (body_length bytes section sound first last)

-- a common is not initialised
commons_filled : (modules : List ModuleView) (position : ℕ) (commons : List Common) → Paired IsFilled (map (common_piece modules position) commons) (map no_contents commons)
commons_filled modules position [] = tt
commons_filled modules position (common ∷ commons) = (λ e. absurd (false≢true e), commons_filled modules position commons)

modules_filled : (link : LinkParts) → ((m : ℕ) → m < length link.modules → object_fault (module_at link.modules m).bytes ≡ None) → Paired IsFilled (module_pieces link) (module_contents link)
modules_filled link sound =
    let count = length link.modules in
    paired_joined IsFilled (λ m. pieces_in link m (module_at link.modules m).bytes) (λ m. contents_in link m (module_at link.modules m).bytes) 0 count (λ m low high.
    let bytes = (module_at link.modules m).bytes in
    let within : m < length link.modules = omega arith in
    let commons = meant_commons link m bytes in
    paired_append IsFilled (map (piece_of m bytes) (linked_sections link m bytes)) (map (common_piece link.modules m) commons) (map (section_contents bytes) (linked_sections link m bytes)) (map no_contents commons)
    (paired_kept IsFilled (piece_of m bytes) (section_contents bytes) (is_linked link m bytes) 1 (section_total bytes) (λ section first last.
    section_filled m bytes section (sound m within) first (omega arith)))
    (commons_filled link.modules m commons))

-- a jump has six bytes, and a slot as many as an address
jumps_filled : (modules : List ModuleView) → Paired IsFilled (thunk_pieces modules) (thunk_contents modules)
jumps_filled modules =
    paired_kept IsFilled (thunk_piece (length modules)) jump (has_thunk modules) 0 (length modules) (λ import first last e. refl)

slots_filled : (position a n : ℕ) → Paired IsFilled (map (slot_piece position) (range_with_len a n)) (map pointer (range_with_len a n))
slots_filled position a zero = tt
slots_filled position a (suc n) = (λ e. refl, slots_filled position (a + 1) n)

linker_filled : (link : LinkParts) → Paired IsFilled (linker_pieces link) (linker_contents link)
linker_filled link =
    let count = length link.modules in
    let slots = length (slot_names link) in
    paired_append IsFilled (thunk_pieces link.modules) (slots_below count slots) (thunk_contents link.modules) (pointers_below slots) (jumps_filled link.modules) (slots_filled count 0 slots)

link_filled : (link : LinkParts) → ((m : ℕ) → m < length link.modules → object_fault (module_at link.modules m).bytes ≡ None) → Paired IsFilled (link_pieces link) (link_contents link)
link_filled link sound =
    paired_append IsFilled (module_pieces link) (linker_pieces link) (module_contents link) (linker_contents link) (modules_filled link sound) (linker_filled link)

filled_at : (pieces : List Piece) (k : ℕ) → Paired IsFilled (map bare pieces) (map piece_contents pieces) → k < length pieces → HasItsBytes pieces k
filled_at [] k paired lt = absurd (omega arith)
filled_at (piece ∷ pieces) zero paired lt = paired.0
filled_at (piece ∷ pieces) (suc k) paired lt = filled_at pieces k paired.1 (omega arith)

-- the object of each module is well formed
pub each_sound : (link : LinkParts) → All IsOpened link.modules → (m : ℕ) → m < length link.modules → object_fault (module_at link.modules m).bytes ≡ None
each_sound link all m lt = opened_sound (module_at link.modules m).bytes (all m no_module lt)

pub bodies : (link : LinkParts) (pieces : List Piece) → All IsOpened link.modules → map bare pieces ≡ link_pieces link → map piece_contents pieces ≡ link_contents link → (k : ℕ) → k < length pieces → HasItsBytes pieces k
bodies link pieces sound same_pieces same_contents k lt =
    filled_at pieces k
    (subst (λ (ps : List Piece). Paired IsFilled ps (map piece_contents pieces)) (sym same_pieces)
    (subst (λ (cs : List (List ℕ)). Paired IsFilled (link_pieces link) cs) (sym same_contents)
    (link_filled link (each_sound link sound)))) lt

-- ---- alignments

divides : (power : ℕ) → power ≤ 13 → 8192 % 2 ^ power ≡ 0
divides power small =
    let parts : 13 ≡ 13 - power + power = omega arith in
    let product : 2 ^ 13 ≡ 2 ^ (13 - power) * 2 ^ power = ap (λ (k : ℕ). 2 ^ k) parts ∙ pow-add 2 (13 - power) power in
    ap (λ (n : ℕ). n % 2 ^ power) product ∙ mul-mod_left (2 ^ (13 - power)) (2 ^ power)

-- a power of two of at most 8,192 divides it
pub alignment : (align : ℕ) → IsPower align → IsAlignment align
alignment align p =
    subst IsAlignment (sym p.is) (record { positive = pow_pos p.power; divides = divides p.power p.small })

pub over_bare : (P : Piece → Type 0) (pieces : List Piece) → All P (map bare pieces) → All (λ piece. P (bare piece)) pieces
over_bare P pieces all = λ k d lt.
    let lt' : k < length (map bare pieces) = omega (arith, length-map pieces bare) in
    subst P (get_or-map bare pieces k d) (all k (bare d) lt')

raised_aligned : (modules : List ModuleView) (name : List ℕ) (align : ℕ) → IsAlignment align → IsAlignment (raised_alignment modules name align)
raised_aligned modules name align aligned =
    raised_holds IsAlignment modules name align aligned (λ power small. record { positive = pow_pos power; divides = divides power small })

commons_aligned : (modules : List ModuleView) (position : ℕ) (commons : List Common) → All (λ piece. IsAlignment piece.align) (map (common_piece modules position) commons)
commons_aligned modules position [] = All-nil (λ piece. IsAlignment piece.align)
commons_aligned modules position (common ∷ commons) =
    All-cons (λ (piece : Piece). IsAlignment piece.align) (common_piece modules position common) (map (common_piece modules position) commons) (raised_aligned modules common.name (common_alignment common.size) (common_aligned common.size)) (commons_aligned modules position commons)

modules_aligned : (link : LinkParts) → All IsOpened link.modules → All (λ piece. IsAlignment piece.align) (module_pieces link)
modules_aligned link sound =
    all_joined (λ piece. IsAlignment piece.align) (λ m. pieces_in link m (module_at link.modules m).bytes) 0 (length link.modules) (λ m low high.
    let bytes = (module_at link.modules m).bytes in
    let within : m < length link.modules = omega arith in
    All-append (λ (piece : Piece). IsAlignment piece.align) (map (piece_of m bytes) (linked_sections link m bytes)) (map (common_piece link.modules m) (meant_commons link m bytes))
    (all_kept (λ piece. IsAlignment piece.align) (piece_of m bytes) (is_linked link m bytes) 1 (section_total bytes) (λ section first last linked.
    alignment (alignment_of (flags_of bytes section)) (section_alignment bytes section (each_sound link sound m within) first (omega arith))))
    (commons_aligned link.modules m (meant_commons link m bytes)))

pub aligned : (link : LinkParts) (pieces : List Piece) → All IsOpened link.modules → map bare pieces ≡ link_pieces link → All (λ piece. IsAlignment piece.align) pieces
aligned link pieces sound same =
    over_bare (λ piece. IsAlignment piece.align) pieces
    (subst (All (λ (piece : Piece). IsAlignment piece.align)) (sym same)
    (All-append (λ (piece : Piece). IsAlignment piece.align) (module_pieces link) (linker_pieces link) (modules_aligned link sound) (linker_aligned link)))

-- ---- modules, one more in a loop

pub modules_more : (P : ModuleView → Type 0) (modules : List ModuleView) (k : ℕ) (m : ModuleView) → k < length modules → m ≡ get_or modules k m → All P (take k modules) → P m → All P (take (k + 1) modules)
modules_more P modules k m lt read before here =
    subst (All P) (sym (take_more modules k m lt ∙ ap (λ (v : ModuleView). take k modules ++ v ∷ []) (sym read))) (All-push P (take k modules) m before here)

-- ---- what is appended in two parts

pub two_parts : {X : Type 0} (old one now first second : List X) → one ≡ old ++ first → now ≡ one ++ second → now ≡ old ++ (first ++ second)
two_parts {X} old one now first second is then =
    then ∙ ap (λ (xs : List X). xs ++ second) is ∙ append_assoc old first second
