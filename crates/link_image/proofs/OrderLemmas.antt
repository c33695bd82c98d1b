-- The pieces of a link stand in the order of their modules, and the initialised ones of a module in that of their numbers.
use Rattle.std.proofs.Common.{◌≡◌, ◌⊎◌, ℕ, zero, suc, ◌+◌, ◌<◌, ◌≤◌, true, false, List, [], ◌∷◌, ◌++◌, length, map, get_or, refl, inl, inr, arith}
use Rattle.std.specs.List.{All, AllPairs, flat_map, range_with_len}
use Rattle.std.proofs.lemmas.Bool.{false≢true}
use Rattle.std.proofs.lemmas.List.Elements.{All-nil, All-cons, All-head, All-tail, All-append, All-map, All-weaker}
use Rattle.std.proofs.lemmas.List.Kept.{AllPairs-cons, AllPairs-filter}
use Rattle.link_base.specs.Limits.{MODULE_LIMIT}
use Rattle.link_base.proofs.RangeLemmas.{all_kept, all_joined}
use Rattle.coff_records.specs.ObjectFile.{section_total}
use Rattle.section_group.specs.declared.piece.Piece.{Piece}
use Rattle.section_group.specs.SectionOrder.{no_piece}
use Rattle.module_view.specs.Module.{ModuleView, module_at}
use Rattle.module_view.specs.declared.definition.Common.{Common}
use Rattle.synthetic_sections.specs.LinkerPieces.{thunk_piece, slot_piece}
use Rattle.link_imports.specs.ImportPieces.{has_thunk, code_imports, thunk_pieces}
use Rattle.link_pieces.specs.LinkParts.{LinkParts}
use Rattle.link_pieces.specs.LocalSlots.{slot_names}
use Rattle.link_pieces.specs.Commons.{meant_commons, common_piece}
use Rattle.link_pieces.specs.LinkerPieces.{slots_below, linker_pieces}
use Rattle.link_pieces.specs.Pieces.{is_linked, linked_sections, piece_of, pieces_in, module_pieces, link_pieces}

-- ---- pairs of a list

module _ {X : Type 0} (R : X → X → Type 0) where
  pub pairs_append : (xs ys : List X) → AllPairs R xs → AllPairs R ys → All (λ x. All (R x) ys) xs → AllPairs R (xs ++ ys)
  pairs_append [] ys first second across = second
  pairs_append (x ∷ xs) ys first second across =
      AllPairs-cons R x (xs ++ ys)
      (All-append (R x) xs ys (λ k d lt. first 0 (suc k) d (omega arith) (omega (arith, lt))) (All-head (λ y. All (R y) ys) x xs across))
      (pairs_append xs ys (λ i j d lt within. first (suc i) (suc j) d (omega (arith, lt)) (omega (arith, within))) second (All-tail (λ y. All (R y) ys) x xs across))

  pub pairs_map : {Y : Type 0} (f : Y → X) (ys : List Y) → AllPairs (λ a b. R (f a) (f b)) ys → AllPairs R (map f ys)
  pairs_map f [] pairs = λ i j d lt within. absurd (omega (arith, within))
  pairs_map f (y ∷ ys) pairs =
      AllPairs-cons R (f y) (map f ys)
      (All-map (R (f y)) f ys (λ k d lt. pairs 0 (suc k) d (omega arith) (omega (arith, lt))))
      (pairs_map f ys (λ i j d lt within. pairs (suc i) (suc j) d (omega (arith, lt)) (omega (arith, within))))

  -- of a list for each number of a range
  pub pairs_joined : (f : ℕ → List X) (a n : ℕ) → ((k : ℕ) → k < a + n → AllPairs R (f k)) → ((k later : ℕ) → k < later → later < a + n → All (λ x. All (R x) (f later)) (f k)) → AllPairs R (flat_map f (range_with_len a n))
  pairs_joined f a zero each across = λ i j d lt within. absurd (omega (arith, within))
  pairs_joined f a (suc n) each across =
      pairs_append (f a) (flat_map f (range_with_len (a + 1) n)) (each a (omega arith))
      (pairs_joined f (a + 1) n (λ k lt. each k (omega (arith, lt))) (λ k later lt within. across k later lt (omega (arith, within))))
      (λ i d inside. all_joined (R (get_or (f a) i d)) f (a + 1) n (λ later low high. across a later (omega (arith, low)) (omega (arith, high)) i d inside))

range_above : (low a n : ℕ) → low < a → All (λ k. low < k) (range_with_len a n)
range_above low a zero lt = All-nil (λ k. low < k)
range_above low a (suc n) lt = All-cons (λ k. low < k) a (range_with_len (a + 1) n) lt (range_above low (a + 1) n (omega (arith, lt)))

range_rises : (a n : ℕ) → AllPairs (λ k later. k < later) (range_with_len a n)
range_rises a zero = λ i j d lt within. absurd (omega (arith, within))
range_rises a (suc n) =
    AllPairs-cons (λ k later. k < later) a (range_with_len (a + 1) n) (range_above a (a + 1) n (omega arith)) (range_rises (a + 1) n)

-- ---- the pieces of a module

-- a piece is of a lesser module than another, or of the same one and has a lesser number
abbrev pub Precedes : Piece → Piece → Type 0
Precedes piece other = (piece.«module» < other.«module») ⊎ ((piece.«module» ≡ other.«module») × (piece.number < other.number))

-- it does so where the other one is initialised
abbrev pub Leads : Piece → Piece → Type 0
Leads piece other = other.init ≡ true → Precedes piece other

sections_lead : (link : LinkParts) (m : ℕ) (bytes : List ℕ) → AllPairs Leads (map (piece_of m bytes) (linked_sections link m bytes))
sections_lead link m bytes =
    pairs_map Leads (piece_of m bytes) (linked_sections link m bytes) (λ i j d lt within init. inr (refl, rise i j d lt within))
  where
    rise : AllPairs (λ k later. k < later) (linked_sections link m bytes)
    rise = AllPairs-filter (λ k later. k < later) (is_linked link m bytes) (range_with_len 1 (section_total bytes)) (range_rises 1 (section_total bytes))

-- nothing is asked of what stands before a common
commons_follow : (modules : List ModuleView) (m : ℕ) (commons : List Common) (piece : Piece) → All (Leads piece) (map (common_piece modules m) commons)
commons_follow modules m commons piece =
    All-map (Leads piece) (common_piece modules m) commons (λ k d lt init. absurd (false≢true init))

pieces_lead : (link : LinkParts) (m : ℕ) (bytes : List ℕ) → AllPairs Leads (pieces_in link m bytes)
pieces_lead link m bytes =
    let commons = meant_commons link m bytes in
    pairs_append Leads (map (piece_of m bytes) (linked_sections link m bytes)) (map (common_piece link.modules m) commons) (sections_lead link m bytes)
    (pairs_map Leads (common_piece link.modules m) commons (λ i j d lt within init. absurd (false≢true init)))
    (λ k d lt. commons_follow link.modules m commons (get_or (map (piece_of m bytes) (linked_sections link m bytes)) k d))

pieces_of_one : (link : LinkParts) (m : ℕ) (bytes : List ℕ) → All (λ piece. piece.«module» ≡ m) (pieces_in link m bytes)
pieces_of_one link m bytes =
    All-append (λ piece. piece.«module» ≡ m) (map (piece_of m bytes) (linked_sections link m bytes)) (map (common_piece link.modules m) (meant_commons link m bytes))
    (All-map (λ (piece : Piece). piece.«module» ≡ m) (piece_of m bytes) (linked_sections link m bytes) (λ k d lt. refl))
    (All-map (λ (piece : Piece). piece.«module» ≡ m) (common_piece link.modules m) (meant_commons link m bytes) (λ k d lt. refl))

-- ---- those of all modules

modules_lead : (link : LinkParts) → AllPairs Leads (module_pieces link)
modules_lead link =
    pairs_joined Leads (λ m. pieces_in link m (module_at link.modules m).bytes) 0 (length link.modules) (λ m lt. pieces_lead link m (module_at link.modules m).bytes)
    (λ m later lt within i d inside j e there init.
    let first = pieces_of_one link m (module_at link.modules m).bytes i d inside in
    let second = pieces_of_one link later (module_at link.modules later).bytes j e there in
    inl (omega (arith, lt, first, second)))

modules_before : (link : LinkParts) → All (λ piece. piece.«module» < length link.modules) (module_pieces link)
modules_before link =
    all_joined (λ (piece : Piece). piece.«module» < length link.modules) (λ m. pieces_in link m (module_at link.modules m).bytes) 0 (length link.modules) (λ m low high.
    All-weaker (λ (piece : Piece). piece.«module» ≡ m) (λ piece. piece.«module» < length link.modules) (λ piece is. omega (arith, is, high)) (pieces_in link m (module_at link.modules m).bytes) (pieces_of_one link m (module_at link.modules m).bytes))

-- ---- those that the linker makes

module _ (link : LinkParts) (few : length link.modules ≤ MODULE_LIMIT) where
  abbrev count : ℕ
  count = length link.modules

  abbrev slots : ℕ
  slots = length (slot_names link)

  linker_lead : AllPairs Leads (linker_pieces link)
  linker_lead =
      pairs_append Leads (thunk_pieces link.modules) (slots_below count slots)
      (pairs_map Leads (thunk_piece count) (code_imports link.modules) (λ i j d lt within init.
      let rise = AllPairs-filter (λ k later. k < later) (has_thunk link.modules) (range_with_len 0 count) (range_rises 0 count) i j d lt within in
      inr (refl, omega (arith, rise))))
      (pairs_map Leads (slot_piece count) (range_with_len 0 slots) (λ i j d lt within init.
      let rise = range_rises 0 slots i j d lt within in
      inr (refl, omega (arith, rise))))
      (all_kept (λ piece. All (Leads piece) (slots_below count slots)) (thunk_piece count) (has_thunk link.modules) 0 count (λ import low high has.
      All-map (Leads (thunk_piece count import)) (slot_piece count) (range_with_len 0 slots) (λ k d lt init. inr (refl, omega (arith, high, few)))))

  linker_behind : All (λ piece. piece.«module» ≡ count) (linker_pieces link)
  linker_behind =
      All-append (λ piece. piece.«module» ≡ count) (thunk_pieces link.modules) (slots_below count slots)
      (All-map (λ (piece : Piece). piece.«module» ≡ count) (thunk_piece count) (code_imports link.modules) (λ k d lt. refl))
      (All-map (λ (piece : Piece). piece.«module» ≡ count) (slot_piece count) (range_with_len 0 slots) (λ k d lt. refl))

  all_lead : AllPairs Leads (link_pieces link)
  all_lead =
      pairs_append Leads (module_pieces link) (linker_pieces link) (modules_lead link) linker_lead
      (λ i d inside j e there init.
      let first = modules_before link i d inside in
      let second = linker_behind j e there in
      inl (omega (arith, first, second)))

  -- a piece of the link, and an initialised one behind it
  pub piece_precedes : (k later : ℕ) → k < later → later < length (link_pieces link) → (get_or (link_pieces link) later no_piece).init ≡ true → Precedes (get_or (link_pieces link) k no_piece) (get_or (link_pieces link) later no_piece)
  piece_precedes k later lt within = all_lead k later no_piece lt within
