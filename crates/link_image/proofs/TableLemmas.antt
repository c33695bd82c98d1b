-- The pieces of the import tables, where they stand, and that they end below 4 GiB.
use Rattle.std.proofs.Common.{◌≡◌, ℕ, suc, ◌+◌, ◌^◌, ◌<◌, ◌≤◌, Bool, true, false, cond, eqb, ltb, List, length, map, take, get_or, slice_index, Option, Some, None, IfSome, inl, inr, refl, sym, ap, ◌∙◌, subst, lt-ltb, arith}
use Rattle.std.specs.List.{All, range_with_len}
use Rattle.std.specs.Option.{option_or}
use Rattle.std.proofs.Math.Path.{fun_ext}
use Rattle.std.proofs.lemmas.Bool.{cases_lt, and_parts, and_from, eqb-true}
use Rattle.std.proofs.lemmas.List.{ext_get_or, get_or_default}
use Rattle.std.proofs.lemmas.List.FromFn.{get_or-map-range_with_len, length-map-range_with_len}
use Rattle.link_base.specs.Bytes.{first_below}
use Rattle.link_base.proofs.CallerLemmas.{first_below-some, first_below-same}
use Rattle.section_group.specs.declared.piece.Piece.{Piece}
use Rattle.section_group.specs.SectionOrder.{no_piece}
use Rattle.address_layout.specs.declared.layout.Layout.{Layout}
use Rattle.import_tables.specs.ImportTables.{EndBelow4G}
use Rattle.synthetic_sections.specs.LinkerPieces.{RESOURCES, FIRST_THUNK, size_at}
use Rattle.piece_bytes.specs.Extents.{rva_of, extent_of}
use Rattle.link_pieces.specs.TablePieces.{KeptParts, is_table, table_sizes, IsLinkTable, table_index, whole_pieces, whole_piece, kept_imports}
use Rattle.link_imports.specs.Imports.{import_sizes}
use Rattle.link_pieces.specs.PieceIndex.{is_numbered, holds}
use Rattle.link_pieces.specs.Pieces.{link_pieces}
use Rattle.link_pieces.proofs.CallerLemmas.{table_is, table_there}
use Rattle.link_words.specs.Outcome.{LinkOptions}
use Rattle.link_plan.specs.Planned.{used_pieces}
use Rattle.link_plan.specs.declared.planning.LinkPlan.{LinkPlan}
use Rattle.link_plan.proofs.CallerLemmas.{used_last}
use Rattle.link_plan.specs.Plan.{IsPlanOf, kept_parts}
use Rattle.link_image.specs.declared.placement.Placement.{Placement}
use Rattle.link_image.specs.LinkedBytes.{table_rva, table_rvas}
use Rattle.link_image.specs.Steps.{numbered_index, numbered_indexes, IsPlaced}
use Rattle.link_image.proofs.HeldLemmas.{table_behind, piece_count, planned_is, names_count, same_size}
use Rattle.link_image.proofs.ExportLemmas.{import_size, tree_size_is}

-- ---- the first piece of a number

-- one piece more
pub noted_more : (position number k : ℕ) (pieces : List Piece) (piece : Piece) (old new : Option ℕ) → k < length pieces → piece ≡ get_or pieces k piece → old ≡ first_below k (holds (is_numbered position number) pieces) → new ≡ option_or old (cond (is_numbered position number piece) (Some k) None) → new ≡ first_below (k + 1) (holds (is_numbered position number) pieces)
unfolding first_below
noted_more position number k pieces piece old new lt read was is =
    let here : piece ≡ get_or pieces k no_piece = read ∙ get_or_default pieces k piece no_piece lt in
    let next : suc k ≡ k + 1 = omega arith in
    is
    ∙ ap (λ (o : Option ℕ). option_or o (cond (is_numbered position number piece) (Some k) None)) was
    ∙ ap (λ (p : Piece). option_or (first_below k (holds (is_numbered position number) pieces)) (cond (is_numbered position number p) (Some k) None)) here
    ∙ ap (λ (n : ℕ). first_below n (holds (is_numbered position number) pieces)) next

-- all of them
pub all_noted : (position : ℕ) (pieces : List Piece) (places : List (Option ℕ)) → length places ≡ 9 → ((number : ℕ) → number < 9 → get_or places number None ≡ numbered_index position pieces number) → places ≡ numbered_indexes position pieces
all_noted position pieces places count each =
    let indexes = length-map-range_with_len (numbered_index position pieces) 0 9 in
    ext_get_or None places (numbered_indexes position pieces) (count ∙ sym indexes) (λ number lt.
    let within : number < 9 = omega (arith, lt, count) in
    each number within ∙ sym (get_or-map-range_with_len (numbered_index position pieces) 0 9 number number None within (omega arith)))

-- ---- the pieces of a link

pub record IsTableAt (link : KeptParts) (number k : ℕ) : Type 0 where
  pub there : k < length (whole_pieces link)
  pub behind : length (link_pieces link.parts) ≤ k
  pub table : is_table (length link.parts.modules) (whole_piece link k) ≡ true
  pub number_is : (whole_piece link k).number ≡ number
  pub is : IsLinkTable link (whole_piece link k)

pub found_table : (link : KeptParts) (number k : ℕ) → number < FIRST_THUNK → table_index link number ≡ Some k → IsTableAt link number k
found_table link number k few found =
    let at = first_below-some (length (whole_pieces link)) k (holds (is_numbered (length link.parts.modules) number) (whole_pieces link)) found in
    let piece = whole_piece link k in
    let both = and_parts (eqb piece.«module» (length link.parts.modules)) (eqb piece.number number) at.1.0 in
    let same : piece.number ≡ number = eqb-true piece.number number both.1 in
    let table : is_table (length link.parts.modules) piece ≡ true = and_from (eqb piece.«module» (length link.parts.modules)) (ltb piece.number FIRST_THUNK) both.0 (lt-ltb piece.number FIRST_THUNK (omega (arith, same, few))) in
    let behind = table_behind link k table in
    record { there = at.0; behind = behind; table = table; number_is = same; is = table_is link k behind at.0 }

-- the tree that the linker makes counts where it has a size
pub counted : (size : ℕ) (section tree : ℕ × ℕ) → (size ≡ 0 → ⊥) → tree ≡ cond (eqb size 0) section tree
counted size section tree some = by (eqb size 0) refl
  where
    by : (none : Bool) → eqb size 0 ≡ none → tree ≡ cond none section tree
    by true none = absurd (some (eqb-true size 0 none))
    by false other = refl

-- what holds of a value where there is one
pub if_some : {A : Type 0} (o : Option A) (Q : A → Type 0) → ((x : A) → o ≡ Some x → Q x) → IfSome o Q
if_some None Q each = tt
if_some (Some x) Q each = each x refl

module _ (options : LinkOptions) (plan : LinkPlan) (planned : IsPlanOf options plan.modules.items plan) where
  numbered_is : (number : ℕ) → numbered_index (length plan.modules.items) plan.pieces.items number ≡ table_index (kept_parts plan) number
  numbered_is number =
      ap (λ (count : ℕ). numbered_index count plan.pieces.items number) (names_count options plan planned)
      ∙ first_below-same (length plan.pieces.items) (holds (is_numbered (length plan.names.modules) number) plan.pieces.items) (holds (is_numbered (length plan.names.modules) number) (whole_pieces (kept_parts plan))) (λ k lt. ap (is_numbered (length plan.names.modules) number) (planned_is options plan planned k))
      ∙ ap (λ (n : ℕ). first_below n (holds (is_numbered (length plan.names.modules) number) (whole_pieces (kept_parts plan)))) (piece_count options plan planned)

  pub places_are : (places : List (Option ℕ)) → places ≡ numbered_indexes (length plan.modules.items) plan.pieces.items → places ≡ map (table_index (kept_parts plan)) (range_with_len 0 9)
  places_are places is = is ∙ ap (λ (f : ℕ → Option ℕ). map f (range_with_len 0 9)) (fun_ext numbered_is)

  pub place_is : (places : List (Option ℕ)) (number : ℕ) → places ≡ numbered_indexes (length plan.modules.items) plan.pieces.items → number < 9 → get_or places number None ≡ table_index (kept_parts plan) number
  place_is places number is few = ap (λ (ps : List (Option ℕ)). get_or ps number None) (places_are places is) ∙ get_or-map-range_with_len (table_index (kept_parts plan)) 0 9 number number None few (omega arith)

  -- each is used
  pub table_used : (number k : ℕ) → IsTableAt (kept_parts plan) number k → get_or (used_pieces (kept_parts plan)) k false ≡ true
  table_used number k at = used_last options (kept_parts plan) k planned.link_is.kept_are at.behind at.there

  -- and is a piece of the plan
  pub place_there : (number : ℕ) → number < 9 → IfSome (table_index (kept_parts plan) number) (λ k. k < length plan.pieces.items)
  place_there number few = by (table_index (kept_parts plan) number) refl
    where
      by : (place : Option ℕ) → table_index (kept_parts plan) number ≡ place → IfSome place (λ k. k < length plan.pieces.items)
      by None none = tt
      by (Some k) found = let at = found_table (kept_parts plan) number k (omega (arith, few)) found in omega (arith, at.there, piece_count options plan planned)

  pub place_within : (places : List (Option ℕ)) (number bound : ℕ) → places ≡ numbered_indexes (length plan.modules.items) plan.pieces.items → number < 9 → length plan.pieces.items ≤ bound → IfSome (get_or places number None) (λ k. k < bound)
  place_within places number bound is few room =
      subst (λ (place : Option ℕ). IfSome place (λ k. k < bound)) (sym (place_is places number is few))
      (wider (table_index (kept_parts plan) number) (place_there number few))
    where
      wider : (place : Option ℕ) → IfSome place (λ k. k < length plan.pieces.items) → IfSome place (λ k. k < bound)
      wider None there = tt
      wider (Some k) there = omega (arith, there, room)

  pub places_within : (places : List (Option ℕ)) (bound : ℕ) → places ≡ numbered_indexes (length plan.modules.items) plan.pieces.items → length plan.pieces.items ≤ bound → All (λ place. IfSome place (λ k. k < bound)) places
  places_within places bound is room = λ number d lt.
      let count : length places ≡ 9 = ap (λ (ps : List (Option ℕ)). length ps) is ∙ length-map-range_with_len (numbered_index (length plan.modules.items) plan.pieces.items) 0 9 in
      subst (λ (place : Option ℕ). IfSome place (λ k. k < bound)) (get_or_default places number None d lt) (place_within places number bound is (omega (arith, lt, count)) room)

  -- their RVAs
  pub rvas_are : (layout : Layout) (places : List (Option ℕ)) (rvas : List ℕ) → places ≡ numbered_indexes (length plan.modules.items) plan.pieces.items → rvas ≡ map (rva_of layout.pieces.items) (take 5 places) → rvas ≡ table_rvas (kept_parts plan) layout
  unfolding table_rvas
  rvas_are layout places rvas is read = read ∙ ap (λ (ps : List (Option ℕ)). map (rva_of layout.pieces.items) (take 5 ps)) (places_are places is)

  -- and sizes
  pub extent_is : (rvas : List ℕ) (places : List (Option ℕ)) (number : ℕ) → number < 9 → places ≡ numbered_indexes (length plan.modules.items) plan.pieces.items → extent_of plan.pieces.items rvas (get_or places number None) ≡ extent_of (whole_pieces (kept_parts plan)) rvas (table_index (kept_parts plan) number)
  extent_is rvas places number few is =
      ap (extent_of plan.pieces.items rvas) (place_is places number is few)
      ∙ by (table_index (kept_parts plan) number) (place_there number few)
    where
      by : (place : Option ℕ) → IfSome place (λ k. k < length plan.pieces.items) → extent_of plan.pieces.items rvas place ≡ extent_of (whole_pieces (kept_parts plan)) rvas place
      by None there = refl
      by (Some k) there = ap (λ (size : ℕ). (get_or rvas k 0, size)) (same_size options plan planned k there)

  -- ---- each ends below 4 GiB

  module _ (placement : Placement) (placed : IsPlaced options plan placement) where
    table_ends : (number : ℕ) → number < 5 → size_at (import_sizes plan.names.modules (kept_imports (kept_parts plan))) number < 2 ^ 32 → table_rva (kept_parts plan) placement.layout number + size_at (import_sizes plan.names.modules (kept_imports (kept_parts plan))) number < 2 ^ 32
    table_ends number few small = by (table_index (kept_parts plan) number) refl
      where
        by : (place : Option ℕ) → table_index (kept_parts plan) number ≡ place → rva_of placement.layout.pieces.items place + size_at (import_sizes plan.names.modules (kept_imports (kept_parts plan))) number < 2 ^ 32
        by None none = omega (arith, small)
        by (Some k) found =
            let at = found_table (kept_parts plan) number k (omega (arith, few)) found in
            let lt : k < length plan.pieces.items = omega (arith, at.there, piece_count options plan planned) in
            let same = same_size options plan planned k lt in
            let size : (whole_piece (kept_parts plan) k).size ≡ size_at (import_sizes plan.names.modules (kept_imports (kept_parts plan))) number = at.is.size ∙ ap (size_at (table_sizes (kept_parts plan))) at.number_is ∙ import_size (kept_parts plan) number few in
            let end = placed.ends k lt (table_used number k at) (omega (arith, same, at.is.some)) in
            omega (arith, end, same, size)

    -- and so does the resource tree
    pub tree_end : table_rva (kept_parts plan) placement.layout RESOURCES + plan.names.resources.size < 2 ^ 32
    tree_end = by (table_index (kept_parts plan) RESOURCES) refl
      where
        by : (place : Option ℕ) → table_index (kept_parts plan) RESOURCES ≡ place → rva_of placement.layout.pieces.items place + plan.names.resources.size < 2 ^ 32
        by None none =
            elim (cases_lt 0 plan.names.resources.size) [
              | inl some ↦ absurd (table_there (kept_parts plan) RESOURCES (omega arith) (omega (arith, some, tree_size_is (kept_parts plan))) none)
              | inr none_left ↦ omega (arith, none_left)
            ]
        by (Some k) found =
            let at = found_table (kept_parts plan) RESOURCES k (omega arith) found in
            let lt : k < length plan.pieces.items = omega (arith, at.there, piece_count options plan planned) in
            let same = same_size options plan planned k lt in
            let size : (whole_piece (kept_parts plan) k).size ≡ plan.names.resources.size = at.is.size ∙ ap (size_at (table_sizes (kept_parts plan))) at.number_is ∙ tree_size_is (kept_parts plan) in
            let end = placed.ends k lt (table_used RESOURCES k at) (omega (arith, same, at.is.some)) in
            omega (arith, end, same, size)

    pub tables_end : (rvas sizes : List ℕ) → rvas ≡ table_rvas (kept_parts plan) placement.layout → sizes ≡ import_sizes plan.names.modules (kept_imports (kept_parts plan)) → ((n : ℕ) → n < 5 → slice_index sizes n < 2 ^ 32) → EndBelow4G rvas sizes
    unfolding table_rvas
    tables_end rvas sizes are same small = record {
      directory = at 0 (omega arith);
      lookups = at 1 (omega arith);
      slots = at 2 (omega arith);
      hints = at 3 (omega arith);
      names = at 4 (omega arith);
    }
      where
        rva_is : (n : ℕ) → n < 5 → slice_index rvas n ≡ table_rva (kept_parts plan) placement.layout n
        rva_is n lt = ap (λ (xs : List ℕ). get_or xs n 0) are ∙ get_or-map-range_with_len (table_rva (kept_parts plan) placement.layout) 0 5 n n 0 lt (omega arith)

        at : (n : ℕ) → n < 5 → slice_index rvas n + slice_index sizes n < 2 ^ 32
        at n lt =
            let rva = rva_is n lt in
            let size : slice_index sizes n ≡ size_at (import_sizes plan.names.modules (kept_imports (kept_parts plan))) n = ap (λ (xs : List ℕ). get_or xs n 0) same in
            let fits = small n lt in
            let end = table_ends n lt (omega (arith, size, fits)) in
            omega (arith, rva, size, end)
