-- The pieces of the exception table: each has its base name, holds whole rows, and is one of the link's.
use Rattle.std.proofs.Common.{◌≡◌, ℕ, zero, suc, ◌-◌, ◌<◌, Bool, true, false, cond, ◌||◌, eqb, List, [], ◌∷◌, ◌++◌, length, get_or, Option, Some, None, unwrap_or, inl, inr, refl, sym, ap, ◌∙◌, eqb-true, arith}
use Rattle.std.proofs.lemmas.Option.{same_Some}
use Rattle.std.specs.Prelude.{codes}
use Rattle.std.specs.List.{All, AllByRecursion, Contains, IsDistinct}
use Rattle.std.specs.Map.{lookup}
use Rattle.std.proofs.lemmas.Bool.{false≢true, and_parts, cases_lt, or_right}
use Rattle.std.proofs.lemmas.List.{length-map, length-append, append-nil, get_or_append_left, get_or-append_right}
use Rattle.std.proofs.lemmas.List.Elements.{All-append, All-nil, All-cons}
use Rattle.link_base.specs.NameText.{same_name}
use Rattle.link_base.specs.SectionName.{base_name}
use Rattle.link_base.proofs.CallerLemmas.{first_below-some}
use Rattle.link_base.proofs.NameTextLemmas.{same_is}
use Rattle.section_group.specs.declared.piece.Piece.{Piece}
use Rattle.section_group.specs.declared.piece.OutSection.{OutSection}
use Rattle.section_group.specs.SectionOrder.{no_piece, section_name, is_used}
use Rattle.section_group.specs.Merging.{target, all_merges, preset_merges, led, merge_at, names_reserved, is_reserved, HasNoBadMerge}
use Rattle.section_group.specs.Placement.{IsSection}
use Rattle.section_group.specs.Uniqueness.{SectionRow, row_of, rows_of}
use Rattle.address_layout.specs.declared.layout.Layout.{Layout}
use Rattle.address_layout.specs.Layout.{all_pieces}
use Rattle.pdata_table.specs.SortedContents.{is_among}
use Rattle.synthetic_sections.specs.LinkerPieces.{SLOTS, EXPORTS, size_at, table_piece, table_if, table_pieces, export_table_pieces, DEBUG_ENTRY, DEBUG_DATA, entry_size, debug_pieces, RESOURCES, resource_pieces}
use Rattle.link_pieces.specs.Pieces.{link_pieces}
use Rattle.link_pieces.specs.TablePieces.{KeptParts, kept_imports, tables_of, whole_pieces, whole_piece}
use Rattle.link_imports.specs.Imports.{import_sizes}
use Rattle.link_fields.specs.Pdata.{is_pdata}
use Rattle.link_words.specs.Outcome.{LinkOptions}
use Rattle.link_plan.specs.Plan.{merges_of}
use Rattle.link_plan.specs.Planned.{plan_pieces}
use Rattle.piece_bytes.specs.Owners.{no_row}
use Rattle.link_image.specs.NamedSections.{is_named, section_named, members_of, pdata_pieces}
use Rattle.link_image.specs.LinkedImage.{link_input, table_row, IsWhole}

-- ---- no merge leads to the exception table

lookup_there : (name other : List ℕ) (merges : List (List ℕ × List ℕ)) → lookup (same_name name) merges ≡ Some other → (k : ℕ) × (k < length merges) × ((merge_at merges k).1 ≡ other)
lookup_there name other [] e = absurd cc
lookup_there name other (m ∷ ms) e = by (same_name name m.0) e (lookup_there name other ms)
  where
    by : (b : Bool) → cond b (Some m.1) (lookup (same_name name) ms) ≡ Some other → (lookup (same_name name) ms ≡ Some other → (k : ℕ) × (k < length ms) × ((merge_at ms k).1 ≡ other)) → (k : ℕ) × (k < length (m ∷ ms)) × ((merge_at (m ∷ ms) k).1 ≡ other)
    by true e rest = (0, omega arith, same_Some m.1 other e)
    by false e rest = let later = rest e in (suc later.0, omega (arith, later.1), later.2)

abbrev PDATA : List ℕ
PDATA = codes ".pdata"

no_preset : (k : ℕ) → k < length preset_merges → (merge_at preset_merges k).1 ≡ PDATA → ⊥
unfolding preset_merges
no_preset zero lt e = false≢true (ap (λ (n : List ℕ). same_name n PDATA) e)
no_preset (suc zero) lt e = false≢true (ap (λ (n : List ℕ). same_name n PDATA) e)
no_preset (suc (suc zero)) lt e = false≢true (ap (λ (n : List ℕ). same_name n PDATA) e)
no_preset (suc (suc (suc zero))) lt e = false≢true (ap (λ (n : List ℕ). same_name n PDATA) e)
no_preset (suc (suc (suc (suc zero)))) lt e = false≢true (ap (λ (n : List ℕ). same_name n PDATA) e)
no_preset (suc (suc (suc (suc (suc k))))) lt e = absurd (omega (arith, lt))

reserved : (merge : List ℕ × List ℕ) → merge.1 ≡ PDATA → names_reserved merge ≡ true
reserved merge is = or_right (is_reserved merge.0) (is_reserved merge.1) (rw is refl)

no_target : (given : List (List ℕ × List ℕ)) (name : List ℕ) → HasNoBadMerge given → target given name ≡ Some PDATA → ⊥
unfolding target
no_target given name well e =
    let there = lookup_there name PDATA (all_merges given) e in
    elim (cases_lt there.0 (length given)) [
      | inl inside ↦
          let here : (merge_at given there.0).1 ≡ PDATA = ap (λ (m : List ℕ × List ℕ). m.1) (sym (get_or_append_left given preset_merges ([], []) there.0 inside)) ∙ there.2 in
          well there.0 inside (inr (inr (reserved (merge_at given there.0) here)))
      | inr behind ↦
          no_preset (there.0 - length given) (omega (arith, behind, there.1, length-append given preset_merges))
          (ap (λ (m : List ℕ × List ℕ). m.1) (sym (get_or-append_right given preset_merges (length given) there.0 ([], []) refl behind)) ∙ there.2)
    ]

led_from : (given : List (List ℕ × List ℕ)) → HasNoBadMerge given → (steps : ℕ) (name : List ℕ) → led given steps name ≡ PDATA → name ≡ PDATA
unfolding led
led_from given well zero name e = e
led_from given well (suc steps) name e = led_from given well steps name (by (target given (led given steps name)) refl e)
  where
    by : (o : Option (List ℕ)) → target given (led given steps name) ≡ o → unwrap_or o (led given steps name) ≡ PDATA → led given steps name ≡ PDATA
    by None is e = e
    by (Some other) is e = absurd (no_target given (led given steps name) well (is ∙ ap (λ (n : List ℕ). Some n) e))

-- ---- no table is one of it

not_in_table : (position number : ℕ) (name : List ℕ) (align size : ℕ) → same_name (base_name name) PDATA ≡ false → All (λ piece. is_pdata piece ≡ false) (table_if position number name align size)
unfolding is_pdata
not_in_table position number name align size other = by (eqb size 0)
  where
    by : (b : Bool) → All (λ piece. is_pdata piece ≡ false) (cond b [] (table_piece position number name align size ∷ []))
    by true = All-nil (λ (piece : Piece). is_pdata piece ≡ false)
    by false = All-cons (λ (piece : Piece). is_pdata piece ≡ false) (table_piece position number name align size) [] other (All-nil (λ (piece : Piece). is_pdata piece ≡ false))

abbrev NoPdata : List Piece → Type 0
NoPdata pieces = All (λ piece. is_pdata piece ≡ false) pieces

both : (xs ys : List Piece) → NoPdata xs → NoPdata ys → NoPdata (xs ++ ys)
both xs ys x y = All-append (λ (piece : Piece). is_pdata piece ≡ false) xs ys x y

imports_apart : (position : ℕ) (sizes : List ℕ) → NoPdata (table_pieces position sizes)
unfolding table_pieces
imports_apart position sizes =
    let second = table_if position 1 (codes ".idata$4") 8 (size_at sizes 1) in
    let third = table_if position SLOTS (codes ".idata$5") 8 (size_at sizes 2) in
    let fourth = table_if position 3 (codes ".idata$6") 2 (size_at sizes 3) in
    let fifth = table_if position 4 (codes ".idata$7") 1 (size_at sizes 4) in
    both (table_if position 0 (codes ".idata$2") 4 (size_at sizes 0)) (second ++ (third ++ (fourth ++ fifth))) (not_in_table position 0 (codes ".idata$2") 4 (size_at sizes 0) refl)
    (both second (third ++ (fourth ++ fifth)) (not_in_table position 1 (codes ".idata$4") 8 (size_at sizes 1) refl)
    (both third (fourth ++ fifth) (not_in_table position SLOTS (codes ".idata$5") 8 (size_at sizes 2) refl)
    (both fourth fifth (not_in_table position 3 (codes ".idata$6") 2 (size_at sizes 3) refl) (not_in_table position 4 (codes ".idata$7") 1 (size_at sizes 4) refl))))

exports_apart : (position size : ℕ) → NoPdata (export_table_pieces position size)
unfolding export_table_pieces
exports_apart position size = not_in_table position EXPORTS (codes ".edata") 4 size refl

debug_apart : (position size : ℕ) → NoPdata (debug_pieces position size)
unfolding debug_pieces
debug_apart position size =
    both (table_if position DEBUG_ENTRY (codes ".rdata") 4 (entry_size size)) (table_if position DEBUG_DATA (codes ".rdata") 4 size) (not_in_table position DEBUG_ENTRY (codes ".rdata") 4 (entry_size size) refl)
    (not_in_table position DEBUG_DATA (codes ".rdata") 4 size refl)

tree_apart : (position size : ℕ) → NoPdata (resource_pieces position size)
unfolding resource_pieces
tree_apart position size = not_in_table position RESOURCES (codes ".rsrc") 4 size refl

tables_apart : (link : KeptParts) → NoPdata (tables_of link)
tables_apart link =
    let count = length link.parts.modules in
    let sizes = import_sizes link.parts.modules (kept_imports link) in
    let exports = export_table_pieces count link.parts.exports.size in
    let debug = debug_pieces count link.parts.debug.size in
    let tree = resource_pieces count link.parts.resources.size in
    both (table_pieces count sizes) (exports ++ (debug ++ tree)) (imports_apart count sizes)
    (both exports (debug ++ tree) (exports_apart count link.parts.exports.size)
    (both debug tree (debug_apart count link.parts.debug.size) (tree_apart count link.parts.resources.size)))

-- a piece of the exception table is one of the link's
pub pdata_inside : (link : KeptParts) (k : ℕ) → k < length (whole_pieces link) → is_pdata (whole_piece link k) ≡ true → k < length (link_pieces link.parts)
pdata_inside link k lt is =
    let pieces = link_pieces link.parts in
    elim (cases_lt k (length pieces)) [
      | inl inside ↦ inside
      | inr behind ↦
          let none = tables_apart link (k - length pieces) no_piece (omega (arith, behind, lt, length-append pieces (tables_of link))) in
          absurd (false≢true (sym none ∙ ap is_pdata (sym (get_or-append_right pieces (tables_of link) (length pieces) k no_piece refl behind)) ∙ is))
    ]

-- ---- the members of its section

-- a member is used, and has its base name
pub record IsMember (options : LinkOptions) (link : KeptParts) (k : ℕ) : Type 0 where
  pub used : is_used (link_input options link (plan_pieces options link)) k ≡ true
  pub named : is_pdata (get_or (plan_pieces options link) k no_piece) ≡ true

pub member_of : (options : LinkOptions) (link : KeptParts) (section : OutSection) (k : ℕ) → HasNoBadMerge (merges_of options link.parts) → IsSection (link_input options link (plan_pieces options link)) section → same_name section.name PDATA ≡ true → Contains section.pieces.items k → IsMember options link k
unfolding is_pdata
member_of options link section k well is name there =
    let input = link_input options link (plan_pieces options link) in
    let goes = (is.members k).0 there in
    let parts = and_parts (is_used input k) _ goes in
    let names = and_parts (same_name (section_name input k) section.name) _ parts.1 in
    let led_to : section_name input k ≡ PDATA = same_is (section_name input k) section.name names.0 ∙ same_is section.name PDATA name in
    let own : base_name (get_or (plan_pieces options link) k no_piece).name ≡ PDATA =
    led_from (merges_of options link.parts) well (length (all_merges (merges_of options link.parts))) (base_name (get_or (plan_pieces options link) k no_piece).name) led_to in
    record { used = parts.0; named = rw own refl }

-- ---- one section among others

pub among_contains : (xs : List ℕ) (k : ℕ) → is_among k xs ≡ true → Contains xs k
among_contains [] k e = absurd (false≢true e)
among_contains (x ∷ xs) k e = by (eqb x k) refl e (among_contains xs k)
  where
    by : (b : Bool) → eqb x k ≡ b → (b || is_among k xs) ≡ true → (is_among k xs ≡ true → Contains xs k) → Contains (x ∷ xs) k
    by true here e rest = (0, omega arith, eqb-true x k here)
    by false other e rest = let later = rest e in (suc later.0, omega (arith, later.1), later.2)

-- the section of the exception table, which is none that was appended
pub record IsPdataSection (sections : List OutSection) (rows : List SectionRow) : Type 0 where
  pub number : ℕ
  pub within : number < length sections
  pub named : same_name (get_or (rows_of sections) number no_row).name PDATA ≡ true
  pub members : pdata_pieces rows ≡ (get_or (rows_of sections) number no_row).pieces

pub section_of_pdata : (sections : List OutSection) (rows rest : List SectionRow) (k : ℕ) → rows ≡ rows_of sections ++ rest → All (λ row. same_name row.name PDATA ≡ false) rest → is_among k (pdata_pieces rows) ≡ true → IsPdataSection sections rows
unfolding pdata_pieces
section_of_pdata sections rows rest k is others there = by (section_named rows PDATA) refl there
  where
    by : (o : Option ℕ) → section_named rows PDATA ≡ o → is_among k (members_of rows o) ≡ true → IsPdataSection sections rows
    by None e there = absurd (false≢true there)
    by (Some i) e there =
        let found = first_below-some (length rows) i (is_named rows PDATA) e in
        let count : length (rows_of sections) ≡ length sections = length-map sections row_of in
        elim (cases_lt i (length (rows_of sections))) [
          | inl inside ↦
              let same : get_or rows i no_row ≡ get_or (rows_of sections) i no_row = ap (λ (rs : List SectionRow). get_or rs i no_row) is ∙ get_or_append_left (rows_of sections) rest no_row i inside in
              record {
                number = i;
                within = omega (arith, inside, count);
                named = ap (λ (row : SectionRow). same_name row.name PDATA) (sym same) ∙ found.1.0;
                members = ap (members_of rows) e ∙ ap (λ (row : SectionRow). row.pieces) same;
              }
          | inr behind ↦
              let same : get_or rows i no_row ≡ get_or rest (i - length (rows_of sections)) no_row = ap (λ (rs : List SectionRow). get_or rs i no_row) is ∙ get_or-append_right (rows_of sections) rest (length (rows_of sections)) i no_row refl behind in
              let other = others (i - length (rows_of sections)) no_row (omega (arith, behind, found.0, ap (λ (rs : List SectionRow). length rs) is, length-append (rows_of sections) rest)) in
              absurd (false≢true (sym other ∙ ap (λ (row : SectionRow). same_name row.name PDATA) (sym same) ∙ found.1.0))
        ]

-- ---- no piece twice

distinct_left : (xs ys : List ℕ) → IsDistinct (λ j k. eqb j k) (xs ++ ys) → IsDistinct (λ j k. eqb j k) xs
unfolding IsDistinct
distinct_left [] ys all = tt
distinct_left (x ∷ xs) ys all = (first xs ys all.0, distinct_left xs ys all.1)
  where
    first : (zs ws : List ℕ) → AllByRecursion (λ y. eqb x y ≡ false) (zs ++ ws) → AllByRecursion (λ y. eqb x y ≡ false) zs
    first [] ws all = tt
    first (z ∷ zs) ws all = (all.0, first zs ws all.1)

distinct_right : (xs ys : List ℕ) → IsDistinct (λ j k. eqb j k) (xs ++ ys) → IsDistinct (λ j k. eqb j k) ys
unfolding IsDistinct
distinct_right [] ys all = all
distinct_right (x ∷ xs) ys all = distinct_right xs ys all.1

pub section_distinct : (sections : List OutSection) (i : ℕ) → IsDistinct (λ j k. eqb j k) (all_pieces sections) → IsDistinct (λ j k. eqb j k) (get_or (rows_of sections) i no_row).pieces
unfolding IsDistinct
section_distinct [] i all = tt
section_distinct (s ∷ ss) zero all = distinct_left s.pieces.items (all_pieces ss) all
section_distinct (s ∷ ss) (suc i) all = section_distinct ss i (distinct_right s.pieces.items (all_pieces ss) all)

-- ---- with the table of base relocations after the sections

pub whole_rows : (b : Bool) (link : KeptParts) (sections : List OutSection) (before : Layout) (rows : List SectionRow) (layout : Layout) (tables : List (List ℕ)) → IsWhole b link (rows_of sections) before rows layout tables → (rest : List SectionRow) × (rows ≡ rows_of sections ++ rest) × All (λ row. same_name row.name PDATA ≡ false) rest
whole_rows true link sections before rows layout tables whole = (
  table_row (length before.pieces.items) ∷ [],
  whole.rows_are,
  All-cons (λ (row : SectionRow). same_name row.name PDATA ≡ false) (table_row (length before.pieces.items)) [] refl (All-nil (λ (row : SectionRow). same_name row.name PDATA ≡ false)),
)
whole_rows false link sections before rows layout tables whole = (
  [],
  whole.0 ∙ sym (append-nil (rows_of sections)),
  All-nil (λ (row : SectionRow). same_name row.name PDATA ≡ false),
)

-- the name of a section, as it is read
pub name_read : (sections : List OutSection) (i : ℕ) (section : OutSection) → i < length sections → (get_or (rows_of sections) i no_row).name ≡ (get_or sections i section).name
name_read [] i section lt = absurd (omega (arith, lt))
name_read (s ∷ ss) zero section lt = refl
name_read (s ∷ ss) (suc i) section lt = name_read ss i section (omega (arith, lt))
