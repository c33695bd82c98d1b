-- From what grouping and placing say of the pieces of a plan to what they say of the modules.
use Rattle.std.proofs.Common.{eqb, eq-eqb, ◌≡◌, ℕ, ◌+◌, ◌<◌, ◌^◌, ◌⊎◌, Bool, true, false, ◌≤◌, List, [], ◌∷◌, ◌++◌, length, length-append, map, get_or, Some, None, refl, sym, ap, ◌∙◌, subst, inl, inr, arith}
use Rattle.std.specs.Prelude.{codes}
use Rattle.std.specs.List.{All, Contains, IsDistinct}
use Rattle.std.proofs.lemmas.Bool.{lt-ltb, and_from, or_left, or_right}
use Rattle.std.proofs.lemmas.List.{length-map, map-append, append-nil, get_or_append_left}
use Rattle.std.proofs.lemmas.List.Elements.{All-nil, All-cons, Contains-append_left}
use Rattle.std.proofs.lemmas.Grind.{flat_map-append}
use Rattle.link_base.specs.declared.fault.Fault.TheVariants as faults
use Rattle.section_group.specs.declared.piece.Piece.{Piece}
use Rattle.section_group.specs.declared.piece.OutSection.{OutSection}
use Rattle.section_group.specs.BarePieces.{bare}
use Rattle.section_group.specs.Placement.{IsGrouping, needs_place}
use Rattle.section_group.specs.SectionOrder.{Input, no_piece, input_from, is_used}
use Rattle.section_group.specs.Uniqueness.{SectionRow as OutRow, row_of, rows_of}
use Rattle.section_group.proofs.CallerLemmas.{grouping_bare}
use Rattle.address_layout.specs.declared.base.BaseRule.{BaseRule}
use Rattle.address_layout.specs.declared.layout.Placed.{Placed}
use Rattle.address_layout.specs.declared.layout.Layout.{Layout}
use Rattle.address_layout.specs.declared.layout.LayoutError.{LayoutError}
use Rattle.address_layout.specs.declared.layout.LayoutError.TheVariants as bad
use Rattle.address_layout.specs.Layout.{all_pieces, IsLayout, IsPlaceRefusal, StandOnce}
use Rattle.address_layout.specs.Places.{row_at, piece_in}
use Rattle.address_layout.specs.PermittedBase.{is_permitted, IsBaseRefusal}
use Rattle.address_layout.proofs.CallerLemmas.{stand_once, stands, stands_at, piece_end_inside, all_ends_inside, layout_bare, size_bare, name_fits}
use Rattle.image_writer.specs.declared.headers.Headers.{Headers}
use Rattle.link_base.specs.declared.fault.Fault.{Fault}
use Rattle.section_group.specs.PieceContents.{piece_contents}
use Rattle.image_writer.specs.WrittenImage.{IsLaidOut}
use Rattle.image_writer.proofs.CallerLemmas.{laid_out, appended_laid_out}
use Rattle.link_pieces.specs.TablePieces.{KeptParts}
use Rattle.link_plan.specs.Plan.{merges_of, IsPlanOf, kept_parts}
use Rattle.link_plan.specs.Planned.{used_pieces, plan_pieces}
use Rattle.link_words.specs.Outcome.{LinkOptions}
use Rattle.link_fields.specs.declared.entry.EntryPlace.{EntryPlace}
use Rattle.link_plan.specs.declared.planning.LinkPlan.{LinkPlan}
use Rattle.link_plan.specs.Laid.{StandsNamed}
use Rattle.base_reloc.specs.declared.field.BaseField.{BaseField}
use Rattle.base_reloc.specs.PageBlocks.{blocks_of}
use Rattle.address_layout.specs.Growth.{Appends, IsGrowRefusal}
use Rattle.link_base.specs.Limits.{IMAGE_LIMIT}
use Rattle.link_base.specs.Refusals.{RefusesFor}
use Rattle.link_base.specs.declared.stop.Refusal.{Refusal}
use Rattle.link_base.specs.declared.stop.Refusal.TheVariants as refusal
use Rattle.link_pieces.specs.LinkParts.{LinkParts}
use Rattle.piece_bytes.specs.Owners.{no_row}
use Rattle.link_image.specs.declared.placement.Placement.{Placement}
use Rattle.link_image.specs.BaseFields.{is_relocated, AreBaseFields}
use Rattle.link_image.specs.LinkedBytes.{owners_in, fields_range_fault}
use Rattle.link_image.specs.ExportFaults.{in_table_fault}
use Rattle.link_image.specs.Steps.{reloc_tables, EndsWithTable, IsPlaced, IsReady, IsWritten}
use Rattle.link_image.specs.LinkedImage.{link_input, base_rule, table_row, AreGrouped, ArePlaced, IsWhole, IsPlacement}
use Rattle.link_image.specs.BuildFaults.{IsBuildFault, RefusesBuild}
use Rattle.link_base.specs.NameText.{same_name}
use Rattle.section_group.specs.Placement.{IsSection}
use Rattle.pdata_table.specs.SortedContents.{is_among}
use Rattle.link_image.specs.NamedSections.{pdata_pieces}
use Rattle.link_image.specs.Steps.{IsRowPiece}
use Rattle.link_image.proofs.HeldLemmas.{held_at}
use Rattle.link_image.proofs.PdataLemmas.{IsPdataSection, member_of, among_contains, section_of_pdata, section_distinct, whole_rows}
use Rattle.link_image.proofs.RowLemmas.{section_there, member_row}

-- ---- pieces without their bytes

-- the grouping of the pieces of a plan is that of the modules
pub grouped_modules : (options : LinkOptions) (link : KeptParts) (pieces : List Piece) (sections : List OutSection) → map bare pieces ≡ plan_pieces options link → AreGrouped options link pieces sections → AreGrouped options link (plan_pieces options link) sections
grouped_modules options link pieces sections are grouped =
    let bared : IsGrouping (input_from (map bare pieces) (used_pieces link) (merges_of options link.parts)) sections = grouping_bare pieces (used_pieces link) (merges_of options link.parts) sections grouped.grouping in
    record {
      merges = grouped.merges;
      tables = grouped.tables;
      grouping = subst (λ (ps : List Piece). IsGrouping (link_input options link ps) sections) are bared;
    }

pub placed_modules : (options : LinkOptions) (link : KeptParts) (pieces : List Piece) (sections : List OutSection) (reloc : Bool) (layout : Layout) → map bare pieces ≡ plan_pieces options link → ArePlaced pieces sections reloc layout → ArePlaced (plan_pieces options link) sections reloc layout
placed_modules options link pieces sections reloc layout are placed = record {
  layout_of = subst (λ (ps : List Piece). IsLayout ps sections reloc layout) are (layout_bare pieces sections reloc layout placed.layout_of);
  few = placed.few;
  within = placed.within;
  growth = placed.growth;
}

-- ---- each piece stands once

pub standing : (options : LinkOptions) (link : KeptParts) (pieces : List Piece) (sections : List OutSection) → AreGrouped options link pieces sections → StandOnce pieces sections
standing options link pieces sections grouped = stand_once (link_input options link pieces) sections grouped.grouping

-- ---- why there is no image

pub too_many : (options : LinkOptions) (link : KeptParts) (pieces : List Piece) (sections : List OutSection) (reloc : Bool) (count : ℕ) → map bare pieces ≡ plan_pieces options link → AreGrouped options link pieces sections → reloc ≡ is_relocated options link → IsPlaceRefusal pieces sections reloc (bad.TooManySections count) → IsBuildFault options link (faults.TooManySections count)
too_many options link pieces sections reloc count are grouped same refused =
    inl (inr (inr (inl (record {
      sections = sections;
      grouped = grouped_modules options link pieces sections are grouped;
      count = count;
      refused = subst (λ (r : Bool). IsPlaceRefusal (plan_pieces options link) sections r (bad.TooManySections count)) same refused;
      is = refl;
    }))))

pub too_large : (options : LinkOptions) (link : KeptParts) (pieces : List Piece) (sections : List OutSection) (reloc : Bool) (size : ℕ) → map bare pieces ≡ plan_pieces options link → AreGrouped options link pieces sections → reloc ≡ is_relocated options link → IsPlaceRefusal pieces sections reloc (bad.ImageTooLarge size) → IsBuildFault options link (faults.ImageTooLarge size)
too_large options link pieces sections reloc size are grouped same refused =
    let bared : IsPlaceRefusal (map bare pieces) sections reloc (bad.ImageTooLarge size) = (refused.0, size_bare pieces sections reloc size refused.1, refused.2) in
    inl (inr (inr (inr (inl (record {
      sections = sections;
      grouped = grouped_modules options link pieces sections are grouped;
      size = size;
      refused = inl (subst (λ (r : Bool). IsPlaceRefusal (plan_pieces options link) sections r (bad.ImageTooLarge size)) same (subst (λ (ps : List Piece). IsPlaceRefusal ps sections reloc (bad.ImageTooLarge size)) are bared));
      is = refl;
    })))))

pub large_table : (options : LinkOptions) (link : KeptParts) (pieces : List Piece) (sections : List OutSection) (layout : Layout) (fields : List BaseField) (size : ℕ) → map bare pieces ≡ plan_pieces options link → AreGrouped options link pieces sections → ArePlaced pieces sections true layout → is_relocated options link ≡ true → AreBaseFields link layout.pieces.items fields → IsGrowRefusal layout (length (blocks_of fields)) (bad.ImageTooLarge size) → IsBuildFault options link (faults.ImageTooLarge size)
large_table options link pieces sections layout fields size are grouped placed relocated based refused =
    inl (inr (inr (inr (inl (record {
      sections = sections;
      grouped = grouped_modules options link pieces sections are grouped;
      size = size;
      refused = inr (record {
        relocated = relocated;
        layout = layout;
        placed = placed_modules options link pieces sections true layout are placed;
        fields = fields;
        based = based;
        refused = refused;
      });
      is = refl;
    })))))

pub bad_base : (options : LinkOptions) (link : KeptParts) (rows : List OutRow) (layout : Layout) (tables : List (List ℕ)) → IsPlacement options link rows layout tables → is_permitted (base_rule options) layout.image options.base ≡ false → IsBuildFault options link (faults.BaseRange options.base)
bad_base options link rows layout tables placement refused =
    inl (inr (inr (inr (inr (inl (record { rows = rows; layout = layout; tables = tables; placement = placement; refused = refused; is = refl }))))))

-- a value that does not fit
bad_range : (options : LinkOptions) (link : KeptParts) (rows : List OutRow) (layout : Layout) (tables : List (List ℕ)) (fault : Fault) → IsPlacement options link rows layout tables → is_permitted (base_rule options) layout.image options.base ≡ true → in_table_fault link layout.pieces.items ≡ None → fields_range_fault link rows layout options.base ≡ Some fault → IsBuildFault options link fault
bad_range options link rows layout tables fault placement permitted outside is =
    inl (inr (inr (inr (inr (inr (inr (record { rows = rows; layout = layout; tables = tables; placement = placement; permitted = permitted; outside = outside; is = is })))))))

pub range_refusal : (options : LinkOptions) (link : KeptParts) (rows : List OutRow) (layout : Layout) (tables : List (List ℕ)) (r : Refusal) → IsPlacement options link rows layout tables → is_permitted (base_rule options) layout.image options.base ≡ true → in_table_fault link layout.pieces.items ≡ None → RefusesFor (fields_range_fault link rows layout options.base) r → RefusesBuild options link r
range_refusal options link rows layout tables (refusal.Fault fault) placement permitted outside is =
    bad_range options link rows layout tables fault placement permitted outside is
range_refusal options link rows layout tables refusal.Memory placement permitted outside is = tt

-- one that lies in the table
pub export_in_table : (options : LinkOptions) (link : KeptParts) (rows : List OutRow) (layout : Layout) (tables : List (List ℕ)) (fault : Fault) → IsPlacement options link rows layout tables → is_permitted (base_rule options) layout.image options.base ≡ true → in_table_fault link layout.pieces.items ≡ Some fault → IsBuildFault options link fault
export_in_table options link rows layout tables fault placement permitted is =
    inl (inr (inr (inr (inr (inr (inl (record { rows = rows; layout = layout; tables = tables; placement = placement; permitted = permitted; is = is })))))))

pub used_there : (options : LinkOptions) (link : KeptParts) (pieces : List Piece) (k : ℕ) → k < length pieces → get_or (used_pieces link) k false ≡ true → is_used (link_input options link pieces) k ≡ true
used_there options link pieces k lt kept = and_from _ _ (lt-ltb k (length pieces) lt) kept

pub needs_there : (input : Input) (k : ℕ) → (0 < (get_or input.pieces k no_piece).size) ⊎ ((get_or input.pieces k no_piece).named ≡ true) → needs_place input k ≡ true
needs_there input k (inl some) = or_left _ _ (lt-ltb 0 (get_or input.pieces k no_piece).size some)
needs_there input k (inr named) = or_right _ _ named

-- ---- the entry

-- a piece that is named stands in a section, so an offset in it has an RVA
pub entry_fits : (options : LinkOptions) (link : KeptParts) (pieces : List Piece) (sections : List OutSection) (reloc : Bool) (layout : Layout) (place : EntryPlace) → AreGrouped options link pieces sections → ArePlaced pieces sections reloc layout → StandsNamed pieces place → get_or (used_pieces link) place.piece false ≡ true → get_or layout.pieces.items place.piece 0 < 2 ^ 32 → get_or layout.pieces.items place.piece 0 + place.value < 2 ^ 32
entry_fits options link pieces sections reloc layout place grouped placed stand kept fits =
    let piece = place.piece in
    let input = link_input options link pieces in
    let used = used_there options link pieces piece stand.within kept in
    let needs : needs_place input piece ≡ true = or_right _ _ stand.named in
    name_fits pieces sections reloc layout piece place.value placed.layout_of.standing placed.within (stands input sections piece grouped.grouping used needs) fits stand.inside

-- a piece with bytes ends inside the image
pub end_fits : (options : LinkOptions) (link : KeptParts) (pieces : List Piece) (sections : List OutSection) (reloc : Bool) (layout : Layout) (k : ℕ) → AreGrouped options link pieces sections → ArePlaced pieces sections reloc layout → k < length pieces → get_or (used_pieces link) k false ≡ true → 0 < (get_or pieces k no_piece).size → get_or layout.pieces.items k 0 + (get_or pieces k no_piece).size ≤ IMAGE_LIMIT
end_fits options link pieces sections reloc layout k grouped placed lt kept some =
    let input = link_input options link pieces in
    let standing = placed.layout_of.standing in
    let at = stands_at sections k (stands input sections k grouped.grouping (used_there options link pieces k lt kept) (needs_there input k (inl some))) in
    let size : (piece_in pieces (row_at sections at.section) at.number).size ≡ (get_or pieces k no_piece).size = ap (λ (n : ℕ). (get_or pieces n no_piece).size) at.is in
    let place : get_or layout.pieces.items k 0 ≡ standing.place at.section at.number = ap (λ (n : ℕ). get_or layout.pieces.items n 0) (sym at.is) ∙ standing.written at.section at.number at.there at.within in
    let inside = piece_end_inside (standing.arranged.each at.section at.there) at.number at.within (omega (arith, some, size)) in
    let within = all_ends_inside pieces sections reloc layout at.section standing at.there in
    omega (arith, size, place, inside, within, placed.within)

-- ---- the base

-- the one refusal of a base is that it is not permitted
pub not_permitted : (rule : BaseRule) (image : ℕ) (refusal : LayoutError) → IsBaseRefusal rule image refusal → is_permitted rule image rule.base ≡ false
not_permitted rule image (bad.BaseRange base) refused = refused.1
not_permitted rule image (bad.TooManySections count) refused = absurd refused
not_permitted rule image (bad.ImageTooLarge size) refused = absurd refused
not_permitted rule image bad.Memory refused = absurd refused

-- ---- what is written

-- what is placed without a table can be written
laid : (options : LinkOptions) (link : KeptParts) (pieces : List Piece) (sections : List OutSection) (layout : Layout) → AreGrouped options link pieces sections → ArePlaced pieces sections false layout → IsLaidOut pieces sections layout
laid options link pieces sections layout grouped placed =
    laid_out pieces sections layout placed.layout_of.standing (standing options link pieces sections grouped) placed.few placed.growth

-- ---- the placement of a plan

no_pieces : {A B : Type 0} (f : A → B) (xs : List A) → map f xs ≡ [] → xs ≡ []
no_pieces f [] e = refl
no_pieces f (x ∷ xs) e = absurd cc

-- without a table of base relocations
pub placed_alone : (options : LinkOptions) (plan : LinkPlan) (placement : Placement) → IsPlanOf options plan.modules.items plan → AreGrouped options (kept_parts plan) plan.pieces.items placement.sections.items → ArePlaced plan.pieces.items placement.sections.items false placement.layout → is_relocated options (kept_parts plan) ≡ false → reloc_tables placement.table ≡ [] → IsPlaced options plan placement
placed_alone options plan placement planned grouped placed alone none =
    let link = kept_parts plan in
    let pieces = plan.pieces.items in
    let sections = placement.sections.items in
    let layout = placement.layout in
    let input = link_input options link pieces in
    record {
      means = record {
        sections = sections;
        grouped = grouped_modules options link pieces sections planned.pieces_are grouped;
        before = layout;
        placed = subst (λ (r : Bool). ArePlaced (plan_pieces options link) sections r layout) (sym alone) (placed_modules options link pieces sections false layout planned.pieces_are placed);
        whole = subst (λ (r : Bool). IsWhole r link (rows_of sections) layout (rows_of sections) layout (reloc_tables placement.table)) (sym alone) (refl, refl, none);
      };
      laid = λ rest holds.
          let empty : rest ≡ [] = no_pieces piece_contents rest (holds.contents ∙ none) in
          subst (λ (ps : List Piece). IsLaidOut ps sections layout) (sym (append-nil pieces) ∙ ap (λ (r : List Piece). pieces ++ r) (sym empty)) (laid options link pieces sections layout grouped placed);
      stands = λ k lt kept needs. stands input sections k grouped.grouping (used_there options link pieces k lt kept) (needs_there input k needs);
      room = omega (arith, placed.layout_of.standing.rva_for_each);
      fits = λ place stand kept small. entry_fits options link pieces sections false layout place grouped placed stand kept small;
      ends = λ k lt kept some. end_fits options link pieces sections false layout k grouped placed lt kept some;
      few = omega (arith, placed.few);
      small = subst (λ (ts : List (List ℕ)). All (λ table. length table < 2 ^ 32) ts) (sym none) (All-nil (λ (table : List ℕ). length table < 2 ^ 32));
    }

one_piece : {A B : Type 0} (f : A → B) (xs : List A) (y : B) → map f xs ≡ y ∷ [] → (x : A) × (xs ≡ x ∷ [])
one_piece f [] y e = absurd cc
one_piece f (x ∷ []) y e = (x, refl)
one_piece f (x ∷ z ∷ xs) y e = absurd cc

sections_more : (sections : List OutSection) (section : OutSection) → all_pieces (sections ++ section ∷ []) ≡ all_pieces sections ++ all_pieces (section ∷ [])
sections_more sections section = flat_map-append (λ (s : OutSection). s.pieces.items) sections (section ∷ [])

-- with a table after all other sections
pub placed_with_table : (options : LinkOptions) (plan : LinkPlan) (sections : List OutSection) (before : Layout) (fields : List BaseField) (placement : Placement) → IsPlanOf options plan.modules.items plan → AreGrouped options (kept_parts plan) plan.pieces.items sections → ArePlaced plan.pieces.items sections true before → is_relocated options (kept_parts plan) ≡ true → AreBaseFields (kept_parts plan) before.pieces.items fields → EndsWithTable sections placement.sections.items (length plan.pieces.items) → Appends before placement.layout (length (blocks_of fields)) → placement.layout.image ≤ IMAGE_LIMIT → reloc_tables placement.table ≡ blocks_of fields ∷ [] → length (blocks_of fields) < 2 ^ 32 → IsPlaced options plan placement
placed_with_table options plan sections before fields placement planned grouped placed relocated based ends added within tables small =
    let link = kept_parts plan in
    let pieces = plan.pieces.items in
    let layout = placement.layout in
    let section = ends.section in
    let input = link_input options link pieces in
    let count : length before.pieces.items ≡ length pieces = placed.layout_of.standing.rva_for_each in
    let rows : rows_of placement.sections.items ≡ rows_of sections ++ table_row (length before.pieces.items) ∷ [] =
    ap rows_of ends.is ∙ map-append row_of sections (section ∷ []) ∙ ap (λ (r : OutRow). rows_of sections ++ r ∷ []) (ends.row ∙ ap table_row (sym count)) in
    let last : section.pieces.items ≡ length pieces ∷ [] = ap (λ (r : OutRow). r.pieces) ends.row in
    record {
      means = record {
        sections = sections;
        grouped = grouped_modules options link pieces sections planned.pieces_are grouped;
        before = before;
        placed = subst (λ (r : Bool). ArePlaced (plan_pieces options link) sections r before) (sym relocated) (placed_modules options link pieces sections true before planned.pieces_are placed);
        whole = subst (λ (r : Bool). IsWhole r link (rows_of sections) before (rows_of placement.sections.items) layout (reloc_tables placement.table)) (sym relocated)
            (record { fields = fields; based = based; added = added; within = within; rows_are = rows; tables_are = tables });
      };
      laid = λ rest holds.
          let one = one_piece piece_contents rest (blocks_of fields) (holds.contents ∙ tables) in
          let size : one.0.size ≡ length (blocks_of fields) =
          ap (λ (ps : List Piece). (get_or ps 0 no_piece).size) (sym one.1) ∙ holds.sizes 0 (omega (arith, ap length one.1)) ∙ ap (λ (ts : List (List ℕ)). length (get_or ts 0 [])) tables in
          subst (λ (ss : List OutSection). IsLaidOut (pieces ++ rest) ss layout) (sym ends.is)
          (subst (λ (r : List Piece). IsLaidOut (pieces ++ r) (sections ++ section ∷ []) layout) (sym one.1)
          (appended_laid_out pieces one.0 sections section before layout (length (blocks_of fields)) placed.layout_of.standing planned.aligned (standing options link pieces sections grouped) placed.few added within last size));
      stands = λ k lt kept needs.
          subst (λ (ss : List OutSection). Contains (all_pieces ss) k) (sym ends.is)
          (subst (λ (ks : List ℕ). Contains ks k) (sym (sections_more sections section))
          (Contains-append_left (all_pieces sections) (all_pieces (section ∷ [])) k (stands input sections k grouped.grouping (used_there options link pieces k lt kept) (needs_there input k needs))));
      room = omega (arith, count, ap length added.pieces, length-append before.pieces.items (added.placed.rva ∷ []));
      fits = λ place stand kept fits.
          let same : get_or layout.pieces.items place.piece 0 ≡ get_or before.pieces.items place.piece 0 =
          ap (λ (rvas : List ℕ). get_or rvas place.piece 0) added.pieces ∙ get_or_append_left before.pieces.items (added.placed.rva ∷ []) 0 place.piece (omega (arith, stand.within, count)) in
          let here = entry_fits options link pieces sections true before place grouped placed stand kept (omega (arith, same, fits)) in
          omega (arith, same, here);
      ends = λ k lt kept some.
          let same : get_or layout.pieces.items k 0 ≡ get_or before.pieces.items k 0 =
          ap (λ (rvas : List ℕ). get_or rvas k 0) added.pieces ∙ get_or_append_left before.pieces.items (added.placed.rva ∷ []) 0 k (omega (arith, lt, count)) in
          let here = end_fits options link pieces sections true before k grouped placed lt kept some in
          omega (arith, same, here);
      few = omega (arith, placed.few, ap length ends.is, length-append sections (section ∷ []));
      small = subst (λ (ts : List (List ℕ)). All (λ table. length table < 2 ^ 32) ts) (sym tables) (All-cons (λ (table : List ℕ). length table < 2 ^ 32) (blocks_of fields) [] small (All-nil (λ (table : List ℕ). length table < 2 ^ 32)));
    }

-- ---- the exception table

-- its section, among those that the pieces stand in
pdata_section : (options : LinkOptions) (plan : LinkPlan) (placement : Placement) → (placed : IsPlaced options plan placement) → (k : ℕ) → is_among k (pdata_pieces (rows_of placement.sections.items)) ≡ true → IsPdataSection placed.means.sections (rows_of placement.sections.items)
pdata_section options plan placement placed k among =
    let whole = whole_rows (is_relocated options (kept_parts plan)) (kept_parts plan) placed.means.sections placed.means.before (rows_of placement.sections.items) placement.layout (reloc_tables placement.table) placed.means.whole in
    section_of_pdata placed.means.sections (rows_of placement.sections.items) whole.0 k whole.1 whole.2 among

row_piece : (options : LinkOptions) (plan : LinkPlan) (placement : Placement) → IsPlanOf options plan.modules.items plan → (placed : IsPlaced options plan placement) → (k : ℕ) → is_among k (pdata_pieces (rows_of placement.sections.items)) ≡ true → IsRowPiece (kept_parts plan) plan.pieces.items placement.layout k
row_piece options plan placement planned placed k among =
    let link = kept_parts plan in
    let sections = placed.means.sections in
    let grouped = placed.means.grouped in
    let at = pdata_section options plan placement placed k among in
    let here = section_there sections at.number at.within in
    let is : IsSection (link_input options link (plan_pieces options link)) here.section = subst (IsSection (link_input options link (plan_pieces options link))) here.is (grouped.grouping.each at.number here.section at.within) in
    let there = among_contains (get_or (rows_of sections) at.number no_row).pieces k (ap (is_among k) (sym at.members) ∙ among) in
    member_row options plan placement.layout k planned grouped.tables
    (member_of options link here.section k grouped.merges is
    (ap (λ (row : OutRow). same_name row.name (codes ".pdata")) (sym here.row) ∙ at.named)
    (subst (λ (row : OutRow). Contains row.pieces k) here.row there))

rows_apart : (options : LinkOptions) (plan : LinkPlan) (placement : Placement) → IsPlanOf options plan.modules.items plan → IsPlaced options plan placement → IsDistinct (λ j k. eqb j k) (pdata_pieces (rows_of placement.sections.items))
unfolding IsDistinct
rows_apart options plan placement planned placed = by (pdata_pieces (rows_of placement.sections.items)) refl
  where
    by : (members : List ℕ) → pdata_pieces (rows_of placement.sections.items) ≡ members → IsDistinct (λ j k. eqb j k) members
    by [] is = tt
    by (k ∷ ks) is =
        let at = pdata_section options plan placement placed k (ap (is_among k) is ∙ first k ks) in
        let once = (standing options (kept_parts plan) (plan_pieces options (kept_parts plan)) placed.means.sections placed.means.grouped).once in
        subst (IsDistinct (λ j i. eqb j i)) (sym at.members ∙ is) (section_distinct placed.means.sections at.number once)
      where
        first : (k : ℕ) (ks : List ℕ) → is_among k (k ∷ ks) ≡ true
        first k ks = rw (eq-eqb k k refl) refl

-- ---- what is ready

-- the pieces of a plan with their fields, where they stand
pub ready : (options : LinkOptions) (plan : LinkPlan) (placement : Placement) (headers : Headers) (image owner : List ℕ) → IsPlanOf options plan.modules.items plan → IsPlaced options plan placement → IsWritten headers placement (kept_parts plan) image → owner ≡ owners_in (rows_of placement.sections.items) placement.layout → IsReady (kept_parts plan) plan.pieces.items plan.fixes.items placement.sections.items placement.layout owner (reloc_tables placement.table)
ready options plan placement headers image owner planned placed written is = record {
  options = options;
  few_modules = let parts = ap (λ (l : LinkParts). length l.modules) planned.link_is.parts_are in omega (arith, planned.few_modules, parts);
  kept_are = planned.link_is.kept_are;
  pieces_are = planned.pieces_are;
  held = held_at options plan planned placement.layout;
  fields = planned.fields;
  rest = written.rest;
  holds = written.holds;
  laid = placed.laid written.rest written.holds;
  stands = placed.stands;
  owner_is = is;
  rows_are = λ k among. row_piece options plan placement planned placed k among;
  rows_apart = rows_apart options plan placement planned placed;
}

-- ---- a place for each section

pub sections_each : (options : LinkOptions) (link : KeptParts) (sections : List OutSection) (layout : Layout) (tables : List (List ℕ)) → IsPlacement options link (rows_of sections) layout tables → length layout.sections.items ≡ length sections
sections_each options link sections layout tables means = by (is_relocated options link) means.whole
  where
    count : length (rows_of sections) ≡ length sections
    count = length-map sections row_of

    own : length means.before.sections.items ≡ length (rows_of means.sections)
    own = means.placed.layout_of.standing.section_for_each ∙ sym (length-map means.sections row_of)

    by : (b : Bool) → IsWhole b link (rows_of means.sections) means.before (rows_of sections) layout tables → length layout.sections.items ≡ length sections
    by true whole =
        omega (arith, own, length-map sections row_of, ap (λ (rs : List OutRow). length rs) whole.rows_are, length-append (rows_of means.sections) (table_row (length means.before.pieces.items) ∷ []), ap (λ (ps : List Placed). length ps) whole.added.sections, length-append means.before.sections.items (whole.added.placed ∷ []))
    by false whole =
        ap (λ (l : Layout). length l.sections.items) whole.1 ∙ own ∙ ap (λ (rs : List OutRow). length rs) (sym whole.0) ∙ length-map sections row_of
