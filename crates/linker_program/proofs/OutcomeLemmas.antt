-- Words and files have one outcome.
use Rattle.std.proofs.Common.{◌≡◌, ℕ, ◌+◌, ◌≤◌, ◌⊎◌, Bool, true, false, cond, List, ◌++◌, length, map, subst, Option, Some, None, unwrap_or, Result, Ok, Err, refl, sym, ap, ◌∙◌, inl, inr, arith}
use Rattle.std.proofs.lemmas.Option.{same_Some, none-some}
use Rattle.std.proofs.lemmas.Bool.{cases_lt, false≢true}
use Rattle.std.proofs.lemmas.List.{length-map}
use Rattle.link_base.specs.declared.fault.Fault.{Fault}
use Rattle.link_base.specs.declared.fault.Fault.TheVariants as faults
use Rattle.link_files.specs.Store.{Store}
use Rattle.link_base.specs.Limits.{SECTION_LIMIT, IMAGE_LIMIT}
use Rattle.section_group.specs.declared.piece.Piece.{Piece}
use Rattle.section_group.specs.declared.piece.OutSection.{OutSection}
use Rattle.section_group.specs.Merging.{IsFirstBadMerge, merge_at}
use Rattle.section_group.specs.Uniqueness.{SectionRow, row_of, rows_of}
use Rattle.address_layout.specs.declared.layout.Placed.{Placed}
use Rattle.address_layout.specs.declared.layout.Layout.{Layout}
use Rattle.address_layout.specs.Growth.{SameLayout}
use Rattle.address_layout.specs.declared.layout.LayoutError.TheVariants as bad
use Rattle.address_layout.specs.PermittedBase.{is_permitted}
use Rattle.address_layout.specs.Places.{section_count}
use Rattle.address_layout.specs.Growth.{HasGrownSize}
use Rattle.address_layout.specs.Layout.{IsLayout, HasImageSize, IsPlaceRefusal, placed_at}
use Rattle.address_layout.proofs.CallerLemmas.{one_image_size, size_same_rows}
use Rattle.base_reloc.specs.declared.field.BaseField.{BaseField}
use Rattle.base_reloc.specs.PageBlocks.{blocks_of}
use Rattle.image_writer.specs.ExpectedImage.{ImagePlan, image_file}
use Rattle.debug_entry.specs.Identifier.{image_identifier}
use Rattle.pdb_msf.specs.WrittenFile.{file_size, msf_of}
use Rattle.image_pdb.specs.ImagePdb.{image_streams}
use Rattle.link_image.specs.LinkPdb.{section_headers_in, streams_at, link_streams, Fits}
use Rattle.image_writer.specs.WrittenImage.{written_plan}
use Rattle.module_view.specs.Module.{ModuleView}
use Rattle.link_pieces.specs.TablePieces.{KeptParts}
use Rattle.lib_search.proofs.OneLoading.{one_fault, fault_or_loads, one_loading}
use Rattle.link_keeping.proofs.CallerLemmas.{one_standing}
use Rattle.link_plan.specs.Plan.{link_parts, merges_of, IsLinkOf}
use Rattle.link_plan.specs.PlanFaults.{plan_fault}
use Rattle.link_plan.specs.Planned.{plan_pieces, planned_entry}
use Rattle.link_plan.specs.LinkPublics.{link_publics}
use Rattle.debug_rows.specs.ImageMap.{image_map}
use Rattle.link_image.specs.LinkMap.{link_map}
use Rattle.res_merge.specs.Entries.{Entry}
use Rattle.link_words.specs.Outcome.{LinkOptions, CommandSaid, Link, At, Show, Gen, Refused as RefusedWord}
use Rattle.link_words.specs.Commands.{words_say}
use Rattle.link_image.specs.BaseFields.{is_relocated}
use Rattle.image_writer.specs.declared.headers.Headers.{Headers}
use Rattle.image_headers.specs.ImageHeaders.{headers_of}
use Rattle.link_image.specs.LinkedImage.{base_rule, entry_rva, directories_of, link_headers, AreGrouped, ArePlaced, IsWhole, IsPlacement, IsImageOf}
use Rattle.link_image.specs.LinkedBytes.{linked_contents, image_contents, identified, fields_range_fault}
use Rattle.link_image.specs.ExportFaults.{in_table_fault}
use Rattle.pdata_table.specs.SortedContents.{sorted_contents}
use Rattle.link_image.specs.NamedSections.{pdata_pieces}
use Rattle.link_image.specs.BuildFaults.{IsBadMerge, HasBadTable, HasExportInTable, HasTooManySections, HasLargeTable, IsTooLarge, HasBadBase, HasBadRange, HasLargePdb, IsImageFault, IsBuildFault}
use Rattle.link_image.proofs.PlaceLemmas.{range_by_places, contents_by_places, directories_by_places}
use Rattle.link_image.proofs.OnePlacement.{same_rows, same_layout, same_fields, one_refused_size, one_grown_size, SamePlacement, one_placement}
use Rattle.generated_world.specs.GeneratedWorld.{generated_files, generated_words}
use Rattle.linker_program.specs.Generated.{generated_shown}
use Rattle.linker_program.specs.Ending.{Plan, Outcome, Usage, Refused, Linked, Shown}
use Rattle.linker_program.specs.Outcome.{IsPlan, KeptOutcome, BuildOutcome, OutcomeAfter, ModulesOutcome, LinkOutcome, AtLoading, AtModules, LinkShown, GenSaid, CommandOutcome, WordsOutcome, HasOutcome}

-- ---- the bad merge

one_first : (given : List (List ℕ × List ℕ)) (first second : ℕ) → IsFirstBadMerge given first → IsFirstBadMerge given second → first ≡ second
one_first given first second x y = elim (cases_lt first second) [
  | inl lt ↦ absurd (y.before first lt x.bad)
  | inr ge ↦ elim (cases_lt second first) [
    | inl lt ↦ absurd (x.before second lt y.bad)
    | inr le ↦ omega (arith, ge, le)
  ]
]

same_merge : (options : LinkOptions) (link : KeptParts) (f g : Fault) → IsBadMerge options link f → IsBadMerge options link g → f ≡ g
same_merge options link f g x y =
    let place = one_first (merges_of options link.parts) x.named.place y.named.place x.named.first y.named.first in
    let name : x.name ≡ y.name = x.named.named ∙ ap (λ (k : ℕ). (merge_at (merges_of options link.parts) k).0) place ∙ sym y.named.named in
    x.is ∙ ap (λ (n : List ℕ). faults.BadMerge n) name ∙ sym y.is

no_bad_merge : (options : LinkOptions) (link : KeptParts) (pieces : List Piece) (sections : List OutSection) (fault : Fault) → IsBadMerge options link fault → AreGrouped options link pieces sections → ⊥
no_bad_merge options link pieces sections fault x grouped = grouped.merges x.named.place x.named.first.within x.named.first.bad

-- ---- one layout

counts : (options : LinkOptions) (link : KeptParts) (reloc : Bool) (xs ys : List OutSection) → AreGrouped options link (plan_pieces options link) xs → AreGrouped options link (plan_pieces options link) ys → section_count xs reloc ≡ section_count ys reloc
counts options link reloc xs ys x y =
    let rows = same_rows options link xs ys x y in
    ap (λ (n : ℕ). n + cond reloc 1 0) (sym (length-map xs row_of) ∙ ap length rows ∙ length-map ys row_of)

has_size : (pieces : List Piece) (sections : List OutSection) (reloc : Bool) (layout : Layout) → IsLayout pieces sections reloc layout → HasImageSize pieces sections reloc layout.image
has_size pieces sections reloc layout is =
    record { headers = layout.headers; placed = placed_at layout.sections.items; place = is.standing.place; arranged = is.standing.arranged }

-- grouped in two ways, the image of the pieces has one size
sizes : (options : LinkOptions) (link : KeptParts) (reloc : Bool) (xs ys : List OutSection) (size other : ℕ) → AreGrouped options link (plan_pieces options link) xs → AreGrouped options link (plan_pieces options link) ys → HasImageSize (plan_pieces options link) xs reloc size → HasImageSize (plan_pieces options link) ys reloc other → size ≡ other
sizes options link reloc xs ys size other x y has has_other =
    one_image_size (plan_pieces options link) ys reloc size other (size_same_rows (plan_pieces options link) xs ys reloc size (same_rows options link xs ys x y) has) has_other

-- the pieces of a placement fit
fits : (options : LinkOptions) (link : KeptParts) (sections : List OutSection) (size : ℕ) (rows : List SectionRow) (layout : Layout) (tables : List (List ℕ)) → AreGrouped options link (plan_pieces options link) sections → HasImageSize (plan_pieces options link) sections (is_relocated options link) size → IsPlacement options link rows layout tables → size ≤ IMAGE_LIMIT
fits options link sections size rows layout tables grouped has y =
    let same = sizes options link (is_relocated options link) sections y.sections size y.before.image grouped y.grouped has (has_size (plan_pieces options link) y.sections (is_relocated options link) y.before y.placed.layout_of) in
    omega (arith, same, y.placed.within)

-- ---- one fault of what is built

same_many : (options : LinkOptions) (link : KeptParts) (f g : Fault) → HasTooManySections options link f → HasTooManySections options link g → f ≡ g
same_many options link f g x y =
    let count = counts options link (is_relocated options link) x.sections y.sections x.grouped y.grouped in
    x.is ∙ ap (λ (n : ℕ). faults.TooManySections n) (x.refused.0 ∙ count ∙ sym y.refused.0) ∙ sym y.is

-- the pieces are too large, or fit before the table does not
pieces_or_table : (options : LinkOptions) (link : KeptParts) (xs ys : List OutSection) (size other : ℕ) → AreGrouped options link (plan_pieces options link) xs → AreGrouped options link (plan_pieces options link) ys → IsPlaceRefusal (plan_pieces options link) xs (is_relocated options link) (bad.ImageTooLarge size) → HasLargeTable options link ys other → ⊥
pieces_or_table options link xs ys size other gx gy x y =
    let has = subst (λ (r : Bool). HasImageSize (plan_pieces options link) xs r size) y.relocated x.1 in
    let same = sizes options link true xs ys size y.layout.image gx gy has (has_size (plan_pieces options link) ys true y.layout y.placed.layout_of) in
    omega (arith, same, x.2, y.placed.within)

-- two sizes that are refused
same_size : (options : LinkOptions) (link : KeptParts) (xs ys : List OutSection) (size other : ℕ) → AreGrouped options link (plan_pieces options link) xs → AreGrouped options link (plan_pieces options link) ys
    → IsPlaceRefusal (plan_pieces options link) xs (is_relocated options link) (bad.ImageTooLarge size) ⊎ HasLargeTable options link xs size
    → IsPlaceRefusal (plan_pieces options link) ys (is_relocated options link) (bad.ImageTooLarge other) ⊎ HasLargeTable options link ys other → size ≡ other
same_size options link xs ys size other gx gy (inl x) (inl y) = sizes options link (is_relocated options link) xs ys size other gx gy x.1 y.1
same_size options link xs ys size other gx gy (inl x) (inr y) = absurd (pieces_or_table options link xs ys size other gx gy x y)
same_size options link xs ys size other gx gy (inr x) (inl y) = absurd (pieces_or_table options link ys xs other size gy gx y x)
same_size options link xs ys size other gx gy (inr x) (inr y) =
    let same = same_layout options link xs ys true x.layout y.layout gx gy x.placed y.placed in
    let fields = same_fields options link x.layout y.layout x.fields y.fields same x.based y.based in
    one_refused_size x.layout y.layout (length (blocks_of y.fields)) size other same (subst (λ (fs : List BaseField). HasGrownSize x.layout (length (blocks_of fs)) size) fields x.refused.0) y.refused.0

same_large : (options : LinkOptions) (link : KeptParts) (f g : Fault) → IsTooLarge options link f → IsTooLarge options link g → f ≡ g
same_large options link f g x y =
    x.is ∙ ap (λ (n : ℕ). faults.ImageTooLarge n) (same_size options link x.sections y.sections x.size y.size x.grouped y.grouped x.refused y.refused) ∙ sym y.is

many_or_large : (options : LinkOptions) (link : KeptParts) (f g : Fault) → HasTooManySections options link f → IsTooLarge options link g → ⊥
many_or_large options link f g x y =
    let count = counts options link (is_relocated options link) x.sections y.sections x.grouped y.grouped in
    by count y.refused
  where
    by : section_count x.sections (is_relocated options link) ≡ section_count y.sections (is_relocated options link) → IsPlaceRefusal (plan_pieces options link) y.sections (is_relocated options link) (bad.ImageTooLarge y.size) ⊎ HasLargeTable options link y.sections y.size → ⊥
    by count (inl pieces) = omega (arith, x.refused.0, x.refused.1, count, pieces.0)
    by count (inr table) = omega (arith, x.refused.0, x.refused.1, count, subst (λ (r : Bool). section_count y.sections r ≤ SECTION_LIMIT) (sym table.relocated) table.placed.few)

many_or_placement : (options : LinkOptions) (link : KeptParts) (f : Fault) (rows : List SectionRow) (layout : Layout) (tables : List (List ℕ)) → HasTooManySections options link f → IsPlacement options link rows layout tables → ⊥
many_or_placement options link f rows layout tables x y =
    let count = counts options link (is_relocated options link) x.sections y.sections x.grouped y.grouped in
    omega (arith, x.refused.0, x.refused.1, count, y.placed.few)

large_or_placement : (options : LinkOptions) (link : KeptParts) (f : Fault) (rows : List SectionRow) (layout : Layout) (tables : List (List ℕ)) → IsTooLarge options link f → IsPlacement options link rows layout tables → ⊥
large_or_placement options link f rows layout tables x y = by x.refused
  where
    table : (reloc : Bool) → reloc ≡ true → (large : HasLargeTable options link x.sections x.size) → ArePlaced (plan_pieces options link) y.sections reloc y.before → IsWhole reloc link (rows_of y.sections) y.before rows layout tables → ⊥
    table false e large placed whole = false≢true e
    table true e large placed whole =
        let same = same_layout options link x.sections y.sections true large.layout y.before x.grouped y.grouped large.placed placed in
        let fields = same_fields options link large.layout y.before large.fields whole.fields same large.based whole.based in
        let size = one_grown_size large.layout y.before layout (length (blocks_of whole.fields)) x.size same (subst (λ (fs : List BaseField). HasGrownSize large.layout (length (blocks_of fs)) x.size) fields large.refused.0) whole.added in
        omega (arith, size, large.refused.1, whole.within)

    by : IsPlaceRefusal (plan_pieces options link) x.sections (is_relocated options link) (bad.ImageTooLarge x.size) ⊎ HasLargeTable options link x.sections x.size → ⊥
    by (inl pieces) = omega (arith, fits options link x.sections x.size rows layout tables x.grouped pieces.1 y, pieces.2)
    by (inr large) = table (is_relocated options link) large.relocated large y.placed y.whole

-- two placements say the same of the base and of each field
same_permitted : (options : LinkOptions) (rows other_rows : List SectionRow) (layout other : Layout) (tables other_tables : List (List ℕ)) → SamePlacement rows other_rows layout other tables other_tables → is_permitted (base_rule options) layout.image options.base ≡ is_permitted (base_rule options) other.image options.base
same_permitted options rows other_rows layout other tables other_tables same = ap (λ (n : ℕ). is_permitted (base_rule options) n options.base) (sym same.layouts.image)

same_ranges : (options : LinkOptions) (link : KeptParts) (rows other_rows : List SectionRow) (layout other : Layout) (tables other_tables : List (List ℕ)) → SamePlacement rows other_rows layout other tables other_tables → fields_range_fault link rows layout options.base ≡ fields_range_fault link other_rows other options.base
same_ranges options link rows other_rows layout other tables other_tables same =
    ap (λ (r : List SectionRow). fields_range_fault link r layout options.base) same.rows_same
    ∙ range_by_places link other_rows layout other options.base (sym same.layouts.pieces) (sym same.layouts.sections)

base_or_range : (options : LinkOptions) (link : KeptParts) (f g : Fault) → HasBadBase options link f → HasBadRange options link g → ⊥
base_or_range options link f g x y =
    let same = one_placement options link x.rows y.rows x.layout y.layout x.tables y.tables x.placement y.placement in
    false≢true (sym x.refused ∙ same_permitted options x.rows y.rows x.layout y.layout x.tables y.tables same ∙ y.permitted)

same_range : (options : LinkOptions) (link : KeptParts) (f g : Fault) → HasBadRange options link f → HasBadRange options link g → f ≡ g
same_range options link f g x y =
    let same = one_placement options link x.rows y.rows x.layout y.layout x.tables y.tables x.placement y.placement in
    some_same (sym x.is ∙ same_ranges options link x.rows y.rows x.layout y.layout x.tables y.tables same ∙ y.is)
  where
    some_same : Some f ≡ Some g → f ≡ g
    some_same e = cc

same_table : (options : LinkOptions) (link : KeptParts) (f g : Fault) → HasBadTable options link f → HasBadTable options link g → f ≡ g
same_table options link f g x y = same_Some f g (sym x.is ∙ y.is)

merge_or_table : (options : LinkOptions) (link : KeptParts) (f g : Fault) → IsBadMerge options link f → HasBadTable options link g → ⊥
merge_or_table options link f g x y = y.merges x.named.place x.named.first.within x.named.first.bad

table_or : (options : LinkOptions) (link : KeptParts) (fault : Fault) (sections : List OutSection) → HasBadTable options link fault → AreGrouped options link (plan_pieces options link) sections → ⊥
table_or options link fault sections x grouped = none-some fault (sym grouped.tables ∙ x.is)

-- one that lies in the table
same_inside : (link : KeptParts) (rows other_rows : List SectionRow) (layout other : Layout) (tables other_tables : List (List ℕ)) → SamePlacement rows other_rows layout other tables other_tables → in_table_fault link layout.pieces.items ≡ in_table_fault link other.pieces.items
same_inside link rows other_rows layout other tables other_tables same = ap (in_table_fault link) (sym same.layouts.pieces)

same_in_table : (options : LinkOptions) (link : KeptParts) (f g : Fault) → HasExportInTable options link f → HasExportInTable options link g → f ≡ g
same_in_table options link f g x y =
    let same = one_placement options link x.rows y.rows x.layout y.layout x.tables y.tables x.placement y.placement in
    same_Some f g (sym x.is ∙ same_inside link x.rows y.rows x.layout y.layout x.tables y.tables same ∙ y.is)

base_or_inside : (options : LinkOptions) (link : KeptParts) (f g : Fault) → HasBadBase options link f → HasExportInTable options link g → ⊥
base_or_inside options link f g x y =
    let same = one_placement options link x.rows y.rows x.layout y.layout x.tables y.tables x.placement y.placement in
    false≢true (sym x.refused ∙ same_permitted options x.rows y.rows x.layout y.layout x.tables y.tables same ∙ y.permitted)

inside_or : (options : LinkOptions) (link : KeptParts) (f : Fault) (rows : List SectionRow) (layout : Layout) (tables : List (List ℕ)) → HasExportInTable options link f → IsPlacement options link rows layout tables → in_table_fault link layout.pieces.items ≡ None → ⊥
inside_or options link f rows layout tables x placement outside =
    let same = one_placement options link x.rows rows x.layout layout x.tables tables x.placement placement in
    none-some f (sym outside ∙ sym (same_inside link x.rows rows x.layout layout x.tables tables same) ∙ x.is)

-- no bad merge stands where the pieces are grouped
merge_or : (options : LinkOptions) (link : KeptParts) (fault : Fault) (sections : List OutSection) → IsBadMerge options link fault → AreGrouped options link (plan_pieces options link) sections → ⊥
merge_or options link fault sections x grouped = no_bad_merge options link (plan_pieces options link) sections fault x grouped

same_image_fault : (options : LinkOptions) (link : KeptParts) (f g : Fault) → IsImageFault options link f → IsImageFault options link g → f ≡ g
same_image_fault options link f g (inl x) (inl y) = same_merge options link f g x y
same_image_fault options link f g (inl x) (inr (inl y)) = absurd (merge_or_table options link f g x y)
same_image_fault options link f g (inl x) (inr (inr (inl y))) = absurd (merge_or options link f y.sections x y.grouped)
same_image_fault options link f g (inl x) (inr (inr (inr (inl y)))) = absurd (merge_or options link f y.sections x y.grouped)
same_image_fault options link f g (inl x) (inr (inr (inr (inr (inl y))))) = absurd (merge_or options link f y.placement.sections x y.placement.grouped)
same_image_fault options link f g (inl x) (inr (inr (inr (inr (inr (inl y)))))) = absurd (merge_or options link f y.placement.sections x y.placement.grouped)
same_image_fault options link f g (inl x) (inr (inr (inr (inr (inr (inr (y))))))) = absurd (merge_or options link f y.placement.sections x y.placement.grouped)
same_image_fault options link f g (inr (inl x)) (inl y) = absurd (merge_or_table options link g f y x)
same_image_fault options link f g (inr (inl x)) (inr (inl y)) = same_table options link f g x y
same_image_fault options link f g (inr (inl x)) (inr (inr (inl y))) = absurd (table_or options link f y.sections x y.grouped)
same_image_fault options link f g (inr (inl x)) (inr (inr (inr (inl y)))) = absurd (table_or options link f y.sections x y.grouped)
same_image_fault options link f g (inr (inl x)) (inr (inr (inr (inr (inl y))))) = absurd (table_or options link f y.placement.sections x y.placement.grouped)
same_image_fault options link f g (inr (inl x)) (inr (inr (inr (inr (inr (inl y)))))) = absurd (table_or options link f y.placement.sections x y.placement.grouped)
same_image_fault options link f g (inr (inl x)) (inr (inr (inr (inr (inr (inr (y))))))) = absurd (table_or options link f y.placement.sections x y.placement.grouped)
same_image_fault options link f g (inr (inr (inl x))) (inl y) = absurd (merge_or options link g x.sections y x.grouped)
same_image_fault options link f g (inr (inr (inl x))) (inr (inl y)) = absurd (table_or options link g x.sections y x.grouped)
same_image_fault options link f g (inr (inr (inl x))) (inr (inr (inl y))) = same_many options link f g x y
same_image_fault options link f g (inr (inr (inl x))) (inr (inr (inr (inl y)))) = absurd (many_or_large options link f g x y)
same_image_fault options link f g (inr (inr (inl x))) (inr (inr (inr (inr (inl y))))) = absurd (many_or_placement options link f y.rows y.layout y.tables x y.placement)
same_image_fault options link f g (inr (inr (inl x))) (inr (inr (inr (inr (inr (inl y)))))) = absurd (many_or_placement options link f y.rows y.layout y.tables x y.placement)
same_image_fault options link f g (inr (inr (inl x))) (inr (inr (inr (inr (inr (inr (y))))))) = absurd (many_or_placement options link f y.rows y.layout y.tables x y.placement)
same_image_fault options link f g (inr (inr (inr (inl x)))) (inl y) = absurd (merge_or options link g x.sections y x.grouped)
same_image_fault options link f g (inr (inr (inr (inl x)))) (inr (inl y)) = absurd (table_or options link g x.sections y x.grouped)
same_image_fault options link f g (inr (inr (inr (inl x)))) (inr (inr (inl y))) = absurd (many_or_large options link g f y x)
same_image_fault options link f g (inr (inr (inr (inl x)))) (inr (inr (inr (inl y)))) = same_large options link f g x y
same_image_fault options link f g (inr (inr (inr (inl x)))) (inr (inr (inr (inr (inl y))))) = absurd (large_or_placement options link f y.rows y.layout y.tables x y.placement)
same_image_fault options link f g (inr (inr (inr (inl x)))) (inr (inr (inr (inr (inr (inl y)))))) = absurd (large_or_placement options link f y.rows y.layout y.tables x y.placement)
same_image_fault options link f g (inr (inr (inr (inl x)))) (inr (inr (inr (inr (inr (inr (y))))))) = absurd (large_or_placement options link f y.rows y.layout y.tables x y.placement)
same_image_fault options link f g (inr (inr (inr (inr (inl x))))) (inl y) = absurd (merge_or options link g x.placement.sections y x.placement.grouped)
same_image_fault options link f g (inr (inr (inr (inr (inl x))))) (inr (inl y)) = absurd (table_or options link g x.placement.sections y x.placement.grouped)
same_image_fault options link f g (inr (inr (inr (inr (inl x))))) (inr (inr (inl y))) = absurd (many_or_placement options link g x.rows x.layout x.tables y x.placement)
same_image_fault options link f g (inr (inr (inr (inr (inl x))))) (inr (inr (inr (inl y)))) = absurd (large_or_placement options link g x.rows x.layout x.tables y x.placement)
same_image_fault options link f g (inr (inr (inr (inr (inl x))))) (inr (inr (inr (inr (inl y))))) = x.is ∙ sym y.is
same_image_fault options link f g (inr (inr (inr (inr (inl x))))) (inr (inr (inr (inr (inr (inl y)))))) = absurd (base_or_inside options link f g x y)
same_image_fault options link f g (inr (inr (inr (inr (inl x))))) (inr (inr (inr (inr (inr (inr (y))))))) = absurd (base_or_range options link f g x y)
same_image_fault options link f g (inr (inr (inr (inr (inr (inl x)))))) (inl y) = absurd (merge_or options link g x.placement.sections y x.placement.grouped)
same_image_fault options link f g (inr (inr (inr (inr (inr (inl x)))))) (inr (inl y)) = absurd (table_or options link g x.placement.sections y x.placement.grouped)
same_image_fault options link f g (inr (inr (inr (inr (inr (inl x)))))) (inr (inr (inl y))) = absurd (many_or_placement options link g x.rows x.layout x.tables y x.placement)
same_image_fault options link f g (inr (inr (inr (inr (inr (inl x)))))) (inr (inr (inr (inl y)))) = absurd (large_or_placement options link g x.rows x.layout x.tables y x.placement)
same_image_fault options link f g (inr (inr (inr (inr (inr (inl x)))))) (inr (inr (inr (inr (inl y))))) = absurd (base_or_inside options link g f y x)
same_image_fault options link f g (inr (inr (inr (inr (inr (inl x)))))) (inr (inr (inr (inr (inr (inl y)))))) = same_in_table options link f g x y
same_image_fault options link f g (inr (inr (inr (inr (inr (inl x)))))) (inr (inr (inr (inr (inr (inr (y))))))) = absurd (inside_or options link f y.rows y.layout y.tables x y.placement y.outside)
same_image_fault options link f g (inr (inr (inr (inr (inr (inr (x))))))) (inl y) = absurd (merge_or options link g x.placement.sections y x.placement.grouped)
same_image_fault options link f g (inr (inr (inr (inr (inr (inr (x))))))) (inr (inl y)) = absurd (table_or options link g x.placement.sections y x.placement.grouped)
same_image_fault options link f g (inr (inr (inr (inr (inr (inr (x))))))) (inr (inr (inl y))) = absurd (many_or_placement options link g x.rows x.layout x.tables y x.placement)
same_image_fault options link f g (inr (inr (inr (inr (inr (inr (x))))))) (inr (inr (inr (inl y)))) = absurd (large_or_placement options link g x.rows x.layout x.tables y x.placement)
same_image_fault options link f g (inr (inr (inr (inr (inr (inr (x))))))) (inr (inr (inr (inr (inl y))))) = absurd (base_or_range options link g f y x)
same_image_fault options link f g (inr (inr (inr (inr (inr (inr (x))))))) (inr (inr (inr (inr (inr (inl y)))))) = absurd (inside_or options link g x.rows x.layout x.tables y x.placement x.outside)
same_image_fault options link f g (inr (inr (inr (inr (inr (inr (x))))))) (inr (inr (inr (inr (inr (inr (y))))))) = same_range options link f g x y

-- modules have a fault, or an image
fault_or_image : (options : LinkOptions) (link : KeptParts) (f : Fault) (image : ImagePlan) → IsImageFault options link f → IsImageOf options link image → ⊥
fault_or_image options link f image (inl x) y = merge_or options link f y.placement.sections x y.placement.grouped
fault_or_image options link f image (inr (inl x)) y = table_or options link f y.placement.sections x y.placement.grouped
fault_or_image options link f image (inr (inr (inl x))) y = many_or_placement options link f y.rows y.layout y.tables x y.placement
fault_or_image options link f image (inr (inr (inr (inl x)))) y = large_or_placement options link f y.rows y.layout y.tables x y.placement
fault_or_image options link f image (inr (inr (inr (inr (inl x))))) y =
    let same = one_placement options link x.rows y.rows x.layout y.layout x.tables y.tables x.placement y.placement in
    false≢true (sym x.refused ∙ same_permitted options x.rows y.rows x.layout y.layout x.tables y.tables same ∙ y.permitted)
fault_or_image options link f image (inr (inr (inr (inr (inr (inl x)))))) y = inside_or options link f y.rows y.layout y.tables x y.placement y.outside
fault_or_image options link f image (inr (inr (inr (inr (inr (inr (x))))))) y =
    let same = one_placement options link y.rows x.rows y.layout x.layout y.tables x.tables y.placement x.placement in
    absurd (none-some f (sym y.in_range ∙ same_ranges options link y.rows x.rows y.layout x.layout y.tables x.tables same ∙ x.is))

-- ---- the plan

-- what is made of an image by its headers, its sections, their places, the RVAs of its pieces, its size and their contents
abbrev MadeOf : Type 0 → Type 0
MadeOf A = Headers → List SectionRow → List Placed → List ℕ → ℕ → (ℕ → List (List ℕ)) → A

same_made : {A : Type 0} (made : MadeOf A) (options : LinkOptions) (link : KeptParts) (a b : ImagePlan) (x : IsImageOf options link a) (y : IsImageOf options link b)
    → made (link_headers options link x.rows x.layout x.tables) x.rows x.layout.sections.items x.layout.pieces.items x.layout.image (image_contents link x.rows x.layout x.tables)
    ≡ made (link_headers options link y.rows y.layout y.tables) y.rows y.layout.sections.items y.layout.pieces.items y.layout.image (image_contents link y.rows y.layout y.tables)
same_made {A} made options link a b x y =
    let place = planned_entry options link in
    let same = one_placement options link x.rows y.rows x.layout y.layout x.tables y.tables x.placement y.placement in
    let linked : linked_contents link x.rows x.layout ≡ linked_contents link y.rows y.layout =
    ap (λ (r : List SectionRow). linked_contents link r x.layout) same.rows_same ∙ contents_by_places link y.rows x.layout y.layout (sym same.layouts.pieces) (sym same.layouts.sections) in
    let headers = headers_of options (entry_rva y.layout.pieces.items place) (directories_of link y.rows y.layout y.tables) in
    let heads : headers_of options (entry_rva x.layout.pieces.items place) (directories_of link x.rows x.layout x.tables) ≡ headers =
    ap (λ (rvas : List ℕ). headers_of options (entry_rva rvas place) (directories_of link x.rows x.layout x.tables)) (sym same.layouts.pieces)
    ∙ ap (headers_of options (entry_rva y.layout.pieces.items place))
    (directories_by_places link x.rows x.layout y.layout x.tables (sym same.layouts.pieces) (sym same.layouts.sections)
    ∙ ap (λ (r : List SectionRow). directories_of link r y.layout x.tables) same.rows_same
    ∙ ap (directories_of link y.rows y.layout) same.tables_same) in
    ap (λ (h : Headers). made h x.rows x.layout.sections.items x.layout.pieces.items x.layout.image (image_contents link x.rows x.layout x.tables)) heads
    ∙ ap (λ (cs : ℕ → List (List ℕ)). made headers x.rows x.layout.sections.items x.layout.pieces.items x.layout.image (λ base. sorted_contents (pdata_pieces x.rows) (cs base) ++ x.tables)) linked
    ∙ ap (λ (r : List SectionRow). made headers x.rows x.layout.sections.items x.layout.pieces.items x.layout.image (λ base. sorted_contents (pdata_pieces r) (linked_contents link y.rows y.layout base) ++ x.tables)) same.rows_same
    ∙ ap (λ (ts : List (List ℕ)). made headers x.rows x.layout.sections.items x.layout.pieces.items x.layout.image (image_contents link y.rows y.layout ts)) same.tables_same
    ∙ ap (λ (r : List SectionRow). made headers r x.layout.sections.items x.layout.pieces.items x.layout.image (image_contents link y.rows y.layout y.tables)) same.rows_same
    ∙ ap (λ (p : List Placed). made headers y.rows p x.layout.pieces.items x.layout.image (image_contents link y.rows y.layout y.tables)) (sym same.layouts.sections)
    ∙ ap (λ (r : List ℕ). made headers y.rows y.layout.sections.items r x.layout.image (image_contents link y.rows y.layout y.tables)) (sym same.layouts.pieces)
    ∙ ap (λ (n : ℕ). made headers y.rows y.layout.sections.items y.layout.pieces.items n (image_contents link y.rows y.layout y.tables)) (sym same.layouts.image)

-- the identifier, and the image that has it
abbrev identifier_by : MadeOf (List ℕ)
identifier_by h rows places rvas size contents = image_identifier (image_file (written_plan h rows places rvas size contents))

abbrev image_by : KeptParts → MadeOf ImagePlan
image_by link h rows places rvas size contents =
    written_plan h rows places rvas size (λ base. identified link (identifier_by h rows places rvas size contents) (contents base))

same_image : (options : LinkOptions) (link : KeptParts) (a b : ImagePlan) → IsImageOf options link a → IsImageOf options link b → a ≡ b
same_image options link a b x y = x.is ∙ same_made (image_by link) options link a b x y ∙ sym y.is

-- what its PDB has
abbrev streams_by : LinkOptions → KeptParts → List ℕ → MadeOf (List (List ℕ))
streams_by options link file h rows places rvas size contents =
    image_streams (record { modules = link.parts.modules; pieces = plan_pieces options link; publics = link_publics link; sections = rows; places = places; rvas = rvas; size = size })
    options.time (identifier_by h rows places rvas size contents) (section_headers_in file (length rows))

pub same_streams : (options : LinkOptions) (link : KeptParts) (a b : ImagePlan) (x : IsImageOf options link a) (y : IsImageOf options link b) → link_streams options link x.rows x.layout x.tables (image_file a) ≡ link_streams options link y.rows y.layout y.tables (image_file b)
unfolding streams_at
same_streams options link a b x y =
    ap (λ (image : ImagePlan). link_streams options link x.rows x.layout x.tables (image_file image)) (same_image options link a b x y)
    ∙ same_made (streams_by options link (image_file b)) options link a b x y

-- ---- one fault of all

large_or_fits : (options : LinkOptions) (link : KeptParts) (f : Fault) (image : ImagePlan) (is : IsImageOf options link image) → HasLargePdb options link f → Fits options (link_streams options link is.rows is.layout is.tables (image_file image)) → ⊥
large_or_fits options link f image is x fits =
    let same = ap (λ (ss : List (List ℕ)). file_size (map length ss)) (same_streams options link x.image image x.is_image is) in
    omega (arith, same, x.is.large, fits x.is.asked)

same_fault : (options : LinkOptions) (link : KeptParts) (f g : Fault) → IsBuildFault options link f → IsBuildFault options link g → f ≡ g
same_fault options link f g (inl x) (inl y) = same_image_fault options link f g x y
same_fault options link f g (inl x) (inr (inl y)) = absurd (fault_or_image options link f y.image x y.is_image)
same_fault options link f g (inl x) (inr (inr y)) = absurd (fault_or_image options link f y.image x y.is_image)
same_fault options link f g (inr (inl x)) (inl y) = absurd (fault_or_image options link g x.image y x.is_image)
same_fault options link f g (inr (inr x)) (inl y) = absurd (fault_or_image options link g x.image y x.is_image)
same_fault options link f g (inr (inl x)) (inr (inr y)) = absurd (large_or_fits options link f y.image y.is_image x y.pdb_fits)
same_fault options link f g (inr (inr x)) (inr (inl y)) = absurd (large_or_fits options link g x.image x.is_image y x.pdb_fits)
same_fault options link f g (inr (inr x)) (inr (inr y)) = ap (λ (o : Option Fault). unwrap_or o f) (sym x.is ∙ y.is)
same_fault options link f g (inr (inl x)) (inr (inl y)) =
    x.is.is
    ∙ ap (λ (ss : List (List ℕ)). faults.PdbTooLarge (file_size (map length ss))) (same_streams options link x.image y.image x.is_image y.is_image)
    ∙ sym y.is.is

-- modules have a fault, or a plan
fault_or_plan : (options : LinkOptions) (modules : List ModuleView) (resources : List Entry) (link : KeptParts) (f : Fault) (plan : Plan) → IsBuildFault options link f → IsPlan options modules resources link plan → ⊥
fault_or_plan options modules resources link f plan (inl x) y = fault_or_image options link f plan.image x y.image_is
fault_or_plan options modules resources link f plan (inr (inl x)) y = large_or_fits options link f plan.image y.image_is x y.pdb_fits
fault_or_plan options modules resources link f plan (inr (inr x)) y = none-some f (sym y.library_fits ∙ x.is)

-- the map of a layout, by its lists
abbrev map_at : LinkOptions → KeptParts → List SectionRow → List Placed → List ℕ → ℕ → List ℕ
map_at options link rows places rvas size =
    image_map (record { modules = link.parts.modules; pieces = plan_pieces options link; publics = link_publics link; sections = rows; places = places; rvas = rvas; size = size }) options.base (entry_rva rvas (planned_entry options link))

pub same_map : (options : LinkOptions) (link : KeptParts) (rows other_rows : List SectionRow) (layout other : Layout) → rows ≡ other_rows → SameLayout layout other → link_map options link rows layout ≡ link_map options link other_rows other
unfolding link_map
same_map options link rows other_rows layout other rows_same same =
    ap (λ (r : List SectionRow). map_at options link r layout.sections.items layout.pieces.items layout.image) rows_same
    ∙ ap (λ (p : List Placed). map_at options link other_rows p layout.pieces.items layout.image) (sym same.sections)
    ∙ ap (λ (r : List ℕ). map_at options link other_rows other.sections.items r layout.image) (sym same.pieces)
    ∙ ap (λ (n : ℕ). map_at options link other_rows other.sections.items other.pieces.items n) (sym same.image)

one_map : (options : LinkOptions) (link : KeptParts) (a b : ImagePlan) (x : IsImageOf options link a) (y : IsImageOf options link b) → link_map options link x.rows x.layout ≡ link_map options link y.rows y.layout
one_map options link a b x y =
    let same = one_placement options link x.rows y.rows x.layout y.layout x.tables y.tables x.placement y.placement in
    same_map options link x.rows y.rows x.layout y.layout same.rows_same same.layouts

plan_from : LinkOptions → List ModuleView → List Entry → ImagePlan → List ℕ → List ℕ → Option (List ℕ) → Plan
plan_from options modules resources image text pdb library = record { options = options; modules = modules; resources = resources; image = image; map = text; pdb = pdb; library = library }

same_parts : (p q : Plan) → p.options ≡ q.options → p.modules ≡ q.modules → p.resources ≡ q.resources → p.image ≡ q.image → p.map ≡ q.map → p.pdb ≡ q.pdb → p.library ≡ q.library → p ≡ q
unfolding plan_from
same_parts p q options modules resources image text pdb library =
    let start : p ≡ plan_from p.options p.modules p.resources p.image p.map p.pdb p.library = refl in
    let end : q ≡ plan_from q.options q.modules q.resources q.image q.map q.pdb q.library = refl in
    start
    ∙ ap (λ (o : LinkOptions). plan_from o p.modules p.resources p.image p.map p.pdb p.library) options
    ∙ ap (λ (m : List ModuleView). plan_from q.options m p.resources p.image p.map p.pdb p.library) modules
    ∙ ap (λ (r : List Entry). plan_from q.options q.modules r p.image p.map p.pdb p.library) resources
    ∙ ap (λ (i : ImagePlan). plan_from q.options q.modules q.resources i p.map p.pdb p.library) image
    ∙ ap (λ (t : List ℕ). plan_from q.options q.modules q.resources q.image t p.pdb p.library) text
    ∙ ap (λ (d : List ℕ). plan_from q.options q.modules q.resources q.image q.map d p.library) pdb
    ∙ ap (plan_from q.options q.modules q.resources q.image q.map q.pdb) library
    ∙ sym end

same_plan : (options : LinkOptions) (modules : List ModuleView) (resources : List Entry) (link : KeptParts) (p q : Plan) → IsPlan options modules resources link p → IsPlan options modules resources link q → p ≡ q
same_plan options modules resources link p q x y =
    same_parts p q (x.options_are ∙ sym y.options_are) (x.modules_are ∙ sym y.modules_are) (x.resources_are ∙ sym y.resources_are) (same_image options link p.image q.image x.image_is y.image_is) (x.map_is ∙ one_map options link p.image q.image x.image_is y.image_is ∙ sym y.map_is)
    (x.pdb_is ∙ ap msf_of (same_streams options link p.image q.image x.image_is y.image_is) ∙ sym y.pdb_is) (x.library_is ∙ sym y.library_is)

-- ---- what is kept

pub one_link : (options : LinkOptions) (modules : List ModuleView) (resources : List Entry) (a b : KeptParts) → IsLinkOf options modules resources a → IsLinkOf options modules resources b → a ≡ b
one_link options modules resources a b x y = one_standing options a b (x.parts_are ∙ sym y.parts_are) x.kept_are y.kept_are

-- ---- the outcome

same_later : (options : LinkOptions) (modules : List ModuleView) (resources : List Entry) (link : KeptParts) (a b : Outcome) → KeptOutcome options modules resources link a → KeptOutcome options modules resources link b → a ≡ b
same_later options modules resources link (Usage index kind) b x y = absurd x
same_later options modules resources link (Refused f) (Usage index kind) x y = absurd y
same_later options modules resources link (Refused f) (Refused g) x y = ap (λ (h : Fault). Refused h) (same_fault options link f g x y)
same_later options modules resources link (Refused f) (Linked q) x y = absurd (fault_or_plan options modules resources link f q x y)
same_later options modules resources link (Refused f) (Shown line) x y = absurd y
same_later options modules resources link (Shown line) b x y = absurd x
same_later options modules resources link (Linked p) (Shown line) x y = absurd y
same_later options modules resources link (Linked p) (Usage index kind) x y = absurd y
same_later options modules resources link (Linked p) (Refused g) x y = absurd (fault_or_plan options modules resources link g p y x)
same_later options modules resources link (Linked p) (Linked q) x y = ap (λ (r : Plan). Linked r) (same_plan options modules resources link p q x y)

same_built : (options : LinkOptions) (modules : List ModuleView) (resources : List Entry) (a b : Outcome) → BuildOutcome options modules resources a → BuildOutcome options modules resources b → a ≡ b
same_built options modules resources a b x y =
    same_later options modules resources y.link a b (subst (λ (link : KeptParts). KeptOutcome options modules resources link a) (one_link options modules resources x.link y.link x.link_is y.link_is) x.is) y.is

-- a stage before a later one that has one outcome
same_after : (fault : Option Fault) (later : Outcome → Type 0) (a b : Outcome) → ((c d : Outcome) → later c → later d → c ≡ d) → OutcomeAfter fault later a → OutcomeAfter fault later b → a ≡ b
same_after None later a b one x y = one a b x y
same_after (Some f) later a b one x y = x ∙ sym y

same_modules : (options : LinkOptions) (modules : List ModuleView) (resources : List Entry) (a b : Outcome) → ModulesOutcome options modules resources a → ModulesOutcome options modules resources b → a ≡ b
same_modules options modules resources a b x y =
    same_after (plan_fault options (link_parts options modules resources)) (BuildOutcome options modules resources) a b (same_built options modules resources) x y

same_link : (options : LinkOptions) (store : Store) (a b : Outcome) → LinkOutcome options store a → LinkOutcome options store b → a ≡ b
same_link options store a b (AtLoading f x is) (AtLoading g y same) =
    is ∙ ap (λ (h : Fault). Refused h) (one_fault store options f g x y) ∙ sym same
same_link options store a b (AtLoading f x is) (AtModules modules resources loads has) =
    absurd (fault_or_loads store options f modules resources x loads)
same_link options store a b (AtModules modules resources loads has) (AtLoading f x is) =
    absurd (fault_or_loads store options f modules resources x loads)
same_link options store a b (AtModules modules resources loads has) (AtModules others other_resources loads_too has_too) =
    let same = one_loading store options modules others resources other_resources loads loads_too in
    same_modules options modules resources a b has
    (subst (λ (entries : List Entry). ModulesOutcome options modules entries b) (sym same.1)
    (subst (λ (ms : List ModuleView). ModulesOutcome options ms other_resources b) (sym same.0) has_too))

-- a generated program
same_shown : (options : LinkOptions) (count : ℕ) (a b : Outcome) → LinkShown options count a → LinkShown options count b → a ≡ b
same_shown options count a b x y = x.is ∙ ap (generated_shown count) (same_link options (generated_files count) x.link y.link x.linked y.linked) ∙ sym y.is

same_gen : (said : Result CommandSaid RefusedWord) (count : ℕ) (a b : Outcome) → GenSaid said count a → GenSaid said count b → a ≡ b
same_gen (Err refused) count a b x y = x ∙ sym y
same_gen (Ok (Link options)) count a b x y = same_shown options count a b x y
same_gen (Ok (At image base rva len)) count a b x y = absurd x
same_gen (Ok (Show image pdb base symbol len)) count a b x y = absurd x
same_gen (Ok (Gen n)) count a b x y = absurd x

same_command : (command : CommandSaid) (store : Store) (a b : Outcome) → CommandOutcome command store a → CommandOutcome command store b → a ≡ b
same_command (Link options) store a b x y = same_link options store a b x y
same_command (At image base rva len) store a b x y = x ∙ sym y
same_command (Show image pdb base symbol len) store a b x y = x ∙ sym y
same_command (Gen count) store a b x y = same_gen (words_say (generated_words count)) count a b x y

same_words : (said : Result CommandSaid RefusedWord) (store : Store) (a b : Outcome) → WordsOutcome said store a → WordsOutcome said store b → a ≡ b
same_words (Err refused) store a b x y = x ∙ sym y
same_words (Ok command) store a b x y = same_command command store a b x y

pub one_outcome : (words : List (List ℕ)) (store : Store) (first second : Outcome) → HasOutcome words store first → HasOutcome words store second → first ≡ second
one_outcome words store first second x y = same_words (words_say words) store first second x.is y.is
