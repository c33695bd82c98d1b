-- The imports of the modules, read back from the memory that an image of theirs is loaded to.
use Rattle.std.proofs.Common.{◌≡◌, ℕ, ◌+◌, ◌^◌, ◌<◌, ◌≤◌, ◌⊎◌, Bool, true, false, cond, eqb, List, [], ◌++◌, length, get_or, slice_index, slice_get, Option, Some, None, refl, sym, ap, ◌∙◌, subst, inl, inr, arith}
use Rattle.std.proofs.lemmas.Option.{none-some}
use Rattle.std.proofs.lemmas.List.{nil_from_length}
use Rattle.std.specs.Prelude.{codes}
use Rattle.std.specs.List.{All}
use Rattle.piece_bytes.specs.Extents.{rva_of, extent_of}
use Rattle.link_exports.specs.Exports.{export_rows, dll_name}
use Rattle.export_tables.specs.declared.row.ExportRow.{ExportRow}
use Rattle.export_tables.specs.ExportDirectory.{export_of_name, export_of_ordinal}
use Rattle.export_tables.specs.ReadBack.{exported_name, exported_ordinal, AreReadable as AreReadableExports}
use Rattle.std.proofs.lemmas.Bool.{cases_lt, eqb-true, false≢true}
use Rattle.std.proofs.lemmas.List.FromFn.{get_or-map-range_with_len}
use Rattle.link_base.specs.Bytes.{bytes_at}
use Rattle.link_base.proofs.OptionLemmas.{both_none}
use Rattle.section_group.specs.declared.piece.Piece.{Piece}
use Rattle.section_group.specs.declared.piece.OutSection.{OutSection}
use Rattle.section_group.specs.SectionOrder.{no_piece}
use Rattle.section_group.specs.Uniqueness.{rows_of}
use Rattle.address_layout.specs.declared.layout.Layout.{Layout}
use Rattle.pe_loader.specs.LoadedImage.{loaded, directory_rva, directory_size}
use Rattle.relocate.specs.declared.fix.Fix.{Fix}
use Rattle.relocate.specs.PatchedBytes.{patched_bytes}
use Rattle.relocate.proofs.CallerLemmas.{nothing_patched}
use Rattle.import_tables.specs.ImportDirectory.{Imports, imports_of}
use Rattle.import_tables.specs.ReadBack.{Holds, AreReadable, found_of}
use Rattle.import_tables.proofs.DirectoryReadLemmas.{tables_read_back}
use Rattle.image_writer.specs.declared.headers.Headers.{Headers}
use Rattle.image_writer.specs.ExpectedImage.{ImagePlan, MeansPlan, permits, expected_image, image_file}
use Rattle.image_writer.specs.HeaderTable.{size_of_headers}
use Rattle.image_writer.specs.WrittenImage.{written_plan, layout_plan}
use Rattle.synthetic_sections.specs.LinkerPieces.{EXPORTS, DEBUG_DATA, RESOURCES, size_at}
use Rattle.debug_entry.proofs.IdentifierLemmas.{length-identifier}
use Rattle.link_debug.specs.LinkDebug.{data_bytes}
use Rattle.link_resources.proofs.TreeLemmas.{sized_tree, bytes_are}
use Rattle.res_merge.specs.Entries.{Key}
use Rattle.res_merge.specs.Order.{in_order}
use Rattle.res_merge.specs.Tree.{tree_of, tree_size}
use Rattle.res_merge.specs.Lookup.{resource_data}
use Rattle.res_merge.specs.Found.{IsSmallKey, data_of}
use Rattle.res_merge.proofs.Theorems.{resources_found}
use Rattle.link_pieces.specs.TablePieces.{KeptParts, kept_rows, table_sizes, table_index, whole_pieces, whole_piece, is_table}
use Rattle.link_pieces.proofs.CallerLemmas.{table_there}
use Rattle.link_words.specs.Outcome.{LinkOptions}
use Rattle.link_plan.specs.declared.planning.LinkPlan.{LinkPlan}
use Rattle.link_plan.specs.Plan.{IsPlanOf, kept_parts}
use Rattle.piece_bytes.specs.Owners.{section_of}
use Rattle.link_image.specs.declared.placement.Placement.{Placement}
use Rattle.image_headers.specs.ImageHeaders.{headers_of}
use Rattle.link_image.specs.LinkedBytes.{owners_in, table_rva, table_rvas, import_tables_at, exported_rows, export_table_at, resource_tree_at, tables_at, contents_at, image_contents}
use Rattle.export_tables.specs.Ordinals.{ordinal_fault}
use Rattle.link_image.specs.ExportFaults.{export_fault, in_table_fault}
use Rattle.link_image.specs.LinkedImage.{table_extent, section_extent, resource_extent, directories_of, identifier_of, final_contents, HoldsImports, HoldsExports, HoldsResources}
use Rattle.link_image.specs.Steps.{reloc_tables, IsGiven, IsPlaced, IsReady}
use Rattle.link_image.proofs.HeldLemmas.{piece_count, exports_are, tree_sized, both_sized, same_size, table_contents, table_fixes}
use Rattle.link_image.proofs.ExportLemmas.{HasTable, has_table, length-tables, import_size, import_table, export_size, export_table_is, tree_size_is, tree_table_is}
use Rattle.link_image.proofs.ExportReadLemmas.{readable, exports_read, exports_read_by_ordinal, none_read as none_read_name, none_read_by_ordinal as none_read_ordinal, no_rows, unrefused}
use Rattle.link_image.proofs.MemoryLemmas.{directory_reads, directory_sized, above_headers, in_memory}
use Rattle.link_image.proofs.MoveLemmas.{replaced_room}
use Rattle.link_image.proofs.IdentityLemmas.{other_read, IsReplaced, data_replaced}
use Rattle.pdata_table.specs.SortedContents.{is_among}
use Rattle.link_image.specs.NamedSections.{pdata_pieces}
use Rattle.link_image.specs.TableFaults.{pdata_fault}
use Rattle.link_image.proofs.PieceMoves.{piece_read}
use Rattle.link_image.proofs.StandsLemmas.{OwnerAt, owner_at}
use Rattle.link_image.proofs.TableLemmas.{IsTableAt, found_table, table_used}
use Rattle.link_image.proofs.ImportTableLemmas.{held_all, end_all, above_all, no_size, none_found, none_read}

-- ---- every table that has bytes is made

abbrev AreMade : KeptParts → Type 0
AreMade link =
    (number : ℕ) → number < 9 → 0 < size_at (table_sizes link) number → (k : ℕ) × (table_index link number ≡ Some k)

pub are_made : (link : KeptParts) → AreMade link
are_made link number few sized = by (table_index link number) refl
  where
    by : (place : Option ℕ) → table_index link number ≡ place → (k : ℕ) × (table_index link number ≡ Some k)
    by None none = absurd (table_there link number (omega (arith, few)) sized none)
    by (Some k) found = (k, found)

-- ---- what a file is loaded to

loaded_is : (plan : ImagePlan) (file : List ℕ) → MeansPlan plan file → (base : ℕ) (memory : List ℕ) → loaded file base ≡ Some memory → memory ≡ expected_image plan base
loaded_is plan file means base memory loads = by (permits plan base) (sym (means.loads base) ∙ loads)
  where
    by : (b : Bool) → cond b (Some (expected_image plan base)) None ≡ Some memory → memory ≡ expected_image plan base
    by true e = cc
    by false e = absurd cc

-- ---- lists and numbers

some_headers : (count len : ℕ) → len ≡ size_of_headers count → 0 < len
some_headers count len is = omega arith

extent_rva : (pieces : List Piece) (rvas : List ℕ) (place : Option ℕ) → (extent_of pieces rvas place).0 ≡ rva_of rvas place
extent_rva pieces rvas None = refl
extent_rva pieces rvas (Some k) = refl

-- ---- the image of a plan

-- nothing is wrong with the ordinals of exports that are placed
pub exports_unrefused : (options : LinkOptions) (plan : LinkPlan) (placement : Placement) → IsPlanOf options plan.modules.items plan → IsPlaced options plan placement → (plan.names.exports.fault ≡ None) × (ordinal_fault plan.names.exports.rows ≡ None)
exports_unrefused options plan placement planned placed =
    unrefused (kept_parts plan) (export_rows options plan.modules.items) (dll_name options.out) options.time (exports_are options plan planned)
    (both_none (pdata_fault (kept_parts plan)) (export_fault (kept_parts plan)) placed.means.grouped.tables).1

module _ (options : LinkOptions) (plan : LinkPlan) (placement : Placement) (owner : List ℕ) (planned : IsPlanOf options plan.modules.items plan) (placed : IsPlaced options plan placement)
    (ready : IsReady (kept_parts plan) plan.pieces.items plan.fixes.items placement.sections.items placement.layout owner (reloc_tables placement.table))
    (headers : Headers) where
  abbrev link : KeptParts
  link = kept_parts plan

  abbrev layout : Layout
  layout = placement.layout

  abbrev sections : List OutSection
  sections = placement.sections.items

  abbrev contents : ℕ → List (List ℕ)
  contents base = final_contents headers (kept_parts plan) (rows_of placement.sections.items) placement.layout (reloc_tables placement.table) base

  abbrev image : ImagePlan
  image = layout_plan headers placement.sections.items placement.layout contents

  abbrev identifier : List ℕ
  identifier = identifier_of headers (kept_parts plan) (rows_of placement.sections.items) placement.layout (reloc_tables placement.table)

  abbrev pdb_data : List ℕ
  pdb_data = data_bytes plan.names.debug (identifier_of headers (kept_parts plan) (rows_of placement.sections.items) placement.layout (reloc_tables placement.table))

  pub fits : (d : ℕ) → table_index (kept_parts plan) DEBUG_DATA ≡ Some d → IsReplaced (kept_parts plan) placement.layout pdb_data d
  fits = data_replaced options plan planned placement.layout identifier (length-identifier _)

  abbrev table : ℕ → List ℕ
  table number = get_or (tables_at (kept_parts plan) placement.layout) number []

  abbrev size : ℕ → ℕ
  size number = size_at (table_sizes (kept_parts plan)) number

  long : (number : ℕ) → length (table number) ≡ size number
  long number =
      length-tables (kept_parts plan) placement.layout (export_rows options plan.modules.items) (dll_name options.out) options.time (exports_are options plan planned) planned.told (both_sized options plan planned) number

  -- a table in the memory at a base
  record Stands (base number : ℕ) : Type 0 where
    held : Holds (expected_image image base) (table_rva (kept_parts plan) placement.layout number) (table number)
    ends : table_rva (kept_parts plan) placement.layout number + size number < 2 ^ 32
    above : 0 < size number → 0 < table_rva (kept_parts plan) placement.layout number

  -- it is no piece of the exception table
  table_apart : (k : ℕ) → is_table (length plan.names.modules) (whole_piece (kept_parts plan) k) ≡ true → is_among k (pdata_pieces (rows_of placement.sections.items)) ≡ false
  table_apart k table = by (is_among k (pdata_pieces (rows_of placement.sections.items))) refl
    where
      by : (b : Bool) → is_among k (pdata_pieces (rows_of placement.sections.items)) ≡ b → b ≡ false
      by false e = refl
      by true among = absurd (false≢true (sym (ready.rows_are k among).no_table ∙ table))

  -- it is not the data that names the PDB
  abbrev IsOther : ℕ → Type 0
  IsOther number = number ≡ DEBUG_DATA → ⊥

  data_apart : (number k : ℕ) → IsOther number → IsTableAt (kept_parts plan) number k → table_index (kept_parts plan) DEBUG_DATA ≡ Some k → ⊥
  data_apart number k few at found =
      let other = found_table (kept_parts plan) DEBUG_DATA k (omega arith) found in
      few (omega (arith, at.number_is, other.number_is))

  -- what its piece holds in the image
  table_linked : (base number k : ℕ) → IsOther number → IsTableAt (kept_parts plan) number k → get_or (contents base) k [] ≡ table number
  table_linked base number k few at =
      let rva = get_or placement.layout.pieces.items k 0 in
      let owners = owners_in (rows_of placement.sections.items) placement.layout in
      other_read (table_index (kept_parts plan) DEBUG_DATA) pdb_data (image_contents (kept_parts plan) (rows_of placement.sections.items) placement.layout (reloc_tables placement.table) base) k (data_apart number k few at)
      ∙ piece_read (kept_parts plan) (rows_of placement.sections.items) placement.layout base (reloc_tables placement.table) k at.there (table_apart k at.table)
      ∙ ap (λ (fixes : List Fix). patched_bytes base rva placement.layout owners fixes (contents_at (kept_parts plan) placement.layout k)) (table_fixes (kept_parts plan) k at.table)
      ∙ nothing_patched base rva placement.layout owners (contents_at (kept_parts plan) placement.layout k)
      ∙ table_contents (kept_parts plan) placement.layout k at.table
      ∙ ap table at.number_is

  table_size : (number k : ℕ) → IsTableAt (kept_parts plan) number k → (whole_piece (kept_parts plan) k).size ≡ size number
  table_size number k at = at.is.size ∙ ap size at.number_is

  made_stands : (base number k : ℕ) → IsOther number → IsTableAt (kept_parts plan) number k → table_rva (kept_parts plan) placement.layout number ≡ get_or placement.layout.pieces.items k 0 → Stands base number
  made_stands base number k few at rva =
      let lt : k < length plan.pieces.items = omega (arith, at.there, piece_count options plan planned) in
      let same = same_size options plan planned k lt in
      let sized = table_size number k at in
      let some : 0 < (get_or plan.pieces.items k no_piece).size = omega (arith, same, at.is.some) in
      let used = table_used options plan planned number k at in
      let own : OwnerAt placement.sections.items k = owner_at placement.sections.items k (ready.stands k lt used (inl some)) in
      let i = section_of (rows_of placement.sections.items) k in
      let room = replaced_room (kept_parts plan) plan.pieces.items plan.fixes.items placement.sections.items placement.layout owner (reloc_tables placement.table) ready (table_index (kept_parts plan) DEBUG_DATA) pdb_data fits base in
      let linked = table_linked base number k few at in
      let len : length (get_or (contents base) k []) ≡ size number = ap length linked ∙ long number in
      let there = in_memory headers (plan.pieces.items ++ ready.rest) placement.sections.items placement.layout contents base ready.laid room i own.number own.there own.within in
      let here = subst (λ (n : ℕ). bytes_at (expected_image image base) (get_or placement.layout.pieces.items n 0) (length (get_or (contents base) n [])) ≡ get_or (contents base) n []) own.is there in
      let low = subst (λ (n : ℕ). 0 < length (get_or (contents base) n []) → placement.layout.headers ≤ get_or placement.layout.pieces.items n 0) own.is
      (above_headers headers (plan.pieces.items ++ ready.rest) placement.sections.items placement.layout contents base ready.laid room i own.number own.there own.within) in
      let end = placed.ends k lt used some in
      record {
        held =
            subst (λ (r : ℕ). Holds (expected_image image base) r (table number)) (sym rva)
            (subst (λ (bytes : List ℕ). bytes_at (expected_image image base) (get_or placement.layout.pieces.items k 0) (length bytes) ≡ bytes) linked here);
        ends = omega (arith, rva, end, same, sized);
        above = λ any. omega (arith, rva, low (omega (arith, len, any)), some_headers (length placement.sections.items) placement.layout.headers ready.laid.headers);
      }

  module _ (made : AreMade (kept_parts plan)) where
    none_stands : (base number : ℕ) → number < 9 → table_index (kept_parts plan) number ≡ None → table_rva (kept_parts plan) placement.layout number ≡ 0 → Stands base number
    none_stands base number few none rva =
        let nothing : size number ≡ 0 = by (cases_lt 0 (size number)) in
        let empty : table number ≡ [] = nil_from_length (table number) (long number ∙ nothing) in
        record {
          held = subst (λ (bytes : List ℕ). Holds (expected_image image base) (table_rva (kept_parts plan) placement.layout number) bytes) (sym empty) refl;
          ends = omega (arith, rva, nothing);
          above = λ any. absurd (omega (arith, any, nothing));
        }
      where
        nowhere : (k : ℕ) → table_index (kept_parts plan) number ≡ Some k → ⊥
        nowhere k found = none-some k (sym none ∙ found)

        by : (0 < size number) ⊎ (size number ≤ 0) → size number ≡ 0
        by (inl some) = absurd (let there = made number few some in nowhere there.0 there.1)
        by (inr zero) = omega arith

    other_stands : (base number : ℕ) → number < 9 → IsOther number → Stands base number
    other_stands base number few other = by (table_index (kept_parts plan) number) refl
      where
        by : (place : Option ℕ) → table_index (kept_parts plan) number ≡ place → Stands base number
        by None none = none_stands base number few none (ap (rva_of placement.layout.pieces.items) none)
        by (Some k) found = made_stands base number k other (found_table (kept_parts plan) number k (omega (arith, few)) found) (ap (rva_of placement.layout.pieces.items) found)

    stands : (base number : ℕ) → number < 6 → Stands base number
    stands base number few = other_stands base number (omega (arith, few)) (λ same. omega (arith, few, same))

    rva_is : (number : ℕ) → number < 5 → slice_index (table_rvas (kept_parts plan) placement.layout) number ≡ table_rva (kept_parts plan) placement.layout number
    unfolding table_rvas
    rva_is number few = get_or-map-range_with_len (table_rva (kept_parts plan) placement.layout) 0 5 number number 0 few (omega arith)

    some_read : (base : ℕ) → 0 < length (kept_rows (kept_parts plan)) → AreReadable (kept_rows (kept_parts plan)) → imports_of (expected_image image base) (table_rva (kept_parts plan) placement.layout 0) ≡ Imports (found_of (kept_rows (kept_parts plan)) (table_rvas (kept_parts plan) placement.layout))
    unfolding import_tables_at
    some_read base some readable =
        let rows = kept_rows (kept_parts plan) in
        let rvas = table_rvas (kept_parts plan) placement.layout in
        let memory = expected_image image base in
        ap (imports_of memory) (sym (rva_is 0 (omega arith)))
        ∙ tables_read_back rows rvas memory some readable
        (end_all rows rvas (λ number few. let rva = rva_is number few in let end = (stands base number (omega (arith, few))).ends in omega (arith, rva, end, import_size (kept_parts plan) number few)))
        (above_all rows rvas some (λ number few any. let rva = rva_is number few in let above = (stands base number (omega (arith, few))).above (omega (arith, any, import_size (kept_parts plan) number few)) in omega (arith, rva, above)))
        (held_all memory rows rvas (λ number few. subst (λ (bytes : List ℕ). Holds memory (slice_index rvas number) bytes) (import_table (kept_parts plan) placement.layout number few) (subst (λ (r : ℕ). Holds memory r (table number)) (sym (rva_is number few)) (stands base number (omega (arith, few))).held)))

    none_read_here : (base : ℕ) → kept_rows (kept_parts plan) ≡ [] → imports_of (expected_image image base) (table_rva (kept_parts plan) placement.layout 0) ≡ Imports (found_of (kept_rows (kept_parts plan)) (table_rvas (kept_parts plan) placement.layout))
    none_read_here base none =
        ap (imports_of (expected_image image base)) (by (table_index (kept_parts plan) 0) refl)
        ∙ none_read (expected_image image base)
        ∙ ap Imports (sym (none_found (kept_rows (kept_parts plan)) (table_rvas (kept_parts plan) placement.layout) none))
      where
        by : (place : Option ℕ) → table_index (kept_parts plan) 0 ≡ place → table_rva (kept_parts plan) placement.layout 0 ≡ 0
        by None nowhere = ap (rva_of placement.layout.pieces.items) nowhere
        by (Some k) found =
            let at = found_table (kept_parts plan) 0 k (omega arith) found in
            absurd (omega (arith, at.is.some, table_size 0 k at, import_size (kept_parts plan) 0 (omega arith), no_size (kept_rows (kept_parts plan)) none))

    imports_read : (base : ℕ) → AreReadable (kept_rows (kept_parts plan)) → imports_of (expected_image image base) (table_rva (kept_parts plan) placement.layout 0) ≡ Imports (found_of (kept_rows (kept_parts plan)) (table_rvas (kept_parts plan) placement.layout))
    imports_read base readable =
        elim (cases_lt 0 (length (kept_rows (kept_parts plan)))) [
          | inl some ↦ some_read base some readable
          | inr none ↦ none_read_here base (nil_from_length (kept_rows (kept_parts plan)) (omega (arith, none)))
        ]

    -- the directory that the headers name
    directory_is : (entry : ℕ) → headers ≡ headers_of options entry (directories_of (kept_parts plan) (rows_of placement.sections.items) placement.layout (reloc_tables placement.table)) → directory_rva (image_file image) 1 ≡ table_rva (kept_parts plan) placement.layout 0
    unfolding written_plan
    directory_is entry is =
        let rva = extent_rva (whole_pieces (kept_parts plan)) placement.layout.pieces.items (table_index (kept_parts plan) 0) in
        let end = (stands 0 0 (omega arith)).ends in
        directory_reads image 1 (table_extent (kept_parts plan) placement.layout 0) (ap (λ (h : Headers). slice_get h.directories 1) is) (omega (arith, rva, end))
        ∙ rva

    pub imports_there : (entry : ℕ) (file : List ℕ) → headers ≡ headers_of options entry (directories_of (kept_parts plan) (rows_of placement.sections.items) placement.layout (reloc_tables placement.table)) → file ≡ image_file image → MeansPlan image file → AreReadable (kept_rows (kept_parts plan)) → HoldsImports (kept_parts plan) placement.layout file
    imports_there entry file is written means readable base memory loads =
        ap (λ (m : List ℕ). imports_of m (directory_rva file 1)) (loaded_is image file means base memory loads)
        ∙ ap (imports_of (expected_image image base)) (ap (λ (bytes : List ℕ). directory_rva bytes 1) written ∙ directory_is entry is)
        ∙ imports_read base readable

    -- ---- exports

    export_ends : table_rva (kept_parts plan) placement.layout EXPORTS + plan.names.exports.size < 2 ^ 32
    export_ends = let end = (stands 0 EXPORTS (omega arith)).ends in omega (arith, end, export_size (kept_parts plan))

    exports_directory : (entry : ℕ) → headers ≡ headers_of options entry (directories_of (kept_parts plan) (rows_of placement.sections.items) placement.layout (reloc_tables placement.table)) → (directory_rva (image_file image) 0 ≡ (table_extent (kept_parts plan) placement.layout EXPORTS).0) × (directory_size (image_file image) 0 ≡ (table_extent (kept_parts plan) placement.layout EXPORTS).1)
    unfolding written_plan
    exports_directory entry is =
        let rva = extent_rva (whole_pieces (kept_parts plan)) placement.layout.pieces.items (table_index (kept_parts plan) EXPORTS) in
        let sized = by (table_index (kept_parts plan) EXPORTS) refl in
        let first = ap (λ (h : Headers). slice_get h.directories 0) is in
        (directory_reads image 0 (table_extent (kept_parts plan) placement.layout EXPORTS) first (omega (arith, rva, export_ends)), directory_sized image 0 (table_extent (kept_parts plan) placement.layout EXPORTS) first (omega (arith, sized, export_ends)))
      where
        by : (place : Option ℕ) → table_index (kept_parts plan) EXPORTS ≡ place → (extent_of (whole_pieces (kept_parts plan)) placement.layout.pieces.items (table_index (kept_parts plan) EXPORTS)).1 ≤ plan.names.exports.size
        by None none = omega (arith, ap (λ (place : Option ℕ). (extent_of (whole_pieces (kept_parts plan)) placement.layout.pieces.items place).1) none)
        by (Some k) found =
            let at = found_table (kept_parts plan) EXPORTS k (omega arith) found in
            omega (arith, ap (λ (place : Option ℕ). (extent_of (whole_pieces (kept_parts plan)) placement.layout.pieces.items place).1) found, table_size EXPORTS k at, export_size (kept_parts plan))

    module _ (outside : in_table_fault (kept_parts plan) placement.layout.pieces.items ≡ None) (given : 0 < plan.names.exports.size → All (λ row. IsGiven row.what) (exported_rows (kept_parts plan) placement.layout.pieces.items)) where
      abbrev rows : List ExportRow
      rows = exported_rows (kept_parts plan) placement.layout.pieces.items

      held_exports : (base : ℕ) → bytes_at (expected_image image base) (table_rva (kept_parts plan) placement.layout EXPORTS) (length (export_table_at (kept_parts plan) placement.layout)) ≡ export_table_at (kept_parts plan) placement.layout
      held_exports base = subst (Holds (expected_image image base) (table_rva (kept_parts plan) placement.layout EXPORTS)) (export_table_is (kept_parts plan) placement.layout) (stands base EXPORTS (omega arith)).held

      table_has : 0 < plan.names.exports.size → HasTable (kept_parts plan)
      table_has some = has_table (kept_parts plan) (export_rows options plan.modules.items) (dll_name options.out) options.time (exports_are options plan planned) planned.told some

      are_readable : 0 < plan.names.exports.size → AreReadableExports rows (table_rva (kept_parts plan) placement.layout EXPORTS) plan.names.exports.size
      are_readable some = readable (kept_parts plan) placement.layout.pieces.items (table_has some) planned.told (given some) outside

      without : plan.names.exports.size ≡ 0 → length plan.names.exports.rows ≡ 0
      without none = ap length (no_rows (kept_parts plan) (export_rows options plan.modules.items) (dll_name options.out) options.time (exports_are options plan planned) (both_none (pdata_fault (kept_parts plan)) (export_fault (kept_parts plan)) placed.means.grouped.tables).1 none)

      record Extends : Type 0 where
        rva_zero : plan.names.exports.size ≡ 0 → (table_extent (kept_parts plan) placement.layout EXPORTS) ≡ (0, 0)
        extent_is : 0 < plan.names.exports.size → (table_extent (kept_parts plan) placement.layout EXPORTS) ≡ (table_rva (kept_parts plan) placement.layout EXPORTS, plan.names.exports.size)

      extends : Extends
      extends = by (table_index (kept_parts plan) EXPORTS) refl
        where
          by : (place : Option ℕ) → table_index (kept_parts plan) EXPORTS ≡ place → Extends
          by None none = record {
            rva_zero = λ zero. ap (extent_of (whole_pieces (kept_parts plan)) placement.layout.pieces.items) none;
            extent_is = λ some. absurd (let there = made EXPORTS (omega arith) (omega (arith, some, export_size (kept_parts plan))) in none-some there.0 (sym none ∙ there.1));
          }
          by (Some k) found =
              let at = found_table (kept_parts plan) EXPORTS k (omega arith) found in
              let size : (get_or (whole_pieces (kept_parts plan)) k no_piece).size ≡ plan.names.exports.size = table_size EXPORTS k at ∙ export_size (kept_parts plan) in
              record {
                rva_zero = λ zero. absurd (omega (arith, at.is.some, size, zero));
                extent_is = λ some.
                    ap (extent_of (whole_pieces (kept_parts plan)) placement.layout.pieces.items) found
                    ∙ ap (λ (n : ℕ). (get_or placement.layout.pieces.items k 0, n)) size
                    ∙ ap (λ (r : ℕ). (r, plan.names.exports.size)) (sym (ap (rva_of placement.layout.pieces.items) found));
              }

      name_read : (base : ℕ) (name : List ℕ) → export_of_name (expected_image image base) (table_extent (kept_parts plan) placement.layout EXPORTS).0 (table_extent (kept_parts plan) placement.layout EXPORTS).1 name ≡ exported_name rows name
      name_read base name =
          elim (cases_lt 0 plan.names.exports.size) [
            | inl some ↦
                ap (λ (e : ℕ × ℕ). export_of_name (expected_image image base) e.0 e.1 name) (extends.extent_is some)
                ∙ exports_read (kept_parts plan) placement.layout (expected_image image base) (table_has some) (are_readable some) export_ends (held_exports base) name
            | inr none ↦
                ap (λ (e : ℕ × ℕ). export_of_name (expected_image image base) e.0 e.1 name) (extends.rva_zero (omega (arith, none)))
                ∙ none_read_name (kept_parts plan) (expected_image image base) placement.layout.pieces.items name (without (omega (arith, none)))
          ]

      ordinal_read : (base ordinal : ℕ) → export_of_ordinal (expected_image image base) (table_extent (kept_parts plan) placement.layout EXPORTS).0 (table_extent (kept_parts plan) placement.layout EXPORTS).1 ordinal ≡ exported_ordinal rows plan.names.exports.ordinals ordinal
      ordinal_read base ordinal =
          elim (cases_lt 0 plan.names.exports.size) [
            | inl some ↦
                ap (λ (e : ℕ × ℕ). export_of_ordinal (expected_image image base) e.0 e.1 ordinal) (extends.extent_is some)
                ∙ exports_read_by_ordinal (kept_parts plan) placement.layout (expected_image image base) (table_has some) (are_readable some) export_ends (held_exports base) ordinal
            | inr none ↦
                ap (λ (e : ℕ × ℕ). export_of_ordinal (expected_image image base) e.0 e.1 ordinal) (extends.rva_zero (omega (arith, none)))
                ∙ none_read_ordinal (kept_parts plan) (export_rows options plan.modules.items) (dll_name options.out) options.time (expected_image image base) placement.layout.pieces.items ordinal (exports_are options plan planned) (without (omega (arith, none)))
          ]

      pub exports_there : (entry : ℕ) (file : List ℕ) → headers ≡ headers_of options entry (directories_of (kept_parts plan) (rows_of placement.sections.items) placement.layout (reloc_tables placement.table)) → file ≡ image_file image → MeansPlan image file → HoldsExports (kept_parts plan) placement.layout file
      exports_there entry file is written means =
          let at = exports_directory entry is in
          let rva = ap (λ (bytes : List ℕ). directory_rva bytes 0) written ∙ at.0 in
          let size = ap (λ (bytes : List ℕ). directory_size bytes 0) written ∙ at.1 in
          record {
            by_name = λ base memory name loads.
                ap (λ (m : List ℕ). export_of_name m (directory_rva file 0) (directory_size file 0) name) (loaded_is image file means base memory loads)
                ∙ ap (λ (r : ℕ). export_of_name (expected_image image base) r (directory_size file 0) name) rva
                ∙ ap (λ (s : ℕ). export_of_name (expected_image image base) (table_extent (kept_parts plan) placement.layout EXPORTS).0 s name) size
                ∙ name_read base name;
            by_ordinal = λ base memory ordinal loads.
                ap (λ (m : List ℕ). export_of_ordinal m (directory_rva file 0) (directory_size file 0) ordinal) (loaded_is image file means base memory loads)
                ∙ ap (λ (r : ℕ). export_of_ordinal (expected_image image base) r (directory_size file 0) ordinal) rva
                ∙ ap (λ (s : ℕ). export_of_ordinal (expected_image image base) (table_extent (kept_parts plan) placement.layout EXPORTS).0 s ordinal) size
                ∙ ordinal_read base ordinal;
          }

    -- ---- resources

    module _ (some : 0 < plan.names.resources.size) where
      tree_ends : table_rva (kept_parts plan) placement.layout RESOURCES + plan.names.resources.size < 2 ^ 32
      tree_ends =
          let end = (other_stands 0 RESOURCES (omega arith) (λ same. omega (arith, same))).ends in
          omega (arith, end, tree_size_is (kept_parts plan))

      -- the directory is that of the tree
      tree_extent : resource_extent (kept_parts plan) (rows_of placement.sections.items) placement.layout ≡ (table_rva (kept_parts plan) placement.layout RESOURCES, plan.names.resources.size)
      tree_extent = by (eqb plan.names.resources.size 0) refl ∙ there (table_index (kept_parts plan) RESOURCES) refl
        where
          by : (none : Bool) → eqb plan.names.resources.size 0 ≡ none → cond none (section_extent (rows_of placement.sections.items) placement.layout (codes ".rsrc")) (table_extent (kept_parts plan) placement.layout RESOURCES) ≡ table_extent (kept_parts plan) placement.layout RESOURCES
          by true none = absurd (omega (arith, some, eqb-true plan.names.resources.size 0 none))
          by false other = refl

          there : (place : Option ℕ) → table_index (kept_parts plan) RESOURCES ≡ place → table_extent (kept_parts plan) placement.layout RESOURCES ≡ (table_rva (kept_parts plan) placement.layout RESOURCES, plan.names.resources.size)
          there None none =
              absurd (let there = made RESOURCES (omega arith) (omega (arith, some, tree_size_is (kept_parts plan))) in none-some there.0 (sym none ∙ there.1))
          there (Some k) found =
              let at = found_table (kept_parts plan) RESOURCES k (omega arith) found in
              let size : (get_or (whole_pieces (kept_parts plan)) k no_piece).size ≡ plan.names.resources.size = table_size RESOURCES k at ∙ tree_size_is (kept_parts plan) in
              ap (extent_of (whole_pieces (kept_parts plan)) placement.layout.pieces.items) found
              ∙ ap (λ (n : ℕ). (get_or placement.layout.pieces.items k 0, n)) size
              ∙ ap (λ (r : ℕ). (r, plan.names.resources.size)) (sym (ap (rva_of placement.layout.pieces.items) found))

      tree_directory : (entry : ℕ) → headers ≡ headers_of options entry (directories_of (kept_parts plan) (rows_of placement.sections.items) placement.layout (reloc_tables placement.table)) → (directory_rva (image_file image) 2 ≡ table_rva (kept_parts plan) placement.layout RESOURCES) × (directory_size (image_file image) 2 ≡ plan.names.resources.size)
      unfolding written_plan
      tree_directory entry is =
          let extent = resource_extent (kept_parts plan) (rows_of placement.sections.items) placement.layout in
          let rva = ap (λ (e : ℕ × ℕ). e.0) tree_extent in
          let sized = ap (λ (e : ℕ × ℕ). e.1) tree_extent in
          let third = ap (λ (h : Headers). slice_get h.directories 2) is in
          (directory_reads image 2 extent third (omega (arith, rva, tree_ends)) ∙ rva, directory_sized image 2 extent third (omega (arith, sized, tree_ends)) ∙ sized)

      -- the tree is in memory
      held_tree : (base : ℕ) → bytes_at (expected_image image base) (table_rva (kept_parts plan) placement.layout RESOURCES) plan.names.resources.size ≡ tree_of plan.names.resources.time (table_rva (kept_parts plan) placement.layout RESOURCES) (in_order plan.names.resources.entries)
      unfolding resource_tree_at
      held_tree base =
          let rva = table_rva (kept_parts plan) placement.layout RESOURCES in
          let held = (other_stands base RESOURCES (omega arith) (λ same. omega (arith, same))).held in
          let tree : table RESOURCES ≡ tree_of plan.names.resources.time rva (in_order plan.names.resources.entries) =
          tree_table_is (kept_parts plan) placement.layout ∙ bytes_are plan.names.resources rva some in
          ap (bytes_at (expected_image image base) rva) (sym (long RESOURCES ∙ tree_size_is (kept_parts plan))) ∙ held ∙ tree

      resource_read : (base : ℕ) (kind name : Key) (language : ℕ) → IsSmallKey kind → IsSmallKey name → resource_data (expected_image image base) (table_rva (kept_parts plan) placement.layout RESOURCES) plan.names.resources.size kind name language ≡ data_of kind name language plan.names.resources.entries
      resource_read base kind name language small also =
          let rva = table_rva (kept_parts plan) placement.layout RESOURCES in
          let entries = plan.names.resources.entries in
          let size : plan.names.resources.size ≡ tree_size (in_order entries) =
          tree_sized options plan planned ∙ sized_tree entries (omega (arith, some, tree_sized options plan planned)) in
          resources_found (expected_image image base) plan.names.resources.time rva plan.names.resources.size entries planned.mergeable planned.numbered (omega (arith, size, tree_ends)) (held_tree base) kind name language small also

    pub resources_there : (entry : ℕ) (file : List ℕ) → headers ≡ headers_of options entry (directories_of (kept_parts plan) (rows_of placement.sections.items) placement.layout (reloc_tables placement.table)) → file ≡ image_file image → MeansPlan image file → HoldsResources (kept_parts plan) file
    resources_there entry file is written means some base memory kind name language loads small also =
        let at = tree_directory some entry is in
        ap (λ (m : List ℕ). resource_data m (directory_rva file 2) (directory_size file 2) kind name language) (loaded_is image file means base memory loads)
        ∙ ap (λ (r : ℕ). resource_data (expected_image image base) r (directory_size file 2) kind name language) (ap (λ (bytes : List ℕ). directory_rva bytes 2) written ∙ at.0)
        ∙ ap (λ (s : ℕ). resource_data (expected_image image base) (table_rva (kept_parts plan) placement.layout RESOURCES) s kind name language) (ap (λ (bytes : List ℕ). directory_size bytes 2) written ∙ at.1)
        ∙ resource_read some base kind name language small also
