-- The file of a plan that is placed and patched loads as planned at every permitted base.
use Rattle.std.proofs.Common.{inl, ◌≡◌, ℕ, ◌+◌, ◌-◌, ◌*◌, ◌%◌, ◌^◌, ◌<◌, ◌≤◌, Bool, true, false, cond, ◌&&◌, ◌||◌, not, eqb, leb, List, [], ◌∷◌, ◌++◌, length, map, inr, get_or, slice_get, Option, Some, None, option_map, refl, sym, ap, ◌∙◌, subst, length-append, arith}
use Rattle.std.specs.List.{All, flat_map}
use Rattle.std.proofs.Math.Seq.{get_or-append_seam}
use Rattle.std.proofs.lemmas.Bool.{and_parts, leb-true, eqb-true}
use Rattle.std.proofs.lemmas.List.{length-map, get_or_append_left, get_or-append_right}
use Rattle.section_group.specs.declared.piece.Piece.{Piece}
use Rattle.section_group.specs.declared.piece.OutSection.{OutSection}
use Rattle.section_group.specs.Uniqueness.{SectionRow as OutRow, row_of, rows_of}
use Rattle.address_layout.specs.declared.base.BaseRule.{BaseRule}
use Rattle.address_layout.specs.declared.layout.Layout.{Layout}
use Rattle.address_layout.specs.Growth.{grown_size}
use Rattle.address_layout.specs.PermittedBase.{is_permitted, address_limit}
use Rattle.address_layout.specs.Places.{row_at}
use Rattle.base_reloc.specs.declared.field.BaseField.{BaseField}
use Rattle.base_reloc.specs.PageBlocks.{blocks_of}
use Rattle.image_writer.specs.declared.headers.Headers.{Headers}
use Rattle.image_writer.specs.ExpectedImage.{PlacedBytes, ImagePlan, MeansPlan, plan_headers, raw_bytes, permits, image_file}
use Rattle.image_writer.specs.PieceInFile.{piece_at}
use Rattle.image_writer.specs.WrittenImage.{section_rows, written_plan, layout_plan, at_each_base}
use Rattle.image_writer.specs.RawData.{all_bytes}
use Rattle.image_writer.specs.MovedContents.{Stay, Move}
use Rattle.image_writer.proofs.PlanBytes.{written_bytes}
use Rattle.image_writer.proofs.PieceLemmas.{pieces_of}
use Rattle.image_writer.proofs.PieceInFileLemmas.{pieces_link}
use Rattle.image_writer.proofs.TableLemmas.{length-section_rows}
use Rattle.image_writer.proofs.CallerLemmas.{stays_means, moves_means}
use Rattle.pdata_table.specs.SortedContents.{sorted_contents}
use Rattle.relocate.specs.Field.{fix_at}
use Rattle.debug_entry.specs.Identifier.{image_identifier}
use Rattle.link_debug.specs.LinkDebug.{data_bytes}
use Rattle.synthetic_sections.specs.LinkerPieces.{DEBUG_DATA}
use Rattle.link_pieces.specs.TablePieces.{KeptParts, table_index, whole_pieces}
use Rattle.link_words.specs.Outcome.{LinkOptions}
use Rattle.link_fields.specs.declared.entry.EntryPlace.{EntryPlace}
use Rattle.link_plan.specs.declared.planning.LinkPlan.{LinkPlan}
use Rattle.link_plan.specs.Planned.{planned_fixes, planned_entry}
use Rattle.link_plan.specs.Plan.{IsPlanOf, kept_parts}
use Rattle.link_plan.proofs.CallerLemmas.{plan_count}
use Rattle.link_image.specs.declared.make.Built.{Built}
use Rattle.link_image.specs.declared.placement.Placement.{Placement}
use Rattle.address_fields.specs.AddressFields.{base_field}
use Rattle.link_image.specs.BaseFields.{holds_address, is_relocated, IsBaseField, AreBaseFields}
use Rattle.link_image.specs.NamedSections.{pdata_pieces}
use Rattle.image_headers.specs.ImageHeaders.{directory_list, headers_of}
use Rattle.link_image.specs.LinkedBytes.{exported_rows, linked_contents, image_contents, identified, fields_range_fault}
use Rattle.link_image.specs.ExportFaults.{in_table_fault}
use Rattle.link_image.specs.LinkedImage.{base_rule, entry_rva, table_row, directories_of, identifier_of, final_contents, HasTable, IsWhole, IsImageOf}
use Rattle.link_image.specs.BuiltImage.{IsBuilt}
use Rattle.link_image.specs.LinkMap.{link_map, asked_map}
use Rattle.link_image.specs.LinkPdb.{streams_at, link_streams, asked_pdb, Fits, IsLarge, RefusesPdb}
use Rattle.link_library.specs.LinkLibrary.{asked_library, library_fault}
use Rattle.link_image.specs.BuildFaults.{RefusesBuild}
use Rattle.pdb_msf.specs.WrittenFile.{MSF_LIMIT, file_size, msf_of}
use Rattle.image_writer.specs.HeaderTable.{size_of_headers}
use Rattle.image_writer.proofs.FileBytes.{headers_in_file}
use Rattle.image_writer.proofs.LoadableLemmas.{written_writable}
use Rattle.link_base.specs.Refusals.{RefusesFor}
use Rattle.link_base.specs.declared.stop.Refusal.{Refusal}
use Rattle.link_base.specs.declared.stop.Refusal.TheVariants as refusal
use Rattle.link_image.specs.Steps.{reloc_tables, file_of, sorted_file, identified_file, IsGiven, IsPlaced, IsReady}
use Rattle.link_image.proofs.HeldLemmas.{imports_are}
use Rattle.link_image.proofs.FieldLemmas.{total_is}
use Rattle.link_image.proofs.IdentityLemmas.{other_read, with_front}
use Rattle.link_image.proofs.ImportLemmas.{are_made, fits, imports_there, exports_there, resources_there}
use Rattle.link_image.proofs.MoveLemmas.{replaced_length, replaced_room, replaced_stay, replaced_moved}
use Rattle.link_image.proofs.PieceMoves.{length_sorted}

-- ---- a file is of the contents at its own base

same_file : (headers : Headers) (sections : List OutSection) (layout : Layout) (first second : ℕ → List (List ℕ)) → first headers.base ≡ second headers.base → image_file (layout_plan headers sections layout first) ≡ image_file (layout_plan headers sections layout second)
unfolding image_file written_plan
same_file headers sections layout first second same =
    let rows = section_rows (rows_of sections) layout.sections.items in
    let front = plan_headers (layout_plan headers sections layout first) in
    let bytes = written_bytes headers (rows_of sections) layout.sections.items layout.pieces.items layout.image in
    ap (λ (ps : List PlacedBytes). front ++ flat_map (raw_bytes ps) rows)
    (bytes first headers.base ∙ ap (λ (cs : List (List ℕ)). all_bytes layout.pieces.items cs (rows_of sections)) same ∙ sym (bytes second headers.base))

-- ---- permitted bases

limit_small : (large : Bool) → address_limit large ≤ 2 ^ 47
limit_small true = omega arith
limit_small false = omega arith

low_base : (rule : BaseRule) (image base : ℕ) → is_permitted rule image base ≡ true → base < 2 ^ 64
low_base rule image base allowed =
    let parts = and_parts (eqb (base % 65536) 0) (leb (base + image) (address_limit rule.large) && (not rule.fixed || eqb base rule.base)) allowed in
    let ends = leb-true (base + image) (address_limit rule.large) (and_parts (leb (base + image) (address_limit rule.large)) (not rule.fixed || eqb base rule.base) parts.1).0 in
    omega (arith, ends, limit_small rule.large)

own_base : (rule : BaseRule) (image base : ℕ) → rule.fixed ≡ true → is_permitted rule image base ≡ true → base ≡ rule.base
own_base rule image base fixed allowed =
    let parts = and_parts (eqb (base % 65536) 0) (leb (base + image) (address_limit rule.large) && (not rule.fixed || eqb base rule.base)) allowed in
    let last = (and_parts (leb (base + image) (address_limit rule.large)) (not rule.fixed || eqb base rule.base) parts.1).1 in
    eqb-true base rule.base (sym (ap (λ (b : Bool). not b || eqb base rule.base) fixed) ∙ last)

-- a section is at least as long as its bytes
grown : (len : ℕ) → len ≤ grown_size len
grown len = go (eqb len 0) refl
  where
    go : (b : Bool) → eqb len 0 ≡ b → len ≤ cond b 1 len
    go true none = omega (arith, eqb-true len 0 none)
    go false some = omega arith

-- ---- fields by RVAs that agree

fields_agree : (link : KeptParts) (rvas other : List ℕ) (fields : List BaseField) → ((k : ℕ) → k < length (whole_pieces link) → get_or rvas k 0 ≡ get_or other k 0) → AreBaseFields link rvas fields → AreBaseFields link other fields
fields_agree link rvas other fields same are = record {
  ascending = are.ascending;
  apart = are.apart;
  listed = λ n d lt. moved rvas other same (get_or fields n d) (are.listed n d lt);
  all = λ field is. are.all field (moved other rvas (λ k lt. sym (same k lt)) field is);
}
  where
    moved : (xs ys : List ℕ) → ((k : ℕ) → k < length (whole_pieces link) → get_or xs k 0 ≡ get_or ys k 0) → (field : BaseField) → IsBaseField link xs field → IsBaseField link ys field
    moved xs ys same field is = record {
      piece = is.piece;
      index = is.index;
      there = is.there;
      within = is.within;
      based = is.based;
      is = is.is ∙ ap (λ (rva : ℕ). base_field rva (fix_at (planned_fixes link is.piece) is.index)) (same is.piece is.there);
    }

-- ---- a PDB that is asked for

asked_same : (asked : Bool) {first second : List (List ℕ)} → (asked ≡ true → first ≡ second) → cond asked (Some (msf_of first)) None ≡ cond asked (Some (msf_of second)) None
asked_same true same = ap (λ (streams : List (List ℕ)). Some (msf_of streams)) (same refl)
asked_same false same = refl

-- ---- the image of a plan

module _ (options : LinkOptions) (plan : LinkPlan) (placement : Placement) (owner : List ℕ) (planned : IsPlanOf options plan.modules.items plan) (placed : IsPlaced options plan placement)
    (ready : IsReady (kept_parts plan) plan.pieces.items plan.fixes.items placement.sections.items placement.layout owner (reloc_tables placement.table)) where
  abbrev link : KeptParts
  link = kept_parts plan

  abbrev sections : List OutSection
  sections = placement.sections.items

  abbrev layout : Layout
  layout = placement.layout

  abbrev tables : List (List ℕ)
  tables = reloc_tables placement.table

  abbrev headers : Headers
  headers = headers_of options (entry_rva placement.layout.pieces.items plan.entry) (directories_of (kept_parts plan) (rows_of placement.sections.items) placement.layout (reloc_tables placement.table))

  abbrev headers_at : Option EntryPlace → Headers
  headers_at place = headers_of options (entry_rva placement.layout.pieces.items place) (directories_of (kept_parts plan) (rows_of placement.sections.items) placement.layout (reloc_tables placement.table))

  abbrev contents : ℕ → List (List ℕ)
  contents base = final_contents headers (kept_parts plan) (rows_of placement.sections.items) placement.layout (reloc_tables placement.table) base

  abbrev pdb_data : List ℕ
  pdb_data = data_bytes plan.names.debug (identifier_of headers (kept_parts plan) (rows_of placement.sections.items) placement.layout (reloc_tables placement.table))

  abbrev image : ImagePlan
  image = layout_plan headers placement.sections.items placement.layout contents

  permits_are : (base : ℕ) → permits image base ≡ is_permitted (base_rule options) placement.layout.image base
  unfolding written_plan
  permits_are base = refl

  whole : List Piece
  whole = plan.pieces.items ++ ready.rest

  total : length plan.pieces.items ≡ length (whole_pieces (kept_parts plan))
  total = total_is (kept_parts plan) plan.pieces.items plan.fixes.items placement.sections.items placement.layout owner (reloc_tables placement.table) ready

  -- without a table
  stays : is_relocated options (kept_parts plan) ≡ false → tables ≡ [] → Stay headers sections layout contents
  stays alone none = record {
    directory = ap (λ (ts : List (List ℕ)). slice_get (directory_list (directories_of (kept_parts plan) (rows_of placement.sections.items) placement.layout ts)) 5) none;
    same = λ base allowed. by options.fixed refl base (sym (permits_are base) ∙ allowed);
  }
    where
      by : (b : Bool) → options.fixed ≡ b → (base : ℕ) → is_permitted (base_rule options) placement.layout.image base ≡ true → contents base ≡ contents options.base
      by true fixed base allowed = ap contents (own_base (base_rule options) placement.layout.image base fixed allowed)
      by false moves base allowed =
          replaced_stay (kept_parts plan) plan.pieces.items plan.fixes.items placement.sections.items placement.layout owner (reloc_tables placement.table) ready (table_index (kept_parts plan) DEBUG_DATA) pdb_data (fits options plan placement owner planned placed ready headers)
          (sym (ap (λ (b : Bool). not b && holds_address (kept_parts plan)) moves) ∙ alone) base options.base

  -- with one
  moves : (piece_rows : List OutRow) (before : Layout) → length before.pieces.items ≡ length plan.pieces.items → is_permitted (base_rule options) placement.layout.image options.base ≡ true → (table : HasTable (kept_parts plan) piece_rows before (rows_of placement.sections.items) placement.layout (reloc_tables placement.table)) → Move headers sections layout contents table.fields
  moves piece_rows before count permitted table = record {
    ascending = table.based.ascending;
    apart = table.based.apart;
    moved = λ base allowed. replaced_moved (kept_parts plan) plan.pieces.items plan.fixes.items placement.sections.items placement.layout owner (reloc_tables placement.table) ready (table_index (kept_parts plan) DEBUG_DATA) pdb_data (fits options plan placement owner planned placed ready headers) options.base base table.fields (low_base (base_rule options) placement.layout.image options.base permitted) based;
    section = length piece_rows;
    number = 0;
    there = omega (arith, ap length table.rows_are, length-append piece_rows (table_row k ∷ []), length-map placement.sections.items row_of);
    below = subst (λ (ks : List ℕ). 0 < length ks) (sym row) (omega arith);
    table = ap (λ (i : ℕ). get_or (contents options.base) i []) index ∙ last_contents;
    directory = ap (λ (ts : List (List ℕ)). slice_get (directory_list (directories_of (kept_parts plan) (rows_of placement.sections.items) placement.layout ts)) 5) table.tables_are ∙ ap (λ (i : ℕ). Some (get_or layout.pieces.items i 0, length (blocks_of table.fields))) (ends ∙ sym index);
    inside = omega (arith, ap (λ (i : ℕ). get_or layout.pieces.items i 0) index, last_rva, table.added.size, table.added.image.above, grown (length (blocks_of table.fields)));
  }
    where
      k : ℕ
      k = length before.pieces.items

      row : (row_at placement.sections.items (length piece_rows)).1 ≡ length before.pieces.items ∷ []
      row =
          sym (pieces_link placement.sections.items (length piece_rows))
          ∙ ap (λ (rows : List OutRow). pieces_of rows (length piece_rows)) table.rows_are
          ∙ ap (λ (r : OutRow). r.pieces) (get_or-append_seam piece_rows (table_row (length before.pieces.items)) [] (record { name = []; flags = 0; pieces = [] }))

      index : piece_at placement.sections.items (length piece_rows) 0 ≡ length before.pieces.items
      index = ap (λ (ks : List ℕ). get_or ks 0 0) row

      last_contents : get_or (contents options.base) (length before.pieces.items) [] ≡ blocks_of table.fields
      last_contents =
          let len = length_sorted (kept_parts plan) (rows_of placement.sections.items) placement.layout options.base in
          other_read (table_index (kept_parts plan) DEBUG_DATA) pdb_data (image_contents (kept_parts plan) (rows_of placement.sections.items) placement.layout (reloc_tables placement.table) options.base) (length before.pieces.items) (λ is. omega (arith, (fits options plan placement owner planned placed ready headers (length before.pieces.items) is).there, count, total))
          ∙ get_or-append_right (sorted_contents (pdata_pieces (rows_of placement.sections.items)) (linked_contents (kept_parts plan) (rows_of placement.sections.items) placement.layout options.base)) (reloc_tables placement.table) (length before.pieces.items) (length before.pieces.items) [] (omega (arith, len, count, total)) (omega arith)
          ∙ ap (λ (i : ℕ). get_or (reloc_tables placement.table) i []) (nothing (length before.pieces.items))
          ∙ ap (λ (ts : List (List ℕ)). get_or ts 0 []) table.tables_are
        where
          nothing : (n : ℕ) → n - n ≡ 0
          nothing n = omega arith

      ends : length placement.layout.pieces.items - 1 ≡ length before.pieces.items
      ends = omega (arith, ap length table.added.pieces, length-append before.pieces.items (table.added.placed.rva ∷ []))

      last_rva : get_or placement.layout.pieces.items (length before.pieces.items) 0 ≡ table.added.placed.rva
      last_rva = ap (λ (rvas : List ℕ). get_or rvas (length before.pieces.items) 0) table.added.pieces ∙ get_or-append_seam before.pieces.items table.added.placed.rva [] 0

      based : AreBaseFields (kept_parts plan) placement.layout.pieces.items table.fields
      based =
          fields_agree (kept_parts plan) before.pieces.items placement.layout.pieces.items table.fields (λ i lt. sym (ap (λ (rvas : List ℕ). get_or rvas i 0) table.added.pieces ∙ get_or_append_left before.pieces.items (table.added.placed.rva ∷ []) 0 i (omega (arith, lt, count, total)))) table.based

  means : is_permitted (base_rule options) placement.layout.image options.base ≡ true → MeansPlan image (image_file image)
  means permitted = by (is_relocated options (kept_parts plan)) refl placed.means.whole
    where
      before_count : length placed.means.before.pieces.items ≡ length plan.pieces.items
      before_count = placed.means.placed.layout_of.standing.rva_for_each ∙ plan_count options (kept_parts plan) ∙ sym total

      by : (b : Bool) → is_relocated options (kept_parts plan) ≡ b → IsWhole b (kept_parts plan) (rows_of placed.means.sections) placed.means.before (rows_of placement.sections.items) placement.layout (reloc_tables placement.table) → MeansPlan image (image_file image)
      by true relocated table =
          moves_means headers (plan.pieces.items ++ ready.rest) placement.sections.items placement.layout contents table.fields ready.laid (replaced_room (kept_parts plan) plan.pieces.items plan.fixes.items placement.sections.items placement.layout owner (reloc_tables placement.table) ready (table_index (kept_parts plan) DEBUG_DATA) pdb_data (fits options plan placement owner planned placed ready headers)) (replaced_length (kept_parts plan) plan.pieces.items plan.fixes.items placement.sections.items placement.layout owner (reloc_tables placement.table) ready (table_index (kept_parts plan) DEBUG_DATA) pdb_data (fits options plan placement owner planned placed ready headers)) refl (permits_are options.base ∙ permitted)
          (moves (rows_of placed.means.sections) placed.means.before before_count permitted table)
      by false alone same =
          stays_means headers (plan.pieces.items ++ ready.rest) placement.sections.items placement.layout contents ready.laid (replaced_room (kept_parts plan) plan.pieces.items plan.fixes.items placement.sections.items placement.layout owner (reloc_tables placement.table) ready (table_index (kept_parts plan) DEBUG_DATA) pdb_data (fits options plan placement owner planned placed ready headers) options.base) (replaced_length (kept_parts plan) plan.pieces.items plan.fixes.items placement.sections.items placement.layout owner (reloc_tables placement.table) ready (table_index (kept_parts plan) DEBUG_DATA) pdb_data (fits options plan placement owner planned placed ready headers)) refl (permits_are options.base ∙ permitted)
          (stays alone same.2)

  -- the file tells the identifier that it has
  abbrev sorted : List (List ℕ)
  sorted = sorted_contents (pdata_pieces (rows_of placement.sections.items)) (linked_contents (kept_parts plan) (rows_of placement.sections.items) placement.layout options.base)

  identifier_is : image_identifier (sorted_file headers plan placement) ≡ identifier_of headers (kept_parts plan) (rows_of placement.sections.items) placement.layout (reloc_tables placement.table)
  identifier_is =
      ap image_identifier (same_file headers placement.sections.items placement.layout (at_each_base (sorted ++ reloc_tables placement.table)) (image_contents (kept_parts plan) (rows_of placement.sections.items) placement.layout (reloc_tables placement.table)) refl)

  file_is : identified_file headers plan placement ≡ image_file image
  file_is =
      ap (λ (id : List ℕ). file_of headers placement.sections.items placement.layout (identified (kept_parts plan) id sorted) (reloc_tables placement.table)) identifier_is
      ∙ ap (λ (cs : List (List ℕ)). image_file (layout_plan headers placement.sections.items placement.layout (at_each_base cs))) (with_front (table_index (kept_parts plan) DEBUG_DATA) pdb_data sorted (reloc_tables placement.table) (λ d is.
      omega (arith, (fits options plan placement owner planned placed ready headers d is).there, length_sorted (kept_parts plan) (rows_of placement.sections.items) placement.layout options.base)))
      ∙ same_file headers placement.sections.items placement.layout (at_each_base (contents options.base)) contents refl

  -- what the plan is the image of
  pub is_image : is_permitted (base_rule options) placement.layout.image options.base ≡ true → in_table_fault (kept_parts plan) placement.layout.pieces.items ≡ None → fields_range_fault (kept_parts plan) (rows_of placement.sections.items) placement.layout options.base ≡ None → IsImageOf options (kept_parts plan) image
  unfolding written_plan
  is_image permitted outside in_range = record {
    rows = rows_of placement.sections.items;
    layout = placement.layout;
    tables = reloc_tables placement.table;
    placement = placed.means;
    permitted = permitted;
    outside = outside;
    in_range = in_range;
    is = ap (λ (place : Option EntryPlace). layout_plan (headers_at place) placement.sections.items placement.layout (final_contents (headers_at place) (kept_parts plan) (rows_of placement.sections.items) placement.layout (reloc_tables placement.table))) planned.entry_is;
  }

  -- and what its PDB has, by the file and the identifier that it tells
  pub streams_are : (id file : List ℕ) → id ≡ image_identifier (sorted_file headers plan placement) → file ≡ identified_file headers plan placement → streams_at options (kept_parts plan) (rows_of placement.sections.items) placement.layout id file ≡ link_streams options (kept_parts plan) (rows_of placement.sections.items) placement.layout (reloc_tables placement.table) (image_file image)
  streams_are id file told is =
      ap (λ (i : List ℕ). streams_at options (kept_parts plan) (rows_of placement.sections.items) placement.layout i file)
      (told ∙ identifier_is ∙ ap (λ (place : Option EntryPlace). identifier_of (headers_at place) (kept_parts plan) (rows_of placement.sections.items) placement.layout (reloc_tables placement.table)) planned.entry_is)
      ∙ ap (streams_at options (kept_parts plan) (rows_of placement.sections.items) placement.layout (identifier_of (headers_at (planned_entry options (kept_parts plan))) (kept_parts plan) (rows_of placement.sections.items) placement.layout (reloc_tables placement.table))) (is ∙ file_is)

  -- its section headers are in the file
  pub headers_inside : (file : List ℕ) → file ≡ identified_file headers plan placement → 328 + 40 * length placement.sections.items ≤ length file
  unfolding written_plan
  headers_inside file is =
      let there = headers_in_file image (written_writable headers (plan.pieces.items ++ ready.rest) placement.sections.items placement.layout contents ready.laid (replaced_room (kept_parts plan) plan.pieces.items plan.fixes.items placement.sections.items placement.layout owner (reloc_tables placement.table) ready (table_index (kept_parts plan) DEBUG_DATA) pdb_data (fits options plan placement owner planned placed ready headers) options.base) refl) in
      omega (arith, there, ap (λ (bytes : List ℕ). length bytes) (is ∙ file_is), length-section_rows (plan.pieces.items ++ ready.rest) placement.sections.items placement.layout ready.laid, headers_size (length image.rows))
    where
      headers_size : (count : ℕ) → 328 + 40 * count ≤ size_of_headers count
      headers_size count = omega arith

  -- a PDB that is too large is a fault of the link
  pub large_pdb : (id file : List ℕ) (refused : Refusal) → is_permitted (base_rule options) placement.layout.image options.base ≡ true → in_table_fault (kept_parts plan) placement.layout.pieces.items ≡ None → fields_range_fault (kept_parts plan) (rows_of placement.sections.items) placement.layout options.base ≡ None → (options.debug ≡ true → id ≡ image_identifier (sorted_file headers plan placement)) → file ≡ identified_file headers plan placement → RefusesPdb options (streams_at options (kept_parts plan) (rows_of placement.sections.items) placement.layout id file) refused → RefusesBuild options (kept_parts plan) refused
  unfolding is_image
  large_pdb id file (refusal.Fault fault) permitted outside in_range told is large =
      inr (inl (record { image = image; is_image = is_image permitted outside in_range; is = subst (λ (streams : List (List ℕ)). IsLarge options streams fault) (streams_are id file (told large.asked) is) large }))
  large_pdb id file refusal.Memory permitted outside in_range told is large = tt

  -- and an import library that is
  pub large_library : (id file : List ℕ) (refused : Refusal) → is_permitted (base_rule options) placement.layout.image options.base ≡ true → in_table_fault (kept_parts plan) placement.layout.pieces.items ≡ None → fields_range_fault (kept_parts plan) (rows_of placement.sections.items) placement.layout options.base ≡ None → (options.debug ≡ true → id ≡ image_identifier (sorted_file headers plan placement)) → file ≡ identified_file headers plan placement → Fits options (streams_at options (kept_parts plan) (rows_of placement.sections.items) placement.layout id file) → RefusesFor (library_fault options plan.names.exports) refused → RefusesBuild options (kept_parts plan) refused
  unfolding is_image
  large_library id file (refusal.Fault fault) permitted outside in_range told is fits large =
      inr (inr (record {
        image = image;
        is_image = is_image permitted outside in_range;
        pdb_fits = λ asked. subst (λ (streams : List (List ℕ)). file_size (map length streams) ≤ MSF_LIMIT) (streams_are id file (told asked) is) (fits asked);
        is = large;
      }))
  large_library id file refusal.Memory permitted outside in_range told is fits large = tt

  -- what is written of the plan means it
  pub built : (made : Built) → is_permitted (base_rule options) placement.layout.image options.base ≡ true → in_table_fault (kept_parts plan) placement.layout.pieces.items ≡ None → (0 < plan.names.exports.size → All (λ row. IsGiven row.what) (exported_rows (kept_parts plan) placement.layout.pieces.items)) → fields_range_fault (kept_parts plan) (rows_of placement.sections.items) placement.layout options.base ≡ None
      → made.image.items ≡ identified_file headers plan placement → made.sections ≡ length placement.sections.items → option_map (λ map. map.items) made.map ≡ asked_map options (link_map options (kept_parts plan) (rows_of placement.sections.items) placement.layout) → (id : List ℕ) → (options.debug ≡ true → id ≡ image_identifier (sorted_file headers plan placement)) → option_map (λ bytes. bytes.items) made.pdb ≡ asked_pdb options (msf_of (streams_at options (kept_parts plan) (rows_of placement.sections.items) placement.layout id made.image.items)) → Fits options (streams_at options (kept_parts plan) (rows_of placement.sections.items) placement.layout id made.image.items) → option_map (λ library. library.items) made.library ≡ asked_library options plan.names.exports → library_fault options plan.names.exports ≡ None → IsBuilt options (kept_parts plan) made
  unfolding written_plan is_image
  built made permitted outside given in_range is count map_is id told pdb_is pdb_fits library_is library_fits =
      let file : made.image.items ≡ image_file image = is ∙ file_is in
      record {
        image = image;
        is_image = is_image permitted outside in_range;
        file = file;
        means = subst (MeansPlan image) (sym file) (means permitted);
        imports =
            imports_there options plan placement owner planned placed ready headers (are_made (kept_parts plan)) (entry_rva placement.layout.pieces.items plan.entry) made.image.items refl file (subst (MeansPlan image) (sym file) (means permitted)) (imports_are options plan planned).readable;
        exports =
            exports_there options plan placement owner planned placed ready headers (are_made (kept_parts plan)) outside given (entry_rva placement.layout.pieces.items plan.entry) made.image.items refl file (subst (MeansPlan image) (sym file) (means permitted));
        resources =
            resources_there options plan placement owner planned placed ready headers (are_made (kept_parts plan)) (entry_rva placement.layout.pieces.items plan.entry) made.image.items refl file (subst (MeansPlan image) (sym file) (means permitted));
        count = count ∙ sym (length-section_rows (plan.pieces.items ++ ready.rest) placement.sections.items placement.layout ready.laid);
        map_is = map_is;
        pdb_is = pdb_is ∙ asked_same options.debug (λ asked. streams_are id made.image.items (told asked) is);
        pdb_fits = λ asked. subst (λ (streams : List (List ℕ)). file_size (map length streams) ≤ MSF_LIMIT) (streams_are id made.image.items (told asked) is) (pdb_fits asked);
        library_is = library_is;
        library_fits = library_fits;
      }
