-- What layouts say of the fields of a link: the places of pieces and of sections decide it.
use Rattle.std.proofs.Common.{◌≡◌, ℕ, ◌-◌, cond, eqb, List, [], ◌∷◌, ◌++◌, length, map, get_or, Option, option_map, ap, ◌∙◌}
use Rattle.std.specs.Prelude.{codes}
use Rattle.std.specs.List.{range_with_len}
use Rattle.std.proofs.Math.Path.{fun_ext}
use Rattle.link_base.specs.Refusals.{first_refusal_below}
use Rattle.link_base.specs.declared.fault.Fault.{Fault}
use Rattle.section_group.specs.Uniqueness.{SectionRow}
use Rattle.address_layout.specs.declared.layout.Placed.{Placed}
use Rattle.address_layout.specs.declared.layout.Layout.{Layout}
use Rattle.relocate.specs.PatchedBytes.{patched_bytes, range_fault}
use Rattle.relocate.proofs.PlaceLemmas.{bytes_by_places}
use Rattle.relocate.proofs.PlaceLemmas as places
use Rattle.piece_bytes.specs.Extents.{rva_of, extent_of}
use Rattle.link_pieces.specs.TablePieces.{KeptParts, kept_rows, is_table, table_index, whole_pieces, whole_contents, whole_piece}
use Rattle.import_tables.specs.ImportDirectory.{Imports}
use Rattle.import_tables.specs.ReadBack.{found_of}
use Rattle.import_tables.specs.ImportTables.{tables_of as import_tables_of}
use Rattle.synthetic_sections.specs.LinkerPieces.{EXPORTS, DEBUG_ENTRY, DEBUG_DATA, RESOURCES}
use Rattle.link_debug.specs.LinkDebug.{no_identifier, entry_bytes, data_bytes}
use Rattle.link_resources.specs.LinkResources.{tree_bytes}
use Rattle.export_tables.specs.ExportTable.{export_table}
use Rattle.export_tables.specs.ReadBack.{exported_name, exported_ordinal}
use Rattle.link_plan.specs.Planned.{planned_fixes, planned_loader}
use Rattle.piece_bytes.specs.Owners.{owners}
use Rattle.image_headers.specs.declared.headers.Directories.{Directories}
use Rattle.link_image.specs.NamedSections.{section_named}
use Rattle.link_fields.specs.LoaderPlaces.{TLS_NAME, LOAD_CONFIG_NAME}
use Rattle.link_image.specs.LinkedImage.{place_extent, TLS_SIZE, config_size, placed_extent, section_extent, table_directory, directories_of, HoldsImports, HoldsExports}
use Rattle.link_image.specs.LinkedBytes.{owners_in, table_rvas, import_tables_at, exported_rows, export_table_at, debug_entry_at, resource_tree_at, contents_at, linked_bytes, linked_contents, out_of_range, piece_range_fault, fields_range_fault}

module _ (layout other : Layout) (pieces : layout.pieces.items ≡ other.pieces.items) (sections : layout.sections.items ≡ other.sections.items) where
  held_same : (link : KeptParts) (k : ℕ) → contents_at link layout k ≡ contents_at link other k
  unfolding contents_at import_tables_at export_table_at debug_entry_at resource_tree_at table_rvas
  held_same link k =
      ap (λ (rvas : List ℕ). held_by rvas layout.sections.items) pieces ∙ ap (held_by other.pieces.items) sections
    where
      held_by : List ℕ → List Placed → List ℕ
      held_by rvas places =
          cond (is_table (length link.parts.modules) (whole_piece link k))
          (get_or
          (import_tables_of (kept_rows link) (map (λ number. rva_of rvas (table_index link number)) (range_with_len 0 5))
          ++ cond (eqb link.parts.exports.size 0) [] (export_table (exported_rows link rvas) link.parts.exports.ordinals link.parts.exports.dll link.parts.exports.time (rva_of rvas (table_index link EXPORTS)))
          ∷ entry_bytes link.parts.debug places (rva_of rvas (table_index link DEBUG_DATA))
          ∷ data_bytes link.parts.debug no_identifier
          ∷ tree_bytes link.parts.resources (rva_of rvas (table_index link RESOURCES))
          ∷ [])
          (whole_piece link k).number [])
          (get_or (whole_contents link) k [])

  piece_same : (link : KeptParts) (rows : List SectionRow) (base k : ℕ) → linked_bytes link rows layout base k ≡ linked_bytes link rows other base k
  piece_same link rows base k =
      bytes_by_places layout other pieces sections base (get_or layout.pieces.items k 0) (owners_in rows layout) (planned_fixes link k) (contents_at link layout k)
      ∙ ap (λ (rvas : List ℕ). patched_bytes base (get_or rvas k 0) other (owners rows (length rvas)) (planned_fixes link k) (contents_at link layout k)) pieces
      ∙ ap (patched_bytes base (get_or other.pieces.items k 0) other (owners_in rows other) (planned_fixes link k)) (held_same link k)

  fault_same : (link : KeptParts) (rows : List SectionRow) (base k : ℕ) → piece_range_fault link rows layout base k ≡ piece_range_fault link rows other base k
  fault_same link rows base k =
      ap (option_map (out_of_range (whole_piece link k)))
      (places.range_by_places layout other pieces sections base (get_or layout.pieces.items k 0) (owners_in rows layout) (planned_fixes link k) (contents_at link layout k)
      ∙ ap (λ (rvas : List ℕ). range_fault base (get_or rvas k 0) other (owners rows (length rvas)) (planned_fixes link k) (contents_at link layout k)) pieces
      ∙ ap (range_fault base (get_or other.pieces.items k 0) other (owners_in rows other) (planned_fixes link k)) (held_same link k))

pub contents_by_places : (link : KeptParts) (rows : List SectionRow) (layout other : Layout) → layout.pieces.items ≡ other.pieces.items → layout.sections.items ≡ other.sections.items → linked_contents link rows layout ≡ linked_contents link rows other
unfolding linked_contents
contents_by_places link rows layout other pieces sections =
    fun_ext (λ base. ap (λ (f : ℕ → List ℕ). map f (range_with_len 0 (length (whole_pieces link)))) (fun_ext (λ k. piece_same layout other pieces sections link rows base k)))

pub range_by_places : (link : KeptParts) (rows : List SectionRow) (layout other : Layout) (base : ℕ) → layout.pieces.items ≡ other.pieces.items → layout.sections.items ≡ other.sections.items → fields_range_fault link rows layout base ≡ fields_range_fault link rows other base
unfolding fields_range_fault
range_by_places link rows layout other base pieces sections =
    ap (λ (f : ℕ → Option Fault). first_refusal_below (length (whole_pieces link)) f) (fun_ext (λ k. fault_same layout other pieces sections link rows base k))

-- the directories, by the RVAs of the pieces and the one of the base relocations
directories : KeptParts → ℕ × ℕ → ℕ × ℕ → ℕ × ℕ → List ℕ → Directories
directories link resources exceptions relocations rvas = record {
  exports = extent_of (whole_pieces link) rvas (table_index link EXPORTS);
  resources = cond (eqb link.parts.resources.size 0) resources (extent_of (whole_pieces link) rvas (table_index link RESOURCES));
  exceptions = exceptions;
  imports = extent_of (whole_pieces link) rvas (table_index link 0);
  slots = extent_of (whole_pieces link) rvas (table_index link 2);
  relocations = relocations;
  tls = place_extent rvas (planned_loader link TLS_NAME) TLS_SIZE;
  load_config = place_extent rvas (planned_loader link LOAD_CONFIG_NAME) (config_size link (planned_loader link LOAD_CONFIG_NAME));
  debug = extent_of (whole_pieces link) rvas (table_index link DEBUG_ENTRY);
}

-- those of sections by their places, and of the rest by the RVAs of the pieces
pub directories_by_places : (link : KeptParts) (rows : List SectionRow) (layout other : Layout) (tables : List (List ℕ)) → layout.pieces.items ≡ other.pieces.items → layout.sections.items ≡ other.sections.items → directories_of link rows layout tables ≡ directories_of link rows other tables
unfolding directories
directories_by_places link rows layout other tables pieces sections =
    by tables
    ∙ ap (λ (placed : List Placed). directories link (placed_extent placed (section_named rows (codes ".rsrc"))) (placed_extent placed (section_named rows (codes ".pdata"))) (table_directory other tables) other.pieces.items) sections
  where
    by : (ts : List (List ℕ)) → directories_of link rows layout ts ≡ directories link (section_extent rows layout (codes ".rsrc")) (section_extent rows layout (codes ".pdata")) (table_directory other ts) other.pieces.items
    by [] = ap (directories link (section_extent rows layout (codes ".rsrc")) (section_extent rows layout (codes ".pdata")) (0, 0)) pieces
    by (table ∷ ts) =
        ap (λ (rvas : List ℕ). directories link (section_extent rows layout (codes ".rsrc")) (section_extent rows layout (codes ".pdata")) (get_or rvas (length rvas - 1) 0, length table) rvas) pieces

-- the RVAs of the import tables, and so the imports that an image holds
rvas_by_places : (link : KeptParts) (layout other : Layout) → layout.pieces.items ≡ other.pieces.items → table_rvas link layout ≡ table_rvas link other
unfolding table_rvas
rvas_by_places link layout other pieces =
    ap (λ (rvas : List ℕ). map (λ number. rva_of rvas (table_index link number)) (range_with_len 0 5)) pieces

pub imports_by_places : (link : KeptParts) (layout other : Layout) (image : List ℕ) → layout.pieces.items ≡ other.pieces.items → HoldsImports link layout image → HoldsImports link other image
imports_by_places link layout other image pieces holds base memory loads =
    holds base memory loads ∙ ap (λ (rvas : List ℕ). Imports (found_of (kept_rows link) rvas)) (rvas_by_places link layout other pieces)

-- and its exports
pub exports_by_places : (link : KeptParts) (layout other : Layout) (image : List ℕ) → layout.pieces.items ≡ other.pieces.items → HoldsExports link layout image → HoldsExports link other image
exports_by_places link layout other image pieces holds = record {
  by_name = λ base memory name loads. holds.by_name base memory name loads ∙ ap (λ (rvas : List ℕ). exported_name (exported_rows link rvas) name) pieces;
  by_ordinal = λ base memory ordinal loads. holds.by_ordinal base memory ordinal loads ∙ ap (λ (rvas : List ℕ). exported_ordinal (exported_rows link rvas) link.parts.exports.ordinals ordinal) pieces;
}
