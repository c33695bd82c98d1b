-- The table of exports of a link and its debug directory have the sizes that are told of them before anything has a place; and the
-- tables by their numbers.
use Rattle.std.proofs.Common.{◌≡◌, ℕ, ◌<◌, Bool, true, false, cond, eqb, is_some, List, [], ◌∷◌, ◌++◌, length, map, get_or, Option, Some, None, refl, sym, ap, ◌∙◌, subst, arith}
use Rattle.std.specs.List.{AllZip}
use Rattle.std.proofs.Math.ListN.{get_or-map}
use Rattle.std.proofs.lemmas.Bool.{eqb-true}
use Rattle.std.proofs.lemmas.List.{map-append, get_or_append_left, get_or-append_right}
use Rattle.link_base.proofs.NumberLemmas.{above_zero}
use Rattle.address_layout.specs.declared.layout.Layout.{Layout}
use Rattle.directives.specs.declared.item.Export.{Export}
use Rattle.symbol_names.specs.Exports.{forwarder}
use Rattle.import_tables.specs.ImportShape.{sizes_of}
use Rattle.import_tables.specs.ImportTables.{tables_of as import_tables_of}
use Rattle.import_tables.proofs.SizeLemmas.{sizes_kept}
use Rattle.export_tables.specs.declared.error.ExportError.{ExportError}
use Rattle.export_tables.specs.ExportTable.{forward_len, forwarder_size, table_size, export_table, AreNumbered}
use Rattle.export_tables.specs.ReadBack.{SameSize}
use Rattle.export_tables.specs.Ordinals.{ordinals_of, ordinal_fault}
use Rattle.export_tables.proofs.LengthLemmas.{size_of_table}
use Rattle.export_tables.proofs.SizeLemmas.{same_table_size, same_numbered}
use Rattle.synthetic_sections.specs.LinkerPieces.{EXPORTS, DEBUG_DATA, RESOURCES, size_at, entry_size}
use Rattle.link_debug.specs.LinkDebug.{no_identifier, data_bytes}
use Rattle.link_resources.specs.LinkResources.{IsSized as IsSizedTree}
use Rattle.link_resources.proofs.TreeLemmas as tree
use Rattle.link_debug.proofs.DataLemmas.{IsSized, length-entry, length-bytes}
use Rattle.link_exports.specs.Exports.{refused_rows, numbers_fault, numbers_of, export_to, table_row, unplaced_row, size_of, size_if, ExportsView, exports_from, AreTold}
use Rattle.link_pieces.specs.TablePieces.{kept_rows, KeptParts, table_sizes, kept_imports}
use Rattle.link_imports.specs.Imports.{import_sizes}
use Rattle.link_image.specs.LinkedBytes.{table_rva, table_rvas, import_tables_at, exported_row, exported_rows, export_table_at, debug_entry_at, resource_tree_at, other_tables_at, tables_at}

-- ---- a link with a table

-- there are exports, and nothing is wrong with their ordinals: these are given, and the size is that of the rows without places
pub record HasTable (link : KeptParts) : Type 0 where
  pub none : ordinal_fault link.parts.exports.rows ≡ None
  pub some : 0 < length link.parts.exports.rows
  pub numbers : link.parts.exports.ordinals ≡ ordinals_of link.parts.exports.rows
  pub size : link.parts.exports.size ≡ table_size (map unplaced_row link.parts.exports.rows) link.parts.exports.ordinals link.parts.exports.dll
  pub numbered : AreNumbered (map unplaced_row link.parts.exports.rows) link.parts.exports.ordinals

-- where no ordinal is wrong
pub numbers_given : (rows : List Export) → ordinal_fault rows ≡ None → numbers_of rows ≡ ordinals_of rows
unfolding numbers_of
numbers_given rows none = ap (λ (o : Option ExportError). cond (is_some o) [] (ordinals_of rows)) none

pub size_given : (rows : List Export) (dll : List ℕ) → ordinal_fault rows ≡ None → size_if rows dll ≡ size_of rows (numbers_of rows) dll
unfolding size_if
size_given rows dll none = ap (λ (o : Option ExportError). cond (is_some o) 0 (size_of rows (numbers_of rows) dll)) none

no_numbers_fault : (rows : List Export) → ordinal_fault rows ≡ None → numbers_fault rows ≡ None
unfolding numbers_fault
no_numbers_fault rows none = ap (refused_rows rows) none

-- a size above 0 says that none is, and that there are exports
sized_none : (rows : List Export) (dll : List ℕ) → 0 < size_if rows dll → ordinal_fault rows ≡ None
unfolding size_if
sized_none rows dll sized = go (ordinal_fault rows) refl
  where
    go : (o : Option ExportError) → ordinal_fault rows ≡ o → ordinal_fault rows ≡ None
    go None is = is
    go (Some error) is =
        absurd (omega (arith, sized, ap (λ (o : Option ExportError). cond (is_some o) 0 (size_of rows (numbers_of rows) dll)) is))

sized_some : (rows : List Export) (ordinals dll : List ℕ) → 0 < size_of rows ordinals dll → 0 < length rows
sized_some [] ordinals dll sized = absurd (omega (arith, sized))
sized_some (row ∷ rows) ordinals dll sized = omega arith

size_of_some : (rows : List Export) (ordinals dll : List ℕ) → 0 < length rows → size_of rows ordinals dll ≡ table_size (map unplaced_row rows) ordinals dll
size_of_some [] ordinals dll some = absurd (omega (arith, some))
size_of_some (row ∷ rows) ordinals dll some = refl

pub has_table : (link : KeptParts) (rows : List Export) (dll : List ℕ) (time : ℕ) → link.parts.exports ≡ exports_from rows dll time → AreTold link.parts.exports → 0 < link.parts.exports.size → HasTable link
has_table link rows dll time is told sized =
    let above : 0 < size_if rows dll = subst (λ (exports : ExportsView). 0 < exports.size) is sized in
    let none = sized_none rows dll above in
    let given = size_given rows dll none in
    let some = sized_some rows (numbers_of rows) dll (omega (arith, above, given)) in
    record {
      none = ap (λ (exports : ExportsView). ordinal_fault exports.rows) is ∙ none;
      some = subst (λ (exports : ExportsView). 0 < length exports.rows) (sym is) some;
      numbers = ap (λ (exports : ExportsView). exports.ordinals) is ∙ numbers_given rows none ∙ ap (λ (exports : ExportsView). ordinals_of exports.rows) (sym is);
      size =
          ap (λ (exports : ExportsView). exports.size) is
          ∙ given
          ∙ size_of_some rows (numbers_of rows) dll some
          ∙ ap (λ (exports : ExportsView). table_size (map unplaced_row exports.rows) exports.ordinals exports.dll) (sym is);
      numbered = told.numbered (ap (λ (exports : ExportsView). exports.fault) is ∙ no_numbers_fault rows none);
    }

-- ---- rows with places

same_len : (text : Option (List ℕ)) (rva other : ℕ) → forward_len (export_to text rva) ≡ forward_len (export_to text other)
same_len None rva other = refl
same_len (Some text) rva other = refl

same_size : (text : Option (List ℕ)) (rva other : ℕ) → forwarder_size (export_to text rva) ≡ forwarder_size (export_to text other)
same_size None rva other = refl
same_size (Some text) rva other = refl

same_row : (row : Export) (rva other : ℕ) → SameSize (table_row row rva) (table_row row other)
same_row row rva other = record {
  same_names = refl;
  same_nonames = refl;
  same_lens = same_len (forwarder row) rva other;
  same_sizes = same_size (forwarder row) rva other;
}

all_same : (link : KeptParts) (rvas : List ℕ) (rows : List Export) → AllZip SameSize (map unplaced_row rows) (map (exported_row link rvas) rows)
all_same link rvas [] = tt
all_same link rvas (listed ∷ rows) = (same_row listed 0 _, all_same link rvas rows)

pub same_rows : (link : KeptParts) (rvas : List ℕ) → AllZip SameSize (map unplaced_row link.parts.exports.rows) (exported_rows link rvas)
unfolding exported_rows
same_rows link rvas = all_same link rvas link.parts.exports.rows

pub placed_numbered : (link : KeptParts) (rvas : List ℕ) → HasTable link → AreNumbered (exported_rows link rvas) link.parts.exports.ordinals
placed_numbered link rvas has =
    same_numbered (map unplaced_row link.parts.exports.rows) (exported_rows link rvas) link.parts.exports.ordinals (same_rows link rvas) has.numbered

pub placed_size : (link : KeptParts) (rvas : List ℕ) → HasTable link → table_size (exported_rows link rvas) link.parts.exports.ordinals link.parts.exports.dll ≡ link.parts.exports.size
placed_size link rvas has =
    sym (same_table_size (map unplaced_row link.parts.exports.rows) (exported_rows link rvas) link.parts.exports.ordinals link.parts.exports.dll (same_rows link rvas))
    ∙ sym has.size

-- ---- the bytes of the table

-- where it has a size
pub export_table_some : (link : KeptParts) (layout : Layout) → eqb link.parts.exports.size 0 ≡ false → export_table_at link layout ≡ export_table (exported_rows link layout.pieces.items) link.parts.exports.ordinals link.parts.exports.dll link.parts.exports.time (table_rva link layout EXPORTS)
unfolding export_table_at
export_table_some link layout some =
    ap (λ (b : Bool). cond b [] (export_table (exported_rows link layout.pieces.items) link.parts.exports.ordinals link.parts.exports.dll link.parts.exports.time (table_rva link layout EXPORTS))) some

export_table_none : (link : KeptParts) (layout : Layout) → eqb link.parts.exports.size 0 ≡ true → export_table_at link layout ≡ []
unfolding export_table_at
export_table_none link layout none =
    ap (λ (b : Bool). cond b [] (export_table (exported_rows link layout.pieces.items) link.parts.exports.ordinals link.parts.exports.dll link.parts.exports.time (table_rva link layout EXPORTS))) none

pub export_length : (link : KeptParts) (layout : Layout) (rows : List Export) (dll : List ℕ) (time : ℕ) → link.parts.exports ≡ exports_from rows dll time → AreTold link.parts.exports → length (export_table_at link layout) ≡ link.parts.exports.size
export_length link layout rows dll time is told = go (eqb link.parts.exports.size 0) refl
  where
    go : (b : Bool) → eqb link.parts.exports.size 0 ≡ b → length (export_table_at link layout) ≡ link.parts.exports.size
    go true none = ap length (export_table_none link layout none) ∙ sym (eqb-true link.parts.exports.size 0 none)
    go false some =
        let has = has_table link rows dll time is told (above_zero link.parts.exports.size some) in
        let placed = exported_rows link layout.pieces.items in
        ap length (export_table_some link layout some)
        ∙ size_of_table placed link.parts.exports.ordinals link.parts.exports.dll link.parts.exports.time (table_rva link layout EXPORTS) (placed_numbered link layout.pieces.items has)
        ∙ placed_size link layout.pieces.items has

-- ---- all tables

import_lengths : (link : KeptParts) (layout : Layout) → map length (import_tables_at link layout) ≡ import_sizes link.parts.modules (kept_imports link)
unfolding import_tables_at
import_lengths link layout =
    let rows = kept_rows link in
    let rvas = table_rvas link layout in
    sizes_kept rows rvas (import_tables_of rows rvas) (sizes_of rows) refl refl

-- what names the PDB has its size, and so has the resource tree
pub record AreSized (link : KeptParts) : Type 0 where
  pub debug : IsSized link.parts.debug
  pub tree : IsSizedTree link.parts.resources

-- the sizes behind those of the import tables
abbrev later_sizes : KeptParts → List ℕ
later_sizes link =
    link.parts.exports.size ∷ entry_size link.parts.debug.size ∷ link.parts.debug.size ∷ link.parts.resources.size ∷ []

-- the tables behind those of the imports
abbrev later_tables : KeptParts → Layout → List (List ℕ)
later_tables link layout = other_tables_at link layout

entry_length : (link : KeptParts) (layout : Layout) → length (debug_entry_at link layout) ≡ entry_size link.parts.debug.size
unfolding debug_entry_at
entry_length link layout = length-entry link.parts.debug layout.sections.items (table_rva link layout DEBUG_DATA)

tree_length : (link : KeptParts) (layout : Layout) → AreSized link → length (resource_tree_at link layout) ≡ link.parts.resources.size
unfolding resource_tree_at
tree_length link layout sized = tree.length-bytes link.parts.resources (table_rva link layout RESOURCES) sized.tree

later_lengths : (link : KeptParts) (layout : Layout) (rows : List Export) (dll : List ℕ) (time : ℕ) → link.parts.exports ≡ exports_from rows dll time → AreTold link.parts.exports → AreSized link → map length (later_tables link layout) ≡ later_sizes link
later_lengths link layout rows dll time is told sized =
    ap (λ (n : ℕ). n ∷ length (debug_entry_at link layout) ∷ length (data_bytes link.parts.debug no_identifier) ∷ length (resource_tree_at link layout) ∷ []) (export_length link layout rows dll time is told)
    ∙ ap (λ (n : ℕ). link.parts.exports.size ∷ n ∷ length (data_bytes link.parts.debug no_identifier) ∷ length (resource_tree_at link layout) ∷ []) (entry_length link layout)
    ∙ ap (λ (n : ℕ). link.parts.exports.size ∷ entry_size link.parts.debug.size ∷ n ∷ length (resource_tree_at link layout) ∷ []) (length-bytes link.parts.debug no_identifier refl sized.debug)
    ∙ ap (λ (n : ℕ). link.parts.exports.size ∷ entry_size link.parts.debug.size ∷ link.parts.debug.size ∷ n ∷ []) (tree_length link layout sized)

pub length-tables : (link : KeptParts) (layout : Layout) (rows : List Export) (dll : List ℕ) (time : ℕ) → link.parts.exports ≡ exports_from rows dll time → AreTold link.parts.exports → AreSized link → (number : ℕ) → length (get_or (tables_at link layout) number []) ≡ size_at (table_sizes link) number
length-tables link layout rows dll time is told sized number =
    sym (get_or-map length (tables_at link layout) number [])
    ∙ ap (λ (sizes : List ℕ). get_or sizes number 0) (map-append length (import_tables_at link layout) (later_tables link layout))
    ∙ ap (λ (sizes : List ℕ). get_or (sizes ++ map length (later_tables link layout)) number 0) (import_lengths link layout)
    ∙ ap (λ (sizes : List ℕ). get_or (import_sizes link.parts.modules (kept_imports link) ++ sizes) number 0) (later_lengths link layout rows dll time is told sized)

-- ---- by their numbers

five_sizes : (link : KeptParts) → length (import_sizes link.parts.modules (kept_imports link)) ≡ 5
unfolding sizes_of
five_sizes link = refl

five_tables : (link : KeptParts) (layout : Layout) → length (import_tables_at link layout) ≡ 5
unfolding import_tables_at import_tables_of
five_tables link layout = refl

pub import_size : (link : KeptParts) (number : ℕ) → number < 5 → size_at (table_sizes link) number ≡ size_at (import_sizes link.parts.modules (kept_imports link)) number
import_size link number few =
    get_or_append_left (import_sizes link.parts.modules (kept_imports link)) (later_sizes link) 0 number (omega (arith, few, five_sizes link))

pub import_table : (link : KeptParts) (layout : Layout) (number : ℕ) → number < 5 → get_or (tables_at link layout) number [] ≡ get_or (import_tables_at link layout) number []
import_table link layout number few =
    get_or_append_left (import_tables_at link layout) (later_tables link layout) [] number (omega (arith, few, five_tables link layout))

pub export_size : (link : KeptParts) → size_at (table_sizes link) 5 ≡ link.parts.exports.size
export_size link = get_or-append_right (import_sizes link.parts.modules (kept_imports link)) (later_sizes link) 5 5 0 (five_sizes link) (omega arith)

pub data_size_is : (link : KeptParts) → size_at (table_sizes link) 7 ≡ link.parts.debug.size
data_size_is link = get_or-append_right (import_sizes link.parts.modules (kept_imports link)) (later_sizes link) 5 7 0 (five_sizes link) (omega arith)

pub export_table_is : (link : KeptParts) (layout : Layout) → get_or (tables_at link layout) 5 [] ≡ export_table_at link layout
export_table_is link layout =
    get_or-append_right (import_tables_at link layout) (later_tables link layout) 5 5 [] (five_tables link layout) (omega arith)

pub data_table_is : (link : KeptParts) (layout : Layout) → get_or (tables_at link layout) 7 [] ≡ data_bytes link.parts.debug no_identifier
data_table_is link layout =
    get_or-append_right (import_tables_at link layout) (later_tables link layout) 5 7 [] (five_tables link layout) (omega arith)

pub tree_size_is : (link : KeptParts) → size_at (table_sizes link) 8 ≡ link.parts.resources.size
tree_size_is link = get_or-append_right (import_sizes link.parts.modules (kept_imports link)) (later_sizes link) 5 8 0 (five_sizes link) (omega arith)

pub tree_table_is : (link : KeptParts) (layout : Layout) → get_or (tables_at link layout) 8 [] ≡ resource_tree_at link layout
tree_table_is link layout =
    get_or-append_right (import_tables_at link layout) (later_tables link layout) 5 8 [] (five_tables link layout) (omega arith)
