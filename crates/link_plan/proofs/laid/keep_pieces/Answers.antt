use Rattle.std.proofs.Common.{◌≡◌, ℕ, ◌-◌, ◌^◌, ◌<◌, Bool, false, eqb, List, [], ◌++◌, length, map, take, drop, get_or, replicate, option_map, refl, sym, ap, ◌∙◌, subst, arith}
use Rattle.std.specs.List.{All, range_with_len}
use Rattle.std.proofs.lemmas.Bool.{and_parts, eqb-true}
use Rattle.std.proofs.lemmas.List.{length-map, take_rest, nil_from_length}
use Rattle.section_group.specs.declared.piece.Piece.{Piece}
use Rattle.section_group.specs.BarePieces.{bare}
use Rattle.section_group.specs.PieceContents.{piece_contents}
use Rattle.module_view.specs.Module.{ModuleView}
use Rattle.link_imports.specs.Imports.{import_sizes, AreImports}
use Rattle.link_imports.specs.declared.imports.LinkImports.{LinkImports}
use Rattle.synthetic_sections.specs.LinkerPieces.{no_bytes}
use Rattle.link_exports.specs.Exports.{ExportsView}
use Rattle.link_debug.specs.LinkDebug.{DebugView}
use Rattle.link_resources.specs.LinkResources.{ResourcesView}
use Rattle.link_words.specs.Outcome.{options_said}
use Rattle.link_pieces.specs.Pieces.{link_pieces}
use Rattle.link_pieces.specs.TablePieces.{KeptParts, kept_imports, tables_for, tables_of}
use Rattle.link_fields.specs.Fixes.{HaveFields, field_edges}
use Rattle.relocate.specs.Redirected.{redirected_fix}
use Rattle.link_keeping.specs.Named.{LeadsWithin}
use Rattle.link_keeping.proofs.CallerLemmas.{count_named, aligned_named, bodies_named}
use Rattle.link_plan.specs.Planned.{fixes_if, placed_entry}
use Rattle.link_plan.proofs.CallerLemmas.{standing_length}
use Rattle.link_plan.proofs.NearLemmas.{fields_stay}
use Rattle.link_plan.proofs.LaidLemmas.{ArePlaces, pieces_planned, contents_planned, whole_count, few_planned, aligned_planned, bodies_planned, fields_planned, targets_planned, table_planned, others_fail, no_fix}
use Rattle.link_plan.proofs.laid.keep_pieces.Goals as goal

pub slice_bounds-link_imports-count : goal.slice_bounds-link_imports-count
slice_bounds-link_imports-count c =
    omega (arith, c.len-count.ensures, c.name_meant.new.pieces.ok.0, count_named c.args.pieces.items c.deref-3.result.now c.name_meant.new.pieces.items c.name_meant.ensures, length-map c.args.pieces.items bare, ap length c.requires.pieces, standing_length (options_said c.args.options.now) (record { parts = c.args.names.now; kept = c.in_ok-nodes.nodes.kept.items; places = c.in_ok-nodes.nodes.place_of.items }) c.in_ok-nodes.ensures.kept, ap length c.deref-4.ensures.value)

pub slice_bounds-link_imports-start : goal.slice_bounds-link_imports-start
slice_bounds-link_imports-start c =
    omega (arith, c.len-count.ensures, c.name_meant.new.pieces.ok.0, count_named c.args.pieces.items c.deref-3.result.now c.name_meant.new.pieces.items c.name_meant.ensures, length-map c.args.pieces.items bare, ap length c.requires.pieces, standing_length (options_said c.args.options.now) (record { parts = c.args.names.now; kept = c.in_ok-nodes.nodes.kept.items; places = c.in_ok-nodes.nodes.place_of.items }) c.in_ok-nodes.ensures.kept, ap length c.deref-4.ensures.value)

pub overflow_cast-slots : goal.overflow_cast-slots
overflow_cast-slots c = omega (arith, c.len-count.ensures, c.name_meant.new.pieces.ok.0, count_named c.args.pieces.items c.deref-3.result.now c.name_meant.new.pieces.items c.name_meant.ensures, length-map c.args.pieces.items bare, ap length c.requires.pieces, c.requires.few)

-- what is kept of the imports, as it is handed over
own_imports : (link : KeptParts) (modules : List ModuleView) (flags : List Bool) (count : ℕ) (imports : LinkImports) → link.parts.modules ≡ modules → flags ≡ link.kept → count ≡ length (link_pieces link.parts) → AreImports modules (take (length flags - count) (drop count flags)) imports → AreImports link.parts.modules (kept_imports link) imports
own_imports link modules flags count imports same flag counted are =
    subst (λ (ms : List ModuleView). AreImports ms (kept_imports link) imports) (sym same)
    (subst (λ (kept : List Bool). AreImports modules kept imports) (take_rest flags count ∙ ap (λ (n : ℕ). drop n flags) counted ∙ ap (drop (length (link_pieces link.parts))) flag) are)

-- what the tables are made of
are_tables : (link : KeptParts) (size room tree : ℕ) (exports : ExportsView) (debug : DebugView) (resources : ResourcesView) → size ≡ exports.size → exports ≡ link.parts.exports → room ≡ debug.size → debug ≡ link.parts.debug → tree ≡ resources.size → resources ≡ link.parts.resources → tables_for link.parts.modules (kept_imports link) size room tree ≡ tables_of link
are_tables link size room tree exports debug resources sized exported named debugged merged same =
    ap (λ (n : ℕ). tables_for link.parts.modules (kept_imports link) n room tree) (sized ∙ ap (λ (e : ExportsView). e.size) exported)
    ∙ ap (λ (n : ℕ). tables_for link.parts.modules (kept_imports link) link.parts.exports.size n tree) (named ∙ ap (λ (d : DebugView). d.size) debugged)
    ∙ ap (tables_for link.parts.modules (kept_imports link) link.parts.exports.size link.parts.debug.size) (merged ∙ ap (λ (r : ResourcesView). r.size) same)

tables_so : (link : KeptParts) (modules : List ModuleView) (imports : LinkImports) (size room tree : ℕ) (sizes : List ℕ) (old after : List Piece) → link.parts.modules ≡ modules → AreImports link.parts.modules (kept_imports link) imports → sizes ≡ imports.shape.lengths → tables_for link.parts.modules (kept_imports link) size room tree ≡ tables_of link → ((ms : List ModuleView) (kept : List Bool) → length modules ≡ length ms → sizes ≡ import_sizes ms kept → map bare after ≡ map bare old ++ tables_for ms kept size room tree) → map bare after ≡ map bare old ++ tables_of link
tables_so link modules imports size room tree sizes old after same are lengths tables pushed =
    pushed link.parts.modules (kept_imports link) (ap length (sym same)) (lengths ∙ are.lengths)
    ∙ ap (λ (ps : List Piece). map bare old ++ ps) tables

contents_so : (link : KeptParts) (modules : List ModuleView) (imports : LinkImports) (size room tree : ℕ) (sizes : List ℕ) (old after : List Piece) → link.parts.modules ≡ modules → AreImports link.parts.modules (kept_imports link) imports → sizes ≡ imports.shape.lengths → tables_for link.parts.modules (kept_imports link) size room tree ≡ tables_of link → ((ms : List ModuleView) (kept : List Bool) → length modules ≡ length ms → sizes ≡ import_sizes ms kept → map piece_contents after ≡ map piece_contents old ++ map no_bytes (tables_for ms kept size room tree)) → map piece_contents after ≡ map piece_contents old ++ map no_bytes (tables_of link)
contents_so link modules imports size room tree sizes old after same are lengths tables pushed =
    pushed link.parts.modules (kept_imports link) (ap length (sym same)) (lengths ∙ are.lengths)
    ∙ ap (λ (ps : List Piece). map piece_contents old ++ map no_bytes ps) tables

pub slot_table-requires-clause-few : goal.slot_table-requires-clause-few
slot_table-requires-clause-few c =
    let link : KeptParts = record { parts = c.args.names.now; kept = c.in_ok-nodes.nodes.kept.items; places = c.in_ok-nodes.nodes.place_of.items } in
    let count : c.len-count.result ≡ length (link_pieces link.parts) = omega (arith, c.len-count.ensures, c.name_meant.new.pieces.ok.0, count_named c.args.pieces.items c.deref-3.result.now c.name_meant.new.pieces.items c.name_meant.ensures, length-map c.args.pieces.items bare, ap length c.requires.pieces) in
    let imports = own_imports link c.args.modules.now c.deref-4.result.now c.len-count.result c.in_ok-imports.imports c.requires.same c.deref-4.ensures.value count c.in_ok-imports.ensures in
    let grown = tables_so link c.args.modules.now c.in_ok-imports.imports c.size.result c.size-2.result c.size-3.result c.in_ok-imports.imports.shape.lengths c.name_meant.new.pieces.items c.push_tables.new.pieces.items c.requires.same imports refl (are_tables link c.size.result c.size-2.result c.size-3.result c.exports.result.now c.debug.result.now c.resources.result.now c.size.ensures c.exports.ensures c.size-2.ensures c.debug.ensures c.size-3.ensures c.resources.ensures) c.in_ok-push_tables.ensures.pieces in
    let few : length c.name_meant.new.pieces.items < 2 ^ 31 - 16 = omega (arith, c.requires.few, count_named c.args.pieces.items c.deref-3.result.now c.name_meant.new.pieces.items c.name_meant.ensures) in
    omega (arith, few_planned link.parts.modules (kept_imports link) link.parts.exports.size link.parts.debug.size link.parts.resources.size c.name_meant.new.pieces.items c.push_tables.new.pieces.items few grown, ap length c.deref-6.ensures.value)

pub slot_table-requires-clause-others : goal.slot_table-requires-clause-others
slot_table-requires-clause-others c =
    let options = options_said c.args.options.now in
    let link : KeptParts = record { parts = c.args.names.now; kept = c.in_ok-nodes.nodes.kept.items; places = c.in_ok-nodes.nodes.place_of.items } in
    let count : c.len-count.result ≡ length (link_pieces link.parts) = omega (arith, c.len-count.ensures, c.name_meant.new.pieces.ok.0, count_named c.args.pieces.items c.deref-3.result.now c.name_meant.new.pieces.items c.name_meant.ensures, length-map c.args.pieces.items bare, ap length c.requires.pieces) in
    let imports = own_imports link c.args.modules.now c.deref-4.result.now c.len-count.result c.in_ok-imports.imports c.requires.same c.deref-4.ensures.value count c.in_ok-imports.ensures in
    let grown = tables_so link c.args.modules.now c.in_ok-imports.imports c.size.result c.size-2.result c.size-3.result c.in_ok-imports.imports.shape.lengths c.name_meant.new.pieces.items c.push_tables.new.pieces.items c.requires.same imports refl (are_tables link c.size.result c.size-2.result c.size-3.result c.exports.result.now c.debug.result.now c.resources.result.now c.size.ensures c.exports.ensures c.size-2.ensures c.debug.ensures c.size-3.ensures c.resources.ensures) c.in_ok-push_tables.ensures.pieces in
    let marked = λ (k : ℕ) (lt : k < length c.args.pieces.items). ap (λ (ms : List Bool). get_or ms k false) c.deref-3.ensures.value ∙ c.in_ok-nodes.ensures.meant k (omega (arith, lt, ap length c.deref.ensures.value)) in
    let planned = pieces_planned options link c.args.pieces.items c.deref-3.result.now c.name_meant.new.pieces.items c.push_tables.new.pieces.items c.requires.pieces marked c.name_meant.ensures grown in
    others_fail options link (length c.args.modules.now) c.len-count.result c.deref-6.result.now (ap length (sym c.requires.same)) count (ap (map bare) c.deref-6.ensures.value ∙ planned)

pub overflow_sub-len : goal.overflow_sub-len
overflow_sub-len c =
    let link : KeptParts = record { parts = c.args.names.now; kept = c.in_ok-nodes.nodes.kept.items; places = c.in_ok-nodes.nodes.place_of.items } in
    let count : c.len-count.result ≡ length (link_pieces link.parts) = omega (arith, c.len-count.ensures, c.name_meant.new.pieces.ok.0, count_named c.args.pieces.items c.deref-3.result.now c.name_meant.new.pieces.items c.name_meant.ensures, length-map c.args.pieces.items bare, ap length c.requires.pieces) in
    let imports = own_imports link c.args.modules.now c.deref-4.result.now c.len-count.result c.in_ok-imports.imports c.requires.same c.deref-4.ensures.value count c.in_ok-imports.ensures in
    let grown = tables_so link c.args.modules.now c.in_ok-imports.imports c.size.result c.size-2.result c.size-3.result c.in_ok-imports.imports.shape.lengths c.name_meant.new.pieces.items c.push_tables.new.pieces.items c.requires.same imports refl (are_tables link c.size.result c.size-2.result c.size-3.result c.exports.result.now c.debug.result.now c.resources.result.now c.size.ensures c.exports.ensures c.size-2.ensures c.debug.ensures c.size-3.ensures c.resources.ensures) c.in_ok-push_tables.ensures.pieces in
    omega (arith, c.len.ensures, c.push_tables.new.pieces.ok.0, c.len-count.ensures, c.name_meant.new.pieces.ok.0, whole_count link.parts.modules (kept_imports link) link.parts.exports.size link.parts.debug.size link.parts.resources.size c.name_meant.new.pieces.items c.push_tables.new.pieces.items grown)

pub keep_fields-requires-clause-count : goal.keep_fields-requires-clause-count
keep_fields-requires-clause-count c =
    let link : KeptParts = record { parts = c.args.names.now; kept = c.in_ok-nodes.nodes.kept.items; places = c.in_ok-nodes.nodes.place_of.items } in
    omega (arith, c.requires.fields.for_each, ap length c.deref-8.ensures.value, standing_length (options_said c.args.options.now) link c.in_ok-nodes.ensures.kept, length-map c.args.pieces.items bare, ap length c.requires.pieces)

pub keep_fields-requires-clause-no_import : goal.keep_fields-requires-clause-no_import
keep_fields-requires-clause-no_import c = λ none k lt is.
    let link = c.args.names.now in
    let kept = c.in_ok-nodes.nodes.kept.items in
    let old = c.args.pieces.items in
    let named = count_named old c.deref-3.result.now c.name_meant.new.pieces.items c.name_meant.ensures in
    let pieces : length old ≡ c.len-count.result = omega (arith, c.len-count.ensures, c.name_meant.new.pieces.ok.0, named) in
    let count : c.len-count.result ≡ length (link_pieces link) = omega (arith, pieces, length-map old bare, ap length c.requires.pieces) in
    let have = subst (λ (n : ℕ). HaveFields link n c.args.fixes.fixups.items) pieces c.requires.fields in
    let both = and_parts c.in_ok-nodes.nodes.no_import (eqb (length c.deref-5.result.now) 0) (sym c.fields_stay-stays.ensures ∙ none) in
    let near = subst (λ (n : ℕ). All (LeadsWithin kept n) (field_edges link)) (ap length c.deref.ensures.value ∙ pieces) (c.in_ok-nodes.ensures.no_import both.0) in
    let spots : c.deref-5.result.now ≡ [] = nil_from_length c.deref-5.result.now (eqb-true (length c.deref-5.result.now) 0 both.1) in
    subst (λ (ps : List ℕ). map (redirected_fix ps c.len-count.result c.slot_table.result c.deref-7.result.now) (get_or c.args.fixes.fixups.items k []) ≡ get_or c.args.fixes.fixups.items k []) (sym spots)
    (fields_stay link c.len-count.result c.slot_table.result c.deref-7.result.now kept c.args.fixes.fixups.items k count have near (omega (arith, lt, have.for_each)) (ap (λ (flags : List Bool). get_or flags k false) (sym c.deref-8.ensures.value) ∙ is))

pub returns : goal.returns
returns c =
    let options = options_said c.args.options.now in
    let link : KeptParts = record { parts = c.args.names.now; kept = c.in_ok-nodes.nodes.kept.items; places = c.in_ok-nodes.nodes.place_of.items } in
    let old = c.args.pieces.items in
    let marks = c.deref-3.result.now in
    let now = c.name_meant.new.pieces.items in
    let after = c.push_tables.new.pieces.items in
    let named = c.name_meant.ensures in
    let count : c.len-count.result ≡ length (link_pieces link.parts) = omega (arith, c.len-count.ensures, c.name_meant.new.pieces.ok.0, count_named c.args.pieces.items c.deref-3.result.now c.name_meant.new.pieces.items c.name_meant.ensures, length-map c.args.pieces.items bare, ap length c.requires.pieces) in
    let imports = own_imports link c.args.modules.now c.deref-4.result.now c.len-count.result c.in_ok-imports.imports c.requires.same c.deref-4.ensures.value count c.in_ok-imports.ensures in
    let grown = tables_so link c.args.modules.now c.in_ok-imports.imports c.size.result c.size-2.result c.size-3.result c.in_ok-imports.imports.shape.lengths now after c.requires.same imports refl (are_tables link c.size.result c.size-2.result c.size-3.result c.exports.result.now c.debug.result.now c.resources.result.now c.size.ensures c.exports.ensures c.size-2.ensures c.debug.ensures c.size-3.ensures c.resources.ensures) c.in_ok-push_tables.ensures.pieces in
    let holds = contents_so link c.args.modules.now c.in_ok-imports.imports c.size.result c.size-2.result c.size-3.result c.in_ok-imports.imports.shape.lengths now after c.requires.same imports refl (are_tables link c.size.result c.size-2.result c.size-3.result c.exports.result.now c.debug.result.now c.resources.result.now c.size.ensures c.exports.ensures c.size-2.ensures c.debug.ensures c.size-3.ensures c.resources.ensures) c.in_ok-push_tables.ensures.contents in
    let marked = λ (k : ℕ) (lt : k < length old). ap (λ (ms : List Bool). get_or ms k false) c.deref-3.ensures.value ∙ c.in_ok-nodes.ensures.meant k (omega (arith, lt, ap length c.deref.ensures.value)) in
    let planned = pieces_planned options link old marks now after c.requires.pieces marked named grown in
    let few : length now < 2 ^ 31 - 16 = omega (arith, c.requires.few, count_named old marks now named) in
    let whole = whole_count link.parts.modules (kept_imports link) link.parts.exports.size link.parts.debug.size link.parts.resources.size now after grown in
    let tables = length (tables_of link) in
    let places : ArePlaces link c.deref-5.result.now c.len-count.result c.slot_table.result c.deref-7.result.now = record {
      spots_are = c.deref-5.ensures.value;
      first_is = count;
      home_is = c.slot_table.ensures ∙ table_planned options link (length c.args.modules.now) c.deref-6.result.now (ap length (sym c.requires.same)) (ap (map bare) c.deref-6.ensures.value ∙ planned);
      offsets_are = λ p. ap (λ (os : List ℕ). get_or os p 0) c.deref-7.ensures.value ∙ imports.offsets p;
    } in
    record {
      kept_are = c.in_ok-nodes.ensures.kept;
      pieces_are = planned;
      contents_are = contents_planned link old marks now after c.requires.contents named holds;
      aligned = aligned_planned link.parts.modules (kept_imports link) link.parts.exports.size link.parts.debug.size link.parts.resources.size now after (aligned_named old marks now named c.requires.aligned) grown;
      bodies = bodies_planned link.parts.modules (kept_imports link) link.parts.exports.size link.parts.debug.size link.parts.resources.size now after (bodies_named old marks now named c.requires.bodies) grown holds;
      few = few_planned link.parts.modules (kept_imports link) link.parts.exports.size link.parts.debug.size link.parts.resources.size now after few grown;
      fields = fields_planned link c.deref-5.result.now c.len-count.result c.slot_table.result c.deref-7.result.now c.args.fixes.fixups.items c.keep_fields.new.fixups.items c.push_none.new.fixups.items tables (length after) (sym (ap length c.requires.contents) ∙ omega (arith, length-map old piece_contents, length-map old bare, ap length c.requires.pieces)) places (subst (λ (n : ℕ). HaveFields link.parts n c.args.fixes.fixups.items) (sym (length-map old bare) ∙ ap length c.requires.pieces) c.requires.fields) (c.keep_fields.ensures ∙ ap (λ (flags : List Bool). map (λ (k : ℕ). fixes_if (get_or flags k false) (map (redirected_fix c.deref-5.result.now c.len-count.result c.slot_table.result c.deref-7.result.now) (get_or c.args.fixes.fixups.items k []))) (range_with_len 0 (length c.args.fixes.fixups.items))) c.deref-8.ensures.value) (c.in_ok-push_none.ensures ∙ ap (λ (n : ℕ). c.keep_fields.new.fixups.items ++ replicate n no_fix) (omega (arith, whole, c.len.ensures, c.push_tables.new.pieces.ok.0, c.len-count.ensures, c.name_meant.new.pieces.ok.0))) (omega (arith, whole, count, c.len-count.ensures, c.name_meant.new.pieces.ok.0));
      imports = imports;
      entry_is = c.placed_entry-entry.ensures ∙ ap (λ (ps : List ℕ). option_map (placed_entry ps) c.args.places.entry) c.deref-9.ensures.value ∙ ap (option_map (placed_entry link.places)) c.requires.entry;
      exported_are = targets_planned link c.deref-5.result.now c.len-count.result c.slot_table.result c.deref-7.result.now c.args.places.exported.items c.place_exports.new.targets.items places c.requires.exported c.place_exports.ensures;
      tls_is = c.placed_entry.ensures ∙ ap (λ (ps : List ℕ). option_map (placed_entry ps) c.args.places.loader.tls) c.deref-10.ensures.value ∙ ap (option_map (placed_entry link.places)) c.requires.tls;
      load_config_is = c.placed_entry-2.ensures ∙ ap (λ (ps : List ℕ). option_map (placed_entry ps) c.args.places.loader.load_config) c.deref-11.ensures.value ∙ ap (option_map (placed_entry link.places)) c.requires.load_config;
    }
