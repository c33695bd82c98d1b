use Rattle.std.proofs.Common.{◌≡◌, ℕ, List, [], ◌∷◌, length, get_or, None, ap, ◌∙◌, arith}
use Rattle.address_layout.specs.declared.layout.Placed.{Placed}
use Rattle.link_debug.specs.LinkDebug.{DebugView, no_identifier, entry_bytes, data_bytes}
use Rattle.link_resources.specs.LinkResources.{ResourcesView, tree_bytes}
use Rattle.synthetic_sections.specs.LinkerPieces.{RESOURCES}
use Rattle.link_words.specs.Outcome.{options_said}
use Rattle.piece_bytes.specs.Extents.{rva_of}
use Rattle.link_plan.specs.Plan.{kept_parts}
use Rattle.link_image.specs.LinkedBytes.{table_rva, export_table_at, debug_entry_at, resource_tree_at}
use Rattle.link_image.proofs.TableLemmas.{place_is, place_within, tree_end}
use Rattle.link_image.proofs.tables.other_tables.Goals as goal

pub rva_of-rva-requires : goal.rva_of-rva-requires
rva_of-rva-requires c = place_within (options_said c.args.options.now) c.args.plan.now c.requires.plan c.args.places.now 7 (length c.deref.result.now) c.requires.places (omega arith) (omega (arith, ap length c.deref.ensures.value, c.requires.placed.room))

pub rva_of-tree_rva-requires : goal.rva_of-tree_rva-requires
rva_of-tree_rva-requires c = place_within (options_said c.args.options.now) c.args.plan.now c.requires.plan c.args.places.now 8 (length c.deref-3.result.now) c.requires.places (omega arith) (omega (arith, ap length c.deref-3.ensures.value, c.requires.placed.room))

pub tree-requires-clause-fits : goal.tree-requires-clause-fits
tree-requires-clause-fits c =
    let options = options_said c.args.options.now in
    let plan = c.args.plan.now in
    let layout = c.args.placement.now.layout in
    let rva : c.rva_of-tree_rva.result ≡ table_rva (kept_parts plan) layout RESOURCES = c.rva_of-tree_rva.ensures
    ∙ ap (λ (rvas : List ℕ). rva_of rvas (get_or c.args.places.now 8 None)) c.deref-3.ensures.value
    ∙ ap (rva_of layout.pieces.items) (place_is options plan c.requires.plan c.args.places.now 8 c.requires.places (omega arith)) in
    let size = ap (λ (resources : ResourcesView). resources.size) c.resources.ensures in
    let end = tree_end options plan c.requires.plan c.args.placement.now c.requires.placed in
    omega (arith, rva, size, end)

pub returns : goal.returns
unfolding debug_entry_at resource_tree_at
returns c =
    let options = options_said c.args.options.now in
    let plan = c.args.plan.now in
    let layout = c.args.placement.now.layout in
    let link = kept_parts c.args.plan.now in
    let rva = c.rva_of-rva.ensures
    ∙ ap (λ (rvas : List ℕ). rva_of rvas (get_or c.args.places.now 7 None)) c.deref.ensures.value
    ∙ ap (rva_of layout.pieces.items) (place_is options plan c.requires.plan c.args.places.now 7 c.requires.places (omega arith)) in
    let entry = c.in_ok-debug_entry.ensures
    ∙ ap (λ (debug : DebugView). entry_bytes debug c.deref-2.result.now c.rva_of-rva.result) c.debug-debug.ensures
    ∙ ap (λ (sections : List Placed). entry_bytes plan.names.debug sections c.rva_of-rva.result) c.deref-2.ensures.value
    ∙ ap (entry_bytes plan.names.debug layout.sections.items) rva in
    let rest = c.in_ok-debug_data.ensures ∙ ap (λ (debug : DebugView). data_bytes debug no_identifier) c.debug-debug.ensures in
    let tree_rva = c.rva_of-tree_rva.ensures
    ∙ ap (λ (rvas : List ℕ). rva_of rvas (get_or c.args.places.now 8 None)) c.deref-3.ensures.value
    ∙ ap (rva_of layout.pieces.items) (place_is options plan c.requires.plan c.args.places.now 8 c.requires.places (omega arith)) in
    let tree = c.in_ok-tree.ensures
    ∙ ap (λ (resources : ResourcesView). tree_bytes resources c.rva_of-tree_rva.result) c.resources.ensures
    ∙ ap (tree_bytes plan.names.resources) tree_rva in
    ap (λ (exports : List ℕ). exports ∷ c.in_ok-debug_entry.debug_entry.items ∷ c.in_ok-debug_data.debug_data.items ∷ c.in_ok-tree.tree.items ∷ []) c.requires.exports
    ∙ ap (λ (bytes : List ℕ). export_table_at link layout ∷ bytes ∷ c.in_ok-debug_data.debug_data.items ∷ c.in_ok-tree.tree.items ∷ []) entry
    ∙ ap (λ (bytes : List ℕ). export_table_at link layout ∷ debug_entry_at link layout ∷ bytes ∷ c.in_ok-tree.tree.items ∷ []) rest
    ∙ ap (λ (bytes : List ℕ). export_table_at link layout ∷ debug_entry_at link layout ∷ data_bytes plan.names.debug no_identifier ∷ bytes ∷ []) tree
