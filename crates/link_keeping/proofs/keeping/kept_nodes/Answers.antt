use Rattle.std.proofs.Common.{◌≡◌, ℕ, ◌||◌, Bool, false, List, ◌++◌, length, take, get_or, ap, sym, subst, ◌∙◌, arith}
use Rattle.std.specs.List.{All, list_any, range_with_len}
use Rattle.std.proofs.Math.Bool.{or_assoc}
use Rattle.std.proofs.Math.Seq.{take-append_seam}
use Rattle.std.proofs.lemmas.List.{length-map, length-append, length-take}
use Rattle.section_group.specs.BarePieces.{bare}
use Rattle.module_view.proofs.CallerLemmas.{unmarked}
use Rattle.link_words.specs.Outcome.{options_said}
use Rattle.link_folding.specs.Places.{standing}
use Rattle.link_keeping.specs.Reach.{child_edges, named_nodes}
use Rattle.link_keeping.specs.Named.{leads_there, LeadsWithin, is_at, is_named_at}
use Rattle.link_keeping.specs.Standing.{FoldsTo}
use Rattle.link_fields.specs.Fixes.{HasSameEdges, field_edges}
use Rattle.link_fields.proofs.EdgeLemmas.{same_append, all_same, any_same}
use Rattle.link_keeping.proofs.StandingLemmas.{places_few}
use Rattle.link_keeping.proofs.keeping.kept_nodes.Goals as goal

pub standing-requires : goal.standing-requires
standing-requires c =
    let link = c.args.names.now in
    let reached =
    c.in_ok-reached.ensures (options_said c.args.options.now) link c.drops.ensures
    (omega (arith, c.in_ok-graph.ensures.count, length-map c.args.pieces.now bare, ap length c.requires.pieces, ap length c.requires.same))
    (subst (HasSameEdges (field_edges link ++ child_edges link)) (sym (c.in_ok-graph.ensures.edges link c.requires.same c.requires.pieces c.requires.indexed))
    (same_append (field_edges link) c.args.edges.items (child_edges link) c.requires.edges))
    (c.deref.ensures.value ∙ c.in_ok-push_roots.ensures) in
    omega (arith, reached.for_each, ap length c.deref-3.ensures.value, c.requires.few, c.requires.few_modules, ap length c.requires.same, length-map c.args.pieces.now bare, ap length c.requires.pieces)

pub slice_bounds-mark_meant-end : goal.slice_bounds-mark_meant-end
slice_bounds-mark_meant-end c =
    let link = c.args.names.now in
    let grown = c.in_ok-graph.ensures.edges link c.requires.same c.requires.pieces c.requires.indexed in
    omega (arith, c.len-fields.ensures, c.args.edges.ok.0, ap length c.deref-5.ensures.value, ap length grown, length-append c.args.edges.items (child_edges link), length-take c.len-fields.result c.deref-5.result.now)

pub mark_shared-requires : goal.mark_shared-requires
mark_shared-requires c =
    let link = c.args.names.now in
    omega (arith, ap length c.deref-10.ensures.value, places_few (options_said c.args.options.now).icf link c.deref-2.result.now c.in_ok-place_of.place_of.items c.in_ok-place_of.ensures, c.requires.few, length-map c.args.pieces.now bare, ap length c.requires.pieces)

pub returns-clause-kept : goal.returns-clause-kept
returns-clause-kept c =
    let options = options_said c.args.options.now in
    let link = c.args.names.now in
    let reached = c.in_ok-reached.reached.items in
    let places = c.in_ok-place_of.place_of.items in
    record {
      reached = reached;
      reached_are = c.in_ok-reached.ensures options link c.drops.ensures
          (omega (arith, c.in_ok-graph.ensures.count, length-map c.args.pieces.now bare, ap length c.requires.pieces, ap length c.requires.same))
          (subst (HasSameEdges (field_edges link ++ child_edges link)) (sym (c.in_ok-graph.ensures.edges link c.requires.same c.requires.pieces c.requires.indexed))
          (same_append (field_edges link) c.args.edges.items (child_edges link) c.requires.edges))
          (c.deref.ensures.value ∙ c.in_ok-push_roots.ensures);
      places_are = subst (λ (flags : List Bool). FoldsTo options.icf link flags places) c.deref-2.ensures.value c.in_ok-place_of.ensures;
      kept_are = c.in_ok-kept.ensures ∙ ap (λ (flags : List Bool). standing flags c.deref-4.result.now) c.deref-3.ensures.value ∙ ap (standing reached) c.deref-4.ensures.value;
    }

pub returns-clause-meant : goal.returns-clause-meant
returns-clause-meant c = λ k lt.
    let options = options_said c.args.options.now in
    let link = c.args.names.now in
    let kept = c.in_ok-kept.kept.items in
    let places = c.in_ok-place_of.place_of.items in
    let edges = take c.len-fields.result c.deref-5.result.now in
    let nodes = take c.len-named.result c.deref-8.result.now in
    let fields : edges ≡ c.args.edges.items =
    ap (λ (n : ℕ). take n c.deref-5.result.now) (c.len-fields.ensures ∙ c.args.edges.ok.0)
    ∙ ap (take (length c.args.edges.items)) (c.deref-5.ensures.value ∙ c.in_ok-graph.ensures.edges link c.requires.same c.requires.pieces c.requires.indexed)
    ∙ take-append_seam c.args.edges.items (child_edges link) in
    let named : nodes ≡ named_nodes options link =
    ap (λ (n : ℕ). take n c.deref-8.result.now) (c.len-named.ensures ∙ c.in_ok-roots.roots.ok.0 ∙ ap length c.in_ok-roots.ensures)
    ∙ ap (take (length (named_nodes options link))) (c.deref-8.ensures.value ∙ c.in_ok-push_roots.ensures)
    ∙ take-append_seam (named_nodes options link) _ in
    let led = list_any (leads_there kept places k) (field_edges link) in
    let sought = list_any (is_at places k) (named_nodes options link) in
    c.mark_shared.ensures.marked k link c.requires.pieces (omega (arith, lt, c.in_ok-meant.ensures.len, c.mark_meant-no_import.ensures.len, c.mark_nodes.ensures.len))
    ∙ ap (λ (ps : List ℕ). get_or c.mark_nodes.new.meant.items k false || list_any (is_named_at link ps k) (range_with_len 0 (length ps))) c.deref-10.ensures.value
    ∙ ap (λ (b : Bool). b || list_any (is_named_at link places k) (range_with_len 0 (length places)))
    (c.mark_nodes.ensures.marked k (omega (arith, lt, c.in_ok-meant.ensures.len, c.mark_meant-no_import.ensures.len))
    ∙ ap (λ (ps : List ℕ). get_or c.mark_meant-no_import.new.meant.items k false || list_any (is_at ps k) nodes) c.deref-9.ensures.value
    ∙ ap (λ (ns : List ℕ). get_or c.mark_meant-no_import.new.meant.items k false || list_any (is_at places k) ns) named
    ∙ ap (λ (b : Bool). b || sought)
    (c.mark_meant-no_import.ensures.marked k (omega (arith, lt, c.in_ok-meant.ensures.len))
    ∙ ap (λ (b : Bool). b || list_any (leads_there c.deref-6.result.now c.deref-7.result.now k) edges) (unmarked c.in_ok-meant.meant.items _ k (c.in_ok-meant.ensures.items_if_clones_equal (λ y e. e)))
    ∙ ap (λ (flags : List Bool). list_any (leads_there flags c.deref-7.result.now k) edges) c.deref-6.ensures.value
    ∙ ap (λ (ps : List ℕ). list_any (leads_there kept ps k) edges) c.deref-7.ensures.value
    ∙ ap (list_any (leads_there kept places k)) fields
    ∙ any_same (leads_there kept places k) (field_edges link) c.args.edges.items c.requires.edges))
    ∙ or_assoc led sought (list_any (is_named_at link places k) (range_with_len 0 (length places)))

pub returns-clause-no_import : goal.returns-clause-no_import
returns-clause-no_import c = λ none.
    let link = c.args.names.now in
    let kept = c.in_ok-kept.kept.items in
    let edges = take c.len-fields.result c.deref-5.result.now in
    let fields : edges ≡ c.args.edges.items =
    ap (λ (n : ℕ). take n c.deref-5.result.now) (c.len-fields.ensures ∙ c.args.edges.ok.0)
    ∙ ap (take (length c.args.edges.items)) (c.deref-5.ensures.value ∙ c.in_ok-graph.ensures.edges link c.requires.same c.requires.pieces c.requires.indexed)
    ∙ take-append_seam c.args.edges.items (child_edges link) in
    let count : length c.in_ok-meant.meant.items ≡ length c.args.pieces.now = omega (arith, c.in_ok-meant.ensures.len) in
    all_same (LeadsWithin kept (length c.args.pieces.now)) (field_edges link) c.args.edges.items c.requires.edges
    (subst (All (LeadsWithin kept (length c.args.pieces.now))) fields
    (subst (λ (n : ℕ). All (LeadsWithin kept n) edges) count
    (subst (λ (flags : List Bool). All (LeadsWithin flags (length c.in_ok-meant.meant.items)) edges) c.deref-6.ensures.value
    (c.mark_meant-no_import.ensures.within none))))
