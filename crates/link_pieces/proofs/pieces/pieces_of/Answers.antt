use Rattle.std.proofs.Common.{◌≡◌, ◌<◌, ◌≤◌, ◌++◌, ℕ, List, length, map, take, sym, ap, subst, ◌∙◌, arith}
use Rattle.std.specs.List.{All, range_with_len, flat_map}
use Rattle.std.proofs.lemmas.List.{get_or_default, take_all}
use Rattle.std.proofs.lemmas.List.Elements.{All-nil}
use Rattle.section_group.specs.BarePieces.{bare}
use Rattle.section_group.specs.PieceContents.{piece_contents}
use Rattle.module_view.specs.Module.{ModuleView, no_module, module_at}
use Rattle.module_view.specs.Opening.{IsOpened}
use Rattle.link_pieces.specs.LinkParts.{LinkParts}
use Rattle.link_directives.specs.Alignments.{AreAsked}
use Rattle.link_pieces.specs.Commons.{HasFewSections}
use Rattle.link_pieces.specs.Pieces.{pieces_in, contents_in, link_pieces, link_contents}
use Rattle.link_base.proofs.RangeLemmas.{joined_grows}
use Rattle.link_pieces.proofs.PieceLemmas.{over_bare, aligned, bodies, modules_more, two_parts}
use Rattle.link_pieces.proofs.IndexLemmas.{all_placed}
use Rattle.link_pieces.specs.Rows.{HasSomePlace}
use Rattle.link_pieces.specs.LocalSlots.{slot_names}
use Rattle.link_base.specs.Limits.{MODULE_LIMIT}
use Rattle.link_imports.specs.ImportPieces.{thunk_pieces, thunk_contents}
use Rattle.link_pieces.specs.LinkerPieces.{slots_below, pointers_below, linker_pieces, linker_contents}
use Rattle.section_group.specs.declared.piece.Piece.{Piece}
use Rattle.link_pieces.proofs.pieces.pieces_of.Goals as goal

pub loop-position-init : goal.loop-position-init
loop-position-init c = record {
  pieces = ap (map bare) c.in_ok-pieces.ensures.items;
  contents = ap (map piece_contents) c.in_ok-pieces.ensures.items;
  opened = All-nil IsOpened;
  few_sections = All-nil HasFewSections;
}

pub loop-position-preserved : goal.loop-position-preserved
loop-position-preserved c =
    let link = c.args.names.now in
    let modules = c.args.modules.now in
    let k = c.loop-position.position in
    let m = c.index-modules-position.result in
    let lt : k < length modules = omega arith in
    let read = c.index-modules-position.is ∙ get_or_default modules k m no_module lt in
    let now = c.loop-position.pieces.items in
    let after = c.push_module.new.pieces.items in
    record {
      pieces = joined_grows (λ n. pieces_in link n (module_at modules n).bytes) 0 k k (map bare now) (map bare after) (pieces_in link k m.bytes) (omega arith) c.loop-position.invariant.pieces c.in_ok-push_module.ensures.pieces (ap (λ (view : ModuleView). pieces_in link k view.bytes) read);
      contents = joined_grows (λ n. contents_in link n (module_at modules n).bytes) 0 k k (map piece_contents now) (map piece_contents after) (contents_in link k m.bytes) (omega arith) c.loop-position.invariant.contents c.in_ok-push_module.ensures.contents (ap (λ (view : ModuleView). contents_in link k view.bytes) read);
      opened = modules_more IsOpened modules k m lt c.index-modules-position.is c.loop-position.invariant.opened c.in_ok-push_module.ensures.opened;
      few_sections = modules_more HasFewSections modules k m lt c.index-modules-position.is c.loop-position.invariant.few_sections c.in_ok-push_module.ensures.few_sections;
    }

all_opened : (k : ℕ) (modules : List ModuleView) (link : LinkParts) → link.modules ≡ modules → length modules ≤ k → All IsOpened (take k modules) → All IsOpened link.modules
all_opened k modules link same whole opened =
    subst (All IsOpened) (sym same) (subst (All IsOpened) (take_all k modules whole) opened)

whole_list : {A : Type 0} (list : ℕ → List ℕ → List A) (k : ℕ) (modules own : List ModuleView) → own ≡ modules → k ≡ length modules → (items : List A) → items ≡ flat_map (λ n. list n (module_at modules n).bytes) (range_with_len 0 k) → items ≡ flat_map (λ n. list n (module_at own n).bytes) (range_with_len 0 (length own))
whole_list {A} list k modules own same all items is =
    is
    ∙ ap (λ (n : ℕ). flat_map (λ n. list n (module_at modules n).bytes) (range_with_len 0 n)) all
    ∙ ap (λ (ms : List ModuleView). flat_map (λ n. list n (module_at ms n).bytes) (range_with_len 0 (length ms))) (sym same)

pub push_module-requires : goal.push_module-requires
push_module-requires c =
    subst (λ (ms : List ModuleView). AreAsked ms c.in_ok-alignments.alignments) (sym c.requires.same) c.in_ok-alignments.ensures

-- what all modules give, and what the linker makes after it
all_and_made : {A : Type 0} (list : ℕ → List ℕ → List A) (k : ℕ) (modules own : List ModuleView) → own ≡ modules → k ≡ length modules → (items one after imports slots made : List A) → items ≡ flat_map (λ n. list n (module_at modules n).bytes) (range_with_len 0 k) → one ≡ items ++ imports → after ≡ one ++ slots → imports ++ slots ≡ made → after ≡ flat_map (λ n. list n (module_at own n).bytes) (range_with_len 0 (length own)) ++ made
all_and_made {A} list k modules own same all items one after imports slots made is first second made_is =
    two_parts items one after imports slots first second
    ∙ ap (λ (xs : List A). xs ++ (imports ++ slots)) (whole_list list k modules own same all items is)
    ∙ ap (λ (xs : List A). flat_map (λ n. list n (module_at own n).bytes) (range_with_len 0 (length own)) ++ xs) made_is

pieces_whole : (link : LinkParts) (modules : List ModuleView) (k position slots : ℕ) (items one after : List Piece) → link.modules ≡ modules → k ≡ length modules → position ≡ length modules → slots ≡ length (slot_names link) → items ≡ flat_map (λ n. pieces_in link n (module_at modules n).bytes) (range_with_len 0 k) → one ≡ items ++ thunk_pieces modules → after ≡ one ++ slots_below position slots → after ≡ link_pieces link
pieces_whole link modules k position slots items one after same all at count is first second =
    all_and_made (pieces_in link) k modules link.modules same all items one after (thunk_pieces modules) (slots_below position slots) (linker_pieces link) is first second
    (ap (λ (ms : List ModuleView). thunk_pieces ms ++ slots_below position slots) (sym same)
    ∙ ap (λ (n : ℕ). thunk_pieces link.modules ++ slots_below n slots) (at ∙ sym (ap length same))
    ∙ ap (λ (n : ℕ). thunk_pieces link.modules ++ slots_below (length link.modules) n) count)

contents_whole : (link : LinkParts) (modules : List ModuleView) (k slots : ℕ) (items one after : List (List ℕ)) → link.modules ≡ modules → k ≡ length modules → slots ≡ length (slot_names link) → items ≡ flat_map (λ n. contents_in link n (module_at modules n).bytes) (range_with_len 0 k) → one ≡ items ++ thunk_contents modules → after ≡ one ++ pointers_below slots → after ≡ link_contents link
contents_whole link modules k slots items one after same all count is first second =
    all_and_made (contents_in link) k modules link.modules same all items one after (thunk_contents modules) (pointers_below slots) (linker_contents link) is first second
    (ap (λ (ms : List ModuleView). thunk_contents ms ++ pointers_below slots) (sym same)
    ∙ ap (λ (n : ℕ). thunk_contents link.modules ++ pointers_below n) count)

pub returns-clause-pieces : goal.returns-clause-pieces
returns-clause-pieces c =
    pieces_whole c.args.names.now c.args.modules.now c.loop-position.position _ c.args.slots (map bare c.loop-position.pieces.items) (map bare c.push_thunks.new.pieces.items) (map bare c.push_slots.new.pieces.items) c.requires.same (omega arith) (omega arith) c.requires.slots c.loop-position.invariant.pieces c.in_ok-push_thunks.ensures.pieces c.in_ok-push_slots.ensures.pieces

pub returns-clause-contents : goal.returns-clause-contents
returns-clause-contents c =
    contents_whole c.args.names.now c.args.modules.now c.loop-position.position c.args.slots (map piece_contents c.loop-position.pieces.items) (map piece_contents c.push_thunks.new.pieces.items) (map piece_contents c.push_slots.new.pieces.items) c.requires.same (omega arith) c.requires.slots c.loop-position.invariant.contents c.in_ok-push_thunks.ensures.contents c.in_ok-push_slots.ensures.contents

pub returns-clause-aligned : goal.returns-clause-aligned
returns-clause-aligned c =
    aligned c.args.names.now c.push_slots.new.pieces.items (all_opened c.loop-position.position c.args.modules.now c.args.names.now c.requires.same (omega arith) c.loop-position.invariant.opened)
    (pieces_whole c.args.names.now c.args.modules.now c.loop-position.position _ c.args.slots (map bare c.loop-position.pieces.items) (map bare c.push_thunks.new.pieces.items) (map bare c.push_slots.new.pieces.items) c.requires.same (omega arith) (omega arith) c.requires.slots c.loop-position.invariant.pieces c.in_ok-push_thunks.ensures.pieces c.in_ok-push_slots.ensures.pieces)

pub returns-clause-bodies : goal.returns-clause-bodies
returns-clause-bodies c = λ k lt.
    bodies c.args.names.now c.push_slots.new.pieces.items (all_opened c.loop-position.position c.args.modules.now c.args.names.now c.requires.same (omega arith) c.loop-position.invariant.opened)
    (pieces_whole c.args.names.now c.args.modules.now c.loop-position.position _ c.args.slots (map bare c.loop-position.pieces.items) (map bare c.push_thunks.new.pieces.items) (map bare c.push_slots.new.pieces.items) c.requires.same (omega arith) (omega arith) c.requires.slots c.loop-position.invariant.pieces c.in_ok-push_thunks.ensures.pieces c.in_ok-push_slots.ensures.pieces)
    (contents_whole c.args.names.now c.args.modules.now c.loop-position.position c.args.slots (map piece_contents c.loop-position.pieces.items) (map piece_contents c.push_thunks.new.pieces.items) (map piece_contents c.push_slots.new.pieces.items) c.requires.same (omega arith) c.requires.slots c.loop-position.invariant.contents c.in_ok-push_thunks.ensures.contents c.in_ok-push_slots.ensures.contents)
    k lt

pub returns-clause-opened : goal.returns-clause-opened
returns-clause-opened c =
    subst (All IsOpened) (take_all c.loop-position.position c.args.modules.now (omega arith)) c.loop-position.invariant.opened

pub returns-clause-placed : goal.returns-clause-placed
returns-clause-placed c =
    let link = c.args.names.now in
    let modules = c.args.modules.now in
    let same = c.requires.same in
    let slots = c.args.slots in
    let few = subst (All HasFewSections) (sym same) (subst (All HasFewSections) (take_all c.loop-position.position modules (omega arith)) c.loop-position.invariant.few_sections) in
    let pieces = c.push_slots.new.pieces.items in
    let are =
    pieces_whole link modules c.loop-position.position _ slots (map bare c.loop-position.pieces.items) (map bare c.push_thunks.new.pieces.items) (map bare pieces) same (omega arith) (omega arith) c.requires.slots c.loop-position.invariant.pieces c.in_ok-push_thunks.ensures.pieces c.in_ok-push_slots.ensures.pieces in
    let limit : length link.modules ≤ MODULE_LIMIT = omega (arith, ap length same, c.requires.few) in
    subst (λ (ms : List ModuleView). All (λ (piece : Piece). HasSomePlace ms slots piece.«module» piece.number) pieces) same
    (over_bare (λ (piece : Piece). HasSomePlace link.modules slots piece.«module» piece.number) pieces
    (subst (All (λ (piece : Piece). HasSomePlace link.modules slots piece.«module» piece.number)) (sym are)
    (all_placed link slots c.requires.slots limit c.requires.few_slots few)))
