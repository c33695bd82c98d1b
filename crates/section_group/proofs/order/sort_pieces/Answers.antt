use Rattle.std.proofs.Common.{◌≡◌, ◌∙◌, map, ap, Vec, ℕ, List}
use Rattle.std.specs.declared.alloc.Global.{Global}
use Rattle.std.specs.List.{AllPairs}
use Rattle.std.specs.List.Sorted.{IsPermutation}
use Rattle.std.specs.Bool.{IsTrue}
use Rattle.std.specs.Ordering.{is_lt}
use Rattle.std.proofs.lemmas.Result.{IfOk-weaker}
use Rattle.section_group.specs.declared.key.PieceKey.{PieceKey}
use Rattle.section_group.specs.SectionOrder.{inside_cmp}
use Rattle.section_group.specs.Gathering.{input_of}
use Rattle.section_group.proofs.KeyLemmas.{ordered_permutation, ordered_ascends}
use Rattle.section_group.proofs.order.sort_pieces.Goals as goal

abbrev Indexes : List PieceKey → Vec ℕ Global → Type 0
Indexes keys v = v.items ≡ map (λ (key : PieceKey). key.index) keys

pub returns-clause-permutation : goal.returns-clause-permutation
returns-clause-permutation c =
    let members = c.args.members.now in
    let keys = c.in_ok-keys.keys.items in
    let read = ap (map (λ (key : PieceKey). key.index)) c.deref.ensures.value in
    IfOk-weaker c.indexes_of.result (Indexes c.deref.result.now) (λ ordered. IsPermutation members ordered.items)
    (λ ordered is. ordered_permutation (input_of c.args.parts.now) members ordered.items keys c.sort_keys.new.keys.items c.in_ok-keys.ensures c.sort_keys.ensures.permutation (is ∙ read))
    c.indexes_of.ensures

pub returns-clause-ascending : goal.returns-clause-ascending
returns-clause-ascending c =
    let members = c.args.members.now in
    let keys = c.in_ok-keys.keys.items in
    let read = ap (map (λ (key : PieceKey). key.index)) c.deref.ensures.value in
    IfOk-weaker c.indexes_of.result (Indexes c.deref.result.now) (λ ordered. AllPairs (λ j k. IsTrue (is_lt (inside_cmp (input_of c.args.parts.now) j k))) ordered.items)
    (λ ordered is. ordered_ascends (input_of c.args.parts.now) members ordered.items keys c.sort_keys.new.keys.items c.in_ok-keys.ensures c.sort_keys.ensures.permutation c.sort_keys.ensures.sorted (is ∙ read) c.requires.distinct)
    c.indexes_of.ensures
