use Rattle.std.proofs.Common.{List, [], ℕ, sym, ap, subst, bit_or, ◌∙◌}
use Rattle.std.specs.List.{All}
use Rattle.std.specs.List.Sorted.{IsPermutation}
use Rattle.std.proofs.lemmas.Option.{get_or_from_slice_get}
use Rattle.std.proofs.lemmas.List.Sorted.{All-permutation}
use Rattle.section_group.specs.declared.homes.Home.{Home}
use Rattle.section_group.specs.Gathering.{input_of}
use Rattle.section_group.specs.Keys.{IsWithin}
use Rattle.section_group.specs.Placement.{content_flags}
use Rattle.section_group.proofs.SectionLemmas.{members_within}
use Rattle.section_group.proofs.sections.build_section.Goals as goal

pub order_pieces-requires-clause-within : goal.order_pieces-requires-clause-within
order_pieces-requires-clause-within c =
    let parts = c.args.parts.now in
    subst (All (IsWithin _)) (sym c.pieces_of.ensures) (members_within (input_of parts) c.args.homes.now.keys c.args.members.now c.args.section c.requires.gathered c.requires.within)

pub content_flags-requires : goal.content_flags-requires
content_flags-requires c =
    let parts = c.args.parts.now in
    let moved = c.in_ok-pieces.ensures.permutation in
    let before = subst (All (IsWithin _)) (sym c.pieces_of.ensures) (members_within (input_of parts) c.args.homes.now.keys c.args.members.now c.args.section c.requires.gathered c.requires.within) in
    subst (All (IsWithin _)) (sym c.deref.ensures.value) (All-permutation (IsWithin _) c.pieces_of.result.now c.in_ok-pieces.pieces.items moved before)

pub returns : goal.returns
returns c =
    let input = input_of c.args.parts.now in
    let home = c.index-home.result.now in
    let pieces = c.in_ok-pieces.pieces.items in
    let is_home = get_or_from_slice_get c.args.homes.now.keys c.args.section home (record { name = []; attributes = 0 }) c.index-home.ensures in
    record {
      named = c.again.ensures ∙ ap (λ (h : Home). h.name) (sym is_home);
      permutation = subst (λ (members : List ℕ). IsPermutation members pieces) c.pieces_of.ensures c.in_ok-pieces.ensures.permutation;
      ascending = c.in_ok-pieces.ensures.ascending;
      flags = ap (bit_or home.attributes) (c.content_flags.ensures ∙ ap (content_flags input) c.deref.ensures.value) ∙ ap (λ (h : Home). bit_or h.attributes (content_flags input pieces)) (sym is_home);
    }
