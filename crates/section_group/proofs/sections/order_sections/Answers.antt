use Rattle.std.proofs.Common.{◌+◌, ◌<◌, ◌≤◌, length, Vec, sym, ap, subst, arith, ◌∙◌}
use Rattle.std.specs.List.{All, list_any}
use Rattle.std.specs.declared.alloc.Global.{Global}
use Rattle.section_group.specs.declared.key.SectionKey.{SectionKey}
use Rattle.section_group.specs.Placement.{needs_place}
use Rattle.section_group.specs.Gathering.{input_of}
use Rattle.section_group.specs.Keys.{IsWithin}
use Rattle.section_group.specs.Sections.{AreKeys}
use Rattle.section_group.proofs.SectionLemmas.{members_within}
use Rattle.section_group.proofs.OrderedLemmas.{keys_begin, keys_more, keys_skip, keys_ordered}
use Rattle.section_group.proofs.sections.order_sections.Goals as goal
use Rattle.section_group.proofs.sections.order_sections.Goals.{then-is_needed+in_ok-push, else-is_needed}

pub is_needed-requires : goal.is_needed-requires
is_needed-requires c =
    let lt : c.loop-section.section < length c.args.homes.now.keys = omega (arith, c.requires.same_length) in
    subst (All (IsWithin _)) (sym c.pieces_of.ensures) (members_within (input_of c.args.parts.now) c.args.homes.now.keys c.args.members.now c.loop-section.section c.requires lt)

pub loop-section-init : goal.loop-section-init
loop-section-init c =
    let input = input_of c.args.parts.now in
    subst (AreKeys input c.args.homes.now.keys c.args.members.now 0) (sym c.in_ok-keys.ensures.items) (keys_begin input c.args.homes.now.keys c.args.members.now)

pub loop-section-preserved : goal.loop-section-preserved
loop-section-preserved c =
    let input = input_of c.args.parts.now in
    let homes = c.args.homes.now.keys in
    let members = c.args.members.now in
    let i = c.loop-section.section in
    let keys = c.loop-section.keys.items in
    let test = c.is_needed.ensures ∙ ap (list_any (needs_place input)) c.pieces_of.ensures in
    elim c.if-is_needed.branch [
      | then-is_needed+in_ok-push w ↦
          subst (λ (v : Vec SectionKey Global). AreKeys input homes members (i + 1) v.items) (sym w.keys-is)
          (subst (AreKeys input homes members (i + 1)) (sym w.in_ok-push.ensures.items)
          (keys_more input homes members i keys w.section_key.result c.loop-section.invariant (sym test ∙ w.if-is_needed.true) w.section_key.ensures.key w.section_key.ensures.section))
      | else-is_needed w ↦
          subst (λ (v : Vec SectionKey Global). AreKeys input homes members (i + 1) v.items) (sym w.keys-is)
          (keys_skip input homes members i keys c.loop-section.invariant (sym test ∙ w.if-is_needed.false))
    ]

pub returns : goal.returns
returns c =
    let input = input_of c.args.parts.now in
    let all : length c.args.homes.now.keys ≤ c.loop-section.section = omega (arith, c.requires.same_length) in
    keys_ordered input c.args.homes.now.keys c.args.members.now c.loop-section.section c.loop-section.keys.items c.sort_keys.new.keys.items c.loop-section.invariant all c.sort_keys.ensures.permutation c.sort_keys.ensures.sorted
