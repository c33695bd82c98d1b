use Rattle.std.proofs.Common.{◌<◌, ℕ, List, Option, Vec, None, length, get_or, sym, ap, subst, ◌∙◌}
use Rattle.std.specs.declared.alloc.Global.{Global}
use Rattle.std.proofs.lemmas.Result.{IfOk-weaker}
use Rattle.section_group.specs.declared.key.SectionKey.{SectionKey}
use Rattle.section_group.specs.declared.piece.OutSection.{OutSection}
use Rattle.section_group.specs.Placement.{IsGrouping}
use Rattle.section_group.specs.Gathering.{input_of, AreMembers}
use Rattle.section_group.specs.Sections.{Gathers, OrdersSections, AreBuilt}
use Rattle.section_group.proofs.MemberLemmas.{numbers_within, gathers}
use Rattle.section_group.proofs.GroupingLemmas.{is_grouping}
use Rattle.section_group.proofs.grouping.sections_of.Goals as goal

pub distribute-requires-clause-within : goal.distribute-requires-clause-within
distribute-requires-clause-within c = λ k number e.
    let input = input_of c.args.parts.now in
    let homes = c.in_ok-numbered.numbered.homes.keys in
    let read = ap (λ (ns : List (Option ℕ)). get_or ns k None) (sym c.deref.ensures.value) ∙ e in
    let lt = numbers_within input homes (length c.args.parts.now.pieces.now) c.in_ok-numbered.numbered.numbers.items c.in_ok-numbered.ensures.numbers k number read in
    subst (λ (n : ℕ). number < n) (sym c.len.ensures.len) lt

pub build_sections-requires : goal.build_sections-requires
build_sections-requires c =
    let input = input_of c.args.parts.now in
    let homes = c.in_ok-numbered.numbered.homes.keys in
    let numbers = c.in_ok-numbered.numbered.numbers.items in
    let members = c.in_ok-members.members.items in
    let given = subst (λ (ns : List (Option ℕ)). AreMembers ns (length ns) (length homes) members) c.deref.ensures.value (subst (λ (n : ℕ). AreMembers c.deref.result.now (length c.deref.result.now) n members) c.len.ensures.len c.in_ok-members.ensures) in
    subst (Gathers input homes) (sym c.deref-2.ensures.value) (gathers input homes numbers members c.in_ok-numbered.ensures.numbers given c.in_ok-numbered.ensures.distinct)

pub returns : goal.returns
returns c =
    let input = input_of c.args.parts.now in
    let homes = c.in_ok-numbered.numbered.homes.keys in
    let numbers = c.in_ok-numbered.numbered.numbers.items in
    let members = c.in_ok-members.members.items in
    let given = subst (λ (ns : List (Option ℕ)). AreMembers ns (length ns) (length homes) members) c.deref.ensures.value (subst (λ (n : ℕ). AreMembers c.deref.result.now (length c.deref.result.now) n members) c.len.ensures.len c.in_ok-members.ensures) in
    let gathered = subst (Gathers input homes) (sym c.deref-2.ensures.value) (gathers input homes numbers members c.in_ok-numbered.ensures.numbers given c.in_ok-numbered.ensures.distinct) in
    IfOk-weaker c.build_sections.result (λ (sections : Vec OutSection Global). (keys : List SectionKey) × OrdersSections input homes c.deref-2.result.now keys × AreBuilt input homes c.deref-2.result.now keys (length keys) sections.items) (λ sections. IsGrouping input sections.items)
    (λ sections h. is_grouping input homes c.deref-2.result.now h.0 sections.items gathered h.1 h.2)
    c.build_sections.ensures
