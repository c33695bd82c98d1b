use Rattle.std.proofs.Common.{◌≡◌, ◌<◌, ◌&&◌, ℕ, List, Bool, cond, eqb, length, get_or, replicate, sym, ap, subst, ◌∙◌, arith}
use Rattle.std.specs.List.{All, list_any}
use Rattle.std.proofs.lemmas.List.{length-map}
use Rattle.section_group.specs.declared.piece.OutSection.{OutSection}
use Rattle.image_writer.proofs.LaidOutLemmas.{all_here}
use Rattle.section_group.specs.Uniqueness.{row_of, rows_of}
use Rattle.piece_bytes.specs.Owners.{row_holds}
use Rattle.piece_bytes.proofs.OwnerLemmas.{owner_none, owner_more, owners_are, members_read}
use Rattle.piece_bytes.proofs.owners.owners_of.Goals as goal

pub loop-i-init : goal.loop-i-init
loop-i-init c =
    let sections = c.args.sections.now in
    let count : length (rows_of sections) ≡ length sections = length-map sections row_of in
    record {
      same_length = omega (arith, c.in_ok-owner.ensures.len);
      noted = λ k lt. owner_none (rows_of sections) c.args.count k c.in_ok-owner.owner.items (c.in_ok-owner.ensures.items_if_clones_equal (λ y e. e) ∙ ap (replicate c.args.count) (sym count)) lt;
    }

pub note_members-requires-clause-within : goal.note_members-requires-clause-within
note_members-requires-clause-within c =
    let sections = c.args.sections.now in
    let i = c.loop-i.i in
    let section = c.index-sections-i.result in
    let within = all_here (λ k. k < c.args.count) sections i section (omega arith) c.index-sections-i.is c.requires.within in
    let here : All (λ k. k < length c.loop-i.owner.items) (get_or sections i section).pieces.items =
    subst (λ (s : OutSection). All (λ k. k < length c.loop-i.owner.items) s.pieces.items) c.index-sections-i.is (subst (λ (n : ℕ). All (λ k. k < n) section.pieces.items) (sym c.loop-i.invariant.same_length) within) in
    subst (λ (xs : List ℕ). All (λ k. k < length c.loop-i.owner.items) xs) (sym c.deref.ensures.value) here

pub loop-i-preserved : goal.loop-i-preserved
loop-i-preserved c =
    let sections = c.args.sections.now in
    let count : length (rows_of sections) ≡ length sections = length-map sections row_of in
    record {
      same_length = c.note_members.ensures.len ∙ c.loop-i.invariant.same_length;
      noted = λ k lt.
          let i = c.loop-i.i in
          let old : ℕ = get_or c.loop-i.owner.items k 0 in
          let section = c.index-sections-i.result in
          owner_more (rows_of sections) c.loop-i.i k (get_or c.loop-i.owner.items k 0) (get_or c.note_members.new.owner.items k 0) (omega (arith, count)) (c.loop-i.invariant.noted k lt)
          (c.note_members.ensures.noted k
          ∙ ap (λ (xs : List ℕ). cond (list_any (λ m. eqb m k) xs && eqb old (length sections)) i old) c.deref.ensures.value
          ∙ ap (λ (s : OutSection). cond (list_any (λ m. eqb m k) s.pieces.items && eqb old (length sections)) i old) (sym c.index-sections-i.is)
          ∙ ap (λ (b : Bool). cond (b && eqb old (length sections)) i old) (members_read sections i k section (omega arith) c.index-sections-i.is)
          ∙ ap (λ (n : ℕ). cond (row_holds (rows_of sections) k i && eqb old n) i old) (sym count));
    }

pub returns : goal.returns
returns c =
    let sections = c.args.sections.now in
    let count : length (rows_of sections) ≡ length sections = length-map sections row_of in
    owners_are (rows_of sections) c.args.count c.loop-i.i c.loop-i.owner.items c.loop-i.invariant.same_length (omega (arith, count)) c.loop-i.invariant.noted
