use Rattle.std.proofs.Common.{List, [], ℕ, sym, ap, subst, ◌∙◌}
use Rattle.std.specs.List.{All}
use Rattle.std.proofs.lemmas.List.Elements.{All-contains}
use Rattle.std.proofs.lemmas.Option.{get_or_from_slice_get}
use Rattle.section_group.specs.declared.homes.Home.{Home}
use Rattle.section_group.specs.declared.piece.Piece.{Piece}
use Rattle.section_group.specs.SectionOrder.{rank_of, IsFirstPiece}
use Rattle.section_group.specs.Gathering.{input_of}
use Rattle.section_group.specs.Keys.{IsWithin}
use Rattle.section_group.proofs.PartLemmas.{piece_read}
use Rattle.section_group.proofs.SectionLemmas.{members_within}
use Rattle.section_group.proofs.sections.section_key.Goals as goal

pub first_piece-index-requires-clause-within : goal.first_piece-index-requires-clause-within
first_piece-index-requires-clause-within c =
    let parts = c.args.parts.now in
    subst (All (IsWithin _)) (sym c.pieces_of.ensures) (members_within (input_of parts) c.args.homes.now.keys c.args.members.now c.args.section c.requires.gathered c.requires.within)

pub bounds-parts-index : goal.bounds-parts-index
bounds-parts-index c =
    let parts = c.args.parts.now in
    let within = subst (All (IsWithin _)) (sym c.pieces_of.ensures) (members_within (input_of parts) c.args.homes.now.keys c.args.members.now c.args.section c.requires.gathered c.requires.within) in
    All-contains (IsWithin _) c.pieces_of.result.now c.first_piece-index.result within c.first_piece-index.ensures.among

pub returns-clause-key : goal.returns-clause-key
returns-clause-key c =
    let parts = c.args.parts.now in
    let input = input_of parts in
    let homes = c.args.homes.now.keys in
    let index = c.first_piece-index.result in
    let is_home = get_or_from_slice_get homes c.args.section c.index.result.now (record { name = []; attributes = 0 }) c.index.ensures in
    let within = subst (All (IsWithin _)) (sym c.pieces_of.ensures) (members_within input homes c.args.members.now c.args.section c.requires.gathered c.requires.within) in
    let in' = All-contains (IsWithin _) c.pieces_of.result.now index within c.first_piece-index.ensures.among in
    let read = sym c.index-parts-index.is ∙ piece_read input index c.index-parts-index.result in' c.index-parts-index.is in
    record {
      within = c.requires.within;
      needed = c.requires.needed;
      rank = c.rank_of.ensures ∙ ap (λ (h : Home). rank_of h.name) (sym is_home);
      first = subst (λ (pieces : List ℕ). IsFirstPiece input pieces index) c.pieces_of.ensures c.first_piece-index.ensures;
      of_module = ap (λ (p : Piece). p.module) read;
      of_number = ap (λ (p : Piece). p.number) read;
    }
