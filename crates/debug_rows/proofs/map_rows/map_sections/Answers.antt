use Rattle.std.proofs.Common.{◌≡◌, List, get_or, ap, ◌∙◌, arith}
use Rattle.std.proofs.lemmas.List.{get_or_read, length-map}
use Rattle.section_group.specs.Uniqueness.{SectionRow, row_of, rows_of}
use Rattle.debug_rows.specs.Contributions.{no_place}
use Rattle.debug_rows.specs.MapLists.{section_at, map_section, map_sections_of}
use Rattle.debug_rows.proofs.ListLemmas.{mapped_read, mapped_whole, mapped_grows}
use Rattle.debug_rows.proofs.map_rows.map_sections.Goals as goal

pub loop-index-preserved : goal.loop-index-preserved
loop-index-preserved c =
    let places = c.args.layout.now.sections.items in
    let sections = c.args.sections.now in
    let section = c.index-sections-index.result in
    let i = c.loop-index.index in
    let place : c.index.result.now ≡ get_or places i no_place = get_or_read places i c.index.result.now (omega (arith, c.loop-index-test.true, c.requires)) c.index.ensures no_place in
    mapped_grows (map_section places) i (rows_of sections) (row_of section) c.section_at.result c.loop-index.rows.items c.push.new.self.items (omega (arith, length-map sections row_of)) (mapped_read row_of sections i section c.index-sections-index.is) (c.section_at.ensures ∙ ap (section_at (row_of section)) place) c.loop-index.invariant c.in_ok-push.ensures.items

pub returns : goal.returns
returns c =
    c.loop-index.invariant
    ∙ ap (λ (rows : List SectionRow). map_sections_of c.args.layout.now.sections.items rows) (mapped_whole row_of c.args.sections.now c.loop-index.index (omega arith))
