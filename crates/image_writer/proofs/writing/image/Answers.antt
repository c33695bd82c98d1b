use Rattle.std.proofs.Common.{◌<◌, ◌++◌, ℕ, List, length, map, sym, ap, ◌∙◌, subst}
use Rattle.section_group.specs.Uniqueness.{rows_of}
use Rattle.image_writer.specs.declared.headers.SectionHeader.{SectionHeader}
use Rattle.image_writer.specs.HeaderTable.{header_table, size_of_code, size_of_initialized_data, size_of_uninitialized_data}
use Rattle.image_writer.specs.ExpectedImage.{PlacedBytes, raw_bytes, image_file}
use Rattle.section_group.specs.PieceContents.{piece_contents}
use Rattle.image_writer.specs.WrittenImage.{section_rows, at_each_base, written_plan}
use Rattle.image_writer.specs.RawData.{laid_all}
use Rattle.std.specs.List.{flat_map}
use Rattle.image_writer.proofs.LaidOutLemmas.{have_room}
use Rattle.image_writer.proofs.PlanBytes.{written_bytes}
use Rattle.image_writer.proofs.TableLemmas.{all_raw_here, few_rows, code_small, initialized_small, uninitialized_small}
use Rattle.image_writer.proofs.writing.image.Goals as goal

pub push_headers-requires-clause-few : goal.push_headers-requires-clause-few
push_headers-requires-clause-few c =
    let table = c.deref-2.ensures.value ∙ c.in_ok-table.ensures ∙ ap (section_rows (rows_of c.args.sections.now)) c.deref.ensures.value in
    subst (λ (rows : List SectionHeader). length rows < 65536) (sym table) (few_rows c.args.pieces.now c.args.sections.now c.args.layout.now c.requires.laid_out)

pub push_headers-requires-clause-code : goal.push_headers-requires-clause-code
push_headers-requires-clause-code c =
    let table = c.deref-2.ensures.value ∙ c.in_ok-table.ensures ∙ ap (section_rows (rows_of c.args.sections.now)) c.deref.ensures.value in
    subst (λ (rows : List SectionHeader). size_of_code rows < 4294967296) (sym table) (code_small c.args.pieces.now c.args.sections.now c.args.layout.now (map piece_contents c.args.pieces.now) c.requires.laid_out (have_room c.args.pieces.now c.args.sections.now c.requires.contents))

pub push_headers-requires-clause-initialized : goal.push_headers-requires-clause-initialized
push_headers-requires-clause-initialized c =
    let table = c.deref-2.ensures.value ∙ c.in_ok-table.ensures ∙ ap (section_rows (rows_of c.args.sections.now)) c.deref.ensures.value in
    subst (λ (rows : List SectionHeader). size_of_initialized_data rows < 4294967296) (sym table) (initialized_small c.args.pieces.now c.args.sections.now c.args.layout.now (map piece_contents c.args.pieces.now) c.requires.laid_out (have_room c.args.pieces.now c.args.sections.now c.requires.contents))

pub push_headers-requires-clause-uninitialized : goal.push_headers-requires-clause-uninitialized
push_headers-requires-clause-uninitialized c =
    let table = c.deref-2.ensures.value ∙ c.in_ok-table.ensures ∙ ap (section_rows (rows_of c.args.sections.now)) c.deref.ensures.value in
    subst (λ (rows : List SectionHeader). size_of_uninitialized_data rows < 4294967296) (sym table) (uninitialized_small c.args.pieces.now c.args.sections.now c.args.layout.now (map piece_contents c.args.pieces.now) c.requires.laid_out (have_room c.args.pieces.now c.args.sections.now c.requires.contents))

pub returns : goal.returns
unfolding image_file written_plan
returns c =
    let sections = c.args.sections.now in
    let layout = c.args.layout.now in
    let table = c.deref-2.ensures.value ∙ c.in_ok-table.ensures ∙ ap (section_rows (rows_of sections)) c.deref.ensures.value in
    let contents = map piece_contents c.args.pieces.now in
    let whole = all_raw_here c.args.pieces.now sections layout contents c.requires.laid_out (have_room c.args.pieces.now sections c.requires.contents) in
    let own = written_bytes c.args.headers.now (rows_of sections) layout.sections.items layout.pieces.items layout.image (at_each_base contents) c.args.headers.now.base in
    let raw = laid_all layout.pieces.items (map piece_contents c.args.pieces.now) (rows_of sections) layout.sections.items in
    let front = c.in_ok-push_headers.ensures ∙ ap (λ (xs : List ℕ). xs ++ header_table c.args.headers.now c.deref-2.result.now layout.image) c.in_ok-out.ensures.items in
    c.in_ok-push_sections.ensures
    ∙ ap (λ (xs : List ℕ). xs ++ raw) (front ∙ ap (λ (rows : List SectionHeader). header_table c.args.headers.now rows layout.image) table)
    ∙ ap (λ (xs : List ℕ). header_table c.args.headers.now (section_rows (rows_of sections) layout.sections.items) layout.image ++ xs) (whole ∙ ap (λ (ps : List PlacedBytes). flat_map (raw_bytes ps) (section_rows (rows_of sections) layout.sections.items)) (sym own))
