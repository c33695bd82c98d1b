use Rattle.std.proofs.Common.{◌≡◌, ℕ, List, Some, None, length, sym, ap, ◌∙◌, subst}
use Rattle.std.specs.Prelude.{codes}
use Rattle.std.specs.List.{flat_map}
use Rattle.section_group.specs.declared.piece.Piece.{Piece}
use Rattle.section_group.specs.declared.piece.OutSection.{OutSection}
use Rattle.section_group.specs.Uniqueness.{rows_of}
use Rattle.address_layout.specs.Places.{row_at}
use Rattle.pdata_table.specs.Rows.{HasWholeRows, sorted_table}
use Rattle.pdata_table.specs.SortedContents.{joined, sorted_contents}
use Rattle.link_plan.specs.Plan.{kept_parts}
use Rattle.link_image.specs.NamedSections.{section_named}
use Rattle.link_image.specs.LinkedBytes.{linked_contents}
use Rattle.piece_bytes.specs.PieceBytes.{bytes_of_piece, written}
use Rattle.link_image.specs.Steps.{file_of, reloc_tables}
use Rattle.pdata_table.proofs.CallerLemmas.{length_sorted}
use Rattle.link_image.proofs.SortLemmas.{written_back}
use Rattle.link_image.proofs.SortedFile.{nothing_sorted, table_section, members_read}
use Rattle.link_image.proofs.pdata.sort_pdata.Goals as goal

pub returns-in_default : goal.returns-in_default
returns-in_default c =
    let sections = c.args.placement.now.sections.items in
    let layout = c.args.placement.now.layout in
    let headers = c.args.headers.now in
    let none : section_named (rows_of sections) (codes ".pdata") ≡ None =
    ap (λ (ss : List OutSection). section_named (rows_of ss) (codes ".pdata")) (sym c.deref.ensures.value) ∙ sym c.section_named.ensures.named ∙ c.in_default.is in
    c.requires.file
    ∙ ap (λ (cs : List (List ℕ)). file_of headers sections layout cs (reloc_tables c.args.placement.now.table))
    (sym (nothing_sorted (rows_of sections) (linked_contents (kept_parts c.args.plan.now) (rows_of sections) layout headers.base) none))

pub read_pieces-requires-clause-lie : goal.read_pieces-requires-clause-lie
read_pieces-requires-clause-lie c =
    let sections = c.args.placement.now.sections.items in
    let i = c.in-Some.section in
    let named : section_named (rows_of sections) (codes ".pdata") ≡ Some i =
    ap (λ (ss : List OutSection). section_named (rows_of ss) (codes ".pdata")) (sym c.deref.ensures.value) ∙ sym c.section_named.ensures.named ∙ c.in-Some.is in
    let at = table_section (kept_parts c.args.plan.now) c.args.plan.now.pieces.items c.args.plan.now.fixes.items sections c.args.placement.now.layout c.args.owner.now (reloc_tables c.args.placement.now.table) c.requires.ready c.args.headers.now c.requires.directories i named in
    let members = c.deref-4.ensures.value ∙ ap (λ (s : OutSection). s.pieces.items) c.index.ensures ∙ members_read sections i c.index.result.now at.there in
    rw (c.deref-3.ensures.value, c.deref-2.ensures.value, c.requires.file, members) at.lie

pub sort_rows-requires : goal.sort_rows-requires
sort_rows-requires c =
    let sections = c.args.placement.now.sections.items in
    let layout = c.args.placement.now.layout in
    let i = c.in-Some.section in
    let named : section_named (rows_of sections) (codes ".pdata") ≡ Some i =
    ap (λ (ss : List OutSection). section_named (rows_of ss) (codes ".pdata")) (sym c.deref.ensures.value) ∙ sym c.section_named.ensures.named ∙ c.in-Some.is in
    let at = table_section (kept_parts c.args.plan.now) c.args.plan.now.pieces.items c.args.plan.now.fixes.items sections layout c.args.owner.now (reloc_tables c.args.placement.now.table) c.requires.ready c.args.headers.now c.requires.directories i named in
    let members = c.deref-4.ensures.value ∙ ap (λ (s : OutSection). s.pieces.items) c.index.ensures ∙ members_read sections i c.index.result.now at.there in
    let table =
    c.deref_mut.ensures.value ∙ c.in_ok-table.ensures
    ∙ ap (λ (ps : List Piece). flat_map (bytes_of_piece layout ps i c.deref-2.result.now) c.deref-4.result.now) c.deref-3.ensures.value
    ∙ ap (λ (file : List ℕ). flat_map (bytes_of_piece layout c.args.plan.now.pieces.items i file) c.deref-4.result.now) (c.deref-2.ensures.value ∙ c.requires.file)
    ∙ ap (λ (ms : List ℕ). flat_map (bytes_of_piece layout c.args.plan.now.pieces.items i (file_of c.args.headers.now sections layout (linked_contents (kept_parts c.args.plan.now) (rows_of sections) layout c.args.headers.now.base) (reloc_tables c.args.placement.now.table))) ms) members
    ∙ at.read in
    subst HasWholeRows (sym table) at.whole

pub write_pieces-requires-clause-lie : goal.write_pieces-requires-clause-lie
write_pieces-requires-clause-lie c =
    let sections = c.args.placement.now.sections.items in
    let i = c.in-Some.section in
    let named : section_named (rows_of sections) (codes ".pdata") ≡ Some i =
    ap (λ (ss : List OutSection). section_named (rows_of ss) (codes ".pdata")) (sym c.deref.ensures.value) ∙ sym c.section_named.ensures.named ∙ c.in-Some.is in
    let at = table_section (kept_parts c.args.plan.now) c.args.plan.now.pieces.items c.args.plan.now.fixes.items sections c.args.placement.now.layout c.args.owner.now (reloc_tables c.args.placement.now.table) c.requires.ready c.args.headers.now c.requires.directories i named in
    let members = c.deref-7.ensures.value ∙ ap (λ (s : OutSection). s.pieces.items) c.index.ensures ∙ members_read sections i c.index.result.now at.there in
    rw (c.deref-6.ensures.value, c.requires.file, members) at.lie

-- the table that was read, sorted
pub write_pieces-requires-clause-whole : goal.write_pieces-requires-clause-whole
write_pieces-requires-clause-whole c =
    let sections = c.args.placement.now.sections.items in
    let layout = c.args.placement.now.layout in
    let i = c.in-Some.section in
    let named : section_named (rows_of sections) (codes ".pdata") ≡ Some i =
    ap (λ (ss : List OutSection). section_named (rows_of ss) (codes ".pdata")) (sym c.deref.ensures.value) ∙ sym c.section_named.ensures.named ∙ c.in-Some.is in
    let at = table_section (kept_parts c.args.plan.now) c.args.plan.now.pieces.items c.args.plan.now.fixes.items sections layout c.args.owner.now (reloc_tables c.args.placement.now.table) c.requires.ready c.args.headers.now c.requires.directories i named in
    let members = c.deref-4.ensures.value ∙ ap (λ (s : OutSection). s.pieces.items) c.index.ensures ∙ members_read sections i c.index.result.now at.there in
    let later = c.deref-7.ensures.value ∙ ap (λ (s : OutSection). s.pieces.items) c.index.ensures ∙ members_read sections i c.index.result.now at.there in
    let table =
    c.deref_mut.ensures.value ∙ c.in_ok-table.ensures
    ∙ ap (λ (ps : List Piece). flat_map (bytes_of_piece layout ps i c.deref-2.result.now) c.deref-4.result.now) c.deref-3.ensures.value
    ∙ ap (λ (file : List ℕ). flat_map (bytes_of_piece layout c.args.plan.now.pieces.items i file) c.deref-4.result.now) (c.deref-2.ensures.value ∙ c.requires.file)
    ∙ ap (λ (ms : List ℕ). flat_map (bytes_of_piece layout c.args.plan.now.pieces.items i (file_of c.args.headers.now sections layout (linked_contents (kept_parts c.args.plan.now) (rows_of sections) layout c.args.headers.now.base) (reloc_tables c.args.placement.now.table))) ms) members
    ∙ at.read in
    let is_sorted = c.in_ok-sort_rows.ensures.sorted ∙ ap sorted_table table in
    let same : length c.sort_rows.new.table ≡ length c.in_ok-table.table.items =
    ap (λ (bytes : List ℕ). length bytes) is_sorted ∙ length_sorted (joined (linked_contents (kept_parts c.args.plan.now) (rows_of sections) layout c.args.headers.now.base) (row_at sections i).1) at.whole ∙ ap (λ (bytes : List ℕ). length bytes) (sym table ∙ c.deref_mut.ensures.value) in
    let sorted = c.deref-5.ensures.value ∙ written_back c.in_ok-table.table.len c.sort_rows.new.table c.in_ok-table.table.items c.in_ok-table.table.ok.0 same ∙ is_sorted in
    rw (sorted, c.deref-6.ensures.value, later) at.len

pub returns : goal.returns
returns c =
    let sections = c.args.placement.now.sections.items in
    let layout = c.args.placement.now.layout in
    let headers = c.args.headers.now in
    let i = c.in-Some.section in
    let named : section_named (rows_of sections) (codes ".pdata") ≡ Some i =
    ap (λ (ss : List OutSection). section_named (rows_of ss) (codes ".pdata")) (sym c.deref.ensures.value) ∙ sym c.section_named.ensures.named ∙ c.in-Some.is in
    let at = table_section (kept_parts c.args.plan.now) c.args.plan.now.pieces.items c.args.plan.now.fixes.items sections layout c.args.owner.now (reloc_tables c.args.placement.now.table) c.requires.ready headers c.requires.directories i named in
    let members = c.deref-4.ensures.value ∙ ap (λ (s : OutSection). s.pieces.items) c.index.ensures ∙ members_read sections i c.index.result.now at.there in
    let later = c.deref-7.ensures.value ∙ ap (λ (s : OutSection). s.pieces.items) c.index.ensures ∙ members_read sections i c.index.result.now at.there in
    let linked = linked_contents (kept_parts c.args.plan.now) (rows_of sections) layout headers.base in
    let file = file_of headers sections layout linked (reloc_tables c.args.placement.now.table) in
    let table =
    c.deref_mut.ensures.value ∙ c.in_ok-table.ensures
    ∙ ap (λ (ps : List Piece). flat_map (bytes_of_piece layout ps i c.deref-2.result.now) c.deref-4.result.now) c.deref-3.ensures.value
    ∙ ap (λ (bytes : List ℕ). flat_map (bytes_of_piece layout c.args.plan.now.pieces.items i bytes) c.deref-4.result.now) (c.deref-2.ensures.value ∙ c.requires.file)
    ∙ ap (λ (ms : List ℕ). flat_map (bytes_of_piece layout c.args.plan.now.pieces.items i file) ms) members
    ∙ at.read in
    let is_sorted = c.in_ok-sort_rows.ensures.sorted ∙ ap sorted_table table in
    let same : length c.sort_rows.new.table ≡ length c.in_ok-table.table.items =
    ap (λ (bytes : List ℕ). length bytes) is_sorted ∙ length_sorted (joined (linked_contents (kept_parts c.args.plan.now) (rows_of sections) layout c.args.headers.now.base) (row_at sections i).1) at.whole ∙ ap (λ (bytes : List ℕ). length bytes) (sym table ∙ c.deref_mut.ensures.value) in
    let sorted = c.deref-5.ensures.value ∙ written_back c.in_ok-table.table.len c.sort_rows.new.table c.in_ok-table.table.items c.in_ok-table.table.ok.0 same ∙ is_sorted in
    c.write_pieces.ensures
    ∙ ap (λ (ps : List Piece). written layout ps i c.deref-7.result.now c.deref-5.result.now c.args.image.now.items) c.deref-6.ensures.value
    ∙ ap (λ (ms : List ℕ). written layout c.args.plan.now.pieces.items i ms c.deref-5.result.now c.args.image.now.items) later
    ∙ ap (λ (bytes : List ℕ). written layout c.args.plan.now.pieces.items i (row_at sections i).1 bytes c.args.image.now.items) sorted
    ∙ ap (λ (bytes : List ℕ). written layout c.args.plan.now.pieces.items i (row_at sections i).1 (sorted_table (joined linked (row_at sections i).1)) bytes) c.requires.file
    ∙ at.done
    ∙ ap (λ (ms : List ℕ). file_of headers sections layout (sorted_contents ms linked) (reloc_tables c.args.placement.now.table)) (sym at.are)
