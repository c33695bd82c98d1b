-- The section of the exception table in the file of an image: its rows are read, put in order and written.
use Rattle.std.proofs.Common.{◌≡◌, ℕ, zero, suc, eqb, ◌%◌, ◌<◌, true, List, [], ◌∷◌, length, get_or, Option, Some, None, refl, sym, ap, ◌∙◌, subst, arith}
use Rattle.std.specs.Prelude.{codes}
use Rattle.std.specs.List.{All, IsDistinct, flat_map, sum_by}
use Rattle.std.proofs.lemmas.List.{length-map}
use Rattle.link_base.proofs.CallerLemmas.{first_below-some}
use Rattle.section_group.specs.declared.piece.Piece.{Piece}
use Rattle.section_group.specs.declared.piece.OutSection.{OutSection}
use Rattle.section_group.specs.Uniqueness.{SectionRow, row_of, rows_of}
use Rattle.address_layout.specs.declared.layout.Layout.{Layout}
use Rattle.address_layout.specs.Places.{row_at}
use Rattle.image_writer.specs.declared.headers.Headers.{Headers}
use Rattle.pdata_table.specs.Rows.{HasWholeRows, sorted_table}
use Rattle.pdata_table.specs.SortedContents.{len_of, joined, is_among, sorted_contents}
use Rattle.pdata_table.proofs.CallerLemmas.{dealt_same, sum_same, dealt_sorted, none_sorted, sorted_table_len}
use Rattle.relocate.specs.declared.fix.Fix.{Fix}
use Rattle.link_pieces.specs.TablePieces.{KeptParts, whole_pieces}
use Rattle.piece_bytes.specs.Owners.{no_row}
use Rattle.link_image.specs.NamedSections.{is_named, section_named, members_of, pdata_pieces}
use Rattle.link_image.specs.LinkedBytes.{contents_at, linked_contents}
use Rattle.piece_bytes.specs.PieceBytes.{LiesIn, bytes_of_piece, size_at, written}
use Rattle.link_image.specs.Steps.{IsReady, IsRowPiece, file_of}
use Rattle.link_image.proofs.FieldLemmas.{total_is}
use Rattle.link_image.proofs.PieceMoves.{linked_read, length_linked, length_piece}
use Rattle.link_image.proofs.SortLemmas.{AreLike, IsSized, lie_all, read_all, write_all, joined_whole}

pub rows_same : (sections : List OutSection) (i : ℕ) → (get_or (rows_of sections) i no_row).pieces ≡ (row_at sections i).1
rows_same [] i = refl
rows_same (s ∷ ss) zero = refl
rows_same (s ∷ ss) (suc i) = rows_same ss i

-- no section has its name: no row is put in order
pub nothing_sorted : (rows : List SectionRow) (contents : List (List ℕ)) → section_named rows (codes ".pdata") ≡ None → sorted_contents (pdata_pieces rows) contents ≡ contents
unfolding pdata_pieces
nothing_sorted rows contents none = ap (λ (o : Option ℕ). sorted_contents (members_of rows o) contents) none ∙ none_sorted contents

module _ (link : KeptParts) (pieces : List Piece) (fixups : List (List Fix)) (sections : List OutSection) (layout : Layout) (owner : List ℕ) (tables : List (List ℕ)) (ready : IsReady link pieces fixups sections layout owner tables) (headers : Headers) (directories : length headers.directories ≡ 16) where
  abbrev linked : List (List ℕ)
  linked = linked_contents link (rows_of sections) layout headers.base

  abbrev file : List (List ℕ) → List ℕ
  file contents = file_of headers sections layout contents tables

  total : length pieces ≡ length (whole_pieces link)
  total = total_is link pieces fixups sections layout owner tables ready

  linked_like : AreLike link pieces fixups sections layout owner tables ready headers directories (linked_contents link (rows_of sections) layout headers.base)
  linked_like = record {
    count = length_linked link (rows_of sections) layout headers.base;
    long = λ k lt. ap (λ (bytes : List ℕ). length bytes) (linked_read link (rows_of sections) layout headers.base k lt) ∙ length_piece link (rows_of sections) layout headers.base k;
  }

  -- what a section with these members is
  pub record IsTableSection (i : ℕ) (members : List ℕ) : Type 0 where
    pub there : i < length sections
    pub are : pdata_pieces (rows_of sections) ≡ members
    pub lie : All (LiesIn layout pieces i (length (file_of headers sections layout (linked_contents link (rows_of sections) layout headers.base) tables))) members
    pub read : flat_map (bytes_of_piece layout pieces i (file_of headers sections layout (linked_contents link (rows_of sections) layout headers.base) tables)) members ≡ joined (linked_contents link (rows_of sections) layout headers.base) members
    pub whole : HasWholeRows (joined (linked_contents link (rows_of sections) layout headers.base) members)
    pub len : length (sorted_table (joined (linked_contents link (rows_of sections) layout headers.base) members)) ≡ sum_by (size_at pieces) members
    pub done : written layout pieces i members (sorted_table (joined (linked_contents link (rows_of sections) layout headers.base) members)) (file_of headers sections layout (linked_contents link (rows_of sections) layout headers.base) tables) ≡ file_of headers sections layout (sorted_contents members (linked_contents link (rows_of sections) layout headers.base)) tables

  pub table_section : (i : ℕ) → section_named (rows_of sections) (codes ".pdata") ≡ Some i → IsTableSection i (row_at sections i).1
  unfolding pdata_pieces
  table_section i e =
      let found = first_below-some (length (rows_of sections)) i (is_named (rows_of sections) (codes ".pdata")) e in
      let there : i < length sections = omega (arith, found.0, length-map sections row_of) in
      let members = (row_at sections i).1 in
      let contents = linked_contents link (rows_of sections) layout headers.base in
      let are : members_of (rows_of sections) (section_named (rows_of sections) (codes ".pdata")) ≡ members = ap (members_of (rows_of sections)) e ∙ rows_same sections i in
      let row : (k : ℕ) → is_among k members ≡ true → IsRowPiece link pieces layout k = λ k inside. ready.rows_are k (subst (λ (ms : List ℕ). is_among k ms ≡ true) (sym are) inside) in
      let sized : (k : ℕ) → is_among k members ≡ true → IsSized link pieces fixups sections layout owner tables ready headers directories k = λ k inside. ((row k inside).there, (row k inside).size) in
      let len_is : (k : ℕ) → is_among k members ≡ true → len_of contents k ≡ length (contents_at link layout k) = λ k inside. linked_like.long k (omega (arith, (row k inside).there, total)) in
      let sizes : (k : ℕ) → is_among k members ≡ true → len_of contents k ≡ size_at pieces k = λ k inside. len_is k inside ∙ (row k inside).size in
      let whole : HasWholeRows (joined contents members) = joined_whole contents members (λ k inside. ap (λ (n : ℕ). n % 12) (len_is k inside) ∙ (row k inside).rows) in
      let len : length (sorted_table (joined contents members)) ≡ sum_by (size_at pieces) members = sorted_table_len contents members whole ∙ sum_same (len_of contents) (size_at pieces) members sizes in
      record {
        there = there;
        are = are;
        lie = lie_all link pieces fixups sections layout owner tables ready headers directories i there contents linked_like 0 members refl sized;
        read = read_all link pieces fixups sections layout owner tables ready headers directories i there contents linked_like 0 members refl sized;
        whole = whole;
        len = len;
        done =
            write_all link pieces fixups sections layout owner tables ready headers directories i there contents linked_like 0 members (sorted_table (joined contents members)) refl sized len
            ∙ ap (λ (cs : List (List ℕ)). file_of headers sections layout cs tables)
            (sym (dealt_same (len_of contents) (size_at pieces) members (sorted_table (joined contents members)) contents sizes)
            ∙ dealt_sorted members contents (subst (IsDistinct (λ j k. eqb j k)) are ready.rows_apart));
      }

-- the members of a section, as it is read
pub members_read : (sections : List OutSection) (i : ℕ) (section : OutSection) → i < length sections → (get_or sections i section).pieces.items ≡ (row_at sections i).1
members_read [] i section lt = absurd (omega (arith, lt))
members_read (s ∷ ss) zero section lt = refl
members_read (s ∷ ss) (suc i) section lt = members_read ss i section (omega (arith, lt))
