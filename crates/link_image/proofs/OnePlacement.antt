-- Modules have one list of fields that hold addresses, and one placement.
use Rattle.std.proofs.Common.{◌≡◌, ℕ, zero, suc, ◌+◌, ◌<◌, ◌≤◌, Bool, true, false, cond, eqb, List, [], ◌∷◌, ◌++◌, length, get_or, map, refl, sym, ap, ◌∙◌, subst, inl, inr, ◌⊎◌, arith}
use Rattle.std.specs.List.{Contains}
use Rattle.std.proofs.lemmas.List.{length-map}
use Rattle.section_group.specs.declared.piece.OutSection.{OutSection}
use Rattle.section_group.specs.Uniqueness.{SectionRow, rows_of}
use Rattle.section_group.proofs.Theorems.{one_grouping}
use Rattle.address_layout.specs.declared.layout.Placed.{Placed}
use Rattle.address_layout.specs.declared.layout.Layout.{Layout}
use Rattle.address_layout.specs.Growth.{SameLayout, Appends, HasGrownSize, last_end, raw_end, grown_size}
use Rattle.address_layout.specs.Layout.{placed_at}
use Rattle.address_layout.specs.Places.{IsLeastMultiple, end_before, file_before}
use Rattle.address_layout.proofs.CallerLemmas.{layout_same_rows, one_layout}
use Rattle.base_reloc.specs.declared.field.BaseField.{BaseField}
use Rattle.base_reloc.specs.PageBlocks.{IsAscending, blocks_of}
use Rattle.link_pieces.specs.TablePieces.{KeptParts}
use Rattle.link_words.specs.Outcome.{LinkOptions}
use Rattle.link_plan.specs.Planned.{plan_pieces}
use Rattle.link_image.specs.BaseFields.{is_relocated, IsBaseField, AreBaseFields}
use Rattle.link_image.specs.LinkedImage.{link_input, table_row, AreGrouped, ArePlaced, IsWhole, IsPlacement}

-- ---- one list of fields

-- each field lies above the one before it, and the first not below a place
unfoldable Rises : ℕ → List BaseField → Type 0
Rises low [] = Unit {0}
Rises low (field ∷ fields) = (low ≤ field.rva) × Rises (suc field.rva) fields

later : (field : BaseField) (fields : List BaseField) → IsAscending (field ∷ fields) → IsAscending fields
later field fields up k lt =
    let all = map (λ (f : BaseField). f.rva) (field ∷ fields) in
    subst (λ (n : ℕ). get_or all (suc k) 0 < get_or all n 0) (shift k) (up (suc k) (omega (arith, lt)))
  where
    shift : (n : ℕ) → suc n + 1 ≡ suc (n + 1)
    shift n = omega arith

rises_from : (low : ℕ) (fields : List BaseField) → (0 < length fields → low ≤ get_or (map (λ field. field.rva) fields) 0 0) → IsAscending fields → Rises low fields
unfolding Rises
rises_from low [] first up = tt
rises_from low (field ∷ fields) first up =
    (first (omega arith), rises_from (suc field.rva) fields (λ some. up 0 (omega (arith, some, length-map fields (λ (f : BaseField). f.rva)))) (later field fields up))

above : (low : ℕ) (fields : List BaseField) (field : BaseField) → Rises low fields → Contains fields field → low ≤ field.rva
unfolding Rises
above low [] field up there = absurd (omega (arith, there.1))
above low (f ∷ fs) field up (zero, lt, is) = omega (arith, up.0, ap (λ (g : BaseField). g.rva) is)
above low (f ∷ fs) field up (suc k, lt, is) = let later = above (suc f.rva) fs field up.1 (k, omega (arith, lt), is) in omega (arith, later, up.0)

head_or_tail : (f : BaseField) (fs : List BaseField) (field : BaseField) → Contains (f ∷ fs) field → (f ≡ field) ⊎ Contains fs field
head_or_tail f fs field (zero, lt, is) = inl is
head_or_tail f fs field (suc k, lt, is) = inr (k, omega (arith, lt), is)

tail_in : (f : BaseField) (fs : List BaseField) (field : BaseField) → Contains fs field → Contains (f ∷ fs) field
tail_in f fs field (k, lt, is) = (suc k, omega (arith, lt), is)

one_list : (low : ℕ) (xs ys : List BaseField) → Rises low xs → Rises low ys → ((f : BaseField) → Contains xs f → Contains ys f) → ((f : BaseField) → Contains ys f → Contains xs f) → xs ≡ ys
unfolding Rises
one_list low [] [] up down there back = refl
one_list low [] (y ∷ ys) up down there back = absurd (let none = back y (0, omega arith, refl) in omega (arith, none.1))
one_list low (x ∷ xs) [] up down there back = absurd (let none = there x (0, omega arith, refl) in omega (arith, none.1))
one_list low (x ∷ xs) (y ∷ ys) up down there back =
    let heads = one_head (head_or_tail y ys x (there x (0, omega arith, refl))) (head_or_tail x xs y (back y (0, omega arith, refl))) in
    let downs : Rises (suc x.rva) ys = subst (λ (f : BaseField). Rises (suc f.rva) ys) (sym heads) down.1 in
    ap (λ (fs : List BaseField). x ∷ fs) (one_list (suc x.rva) xs ys up.1 downs
    (λ f in_xs. behind y ys f (omega (arith, ap (λ (g : BaseField). g.rva) heads, above (suc x.rva) xs f up.1 in_xs)) (there f (tail_in x xs f in_xs)))
    (λ f in_ys. behind x xs f (above (suc x.rva) ys f downs in_ys) (back f (tail_in y ys f in_ys))))
    ∙ ap (λ (f : BaseField). f ∷ ys) heads
  where
    one_head : (y ≡ x) ⊎ Contains ys x → (x ≡ y) ⊎ Contains xs y → x ≡ y
    one_head (inl same) h = sym same
    one_head (inr later) (inl same) = same
    one_head (inr later) (inr earlier) = absurd (omega (arith, above (suc y.rva) ys x down.1 later, above (suc x.rva) xs y up.1 earlier))

    behind : (g : BaseField) (gs : List BaseField) (f : BaseField) → suc g.rva ≤ f.rva → Contains (g ∷ gs) f → Contains gs f
    behind g gs f high inside = elim (head_or_tail g gs f inside) [
      | inl same ↦ absurd (omega (arith, ap (λ (h : BaseField). h.rva) same, high))
      | inr later ↦ later
    ]

members : (link : KeptParts) (rvas : List ℕ) (xs ys : List BaseField) → AreBaseFields link rvas xs → AreBaseFields link rvas ys → (f : BaseField) → Contains xs f → Contains ys f
members link rvas xs ys x y f inside = y.all f (subst (IsBaseField link rvas) inside.2 (x.listed inside.0 f inside.1))

pub one_base_fields : (link : KeptParts) (rvas : List ℕ) (xs ys : List BaseField) → AreBaseFields link rvas xs → AreBaseFields link rvas ys → xs ≡ ys
one_base_fields link rvas xs ys x y =
    one_list 0 xs ys (rises_from 0 xs (λ some. omega arith) x.ascending) (rises_from 0 ys (λ some. omega arith) y.ascending) (members link rvas xs ys x y) (members link rvas ys xs y x)

-- ---- one table after a layout

least_one : (step low x y : ℕ) → IsLeastMultiple step low x → IsLeastMultiple step low y → x ≡ y
least_one step low x y first second = omega (arith, first.least y second.multiple second.above, second.least x first.multiple first.above)

ends_same : (old other : Layout) → SameLayout old other → last_end old ≡ last_end other
ends_same old other same =
    ap (λ (h : ℕ). end_before h (placed_at old.sections.items) (length old.sections.items)) (sym same.headers)
    ∙ ap (λ (ps : List Placed). end_before other.headers (placed_at ps) (length ps)) (sym same.sections)

raws_same : (old other : Layout) → SameLayout old other → raw_end old ≡ raw_end other
raws_same old other same =
    ap (λ (h : ℕ). file_before h (placed_at old.sections.items) (length old.sections.items)) (sym same.headers)
    ∙ ap (λ (ps : List Placed). file_before other.headers (placed_at ps) (length ps)) (sym same.sections)

placed_from : ℕ → ℕ → ℕ → ℕ → Placed
placed_from rva size raw file = record { rva = rva; size = size; raw = raw; file = file }

same_placed : (p q : Placed) → p.rva ≡ q.rva → p.size ≡ q.size → p.raw ≡ q.raw → p.file ≡ q.file → p ≡ q
unfolding placed_from
same_placed p q rva size raw file =
    let start : p ≡ placed_from p.rva p.size p.raw p.file = refl in
    let end : q ≡ placed_from q.rva q.size q.raw q.file = refl in
    start
    ∙ ap (λ (n : ℕ). placed_from n p.size p.raw p.file) rva
    ∙ ap (λ (n : ℕ). placed_from q.rva n p.raw p.file) size
    ∙ ap (λ (n : ℕ). placed_from q.rva q.size n p.file) raw
    ∙ ap (λ (n : ℕ). placed_from q.rva q.size q.raw n) file
    ∙ sym end

one_grown : (old other new grown : Layout) (len : ℕ) → SameLayout old other → Appends old new len → Appends other grown len → SameLayout new grown
one_grown old other new grown len same first second =
    let rva : first.placed.rva ≡ second.placed.rva = least_one 4096 (last_end other) first.placed.rva second.placed.rva (subst (λ (n : ℕ). IsLeastMultiple 4096 n first.placed.rva) (ends_same old other same) first.start) second.start in
    let size : first.placed.size ≡ second.placed.size = first.size ∙ sym second.size in
    let raw : first.placed.raw ≡ second.placed.raw = least_one 512 len first.placed.raw second.placed.raw first.raw second.raw in
    let file : first.placed.file ≡ second.placed.file =
    first.file ∙ ap (λ (n : ℕ). cond (eqb n 0) 0 (raw_end old)) raw ∙ ap (λ (n : ℕ). cond (eqb second.placed.raw 0) 0 n) (raws_same old other same) ∙ sym second.file in
    let placed = same_placed first.placed second.placed rva size raw file in
    record {
      headers = second.headers ∙ same.headers ∙ sym first.headers;
      sections = second.sections ∙ ap (λ (ps : List Placed). ps ++ second.placed ∷ []) same.sections ∙ ap (λ (p : Placed). old.sections.items ++ p ∷ []) (sym placed) ∙ sym first.sections;
      pieces = second.pieces ∙ ap (λ (rs : List ℕ). rs ++ second.placed.rva ∷ []) same.pieces ∙ ap (λ (r : ℕ). old.pieces.items ++ r ∷ []) (sym rva) ∙ sym first.pieces;
      image = least_one 4096 (first.placed.rva + first.placed.size) grown.image new.image (subst (λ (n : ℕ). IsLeastMultiple 4096 n grown.image) (sym (ap (λ (n : ℕ). n + first.placed.size) rva ∙ ap (λ (n : ℕ). second.placed.rva + n) size)) second.image) first.image;
    }

-- the size that is refused is that of the layout
pub one_grown_size : (old other new : Layout) (len size : ℕ) → SameLayout old other → HasGrownSize old len size → Appends other new len → size ≡ new.image
one_grown_size old other new len size same has added =
    let rva : has.rva ≡ added.placed.rva = least_one 4096 (last_end other) has.rva added.placed.rva (subst (λ (n : ℕ). IsLeastMultiple 4096 n has.rva) (ends_same old other same) has.start) added.start in
    least_one 4096 (added.placed.rva + added.placed.size) size new.image (subst (λ (n : ℕ). IsLeastMultiple 4096 n size) (ap (λ (n : ℕ). n + grown_size len) rva ∙ ap (λ (n : ℕ). added.placed.rva + n) (sym added.size)) has.image) added.image

pub one_refused_size : (old other : Layout) (len first second : ℕ) → SameLayout old other → HasGrownSize old len first → HasGrownSize other len second → first ≡ second
one_refused_size old other len first second same has other_has =
    let rva : has.rva ≡ other_has.rva = least_one 4096 (last_end other) has.rva other_has.rva (subst (λ (n : ℕ). IsLeastMultiple 4096 n has.rva) (ends_same old other same) has.start) other_has.start in
    least_one 4096 (other_has.rva + grown_size len) first second (subst (λ (n : ℕ). IsLeastMultiple 4096 n first) (ap (λ (n : ℕ). n + grown_size len) rva) has.image) other_has.image

-- ---- one placement

pub same_rows : (options : LinkOptions) (link : KeptParts) (xs ys : List OutSection) → AreGrouped options link (plan_pieces options link) xs → AreGrouped options link (plan_pieces options link) ys → rows_of xs ≡ rows_of ys
same_rows options link xs ys x y = one_grouping (link_input options link (plan_pieces options link)) xs ys x.grouping y.grouping

pub same_layout : (options : LinkOptions) (link : KeptParts) (xs ys : List OutSection) (reloc : Bool) (a b : Layout) → AreGrouped options link (plan_pieces options link) xs → AreGrouped options link (plan_pieces options link) ys → ArePlaced (plan_pieces options link) xs reloc a → ArePlaced (plan_pieces options link) ys reloc b → SameLayout a b
same_layout options link xs ys reloc a b gx gy px py =
    one_layout (plan_pieces options link) ys reloc a b (layout_same_rows (plan_pieces options link) xs ys reloc a (same_rows options link xs ys gx gy) px.layout_of) py.layout_of

-- the lists of two layouts of the same pieces
pub same_fields : (options : LinkOptions) (link : KeptParts) (a b : Layout) (fields other : List BaseField) → SameLayout a b → AreBaseFields link a.pieces.items fields → AreBaseFields link b.pieces.items other → fields ≡ other
same_fields options link a b fields other same x y =
    one_base_fields link b.pieces.items fields other (subst (λ (rvas : List ℕ). AreBaseFields link rvas fields) (sym same.pieces) x) y

pub record SamePlacement (rows other_rows : List SectionRow) (layout other : Layout) (tables other_tables : List (List ℕ)) : Type 0 where
  pub rows_same : rows ≡ other_rows
  pub layouts : SameLayout layout other
  pub tables_same : tables ≡ other_tables

pub one_placement : (options : LinkOptions) (link : KeptParts) (rows other_rows : List SectionRow) (layout other : Layout) (tables other_tables : List (List ℕ)) → IsPlacement options link rows layout tables → IsPlacement options link other_rows other other_tables → SamePlacement rows other_rows layout other tables other_tables
one_placement options link rows other_rows layout other tables other_tables x y = by (is_relocated options link) before x.whole y.whole
  where
    pieces_same : rows_of x.sections ≡ rows_of y.sections
    pieces_same = same_rows options link x.sections y.sections x.grouped y.grouped

    before : SameLayout x.before y.before
    before = same_layout options link x.sections y.sections (is_relocated options link) x.before y.before x.grouped y.grouped x.placed y.placed

    by : (b : Bool) → SameLayout x.before y.before → IsWhole b link (rows_of x.sections) x.before rows layout tables → IsWhole b link (rows_of y.sections) y.before other_rows other other_tables → SamePlacement rows other_rows layout other tables other_tables
    by false same first second = record {
      rows_same = first.0 ∙ pieces_same ∙ sym second.0;
      layouts = subst (λ (l : Layout). SameLayout l other) (sym first.1) (subst (SameLayout x.before) (sym second.1) same);
      tables_same = first.2 ∙ sym second.2;
    }
    by true same first second =
        let fields = same_fields options link x.before y.before first.fields second.fields same first.based second.based in
        record {
          rows_same =
              first.rows_are
              ∙ ap (λ (rs : List SectionRow). rs ++ table_row (length x.before.pieces.items) ∷ []) pieces_same
              ∙ ap (λ (rvas : List ℕ). rows_of y.sections ++ table_row (length rvas) ∷ []) (sym same.pieces)
              ∙ sym second.rows_are;
          layouts = one_grown x.before y.before layout other (length (blocks_of second.fields)) same (subst (λ (fs : List BaseField). Appends x.before layout (length (blocks_of fs))) fields first.added) second.added;
          tables_same = first.tables_are ∙ ap (λ (fs : List BaseField). blocks_of fs ∷ []) fields ∙ sym second.tables_are;
        }
