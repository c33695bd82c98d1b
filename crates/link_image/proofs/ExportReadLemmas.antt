-- What is found in a mapped image that holds the table of exports of a link is what these export; and a link whose table has no
-- bytes exports nothing.
use Rattle.std.proofs.Common.{◌≡◌, ◌≢◌, ℕ, ◌+◌, ◌^◌, ◌<◌, Bool, true, false, cond, ◌&&◌, eqb, ltb, List, [], ◌∷◌, length, map, take, get_or, Option, Some, None, option_map, All, refl, sym, ap, ◌∙◌, subst, inl, inr, arith}
use Rattle.std.specs.Option.{option_or}
use Rattle.std.proofs.lemmas.Bool.{false≢true, cases_lt, le-leb, ltb-false, ne_eqb}
use Rattle.std.proofs.lemmas.List.{get_or-map, get_or-take, length-map, length-take, nil_from_length}
use Rattle.std.proofs.lemmas.List.Elements.{All-nil, All-cons, All-map, All-weaker}
use Rattle.std.proofs.lemmas.List.Folds.{list_any_at}
use Rattle.std.proofs.lemmas.Slice.Eq.{bytes_eq-Decides}
use Rattle.link_base.specs.Bytes.{first_below, bytes_at}
use Rattle.link_base.specs.NameText.{same_name}
use Rattle.link_base.specs.Refusals.{first_standing}
use Rattle.link_base.specs.declared.fault.Fault.{Fault}
use Rattle.link_base.specs.declared.fault.Fault.TheVariants as faults
use Rattle.link_base.specs.declared.kinds.export.ExportFault.{ExportFault}
use Rattle.link_base.specs.declared.kinds.export.ExportFault.TheVariants.{ZeroOrdinal, TwoNames, TwoOrdinals, TooMany, InTable}
use Rattle.link_base.proofs.OptionLemmas.{both_none}
use Rattle.address_layout.specs.declared.layout.Layout.{Layout}
use Rattle.directives.specs.declared.item.Export.{Export}
use Rattle.symbol_names.specs.Exports.{forwarder}
use Rattle.export_tables.specs.declared.error.ExportError.{ExportError}
use Rattle.export_tables.specs.declared.row.ExportRow.{ExportRow}
use Rattle.export_tables.specs.declared.row.ExportTo.{ExportTo}
use Rattle.export_tables.specs.declared.row.ExportTo.TheVariants.{Rva, Forward}
use Rattle.export_tables.specs.ExportDirectory.{directory_in, export_of_name, export_of_ordinal}
use Rattle.export_tables.specs.ExportTable.{no_row, table_size}
use Rattle.export_tables.specs.ReadBack.{Holds, HasNoNul, forward_text, IsApart, AreReadable, exported_name, exported_ordinal}
use Rattle.export_tables.specs.Ordinals.{no_export, row_at, ordinals_of, asks_for_zero, has_earlier_name, has_earlier_ordinal, has_great_ordinal, bad_row, ordinal_fault}
use Rattle.export_tables.proofs.AssignedLemmas.{faultless, ordinals_fit}
use Rattle.export_tables.proofs.NameReadLemmas.{name_read_back}
use Rattle.export_tables.proofs.OrdinalReadLemmas.{ordinal_read_back}
use Rattle.synthetic_sections.specs.LinkerPieces.{EXPORTS}
use Rattle.link_exports.specs.Exports.{refused_rows, numbers_fault, numbers_of, export_to, unplaced_row, size_of, text_of, ExportsView, exports_from, CanBeTold, AreTold}
use Rattle.piece_bytes.specs.Extents.{rva_of}
use Rattle.link_pieces.specs.TablePieces.{KeptParts, table_index}
use Rattle.link_image.specs.LinkedBytes.{table_rva, exported_row, exported_rows, export_table_at}
use Rattle.link_image.specs.ExportFaults.{absolute_fault, export_fault, lies_in, inside_fault, in_table_fault}
use Rattle.link_image.proofs.ExportLemmas.{HasTable, numbers_given, size_given, placed_numbered, placed_size, export_table_some}

-- ---- a table has bytes

table_some : (rows : List ExportRow) (ordinals dll : List ℕ) → 0 < table_size rows ordinals dll
unfolding table_size
table_some rows ordinals dll = omega arith

pub some_size : (link : KeptParts) → HasTable link → 0 < link.parts.exports.size
some_size link has = omega (arith, has.size, table_some (map unplaced_row link.parts.exports.rows) link.parts.exports.ordinals link.parts.exports.dll)

not_zero : (link : KeptParts) → HasTable link → eqb link.parts.exports.size 0 ≡ false
not_zero link has = let some = some_size link has in ne_eqb link.parts.exports.size 0 (λ same. omega (arith, some, same))

-- ---- the first of several

-- where none stands, none is there
none_stand : (f : Export → Option Fault) (rows : List Export) → first_standing (map f rows) ≡ None → All (λ row. f row ≡ None) rows
none_stand f [] none = All-nil (λ (row : Export). f row ≡ None)
none_stand f (row ∷ rows) none =
    let both = both_none (f row) (first_standing (map f rows)) none in
    All-cons (λ (row : Export). f row ≡ None) row rows both.0 (none_stand f rows both.1)

-- ---- names

names_differ : (rows : List Export) (i j : ℕ) → ordinal_fault rows ≡ None → i < j → j < length rows → (row_at rows i).name ≢ (row_at rows j).name
unfolding has_earlier_name
names_differ rows i j none lt within same =
    let names = map (λ (row : Export). row.name) (take j rows) in
    let name = (row_at rows j).name in
    let there : get_or names i [] ≡ (row_at rows i).name =
    get_or-map (λ (row : Export). row.name) (take j rows) i no_export [] (omega (arith, lt, within, length-take j rows)) ∙ ap (λ (row : Export). row.name) (get_or-take j rows i no_export lt) in
    false≢true (sym ((faultless rows none).name j within)
    ∙ list_any_at (same_name name) names i [] (omega (arith, lt, within, length-map (take j rows) (λ (row : Export). row.name), length-take j rows)) (ap (same_name name) (there ∙ same) ∙ (bytes_eq-Decides name name).1 refl))

-- ---- rows with places

length_exported : (link : KeptParts) (rvas : List ℕ) → length (exported_rows link rvas) ≡ length link.parts.exports.rows
unfolding exported_rows
length_exported link rvas = length-map link.parts.exports.rows (exported_row link rvas)

exported_at : (link : KeptParts) (rvas : List ℕ) (k : ℕ) (d : ExportRow) → k < length link.parts.exports.rows → get_or (exported_rows link rvas) k d ≡ exported_row link rvas (row_at link.parts.exports.rows k)
unfolding exported_rows
exported_at link rvas k d lt = get_or-map (exported_row link rvas) link.parts.exports.rows k no_export d lt

-- what holds of each holds of all
all_exported : (P : ExportRow → Type 0) (link : KeptParts) (rvas : List ℕ) → All (λ row. P (exported_row link rvas row)) link.parts.exports.rows → All P (exported_rows link rvas)
unfolding exported_rows
all_exported P link rvas each = All-map P (exported_row link rvas) link.parts.exports.rows each

its_text : (text : Option (List ℕ)) (rva : ℕ) → forward_text (export_to text rva) ≡ text_of text
its_text None rva = refl
its_text (Some text) rva = refl

-- ---- where they stand

-- an RVA that a row can have: four bytes, and not 0
abbrev pub IsGiven : ExportTo → Type 0
IsGiven (Rva address) = (address ≢ 0) × (address < 2 ^ 32)
IsGiven (Forward text) = Unit {0}

fails : (b : Bool) (fault : Fault) → ◌≡◌ {A = Option Fault} (cond b (Some fault) None) None → b ≡ false
fails true fault none = absurd cc
fails false fault none = refl

apart_one : (rva size : ℕ) (what : ExportTo) → IsGiven what → lies_in rva size what ≡ false → IsApart rva size what
apart_one rva size (Forward text) given outside = tt
apart_one rva size (Rva address) given outside =
    elim (cases_lt address rva) [
      | inl before ↦ (given.0, given.1, inl before)
      | inr from ↦
          (given.0, given.1, inr (ltb-false address (rva + size) (ap (λ (b : Bool). b && ltb address (rva + size)) (sym (le-leb rva address from)) ∙ outside)))
    ]

-- no row lies in the table
none_inside : (link : KeptParts) (rvas : List ℕ) → HasTable link → in_table_fault link rvas ≡ None → All (λ row. inside_fault link rvas (rva_of rvas (table_index link EXPORTS)) row ≡ None) link.parts.exports.rows
unfolding in_table_fault
none_inside link rvas has none =
    let inside = inside_fault link rvas (rva_of rvas (table_index link EXPORTS)) in
    none_stand inside link.parts.exports.rows
    (sym (ap (λ (b : Bool). cond b None (first_standing (map inside link.parts.exports.rows))) (not_zero link has)) ∙ none)

all_apart : (link : KeptParts) (rvas : List ℕ) (rva : ℕ) → All (λ row. IsGiven row.what) (exported_rows link rvas) → All (λ row. inside_fault link rvas rva row ≡ None) link.parts.exports.rows → All (λ row. IsApart rva link.parts.exports.size row.what) (exported_rows link rvas)
all_apart link rvas rva given outside k d lt =
    let within : k < length link.parts.exports.rows = omega (arith, lt, length_exported link rvas) in
    let row = row_at link.parts.exports.rows k in
    let is = exported_at link rvas k d within in
    subst (λ (row : ExportRow). IsApart rva link.parts.exports.size row.what) (sym is)
    (apart_one rva link.parts.exports.size (exported_row link rvas row).what (subst (λ (row : ExportRow). IsGiven row.what) is (given k d lt)) (fails (lies_in rva link.parts.exports.size (exported_row link rvas row).what) (faults.BadExport InTable row.name) (outside k no_export within)))

-- ---- all of it

pub readable : (link : KeptParts) (rvas : List ℕ) → HasTable link → AreTold link.parts.exports → All (λ row. IsGiven row.what) (exported_rows link rvas) → in_table_fault link rvas ≡ None → AreReadable (exported_rows link rvas) (rva_of rvas (table_index link EXPORTS)) link.parts.exports.size
readable link rvas has told given none = record {
  names = all_exported (λ (row : ExportRow). HasNoNul row.name) link rvas (All-weaker CanBeTold (λ (row : Export). HasNoNul row.name) (λ row is. is.plain_name) link.parts.exports.rows told.rows);
  forwarders =
      all_exported (λ (row : ExportRow). HasNoNul (forward_text row.what)) link rvas
      (All-weaker CanBeTold (λ (row : Export). HasNoNul (forward_text (exported_row link rvas row).what)) (λ row is. subst HasNoNul (sym (its_text (forwarder row) _)) is.plain_forwarder) link.parts.exports.rows told.rows);
  differ = λ i j lt below same.
      let within : j < length link.parts.exports.rows = omega (arith, below, length_exported link rvas) in
      names_differ link.parts.exports.rows i j has.none lt within
      (sym (ap (λ (row : ExportRow). row.name) (exported_at link rvas i no_row (omega (arith, lt, within))))
      ∙ same
      ∙ ap (λ (row : ExportRow). row.name) (exported_at link rvas j no_row within));
  apart = all_apart link rvas (rva_of rvas (table_index link EXPORTS)) given (none_inside link rvas has none);
}

-- ---- a mapped image with the table

small_numbers : (link : KeptParts) → HasTable link → All (λ ordinal. ordinal < 2 ^ 16) link.parts.exports.ordinals
small_numbers link has =
    subst (All (λ ordinal. ordinal < 2 ^ 16)) (sym has.numbers)
    (All-weaker (λ ordinal. (0 < ordinal) × (ordinal < 2 ^ 16)) (λ ordinal. ordinal < 2 ^ 16) (λ ordinal fits. fits.1) (ordinals_of link.parts.exports.rows) (ordinals_fit link.parts.exports.rows has.none))

pub exports_read : (link : KeptParts) (layout : Layout) (memory : List ℕ) → HasTable link → AreReadable (exported_rows link layout.pieces.items) (table_rva link layout EXPORTS) link.parts.exports.size → table_rva link layout EXPORTS + link.parts.exports.size < 2 ^ 32
    → bytes_at memory (table_rva link layout EXPORTS) (length (export_table_at link layout)) ≡ export_table_at link layout
    → (name : List ℕ) → export_of_name memory (table_rva link layout EXPORTS) link.parts.exports.size name ≡ exported_name (exported_rows link layout.pieces.items) name
exports_read link layout memory has read below held name =
    let rows = exported_rows link layout.pieces.items in
    let rva = table_rva link layout EXPORTS in
    let size = placed_size link layout.pieces.items has in
    subst (λ (n : ℕ). export_of_name memory rva n name ≡ exported_name rows name) size
    (name_read_back rows link.parts.exports.ordinals link.parts.exports.dll link.parts.exports.time rva memory name (placed_numbered link layout.pieces.items has) (small_numbers link has) (subst (AreReadable rows rva) (sym size) read) (omega (arith, below, size)) (subst (Holds memory rva) (export_table_some link layout (not_zero link has)) held))

pub exports_read_by_ordinal : (link : KeptParts) (layout : Layout) (memory : List ℕ) → HasTable link → AreReadable (exported_rows link layout.pieces.items) (table_rva link layout EXPORTS) link.parts.exports.size → table_rva link layout EXPORTS + link.parts.exports.size < 2 ^ 32
    → bytes_at memory (table_rva link layout EXPORTS) (length (export_table_at link layout)) ≡ export_table_at link layout
    → (ordinal : ℕ) → export_of_ordinal memory (table_rva link layout EXPORTS) link.parts.exports.size ordinal ≡ exported_ordinal (exported_rows link layout.pieces.items) link.parts.exports.ordinals ordinal
exports_read_by_ordinal link layout memory has read below held ordinal =
    let rows = exported_rows link layout.pieces.items in
    let rva = table_rva link layout EXPORTS in
    let size = placed_size link layout.pieces.items has in
    subst (λ (n : ℕ). export_of_ordinal memory rva n ordinal ≡ exported_ordinal rows link.parts.exports.ordinals ordinal) size
    (ordinal_read_back rows link.parts.exports.ordinals link.parts.exports.dll link.parts.exports.time rva memory ordinal (placed_numbered link layout.pieces.items has) (small_numbers link has) (subst (AreReadable rows rva) (sym size) read) (omega (arith, below, size)) (subst (Holds memory rva) (export_table_some link layout (not_zero link has)) held))

-- ---- no exports

none_exported : (link : KeptParts) (rvas : List ℕ) → length link.parts.exports.rows ≡ 0 → exported_rows link rvas ≡ []
none_exported link rvas none = nil_from_length (exported_rows link rvas) (length_exported link rvas ∙ none)

pub none_read : (link : KeptParts) (memory rvas : List ℕ) (name : List ℕ) → length link.parts.exports.rows ≡ 0 → export_of_name memory 0 0 name ≡ exported_name (exported_rows link rvas) name
unfolding export_of_name directory_in exported_name
none_read link memory rvas name none = ap (λ (rows : List ExportRow). exported_name rows name) (sym (none_exported link rvas none))

-- no rows have no ordinals
no_numbers : (rows : List Export) → rows ≡ [] → numbers_of rows ≡ []
unfolding ordinal_fault first_below
no_numbers rows none = ap numbers_of none ∙ numbers_given [] refl

pub none_read_by_ordinal : (link : KeptParts) (rows : List Export) (dll : List ℕ) (time : ℕ) (memory rvas : List ℕ) (ordinal : ℕ) → link.parts.exports ≡ exports_from rows dll time → length link.parts.exports.rows ≡ 0
    → export_of_ordinal memory 0 0 ordinal ≡ exported_ordinal (exported_rows link rvas) link.parts.exports.ordinals ordinal
unfolding export_of_ordinal directory_in exported_ordinal
none_read_by_ordinal link rows dll time memory rvas ordinal is none =
    let empty = sym (ap (λ (exports : ExportsView). exports.rows) is) ∙ nil_from_length link.parts.exports.rows none in
    let numbers = ap (λ (exports : ExportsView). exports.ordinals) is ∙ no_numbers rows empty in
    ap (λ (rows : List ExportRow). exported_ordinal rows [] ordinal) (sym (none_exported link rvas none))
    ∙ ap (λ (numbers : List ℕ). exported_ordinal (exported_rows link rvas) numbers ordinal) (sym numbers)

-- ---- a table without bytes

-- what is wrong with a row is said
bad_said : (rows : List Export) (kind : ExportFault) (first : Option ℕ) → refused_rows rows (option_map (bad_row kind) first) ≡ None → option_map (bad_row kind) first ≡ None
bad_said rows kind None none = refl
bad_said rows kind (Some k) none = absurd cc

or_said : (rows : List Export) (first later : Option ExportError) → (refused_rows rows first ≡ None → first ≡ None) → (refused_rows rows later ≡ None → later ≡ None) → refused_rows rows (option_or first later) ≡ None → option_or first later ≡ None
or_said rows None later said more none = more none
or_said rows (Some error) later said more none = said none

nothing_wrong : (rows : List Export) → numbers_fault rows ≡ None → ordinal_fault rows ≡ None
unfolding numbers_fault ordinal_fault
nothing_wrong rows none =
    let said = λ (kind : ExportFault) (test : ℕ → Bool). bad_said rows kind (first_below (length rows) test) in
    or_said rows _ _ (said ZeroOrdinal (asks_for_zero rows))
    (or_said rows _ _ (said TwoNames (has_earlier_name rows))
    (or_said rows _ _ (said TwoOrdinals (has_earlier_ordinal rows))
    (or_said rows _ _ (said TooMany (has_great_ordinal rows)) (λ e. refl)))) none

no_size : (rows : List Export) (ordinals dll : List ℕ) → size_of rows ordinals dll ≡ 0 → rows ≡ []
no_size [] ordinals dll none = refl
no_size (row ∷ rows) ordinals dll none = absurd (omega (arith, none, table_some (map unplaced_row (row ∷ rows)) ordinals dll))

no_fault : (link : KeptParts) → export_fault link ≡ None → link.parts.exports.fault ≡ None
unfolding export_fault
no_fault link none =
    (both_none link.parts.exports.fault (first_standing (map (absolute_fault link) link.parts.exports.rows)) none).0

-- so nothing is wrong with their ordinals
pub unrefused : (link : KeptParts) (rows : List Export) (dll : List ℕ) (time : ℕ) → link.parts.exports ≡ exports_from rows dll time → export_fault link ≡ None → (link.parts.exports.fault ≡ None) × (ordinal_fault link.parts.exports.rows ≡ None)
unrefused link rows dll time is faultless =
    let none = no_fault link faultless in (
      none,
      ap (λ (exports : ExportsView). ordinal_fault exports.rows) is ∙ nothing_wrong rows (sym (ap (λ (exports : ExportsView). exports.fault) is) ∙ none),
    )

pub no_rows : (link : KeptParts) (rows : List Export) (dll : List ℕ) (time : ℕ) → link.parts.exports ≡ exports_from rows dll time → export_fault link ≡ None → link.parts.exports.size ≡ 0 → link.parts.exports.rows ≡ []
no_rows link rows dll time is faultless none =
    let right = nothing_wrong rows (sym (ap (λ (exports : ExportsView). exports.fault) is) ∙ no_fault link faultless) in
    let size : size_of rows (numbers_of rows) dll ≡ 0 =
    sym (size_given rows dll right) ∙ sym (ap (λ (exports : ExportsView). exports.size) is) ∙ none in
    ap (λ (exports : ExportsView). exports.rows) is ∙ no_size rows (numbers_of rows) dll size
