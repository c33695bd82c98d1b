-- The export table of a plan whose pieces have places.
use Rattle.std.proofs.Common.{◌≡◌, ℕ, ◌+◌, ◌<◌, ◌≤◌, List, [], ◌∷◌, length, map, get_or, Option, Some, None, refl, sym, ap, ◌∙◌, subst, inl, inr, arith}
use Rattle.std.proofs.lemmas.Option.{none-some}
use Rattle.std.specs.List.{All}
use Rattle.std.proofs.lemmas.Bool.{cases_lt}
use Rattle.link_base.specs.Limits.{IMAGE_LIMIT}
use Rattle.link_base.specs.Refusals.{first_standing}
use Rattle.link_base.specs.declared.fault.Fault.{Fault}
use Rattle.link_base.proofs.NumberLemmas.{not_zero}
use Rattle.directives.specs.declared.item.Export.{Export}
use Rattle.address_layout.specs.declared.layout.Layout.{Layout}
use Rattle.export_tables.specs.declared.row.ExportRow.{ExportRow}
use Rattle.export_tables.specs.ExportTable.{AreNumbered, table_size, export_table}
use Rattle.synthetic_sections.specs.LinkerPieces.{EXPORTS, size_at}
use Rattle.link_exports.specs.Exports.{export_rows, dll_name}
use Rattle.piece_bytes.specs.Extents.{rva_of}
use Rattle.link_pieces.specs.TablePieces.{KeptParts, table_sizes, table_index, whole_piece}
use Rattle.link_words.specs.Outcome.{LinkOptions}
use Rattle.link_plan.specs.declared.planning.LinkPlan.{LinkPlan}
use Rattle.link_plan.specs.Plan.{IsPlanOf, kept_parts}
use Rattle.link_image.specs.declared.placement.Placement.{Placement}
use Rattle.link_image.specs.LinkedBytes.{table_rva, exported_row, exported_rows, export_table_at}
use Rattle.link_image.specs.ExportFaults.{inside_of, inside_fault, in_table_fault}
use Rattle.link_image.specs.Steps.{IsGiven, IsPlaced}
use Rattle.link_image.proofs.HeldLemmas.{piece_count, exports_are, same_size}
use Rattle.link_image.proofs.TableLemmas.{IsTableAt, found_table, table_used}
use Rattle.link_image.proofs.ExportLemmas.{HasTable, has_table, placed_numbered, placed_size, export_size, export_table_some}
use Rattle.link_image.proofs.ImportLemmas.{are_made}

-- ---- without a table

none_zero : (link : KeptParts) → table_index link EXPORTS ≡ None → link.parts.exports.size ≡ 0
none_zero link none =
    elim (cases_lt 0 link.parts.exports.size) [
      | inl some ↦ absurd (let there = are_made link EXPORTS (omega arith) (omega (arith, some, export_size link)) in none-some there.0 (sym none ∙ there.1))
      | inr zero ↦ omega (arith, zero)
    ]

pub nothing_held : (link : KeptParts) (layout : Layout) → table_index link EXPORTS ≡ None → export_table_at link layout ≡ []
unfolding export_table_at
nothing_held link layout none = rw (none_zero link none) refl

pub nothing_inside : (link : KeptParts) (rvas : List ℕ) → table_index link EXPORTS ≡ None → in_table_fault link rvas ≡ None
unfolding in_table_fault
nothing_inside link rvas none = rw (none_zero link none) refl

pub nothing_given : (link : KeptParts) (rvas : List ℕ) → table_index link EXPORTS ≡ None → 0 < link.parts.exports.size → All (λ row. IsGiven row.what) (exported_rows link rvas)
nothing_given link rvas none some = absurd (omega (arith, some, none_zero link none))

-- ---- rows

pub rows_placed : (link : KeptParts) (placed : List ExportRow) (rvas own : List ℕ) (rows : List Export) → placed ≡ map (exported_row link rvas) rows → rvas ≡ own → rows ≡ link.parts.exports.rows → placed ≡ exported_rows link own
unfolding exported_rows
rows_placed link placed rvas own rows is same all =
    is ∙ ap (λ (rs : List ℕ). map (exported_row link rs) rows) same ∙ ap (map (exported_row link own)) all

inside_all : (link : KeptParts) (rvas : List ℕ) (rva : ℕ) (rows : List Export) → map (inside_of rva link.parts.exports.size) (map (exported_row link rvas) rows) ≡ map (inside_fault link rvas rva) rows
inside_all link rvas rva [] = refl
inside_all link rvas rva (row ∷ rows) = ap (λ (rest : List (Option Fault)). inside_fault link rvas rva row ∷ rest) (inside_all link rvas rva rows)

pub inside_told : (link : KeptParts) (rvas : List ℕ) → 0 < link.parts.exports.size → first_standing (map (inside_of (rva_of rvas (table_index link EXPORTS)) link.parts.exports.size) (exported_rows link rvas)) ≡ in_table_fault link rvas
unfolding in_table_fault exported_rows
inside_told link rvas some =
    let rva = rva_of rvas (table_index link EXPORTS) in
    rw (not_zero link.parts.exports.size some) (ap first_standing (inside_all link rvas rva link.parts.exports.rows))

-- ---- where it stands

module _ (options : LinkOptions) (plan : LinkPlan) (placement : Placement) (k : ℕ) (planned : IsPlanOf options plan.modules.items plan) (placed : IsPlaced options plan placement) (found : table_index (kept_parts plan) EXPORTS ≡ Some k) where
  at : IsTableAt (kept_parts plan) EXPORTS k
  at = found_table (kept_parts plan) EXPORTS k (omega arith) found

  size_is : (whole_piece (kept_parts plan) k).size ≡ plan.names.exports.size
  size_is = at.is.size ∙ ap (size_at (table_sizes (kept_parts plan))) at.number_is ∙ export_size (kept_parts plan)

  pub some : 0 < plan.names.exports.size
  some = omega (arith, at.is.some, size_is)

  pub within : k < length placement.layout.pieces.items
  within = omega (arith, at.there, piece_count options plan planned, placed.room)

  pub ends : get_or placement.layout.pieces.items k 0 + plan.names.exports.size ≤ IMAGE_LIMIT
  ends =
      let lt : k < length plan.pieces.items = omega (arith, at.there, piece_count options plan planned) in
      let same = same_size options plan planned k lt in
      let end = placed.ends k lt (table_used options plan planned EXPORTS k at) (omega (arith, same, at.is.some)) in
      omega (arith, end, same, size_is)

  pub rva_is : table_rva (kept_parts plan) placement.layout EXPORTS ≡ get_or placement.layout.pieces.items k 0
  rva_is = ap (rva_of placement.layout.pieces.items) found

  has : HasTable (kept_parts plan)
  has = has_table (kept_parts plan) (export_rows options plan.modules.items) (dll_name options.out) options.time (exports_are options plan planned) planned.told some

  pub numbered_so : (rows : List ExportRow) (ordinals : List ℕ) → rows ≡ exported_rows (kept_parts plan) placement.layout.pieces.items → ordinals ≡ plan.names.exports.ordinals → AreNumbered rows ordinals
  numbered_so rows ordinals are numbers =
      subst (λ (rs : List ExportRow). AreNumbered rs ordinals) (sym are)
      (subst (AreNumbered (exported_rows (kept_parts plan) placement.layout.pieces.items)) (sym numbers) (placed_numbered (kept_parts plan) placement.layout.pieces.items has))

  pub size_so : (rows : List ExportRow) (ordinals dll : List ℕ) → rows ≡ exported_rows (kept_parts plan) placement.layout.pieces.items → ordinals ≡ plan.names.exports.ordinals → dll ≡ plan.names.exports.dll → table_size rows ordinals dll ≡ plan.names.exports.size
  size_so rows ordinals dll are numbers named =
      ap (λ (rs : List ExportRow). table_size rs ordinals dll) are
      ∙ ap (λ (os : List ℕ). table_size (exported_rows (kept_parts plan) placement.layout.pieces.items) os dll) numbers
      ∙ ap (table_size (exported_rows (kept_parts plan) placement.layout.pieces.items) plan.names.exports.ordinals) named
      ∙ placed_size (kept_parts plan) placement.layout.pieces.items has

  pub table_so : (rows : List ExportRow) (ordinals dll table : List ℕ) (time rva : ℕ) → rows ≡ exported_rows (kept_parts plan) placement.layout.pieces.items → ordinals ≡ plan.names.exports.ordinals → dll ≡ plan.names.exports.dll → time ≡ plan.names.exports.time → rva ≡ get_or placement.layout.pieces.items k 0 → table ≡ export_table rows ordinals dll time rva → table ≡ export_table_at (kept_parts plan) placement.layout
  table_so rows ordinals dll table time rva are numbers named timed stands is =
      is
      ∙ ap (λ (rs : List ExportRow). export_table rs ordinals dll time rva) are
      ∙ ap (λ (os : List ℕ). export_table (exported_rows (kept_parts plan) placement.layout.pieces.items) os dll time rva) numbers
      ∙ ap (λ (d : List ℕ). export_table (exported_rows (kept_parts plan) placement.layout.pieces.items) plan.names.exports.ordinals d time rva) named
      ∙ ap (λ (t : ℕ). export_table (exported_rows (kept_parts plan) placement.layout.pieces.items) plan.names.exports.ordinals plan.names.exports.dll t rva) timed
      ∙ ap (export_table (exported_rows (kept_parts plan) placement.layout.pieces.items) plan.names.exports.ordinals plan.names.exports.dll plan.names.exports.time) (stands ∙ sym rva_is)
      ∙ sym (export_table_some (kept_parts plan) placement.layout (not_zero plan.names.exports.size some))

  pub inside_so : (rows : List ExportRow) (rva size : ℕ) (told : Option Fault) → rows ≡ exported_rows (kept_parts plan) placement.layout.pieces.items → rva ≡ get_or placement.layout.pieces.items k 0 → size ≡ plan.names.exports.size → first_standing (map (inside_of rva size) rows) ≡ told → in_table_fault (kept_parts plan) placement.layout.pieces.items ≡ told
  inside_so rows rva size told are stands sized is =
      sym (inside_told (kept_parts plan) placement.layout.pieces.items some)
      ∙ ap (λ (r : ℕ). first_standing (map (inside_of r plan.names.exports.size) (exported_rows (kept_parts plan) placement.layout.pieces.items))) (rva_is ∙ sym stands)
      ∙ ap (λ (s : ℕ). first_standing (map (inside_of rva s) (exported_rows (kept_parts plan) placement.layout.pieces.items))) (sym sized)
      ∙ ap (λ (rs : List ExportRow). first_standing (map (inside_of rva size) rs)) (sym are)
      ∙ is
