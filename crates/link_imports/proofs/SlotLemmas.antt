-- The slot of an import that is kept is that of its row.
use Rattle.std.proofs.Common.{◌≡◌, ℕ, ◌+◌, ◌-◌, ◌<◌, Bool, true, false, List, [], ◌∷◌, ◌++◌, length, get_or, zero, suc, Option, Some, refl, sym, ap, subst, ◌∙◌, arith}
use Rattle.std.specs.List.{Contains, cons_option}
use Rattle.std.proofs.lemmas.List.{append_assoc, append-nil, length-append, get_or_push, get_or_append_left}
use Rattle.std.proofs.lemmas.List.FromFn.{get_or-map-range_with_len}
use Rattle.short_import.specs.declared.import.Import.{Import}
use Rattle.module_view.specs.Module.{ModuleView, module_at}
use Rattle.import_tables.specs.declared.row.ImportRow.{ImportRow}
use Rattle.import_tables.specs.ImportDirectory.{import_of}
use Rattle.import_tables.specs.ImportShape.{no_row, dll_at, by_at, slot_offset as row_offset, slots_of}
use Rattle.import_tables.specs.ImportTables.{slots_rva}
use Rattle.import_tables.specs.ReadBack.{found_of}
use Rattle.import_tables.proofs.FoundLemmas.{found_with_slot}
use Rattle.link_imports.specs.Imports.{row_of, row_at, rows_below, import_rows, slot_offset}
use Rattle.link_imports.proofs.RowLemmas.{rows_after}

-- ---- the row of an import

-- more modules add rows behind those that stand
record StartsWith (before rows : List ImportRow) : Type 0 where
  after : List ImportRow
  split : rows ≡ before ++ after

rows_behind : (modules : List ModuleView) (kept : List Bool) (k more : ℕ) → StartsWith (rows_below modules kept k) (rows_below modules kept (k + more))
rows_behind modules kept k zero =
    let same : k + 0 ≡ k = omega arith in
    record { after = []; split = ap (rows_below modules kept) same ∙ sym (append-nil (rows_below modules kept k)) }
rows_behind modules kept k (suc more) =
    let same : k + suc more ≡ k + more + 1 = omega arith in
    let now = rows_behind modules kept k more in
    let next = cons_option (row_at modules kept (k + more)) [] in
    record {
      after = now.after ++ next;
      split =
          ap (rows_below modules kept) same
          ∙ rows_after modules kept (k + more)
          ∙ ap (λ (rows : List ImportRow). rows ++ next) now.split
          ∙ append_assoc (rows_below modules kept k) now.after next;
    }

-- the rows of the modules up to an import that is kept end with its own
rows_with : (modules : List ModuleView) (kept : List Bool) (position : ℕ) (import : Import) → get_or kept position false ≡ true → (module_at modules position).imported ≡ Some import → rows_below modules kept (position + 1) ≡ rows_below modules kept position ++ row_of import ∷ []
rows_with modules kept position import told is =
    let row : row_at modules kept position ≡ Some (row_of import) = rw (told, is) refl in
    rows_after modules kept position
    ∙ ap (λ (own : Option ImportRow). rows_below modules kept position ++ cons_option own []) row

-- its row has as many before it as the modules before it have
record StandsAt (rows : List ImportRow) (place : ℕ) (import : Import) : Type 0 where
  inside : place < length rows
  row : get_or rows place no_row ≡ row_of import

stands_at : (modules : List ModuleView) (kept : List Bool) (position : ℕ) (import : Import) → position < length modules → get_or kept position false ≡ true → (module_at modules position).imported ≡ Some import → StandsAt (import_rows modules kept) (length (rows_below modules kept position)) import
stands_at modules kept position import lt told is =
    let before = rows_below modules kept position in
    let with_own = rows_with modules kept position import told is in
    let all : position + 1 + (length modules - (position + 1)) ≡ length modules = omega arith in
    let behind = subst (λ (n : ℕ). StartsWith (rows_below modules kept (position + 1)) (rows_below modules kept n)) all (rows_behind modules kept (position + 1) (length modules - (position + 1))) in
    let long : length (before ++ row_of import ∷ []) ≡ length before + 1 = length-append before (row_of import ∷ []) in
    let split : import_rows modules kept ≡ (before ++ row_of import ∷ []) ++ behind.after = behind.split ∙ ap (λ (rows : List ImportRow). rows ++ behind.after) with_own in
    record {
      inside = omega (arith, long, ap length split, length-append (before ++ row_of import ∷ []) behind.after);
      row =
          ap (λ (rows : List ImportRow). get_or rows (length before) no_row) split
          ∙ get_or_append_left (before ++ row_of import ∷ []) behind.after no_row (length before) (omega (arith, long))
          ∙ get_or_push before (row_of import) no_row (length before) refl;
    }

-- ---- its slot

slot_of_row : (rows : List ImportRow) (k : ℕ) → k < length rows → get_or (slots_of rows) k 0 ≡ row_offset rows k
unfolding slots_of
slot_of_row rows k lt = get_or-map-range_with_len (row_offset rows) 0 (length rows) k k 0 lt (omega arith)

-- an import that is kept is found with its own slot
pub import_found : (modules : List ModuleView) (kept : List Bool) (position : ℕ) (import : Import) (rvas : List ℕ) → position < length modules → get_or kept position false ≡ true → (module_at modules position).imported ≡ Some import → Contains (found_of (import_rows modules kept) rvas) (import_of import.dll import.by (slots_rva rvas + slot_offset modules kept position))
import_found modules kept position import rvas lt told is =
    let rows = import_rows modules kept in
    let place = length (rows_below modules kept position) in
    let stands = stands_at modules kept position import lt told is in
    let same : import_of (dll_at rows place) (by_at rows place) (slots_rva rvas + row_offset rows place) ≡ import_of import.dll import.by (slots_rva rvas + slot_offset modules kept position) =
    ap (λ (row : ImportRow). import_of row.dll row.by (slots_rva rvas + row_offset rows place)) stands.row
    ∙ ap (λ (n : ℕ). import_of import.dll import.by (slots_rva rvas + n)) (sym (slot_of_row rows place stands.inside)) in
    subst (Contains (found_of rows rvas)) same (found_with_slot rows rvas place stands.inside)
