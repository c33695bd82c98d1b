-- The import tables of some imports, one by one.
use Rattle.std.proofs.Common.{◌≡◌, ℕ, ◌+◌, ◌*◌, ◌^◌, ◌<◌, Bool, true, false, cond, eqb, List, [], ◌∷◌, length, get_or, slice_index, refl, sym, ap, subst, arith}
use Rattle.std.specs.List.{list_any}
use Rattle.std.proofs.lemmas.Bool.{eqb-true, false≢true}
use Rattle.import_tables.specs.declared.row.ImportRow.{ImportRow}
use Rattle.import_tables.specs.ImportDirectory.{Imports, imports_of}
use Rattle.import_tables.specs.ImportShape.{same_name, dlls_of, directory_size as import_directory_size, dll_at, extent_of as shape_extent, sizes_of}
use Rattle.import_tables.specs.ImportTables.{EndBelow4G, tables_of as import_tables_of}
use Rattle.import_tables.specs.ReadBack.{Holds, HoldsTables, StandAboveZero, found_of}
use Rattle.import_tables.proofs.ApartLemmas.{listed, table_within}
use Rattle.synthetic_sections.specs.LinkerPieces.{size_at}

pub held_all : (memory : List ℕ) (rows : List ImportRow) (rvas : List ℕ) → ((number : ℕ) → number < 5 → Holds memory (slice_index rvas number) (get_or (import_tables_of rows rvas) number [])) → HoldsTables memory rows rvas
unfolding import_tables_of
held_all memory rows rvas each = record {
  directory = each 0 (omega arith);
  lookups = each 1 (omega arith);
  slots = each 2 (omega arith);
  hints = each 3 (omega arith);
  names = each 4 (omega arith);
}

pub end_all : (rows : List ImportRow) (rvas : List ℕ) → ((number : ℕ) → number < 5 → slice_index rvas number + size_at (sizes_of rows) number < 2 ^ 32) → EndBelow4G rvas (sizes_of rows)
end_all rows rvas each = record {
  directory = each 0 (omega arith);
  lookups = each 1 (omega arith);
  slots = each 2 (omega arith);
  hints = each 3 (omega arith);
  names = each 4 (omega arith);
}

pub some_listed : (name : List ℕ) (dlls : List (List ℕ)) → list_any (same_name name) dlls ≡ true → 0 < length dlls
some_listed name [] any = absurd (false≢true any)
some_listed name (dll ∷ dlls) any = omega arith

pub some_directory : (dlls : ℕ) → 0 < dlls → 0 < import_directory_size dlls
some_directory dlls some = by (eqb dlls 0) refl
  where
    by : (b : Bool) → eqb dlls 0 ≡ b → 0 < import_directory_size dlls
    by true none = absurd (omega (arith, some, eqb-true dlls 0 none))
    by false any = subst (λ (b : Bool). 0 < cond b 0 (20 * (dlls + 1))) (sym any) (omega arith)

pub above_all : (rows : List ImportRow) (rvas : List ℕ) → 0 < length rows → ((number : ℕ) → number < 5 → 0 < size_at (sizes_of rows) number → 0 < slice_index rvas number) → StandAboveZero rows rvas
unfolding sizes_of shape_extent
above_all rows rvas some each = record {
  directory = each 0 (omega arith) (some_directory (length (dlls_of rows)) (some_listed (dll_at rows 0) (dlls_of rows) (listed rows 0 some)));
  slots = each 2 (omega arith) (let within = table_within rows 0 some in omega (arith, within));
  hints = λ named. each 3 (omega arith) named;
}

-- without an import there is nothing
pub no_size : (rows : List ImportRow) → rows ≡ [] → size_at (sizes_of rows) 0 ≡ 0
unfolding sizes_of shape_extent dlls_of
no_size rows none = ap (λ (rs : List ImportRow). size_at (sizes_of rs) 0) none

pub none_found : (rows : List ImportRow) (rvas : List ℕ) → rows ≡ [] → found_of rows rvas ≡ []
unfolding found_of dlls_of
none_found rows rvas none = ap (λ (rs : List ImportRow). found_of rs rvas) none

pub none_read : (memory : List ℕ) → imports_of memory 0 ≡ Imports []
unfolding imports_of
none_read memory = refl
