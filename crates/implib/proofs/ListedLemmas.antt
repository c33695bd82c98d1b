-- Each listing of rows has a member, whose header stands where the listing says.
use Rattle.std.proofs.Common.{◌≡◌, ℕ, ◌+◌, ◌-◌, ◌<◌, ◌≤◌, Bool, true, false, cond, List, [], ◌∷◌, ◌++◌, length, map, drop, slice_index, refl, sym, ap, ◌∙◌, arith}
use Rattle.std.specs.List.{All, sum_by, list_any}
use Rattle.std.proofs.lemmas.List.{drop-drop, length-drop, get_or-drop}
use Rattle.std.proofs.lemmas.List.Elements.{All-nil, All-cons, All-tail}
use Rattle.std.proofs.lemmas.List.Sorted.{All-permutation}
use Rattle.std.proofs.lemmas.List.Sums.{sum_by-cons}
use Rattle.link_base.specs.Bytes.{is_nul}
use Rattle.link_base.specs.Limits.{NAME_LIMIT, FILE_LIMIT}
use Rattle.link_base.specs.NameText.{import_prefix}
use Rattle.sorted_lists.proofs.CallerLemmas.{order_permutes}
use Rattle.implib.specs.declared.row.LibraryRow.{LibraryRow}
use Rattle.implib.specs.declared.listing.Listing.{Listing}
use Rattle.implib.specs.Rows.{ROW_LIMIT, IsText}
use Rattle.implib.specs.Listings.{lists_symbol, row_size, listed, listings_from, headers_from, listing_cmp, by_name}
use Rattle.implib.specs.ImportLibrary.{rows_place, listings_of, headers_of}
use Rattle.implib.specs.ReadBack.{CanBeWritten}
use Rattle.implib.proofs.PlaceLemmas.{small}
use Rattle.implib.proofs.DirectoryLemmas.{IsListed}

all_listed : (dll headers : List ℕ) (number header : ℕ) (rows : List LibraryRow) → drop number headers ≡ headers_from dll header rows → All (λ row. IsText NAME_LIMIT row.symbol) rows → number + length rows ≤ ROW_LIMIT → header + sum_by (row_size dll) rows ≤ FILE_LIMIT → All (IsListed headers) (listings_from dll (number + 1) header rows)
unfolding listings_from headers_from
all_listed dll headers number header [] left texts few fits = All-nil (IsListed headers)
all_listed dll headers number header (row ∷ rows) left texts few fits =
    go (lists_symbol row.kind) (all_listed dll headers (number + 1) (header + row_size dll row) rows next (All-tail (λ (r : LibraryRow). IsText NAME_LIMIT r.symbol) row rows texts) (omega (arith, few)) (omega (arith, fits, more)))
  where
    more : sum_by (row_size dll) (row ∷ rows) ≡ row_size dll row + sum_by (row_size dll) rows
    more = sum_by-cons (row_size dll) row rows

    next : drop (number + 1) headers ≡ headers_from dll (header + row_size dll row) rows
    next = sym (drop-drop 1 number headers) ∙ ap (drop 1) left

    inside : number < length headers
    inside = omega (arith, length-drop number headers, ap length left)

    here : slice_index headers (number + 1 - 1) ≡ header
    here =
        let place : number + 1 - 1 ≡ number + 0 = omega arith in
        ap (slice_index headers) place ∙ sym (get_or-drop number headers 0 0) ∙ ap (λ (xs : List ℕ). slice_index xs 0) left

    one : (name : List ℕ) → list_any is_nul name ≡ false → IsListed headers (listed (number + 1) header name)
    one name plain = record { first = omega arith; last = omega (arith, inside); small = omega (arith, few); header = here; fits = omega (arith, fits); plain = plain }

    symbol : list_any is_nul row.symbol ≡ false
    symbol = (texts 0 row (omega arith)).plain

    rest : List Listing
    rest = listings_from dll (number + 1 + 1) (header + row_size dll row) rows

    go : (b : Bool) → All (IsListed headers) rest → All (IsListed headers) (map (listed (number + 1) header) ((import_prefix ++ row.symbol) ∷ cond b (row.symbol ∷ []) []) ++ rest)
    go true later =
        All-cons (IsListed headers) (listed (number + 1) header (import_prefix ++ row.symbol)) (listed (number + 1) header row.symbol ∷ rest) (one (import_prefix ++ row.symbol) symbol)
        (All-cons (IsListed headers) (listed (number + 1) header row.symbol) rest (one row.symbol symbol) later)
    go false later = All-cons (IsListed headers) (listed (number + 1) header (import_prefix ++ row.symbol)) rest (one (import_prefix ++ row.symbol) symbol) later

rows_listed : (rows : List LibraryRow) (dll : List ℕ) (time : ℕ) → CanBeWritten rows dll time → All (IsListed (headers_of rows dll)) (listings_of rows dll)
rows_listed rows dll time w =
    let s = small rows dll time w in
    all_listed dll (headers_of rows dll) 0 (rows_place rows dll) rows refl w.rows_are.symbols (omega (arith, w.rows_are.few)) s.2

pub plain_listings : (rows : List LibraryRow) (dll : List ℕ) (time : ℕ) → CanBeWritten rows dll time → All (λ listing. list_any is_nul listing.name ≡ false) (listings_of rows dll)
plain_listings rows dll time w = λ k d lt. (rows_listed rows dll time w k d lt).plain

pub listings_are_listed : (rows : List LibraryRow) (dll : List ℕ) (time : ℕ) → CanBeWritten rows dll time → All (IsListed (headers_of rows dll)) (by_name (listings_of rows dll))
listings_are_listed rows dll time w =
    All-permutation (IsListed (headers_of rows dll)) (listings_of rows dll) (by_name (listings_of rows dll)) (order_permutes listing_cmp (listings_of rows dll)) (rows_listed rows dll time w)
