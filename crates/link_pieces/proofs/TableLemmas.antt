-- The tables that the linker makes: what they are, that they are aligned, and that one with bytes is there.
use Rattle.std.proofs.Common.{◌≡◌, ℕ, zero, suc, ◌-◌, ◌<◌, ◌≤◌, Bool, true, false, cond, ◌||◌, eqb, List, [], ◌∷◌, ◌++◌, length, inl, inr, refl, sym, ap, subst, ◌∙◌, eq-eqb, arith}
use Rattle.std.specs.Prelude.{codes}
use Rattle.std.specs.List.{All, list_any}
use Rattle.std.proofs.Math.Bool.{or-true}
use Rattle.std.proofs.lemmas.Bool.{cases_lt, lt-ltb}
use Rattle.std.proofs.lemmas.List.{get_or_append_left, get_or-append_right, length-append}
use Rattle.std.proofs.lemmas.List.Elements.{All-nil, All-cons, All-append}
use Rattle.std.proofs.lemmas.List.Folds.{list_any-append}
use Rattle.link_base.proofs.NumberLemmas.{above_zero, not_zero}
use Rattle.section_group.specs.declared.piece.Piece.{Piece}
use Rattle.address_layout.specs.Layout.{IsAlignment}
use Rattle.import_tables.specs.ImportShape.{sizes_of}
use Rattle.module_view.specs.Module.{ModuleView}
use Rattle.synthetic_sections.specs.LinkerPieces.{SLOTS, EXPORTS, DEBUG_ENTRY, DEBUG_DATA, RESOURCES, FIRST_THUNK, size_at, table_piece, table_if, table_pieces, export_table_pieces, entry_size, debug_pieces, resource_pieces}
use Rattle.link_imports.specs.Imports.{import_sizes}
use Rattle.link_pieces.specs.PieceIndex.{is_numbered}
use Rattle.link_pieces.specs.TablePieces.{KeptParts, kept_imports, tables_for, tables_of, table_sizes, is_table, IsLinkTable}

-- ---- what holds of them

-- what holds of a piece holds where it is made
all_if : (P : Piece → Type 0) (none : Bool) (piece : Piece) → (none ≡ false → P piece) → All P (cond none [] (piece ∷ []))
all_if P true piece holds = All-nil P
all_if P false piece holds = All-cons P piece [] (holds refl) (All-nil P)

-- what holds of the table of each number holds of all import tables
all_imports : (P : Piece → Type 0) (count : ℕ) (sizes : List ℕ) → ((number : ℕ) (name : List ℕ) (align : ℕ) → number < 5 → IsAlignment align → 0 < size_at sizes number → P (table_piece count number name align (size_at sizes number))) → All P (table_pieces count sizes)
unfolding table_pieces
all_imports P count sizes each =
    let one = λ (number : ℕ) (name : List ℕ) (align : ℕ) (few : number < 5) (is : IsAlignment align). all_if P (eqb (size_at sizes number) 0) (table_piece count number name align (size_at sizes number)) (λ made. each number name align few is (above_zero (size_at sizes number) made)) in
    All-append P _ _ (one 0 (codes ".idata$2") 4 (omega arith) (record { positive = omega arith; divides = refl }))
    (All-append P _ _ (one 1 (codes ".idata$4") 8 (omega arith) (record { positive = omega arith; divides = refl }))
    (All-append P _ _ (one SLOTS (codes ".idata$5") 8 (omega arith) (record { positive = omega arith; divides = refl }))
    (All-append P _ _ (one 3 (codes ".idata$6") 2 (omega arith) (record { positive = omega arith; divides = refl }))
    (one 4 (codes ".idata$7") 1 (omega arith) (record { positive = omega arith; divides = refl })))))

all_exports : (P : Piece → Type 0) (count size : ℕ) → (0 < size → P (table_piece count EXPORTS (codes ".edata") 4 size)) → All P (export_table_pieces count size)
unfolding export_table_pieces
all_exports P count size holds =
    all_if P (eqb size 0) (table_piece count EXPORTS (codes ".edata") 4 size) (λ made. holds (above_zero size made))

-- and what holds of the two pieces of the debug directory holds of both
all_debug : (P : Piece → Type 0) (count size : ℕ) → (0 < entry_size size → P (table_piece count DEBUG_ENTRY (codes ".rdata") 4 (entry_size size))) → (0 < size → P (table_piece count DEBUG_DATA (codes ".rdata") 4 size)) → All P (debug_pieces count size)
unfolding debug_pieces
all_debug P count size entry holds =
    All-append P _ _ (all_if P (eqb (entry_size size) 0) (table_piece count DEBUG_ENTRY (codes ".rdata") 4 (entry_size size)) (λ made. entry (above_zero (entry_size size) made)))
    (all_if P (eqb size 0) (table_piece count DEBUG_DATA (codes ".rdata") 4 size) (λ made. holds (above_zero size made)))

all_resources : (P : Piece → Type 0) (count size : ℕ) → (0 < size → P (table_piece count RESOURCES (codes ".rsrc") 4 size)) → All P (resource_pieces count size)
unfolding resource_pieces
all_resources P count size holds =
    all_if P (eqb size 0) (table_piece count RESOURCES (codes ".rsrc") 4 size) (λ made. holds (above_zero size made))

-- ---- what each is

import_sizes_count : (modules : List ModuleView) (kept : List Bool) → length (import_sizes modules kept) ≡ 5
unfolding sizes_of
import_sizes_count modules kept = refl

-- the size of an import table, and those of the others
abbrev later_sizes : KeptParts → List ℕ
later_sizes link =
    link.parts.exports.size ∷ entry_size link.parts.debug.size ∷ link.parts.debug.size ∷ link.parts.resources.size ∷ []

pub import_size : (link : KeptParts) (number : ℕ) → number < 5 → size_at (table_sizes link) number ≡ size_at (import_sizes link.parts.modules (kept_imports link)) number
import_size link number few =
    get_or_append_left (import_sizes link.parts.modules (kept_imports link)) (later_sizes link) 0 number (omega (arith, few, import_sizes_count link.parts.modules (kept_imports link)))

later_size : (link : KeptParts) (number : ℕ) → 5 ≤ number → size_at (table_sizes link) number ≡ size_at (later_sizes link) (number - 5)
later_size link number behind =
    get_or-append_right (import_sizes link.parts.modules (kept_imports link)) (later_sizes link) 5 number 0 (import_sizes_count link.parts.modules (kept_imports link)) behind

pub export_size : (link : KeptParts) → size_at (table_sizes link) EXPORTS ≡ link.parts.exports.size
export_size link = later_size link 5 (omega arith)

pub entry_size_is : (link : KeptParts) → size_at (table_sizes link) DEBUG_ENTRY ≡ entry_size link.parts.debug.size
entry_size_is link = later_size link 6 (omega arith)

pub data_size_is : (link : KeptParts) → size_at (table_sizes link) DEBUG_DATA ≡ link.parts.debug.size
data_size_is link = later_size link 7 (omega arith)

pub tree_size_is : (link : KeptParts) → size_at (table_sizes link) RESOURCES ≡ link.parts.resources.size
tree_size_is link = later_size link 8 (omega arith)

pub tables_are : (link : KeptParts) → All (IsLinkTable link) (tables_of link)
tables_are link =
    let count = length link.parts.modules in
    let sizes = import_sizes link.parts.modules (kept_imports link) in
    let exports = export_table_pieces count link.parts.exports.size in
    let debug = debug_pieces count link.parts.debug.size in
    let tree = resource_pieces count link.parts.resources.size in
    All-append (IsLinkTable link) (table_pieces count sizes) (exports ++ (debug ++ tree))
    (all_imports (IsLinkTable link) count sizes (λ number name align few aligned some.
    record { of_linker = refl; few = omega (arith, few); init = refl; some = some; size = sym (import_size link number few) }))
    (All-append (IsLinkTable link) exports (debug ++ tree)
    (all_exports (IsLinkTable link) count link.parts.exports.size (λ some.
    record { of_linker = refl; few = omega arith; init = refl; some = some; size = sym (export_size link) }))
    (All-append (IsLinkTable link) debug tree
    (all_debug (IsLinkTable link) count link.parts.debug.size
    (λ some. record { of_linker = refl; few = omega arith; init = refl; some = some; size = sym (entry_size_is link) })
    (λ some. record { of_linker = refl; few = omega arith; init = refl; some = some; size = sym (data_size_is link) }))
    (all_resources (IsLinkTable link) count link.parts.resources.size
    (λ some. record { of_linker = refl; few = omega arith; init = refl; some = some; size = sym (tree_size_is link) }))))

pub tables_aligned : (modules : List ModuleView) (kept : List Bool) (size debug resources : ℕ) → All (λ (piece : Piece). IsAlignment piece.align) (tables_for modules kept size debug resources)
tables_aligned modules kept size debug resources =
    let count = length modules in
    let IsAligned = λ (piece : Piece). IsAlignment piece.align in
    All-append IsAligned (table_pieces count (import_sizes modules kept)) (export_table_pieces count size ++ (debug_pieces count debug ++ resource_pieces count resources))
    (all_imports IsAligned count (import_sizes modules kept) (λ number name align few aligned some. aligned))
    (All-append IsAligned (export_table_pieces count size) (debug_pieces count debug ++ resource_pieces count resources)
    (all_exports IsAligned count size (λ some. record { positive = omega arith; divides = refl }))
    (All-append IsAligned (debug_pieces count debug) (resource_pieces count resources)
    (all_debug IsAligned count debug (λ some. record { positive = omega arith; divides = refl }) (λ some. record { positive = omega arith; divides = refl }))
    (all_resources IsAligned count resources (λ some. record { positive = omega arith; divides = refl }))))

-- each is told by its number
pub tables_told : (modules : List ModuleView) (kept : List Bool) (size debug resources : ℕ) → All (λ (piece : Piece). is_table (length modules) piece ≡ true) (tables_for modules kept size debug resources)
tables_told modules kept size debug resources =
    let count = length modules in
    let IsTold = λ (piece : Piece). is_table count piece ≡ true in
    All-append IsTold (table_pieces count (import_sizes modules kept)) (export_table_pieces count size ++ (debug_pieces count debug ++ resource_pieces count resources))
    (all_imports IsTold count (import_sizes modules kept) (λ number name align few aligned some.
    rw (eq-eqb count count refl, lt-ltb number FIRST_THUNK (omega (arith, few))) refl))
    (All-append IsTold (export_table_pieces count size) (debug_pieces count debug ++ resource_pieces count resources)
    (all_exports IsTold count size (λ some. rw (eq-eqb count count refl) refl))
    (All-append IsTold (debug_pieces count debug) (resource_pieces count resources)
    (all_debug IsTold count debug (λ some. rw (eq-eqb count count refl) refl) (λ some. rw (eq-eqb count count refl) refl))
    (all_resources IsTold count resources (λ some. rw (eq-eqb count count refl) refl))))

-- ---- there are at most nine

few_if : (none : Bool) (piece : Piece) → length (cond none [] (piece ∷ [])) ≤ 1
few_if true piece = omega arith
few_if false piece = omega arith

few_imports : (count : ℕ) (sizes : List ℕ) → length (table_pieces count sizes) ≤ 5
unfolding table_pieces
few_imports count sizes =
    let table = λ (number : ℕ) (name : List ℕ) (align : ℕ). table_if count number name align (size_at sizes number) in
    let few = λ (number : ℕ) (name : List ℕ) (align : ℕ). few_if (eqb (size_at sizes number) 0) (table_piece count number name align (size_at sizes number)) in
    let a = table 0 (codes ".idata$2") 4 in
    let b = table 1 (codes ".idata$4") 8 in
    let c = table SLOTS (codes ".idata$5") 8 in
    let d = table 3 (codes ".idata$6") 2 in
    let e = table 4 (codes ".idata$7") 1 in
    omega (arith, length-append a (b ++ (c ++ (d ++ e))), length-append b (c ++ (d ++ e)), length-append c (d ++ e), length-append d e, few 0 (codes ".idata$2") 4, few 1 (codes ".idata$4") 8, few SLOTS (codes ".idata$5") 8, few 3 (codes ".idata$6") 2, few 4 (codes ".idata$7") 1)

few_exports : (count size : ℕ) → length (export_table_pieces count size) ≤ 1
unfolding export_table_pieces
few_exports count size = few_if (eqb size 0) (table_piece count EXPORTS (codes ".edata") 4 size)

few_debug : (count size : ℕ) → length (debug_pieces count size) ≤ 2
unfolding debug_pieces
few_debug count size =
    let entry = table_if count DEBUG_ENTRY (codes ".rdata") 4 (entry_size size) in
    let rest = table_if count DEBUG_DATA (codes ".rdata") 4 size in
    omega (arith, length-append entry rest, few_if (eqb (entry_size size) 0) (table_piece count DEBUG_ENTRY (codes ".rdata") 4 (entry_size size)), few_if (eqb size 0) (table_piece count DEBUG_DATA (codes ".rdata") 4 size))

few_resources : (count size : ℕ) → length (resource_pieces count size) ≤ 1
unfolding resource_pieces
few_resources count size = few_if (eqb size 0) (table_piece count RESOURCES (codes ".rsrc") 4 size)

pub tables_few : (modules : List ModuleView) (kept : List Bool) (size debug resources : ℕ) → length (tables_for modules kept size debug resources) ≤ 9
tables_few modules kept size debug resources =
    let count = length modules in
    let exports = export_table_pieces count size in
    let directory = debug_pieces count debug in
    let tree = resource_pieces count resources in
    omega (arith, length-append (table_pieces count (import_sizes modules kept)) (exports ++ (directory ++ tree)), length-append exports (directory ++ tree), length-append directory tree, few_imports count (import_sizes modules kept), few_exports count size, few_debug count debug, few_resources count resources)

-- ---- one that has bytes is there

-- a piece that is made is among them
found_in : (test : Piece → Bool) (none : Bool) (piece : Piece) → none ≡ false → test piece ≡ true → list_any test (cond none [] (piece ∷ [])) ≡ true
found_in test none piece made holds = rw (made, holds) refl

pub either_any : (test : Piece → Bool) (xs ys : List Piece) → list_any test xs ≡ true → list_any test (xs ++ ys) ≡ true
either_any test xs ys here = list_any-append test xs ys ∙ ap (λ (b : Bool). b || list_any test ys) here

pub later_any : (test : Piece → Bool) (xs ys : List Piece) → list_any test ys ≡ true → list_any test (xs ++ ys) ≡ true
later_any test xs ys here = list_any-append test xs ys ∙ ap (λ (b : Bool). list_any test xs || b) here ∙ or-true (list_any test xs)

-- one of five lists, by its number
abbrev of_five : (a b c d e : List Piece) → ℕ → List Piece
of_five a b c d e zero = a
of_five a b c d e (suc zero) = b
of_five a b c d e (suc (suc zero)) = c
of_five a b c d e (suc (suc (suc zero))) = d
of_five a b c d e (suc (suc (suc (suc more)))) = e

any_of_five : (test : Piece → Bool) (a b c d e : List Piece) (number : ℕ) → list_any test (of_five a b c d e number) ≡ true → list_any test (a ++ (b ++ (c ++ (d ++ e)))) ≡ true
any_of_five test a b c d e zero here = either_any test a (b ++ (c ++ (d ++ e))) here
any_of_five test a b c d e (suc zero) here = later_any test a (b ++ (c ++ (d ++ e))) (either_any test b (c ++ (d ++ e)) here)
any_of_five test a b c d e (suc (suc zero)) here =
    later_any test a (b ++ (c ++ (d ++ e))) (later_any test b (c ++ (d ++ e)) (either_any test c (d ++ e) here))
any_of_five test a b c d e (suc (suc (suc zero))) here =
    later_any test a (b ++ (c ++ (d ++ e))) (later_any test b (c ++ (d ++ e)) (later_any test c (d ++ e) (either_any test d e here)))
any_of_five test a b c d e (suc (suc (suc (suc more)))) here =
    later_any test a (b ++ (c ++ (d ++ e))) (later_any test b (c ++ (d ++ e)) (later_any test c (d ++ e) (later_any test d e here)))

table_found : (count : ℕ) (sizes : List ℕ) (number : ℕ) (name : List ℕ) (align : ℕ) → 0 < size_at sizes number → list_any (is_numbered count number) (table_if count number name align (size_at sizes number)) ≡ true
table_found count sizes number name align sized =
    found_in (is_numbered count number) (eqb (size_at sizes number) 0) (table_piece count number name align (size_at sizes number)) (not_zero (size_at sizes number) sized)
    (rw (eq-eqb count count refl, eq-eqb number number refl) refl)

table_of_number : (count : ℕ) (sizes : List ℕ) (number : ℕ) → number < 5 → 0 < size_at sizes number → list_any (is_numbered count number) (of_five (table_if count 0 (codes ".idata$2") 4 (size_at sizes 0)) (table_if count 1 (codes ".idata$4") 8 (size_at sizes 1)) (table_if count SLOTS (codes ".idata$5") 8 (size_at sizes SLOTS)) (table_if count 3 (codes ".idata$6") 2 (size_at sizes 3)) (table_if count 4 (codes ".idata$7") 1 (size_at sizes 4)) number) ≡ true
table_of_number count sizes zero few sized = table_found count sizes 0 (codes ".idata$2") 4 sized
table_of_number count sizes (suc zero) few sized = table_found count sizes 1 (codes ".idata$4") 8 sized
table_of_number count sizes (suc (suc zero)) few sized = table_found count sizes 2 (codes ".idata$5") 8 sized
table_of_number count sizes (suc (suc (suc zero))) few sized = table_found count sizes 3 (codes ".idata$6") 2 sized
table_of_number count sizes (suc (suc (suc (suc zero)))) few sized = table_found count sizes 4 (codes ".idata$7") 1 sized
table_of_number count sizes (suc (suc (suc (suc (suc more))))) few sized = absurd (omega (arith, few))

import_made : (count : ℕ) (sizes : List ℕ) (number : ℕ) → number < 5 → 0 < size_at sizes number → list_any (is_numbered count number) (table_pieces count sizes) ≡ true
unfolding table_pieces
import_made count sizes number few sized =
    any_of_five (is_numbered count number) (table_if count 0 (codes ".idata$2") 4 (size_at sizes 0)) (table_if count 1 (codes ".idata$4") 8 (size_at sizes 1)) (table_if count SLOTS (codes ".idata$5") 8 (size_at sizes SLOTS)) (table_if count 3 (codes ".idata$6") 2 (size_at sizes 3)) (table_if count 4 (codes ".idata$7") 1 (size_at sizes 4)) number
    (table_of_number count sizes number few sized)

export_made : (count size : ℕ) → 0 < size → list_any (is_numbered count EXPORTS) (export_table_pieces count size) ≡ true
unfolding export_table_pieces
export_made count size some =
    found_in (is_numbered count EXPORTS) (eqb size 0) (table_piece count EXPORTS (codes ".edata") 4 size) (not_zero size some) (rw (eq-eqb count count refl) refl)

entry_made : (count size : ℕ) → 0 < entry_size size → list_any (is_numbered count DEBUG_ENTRY) (debug_pieces count size) ≡ true
unfolding debug_pieces
entry_made count size some =
    either_any (is_numbered count DEBUG_ENTRY) (table_if count DEBUG_ENTRY (codes ".rdata") 4 (entry_size size)) _
    (found_in (is_numbered count DEBUG_ENTRY) (eqb (entry_size size) 0) (table_piece count DEBUG_ENTRY (codes ".rdata") 4 (entry_size size)) (not_zero (entry_size size) some) (rw (eq-eqb count count refl) refl))

data_made : (count size : ℕ) → 0 < size → list_any (is_numbered count DEBUG_DATA) (debug_pieces count size) ≡ true
unfolding debug_pieces
data_made count size some =
    later_any (is_numbered count DEBUG_DATA) (table_if count DEBUG_ENTRY (codes ".rdata") 4 (entry_size size)) _
    (found_in (is_numbered count DEBUG_DATA) (eqb size 0) (table_piece count DEBUG_DATA (codes ".rdata") 4 size) (not_zero size some) (rw (eq-eqb count count refl) refl))

tree_made : (count size : ℕ) → 0 < size → list_any (is_numbered count RESOURCES) (resource_pieces count size) ≡ true
unfolding resource_pieces
tree_made count size some =
    found_in (is_numbered count RESOURCES) (eqb size 0) (table_piece count RESOURCES (codes ".rsrc") 4 size) (not_zero size some) (rw (eq-eqb count count refl) refl)

-- one of the last four, by its number
module _ (link : KeptParts) (number : ℕ) (sized : 0 < size_at (table_sizes link) number) where
  abbrev count : ℕ
  count = length link.parts.modules

  abbrev exports : List Piece
  exports = export_table_pieces (length link.parts.modules) link.parts.exports.size

  abbrev directory : List Piece
  directory = debug_pieces (length link.parts.modules) link.parts.debug.size

  abbrev tree : List Piece
  tree = resource_pieces (length link.parts.modules) link.parts.resources.size

  -- it has its size, and is made by this
  by_number : (other size : ℕ) → number ≡ other → size_at (table_sizes link) other ≡ size → (0 < size → list_any (is_numbered (length link.parts.modules) other) (export_table_pieces (length link.parts.modules) link.parts.exports.size ++ (debug_pieces (length link.parts.modules) link.parts.debug.size ++ resource_pieces (length link.parts.modules) link.parts.resources.size)) ≡ true) → list_any (is_numbered (length link.parts.modules) number) (export_table_pieces (length link.parts.modules) link.parts.exports.size ++ (debug_pieces (length link.parts.modules) link.parts.debug.size ++ resource_pieces (length link.parts.modules) link.parts.resources.size)) ≡ true
  by_number other size same is made =
      subst (λ (n : ℕ). list_any (is_numbered count n) (exports ++ (directory ++ tree)) ≡ true) (sym same)
      (made (subst (λ (n : ℕ). 0 < n) (ap (size_at (table_sizes link)) same ∙ is) sized))

  later_made : 5 ≤ number → number < 9 → list_any (is_numbered (length link.parts.modules) number) (export_table_pieces (length link.parts.modules) link.parts.exports.size ++ (debug_pieces (length link.parts.modules) link.parts.debug.size ++ resource_pieces (length link.parts.modules) link.parts.resources.size)) ≡ true
  later_made behind few =
      elim (cases_lt number 6) [
        | inl export ↦
            by_number EXPORTS link.parts.exports.size (omega (arith, behind, export)) (export_size link)
            (λ some. either_any (is_numbered count EXPORTS) exports (directory ++ tree) (export_made count link.parts.exports.size some))
        | inr above ↦
            elim (cases_lt number 7) [
              | inl entry ↦
                  by_number DEBUG_ENTRY (entry_size link.parts.debug.size) (omega (arith, above, entry)) (entry_size_is link)
                  (λ some. later_any (is_numbered count DEBUG_ENTRY) exports (directory ++ tree) (either_any (is_numbered count DEBUG_ENTRY) directory tree (entry_made count link.parts.debug.size some)))
              | inr higher ↦
                  elim (cases_lt number 8) [
                    | inl named ↦
                        by_number DEBUG_DATA link.parts.debug.size (omega (arith, higher, named)) (data_size_is link)
                        (λ some. later_any (is_numbered count DEBUG_DATA) exports (directory ++ tree) (either_any (is_numbered count DEBUG_DATA) directory tree (data_made count link.parts.debug.size some)))
                    | inr last ↦
                        by_number RESOURCES link.parts.resources.size (omega (arith, few, last)) (tree_size_is link)
                        (λ some. later_any (is_numbered count RESOURCES) exports (directory ++ tree) (later_any (is_numbered count RESOURCES) directory tree (tree_made count link.parts.resources.size some)))
                  ]
            ]
      ]

pub table_made : (link : KeptParts) (number : ℕ) → number < 9 → 0 < size_at (table_sizes link) number → list_any (is_numbered (length link.parts.modules) number) (tables_of link) ≡ true
table_made link number few sized =
    let count = length link.parts.modules in
    let sizes = import_sizes link.parts.modules (kept_imports link) in
    elim (cases_lt number 5) [
      | inl below ↦
          either_any (is_numbered count number) (table_pieces count sizes) _
          (import_made count sizes number below (subst (λ (n : ℕ). 0 < n) (import_size link number below) sized))
      | inr behind ↦ later_any (is_numbered count number) (table_pieces count sizes) _ (later_made link number sized behind few)
    ]
