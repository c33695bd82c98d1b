-- The pieces of a plan, their fields and the exports, once it is known what is kept.
use Rattle.std.proofs.Common.{◌≡◌, ℕ, zero, suc, ◌+◌, ◌-◌, ◌^◌, ◌<◌, ◌≤◌, Bool, true, false, cond, ◌&&◌, eqb, ltb, List, [], ◌∷◌, ◌++◌, length, map, get_or, replicate, Option, Some, None, option_map, Result, Ok, Err, inl, inr, refl, sym, ap, subst, ◌∙◌, append_assoc, add-one, arith}
use Rattle.std.specs.List.{All, range_with_len}
use Rattle.std.specs.Prelude.{unwrap_or}
use Rattle.std.proofs.lemmas.Bool.{cases_lt, false≢true, and_parts, eqb-true, lt-ltb, le-ltb}
use Rattle.std.proofs.lemmas.List.{get_or_append_left, get_or-append_right, get_or_past, get_or_default, length-append, length-map, length-replicate, ext_get_or}
use Rattle.std.proofs.lemmas.List.Elements.{All-map, All-append, All-nil}
use Rattle.std.proofs.lemmas.List.Sorted.{IsPermutation-refl}
use Rattle.std.proofs.lemmas.List.FromFn.{get_or-map-range_with_len, length-map-range_with_len}
use Rattle.std.proofs.Math.ListN.{get_or-map}
use Rattle.section_group.specs.declared.piece.Piece.{Piece}
use Rattle.section_group.specs.BarePieces.{bare}
use Rattle.section_group.specs.SectionOrder.{no_piece}
use Rattle.section_group.specs.PieceContents.{piece_contents, HasItsBytes}
use Rattle.address_layout.specs.Layout.{IsAlignment}
use Rattle.relocate.specs.declared.fix.Fix.{Fix}
use Rattle.relocate.specs.declared.fix.Target.{Target}
use Rattle.relocate.specs.declared.fix.Target.TheVariants as target
use Rattle.relocate.specs.Judged.{AreTheFields, ArePatchable}
use Rattle.relocate.specs.Redirected.{place_of, redirected, redirected_if, redirected_fix}
use Rattle.link_base.specs.declared.kinds.target.TargetFault.{TargetFault}
use Rattle.relocate.proofs.CallerLemmas.{fields_redirected, patchable_redirected}
use Rattle.link_base.specs.Bytes.{first_below}
use Rattle.synthetic_sections.specs.LinkerPieces.{SLOTS, FIRST_THUNK, no_bytes}
use Rattle.link_imports.specs.Imports.{slot_offset}
use Rattle.link_imports.proofs.RowLemmas.{past_all}
use Rattle.module_view.specs.Module.{ModuleView}
use Rattle.link_words.specs.Outcome.{LinkOptions}
use Rattle.link_pieces.specs.LinkParts.{LinkParts}
use Rattle.link_pieces.specs.Pieces.{link_pieces, link_contents}
use Rattle.link_pieces.specs.PieceIndex.{is_numbered, holds}
use Rattle.link_pieces.specs.TablePieces.{KeptParts, kept_imports, tables_for, tables_of, whole_pieces, whole_contents, is_table}
use Rattle.link_pieces.proofs.CallerLemmas.{bare_at, no_table, whole_at}
use Rattle.link_pieces.proofs.PieceLemmas.{over_bare}
use Rattle.link_pieces.proofs.TableLemmas.{tables_aligned, tables_told, tables_few}
use Rattle.link_fields.specs.ExportTargets.{export_targets}
use Rattle.link_fields.specs.Fixes.{HaveFields as HaveAll, piece_fixes}
use Rattle.link_keeping.specs.Named.{named_if}
use Rattle.link_keeping.proofs.CallerLemmas.{AreNamed, count_named, contents_named}
use Rattle.link_plan.specs.Planned.{planned_piece, plan_pieces, slot_offsets, slot_table, placed_target, placed_fix, fixes_if, HaveFields, planned_target, planned_targets}
use Rattle.link_plan.proofs.CallerLemmas.{is_named, planned_at, table_at, plan_count}

-- ---- pieces

-- those of the link, named where they are to be
pub planned : (options : LinkOptions) (link : KeptParts) (old : List Piece) (marks : List Bool) (now : List Piece) → map bare old ≡ link_pieces link.parts → ((k : ℕ) → k < length old → get_or marks k false ≡ is_named options link k) → AreNamed old marks now → map bare now ≡ map (planned_piece options link) (range_with_len 0 (length (link_pieces link.parts)))
planned options link old marks now are marked is =
    let n : length old ≡ length (link_pieces link.parts) = sym (length-map old bare) ∙ ap (λ (ps : List Piece). length ps) are in
    let f = λ (k : ℕ). named_if (get_or marks k false) (get_or old k no_piece) in
    let count = count_named old marks now is in
    ext_get_or no_piece (map bare now) (map (planned_piece options link) (range_with_len 0 (length (link_pieces link.parts)))) (length-map now bare ∙ count ∙ n ∙ sym (length-map-range_with_len (planned_piece options link) 0 (length (link_pieces link.parts)))) (λ i lt.
    let within : i < length old = omega (arith, length-map now bare, count) in
    let here : get_or now i no_piece ≡ f i = ap (λ (ps : List Piece). get_or ps i no_piece) is ∙ get_or-map-range_with_len f 0 (length old) i i no_piece within (omega arith) in
    get_or-map bare now i no_piece
    ∙ ap bare here
    ∙ ap (λ (b : Bool). named_if b (bare (get_or old i no_piece))) (marked i within)
    ∙ ap (named_if (is_named options link i)) (bare_at link.parts old i are)
    ∙ sym (get_or-map-range_with_len (planned_piece options link) 0 (length (link_pieces link.parts)) i i no_piece (omega (arith, within, n)) (omega arith)))

-- with the tables behind them
pub pieces_planned : (options : LinkOptions) (link : KeptParts) (old : List Piece) (marks : List Bool) (now after : List Piece) → map bare old ≡ link_pieces link.parts → ((k : ℕ) → k < length old → get_or marks k false ≡ is_named options link k) → AreNamed old marks now → map bare after ≡ map bare now ++ tables_of link → map bare after ≡ plan_pieces options link
unfolding plan_pieces
pieces_planned options link old marks now after are marked is grown =
    grown ∙ ap (λ (ps : List Piece). ps ++ tables_of link) (planned options link old marks now are marked is)

pub contents_planned : (link : KeptParts) (old : List Piece) (marks : List Bool) (now after : List Piece) → map piece_contents old ≡ link_contents link.parts → AreNamed old marks now → map piece_contents after ≡ map piece_contents now ++ map no_bytes (tables_of link) → map piece_contents after ≡ whole_contents link
contents_planned link old marks now after are is grown =
    grown ∙ ap (λ (cs : List (List ℕ)). cs ++ map no_bytes (tables_of link)) (contents_named old marks now is ∙ are)

-- ---- what holds of each

-- the count of all
pub whole_count : (modules : List ModuleView) (kept : List Bool) (size debug resources : ℕ) (now after : List Piece) → map bare after ≡ map bare now ++ tables_for modules kept size debug resources → length after ≡ length now + length (tables_for modules kept size debug resources)
whole_count modules kept size debug resources now after grown =
    omega (arith, length-map after bare, length-map now bare, ap length grown, length-append (map bare now) (tables_for modules kept size debug resources))

pub few_planned : (modules : List ModuleView) (kept : List Bool) (size debug resources : ℕ) (now after : List Piece) → length now < 2 ^ 31 - 16 → map bare after ≡ map bare now ++ tables_for modules kept size debug resources → length after < 2 ^ 31
few_planned modules kept size debug resources now after few grown =
    omega (arith, few, whole_count modules kept size debug resources now after grown, tables_few modules kept size debug resources)

abbrev HasAlignment : Piece → Type 0
HasAlignment piece = IsAlignment piece.align

pub aligned_planned : (modules : List ModuleView) (kept : List Bool) (size debug resources : ℕ) (now after : List Piece) → All (λ (piece : Piece). IsAlignment piece.align) now → map bare after ≡ map bare now ++ tables_for modules kept size debug resources → All (λ (piece : Piece). IsAlignment piece.align) after
aligned_planned modules kept size debug resources now after aligned grown =
    over_bare HasAlignment after
    (subst (All HasAlignment) (sym grown)
    (All-append HasAlignment (map bare now) (tables_for modules kept size debug resources) (All-map HasAlignment bare now aligned) (tables_aligned modules kept size debug resources)))

-- one of the first is as it was
first_same : (modules : List ModuleView) (kept : List Bool) (size debug resources : ℕ) (now after : List Piece) (k : ℕ) → k < length now → map bare after ≡ map bare now ++ tables_for modules kept size debug resources → bare (get_or after k no_piece) ≡ bare (get_or now k no_piece)
first_same modules kept size debug resources now after k lt grown =
    sym (get_or-map bare after k no_piece)
    ∙ ap (λ (ps : List Piece). get_or ps k no_piece) grown
    ∙ get_or_append_left (map bare now) (tables_for modules kept size debug resources) no_piece k (omega (arith, lt, length-map now bare))
    ∙ get_or-map bare now k no_piece

first_holds : (tables : List Piece) (now after : List Piece) (k : ℕ) → k < length now → map piece_contents after ≡ map piece_contents now ++ map no_bytes tables → piece_contents (get_or after k no_piece) ≡ piece_contents (get_or now k no_piece)
first_holds tables now after k lt grown =
    sym (get_or-map piece_contents after k no_piece)
    ∙ ap (λ (cs : List (List ℕ)). get_or cs k []) grown
    ∙ get_or_append_left (map piece_contents now) (map no_bytes tables) [] k (omega (arith, lt, length-map now piece_contents))
    ∙ get_or-map piece_contents now k no_piece

-- one behind them is a table
last_told : (modules : List ModuleView) (kept : List Bool) (size debug resources : ℕ) (now after : List Piece) (k : ℕ) → length now ≤ k → k < length after → map bare after ≡ map bare now ++ tables_for modules kept size debug resources → is_table (length modules) (get_or after k no_piece) ≡ true
last_told modules kept size debug resources now after k behind lt grown =
    let tables = tables_for modules kept size debug resources in
    let whole = whole_count modules kept size debug resources now after grown in
    let long : length (map bare now) ≤ k = omega (arith, behind, length-map now bare) in
    ap (is_table (length modules))
    (sym (get_or-map bare after k no_piece)
    ∙ ap (λ (ps : List Piece). get_or ps k no_piece) grown)
    ∙ ap (is_table (length modules)) (get_or-append_right (map bare now) tables (length (map bare now)) k no_piece refl long)
    ∙ tables_told modules kept size debug resources (k - length (map bare now)) no_piece (omega (arith, behind, lt, whole, length-map now bare))

pub bodies_planned : (modules : List ModuleView) (kept : List Bool) (size debug resources : ℕ) (now after : List Piece) → ((k : ℕ) → k < length now → HasItsBytes now k) → map bare after ≡ map bare now ++ tables_for modules kept size debug resources → map piece_contents after ≡ map piece_contents now ++ map no_bytes (tables_for modules kept size debug resources) → (k : ℕ) → k < length after → is_table (length modules) (get_or after k no_piece) ≡ false → HasItsBytes after k
bodies_planned modules kept size debug resources now after bodies grown holds k lt other =
    elim (cases_lt k (length now)) [
      | inl inside ↦ λ init.
          let same = first_same modules kept size debug resources now after k inside grown in
          ap length (first_holds (tables_for modules kept size debug resources) now after k inside holds)
          ∙ bodies k inside (sym (ap (λ (p : Piece). p.init) same) ∙ init)
          ∙ sym (ap (λ (p : Piece). p.size) same)
      | inr behind ↦ absurd (false≢true (sym other ∙ last_told modules kept size debug resources now after k behind lt grown))
    ]

-- ---- fields

no_fields : (len : ℕ) → ArePatchable len []
no_fields len = record { each = All-nil _; apart = λ i j d low lt. absurd (omega arith) }

-- no fields
abbrev pub no_fix : List Fix
no_fix = []

no_permutation : AreTheFields [] []
no_permutation = IsPermutation-refl no_fix

-- once more
pub one_more_none : (old now after : List (List Fix)) (count : ℕ) → now ≡ old ++ replicate count no_fix → after ≡ now ++ no_fix ∷ [] → after ≡ old ++ replicate (count + 1) no_fix
one_more_none old now after count is grown =
    grown
    ∙ ap (λ (fs : List (List Fix)). fs ++ no_fix ∷ []) is
    ∙ append_assoc old (replicate count no_fix) (no_fix ∷ [])
    ∙ ap (λ (fs : List (List Fix)). old ++ fs) (last count ∙ ap (λ (n : ℕ). replicate n no_fix) (sym (add-one count)))
  where
    last : (n : ℕ) → replicate n no_fix ++ no_fix ∷ [] ≡ replicate (suc n) no_fix
    last zero = refl
    last (suc n) = ap (λ (fs : List (List Fix)). no_fix ∷ fs) (last n)

-- with the same offsets in another list
pub same_place : (spots : List ℕ) (first home other : ℕ) (offsets own : List ℕ) (t : Target) → home ≡ other → ((p : ℕ) → get_or offsets p 0 ≡ get_or own p 0) → redirected spots first home offsets t ≡ redirected spots first other own t
same_place spots first home other offsets own (target.Piece piece value) same each =
    ap (λ (h : ℕ). cond (ltb piece first) (target.Piece (place_of spots piece) value) (target.Piece h (get_or offsets (piece - first) 0))) same
    ∙ ap (λ (o : ℕ). cond (ltb piece first) (target.Piece (place_of spots piece) value) (target.Piece other o)) (each (piece - first))
same_place spots first home other offsets own (target.Absolute value) same each = refl
same_place spots first home other offsets own target.ImageBase same each = refl

-- the offsets of slots as a list
pub same_offsets : (link : KeptParts) (offsets : List ℕ) → ((p : ℕ) → get_or offsets p 0 ≡ slot_offset link.parts.modules (kept_imports link) p) → (p : ℕ) → get_or offsets p 0 ≡ get_or (slot_offsets link) p 0
same_offsets link offsets each p =
    let modules = link.parts.modules in
    let f = slot_offset modules (kept_imports link) in
    each p ∙ elim (cases_lt p (length modules)) [
      | inl inside ↦ sym (get_or-map-range_with_len f 0 (length modules) p p 0 inside (omega arith))
      | inr past ↦ past_all modules (kept_imports link) p past ∙ sym (get_or_past (slot_offsets link) p 0 (omega (arith, past, length-map-range_with_len f 0 (length modules))))
    ]

-- where the pieces and the imports stand, as it is known to the code
pub record ArePlaces (link : KeptParts) (spots : List ℕ) (first home : ℕ) (offsets : List ℕ) : Type 0 where
  pub spots_are : spots ≡ link.places
  pub first_is : first ≡ length (link_pieces link.parts)
  pub home_is : home ≡ slot_table link
  pub offsets_are : (p : ℕ) → get_or offsets p 0 ≡ slot_offset link.parts.modules (kept_imports link) p

pub target_placed : (link : KeptParts) (spots : List ℕ) (first home : ℕ) (offsets : List ℕ) (t : Target) → ArePlaces link spots first home offsets → redirected spots first home offsets t ≡ placed_target link t
target_placed link spots first home offsets t places =
    same_place spots first home (slot_table link) offsets (slot_offsets link) t places.home_is (same_offsets link offsets places.offsets_are)
    ∙ ap (λ (n : ℕ). redirected spots n (slot_table link) (slot_offsets link) t) places.first_is
    ∙ ap (λ (ps : List ℕ). redirected ps (length (link_pieces link.parts)) (slot_table link) (slot_offsets link) t) places.spots_are

fix_placed : (link : KeptParts) (spots : List ℕ) (first home : ℕ) (offsets : List ℕ) (fix : Fix) → ArePlaces link spots first home offsets → redirected_fix spots first home offsets fix ≡ placed_fix link fix
fix_placed link spots first home offsets fix places =
    ap (λ (t : Option (Result Target TargetFault)). record fix { target = t }) (by fix.target)
  where
    by : (t : Option (Result Target TargetFault)) → option_map (redirected_if spots first home offsets) t ≡ option_map (redirected_if link.places (length (link_pieces link.parts)) (slot_table link) (slot_offsets link)) t
    by None = refl
    by (Some (Ok t)) = ap (λ (x : Target). Some (Ok x)) (target_placed link spots first home offsets t places)
    by (Some (Err fault)) = refl

fixes_placed : (link : KeptParts) (spots : List ℕ) (first home : ℕ) (offsets : List ℕ) (fixes : List Fix) → ArePlaces link spots first home offsets → map (redirected_fix spots first home offsets) fixes ≡ map (placed_fix link) fixes
fixes_placed link spots first home offsets [] places = refl
fixes_placed link spots first home offsets (fix ∷ fixes) places =
    rw (fix_placed link spots first home offsets fix places, fixes_placed link spots first home offsets fixes places) refl

fields_if : (link : KeptParts) (kept : Bool) (fixes fixups : List Fix) → AreTheFields fixes fixups → AreTheFields (fixes_if kept (map (placed_fix link) fixes)) (fixes_if kept (map (placed_fix link) fixups))
fields_if link true fixes fixups are =
    fields_redirected link.places (length (link_pieces link.parts)) (slot_table link) (slot_offsets link) fixes fixups are
fields_if link false fixes fixups are = no_permutation

patchable_if : (link : KeptParts) (kept : Bool) (len : ℕ) (fixups : List Fix) → ArePatchable len fixups → ArePatchable len (fixes_if kept (map (placed_fix link) fixups))
patchable_if link true len fixups are =
    patchable_redirected link.places (length (link_pieces link.parts)) (slot_table link) (slot_offsets link) len fixups are
patchable_if link false len fixups are = no_fields len

nothing_at : (n k : ℕ) → get_or (replicate n no_fix) k [] ≡ []
nothing_at zero k = refl
nothing_at (suc n) zero = refl
nothing_at (suc n) (suc k) = nothing_at n k

pub fields_planned : (link : KeptParts) (spots : List ℕ) (first home : ℕ) (offsets : List ℕ) (old now after : List (List Fix)) (tables count : ℕ) → length (link_contents link.parts) ≡ length (link_pieces link.parts) → ArePlaces link spots first home offsets → HaveAll link.parts (length (link_pieces link.parts)) old → now ≡ map (λ k. fixes_if (get_or link.kept k false) (map (redirected_fix spots first home offsets) (get_or old k []))) (range_with_len 0 (length old)) → after ≡ now ++ replicate tables no_fix → count ≡ length (link_pieces link.parts) + tables → HaveFields link count after
fields_planned link spots first home offsets old now after tables count contents places have is grown counted =
    let n = length (link_pieces link.parts) in
    let f = λ (k : ℕ). fixes_if (get_or link.kept k false) (map (redirected_fix spots first home offsets) (get_or old k [])) in
    let long : length now ≡ n = ap length is ∙ length-map-range_with_len f 0 (length old) ∙ have.for_each in
    let here = λ (k : ℕ) (lt : k < n). ap (λ (fs : List (List Fix)). get_or fs k []) grown ∙ get_or_append_left now (replicate tables no_fix) [] k (omega (arith, lt, long)) ∙ ap (λ (fs : List (List Fix)). get_or fs k []) is ∙ get_or-map-range_with_len f 0 (length old) k k [] (omega (arith, lt, have.for_each)) (omega arith) ∙ ap (fixes_if (get_or link.kept k false)) (fixes_placed link spots first home offsets (get_or old k []) places) in
    let past = λ (k : ℕ) (ge : n ≤ k). ap (λ (fs : List (List Fix)). get_or fs k []) grown ∙ get_or-append_right now (replicate tables no_fix) n k [] long ge ∙ nothing_at tables (k - n) in
    record {
      for_each = ap length grown ∙ length-append now (replicate tables no_fix) ∙ omega (arith, long, counted, length-replicate tables no_fix);
      fields = λ k lt.
          elim (cases_lt k n) [
            | inl inside ↦
                subst (λ (b : Bool). AreTheFields (fixes_if (b && get_or link.kept k false) (map (placed_fix link) (piece_fixes link.parts k))) (get_or after k [])) (sym (lt-ltb k n inside))
                (subst (AreTheFields (fixes_if (get_or link.kept k false) (map (placed_fix link) (piece_fixes link.parts k)))) (sym (here k inside))
                (fields_if link (get_or link.kept k false) (piece_fixes link.parts k) (get_or old k []) (have.fields k inside)))
            | inr behind ↦
                subst (λ (b : Bool). AreTheFields (fixes_if (b && get_or link.kept k false) (map (placed_fix link) (piece_fixes link.parts k))) (get_or after k [])) (sym (le-ltb k n behind))
                (subst (AreTheFields []) (sym (past k behind)) no_permutation)
          ];
      patchable = λ k lt.
          elim (cases_lt k n) [
            | inl inside ↦
                subst (ArePatchable (length (get_or (whole_contents link) k []))) (sym (here k inside))
                (patchable_if link (get_or link.kept k false) (length (get_or (whole_contents link) k [])) (get_or old k [])
                (subst (λ (bytes : List ℕ). ArePatchable (length bytes) (get_or old k [])) (sym (contents_at k inside)) (have.patchable k inside)))
            | inr behind ↦ subst (ArePatchable (length (get_or (whole_contents link) k []))) (sym (past k behind)) (no_fields (length (get_or (whole_contents link) k [])))
          ];
    }
  where
    contents_at : (k : ℕ) → k < length (link_pieces link.parts) → get_or (whole_contents link) k [] ≡ get_or (link_contents link.parts) k []
    contents_at k lt = get_or_append_left (link_contents link.parts) (map no_bytes (tables_of link)) [] k (omega (arith, lt, contents))

-- ---- exports

pub targets_planned : (link : KeptParts) (spots : List ℕ) (first home : ℕ) (offsets : List ℕ) (old now : List (Option Target)) → ArePlaces link spots first home offsets → old ≡ export_targets link.parts → now ≡ map (option_map (redirected spots first home offsets)) old → now ≡ planned_targets link
targets_planned link spots first home offsets old now places are is = is ∙ each old ∙ ap (map (planned_target link)) are
  where
    one : (t : Option Target) → option_map (redirected spots first home offsets) t ≡ planned_target link t
    one None = refl
    one (Some t) = ap (λ (x : Target). Some x) (target_placed link spots first home offsets t places)

    each : (ts : List (Option Target)) → map (option_map (redirected spots first home offsets)) ts ≡ map (planned_target link) ts
    each [] = refl
    each (t ∷ ts) = rw (one t, each ts) refl

-- ---- the table of slots

-- what a test says of a piece as it was read; it does not look at what the piece holds
pub holds_read : (test : Piece → Bool) (pieces : List Piece) (k : ℕ) (piece : Piece) → k < length pieces → piece ≡ get_or pieces k piece → holds test (map bare pieces) k ≡ test (bare piece)
holds_read test pieces k piece lt read =
    ap test (get_or-map bare pieces k no_piece) ∙ ap (λ (p : Piece). test (bare p)) (sym (read ∙ get_or_default pieces k piece no_piece lt))

-- its number is that of a table
slots_told : (count : ℕ) (piece : Piece) → is_numbered count SLOTS piece ≡ true → is_table count piece ≡ true
slots_told count piece e =
    let both = and_parts (eqb piece.«module» count) (eqb piece.number SLOTS) e in
    rw (both.0, lt-ltb piece.number FIRST_THUNK (omega (arith, eqb-true piece.number SLOTS both.1))) refl

-- no piece of the link has it
pub not_slots : (link : LinkParts) (k : ℕ) → k < length (link_pieces link) → is_numbered (length link.modules) SLOTS (get_or (link_pieces link) k no_piece) ≡ false
not_slots link k lt = by (is_numbered (length link.modules) SLOTS piece) refl
  where
    piece : Piece
    piece = get_or (link_pieces link) k no_piece

    by : (b : Bool) → is_numbered (length link.modules) SLOTS (get_or (link_pieces link) k no_piece) ≡ b → b ≡ false
    by false is = refl
    by true is = absurd (false≢true (sym (no_table link k lt) ∙ slots_told (length link.modules) (get_or (link_pieces link) k no_piece) is))

-- a piece of the plan has the number of the same piece among all
pub number_planned : (options : LinkOptions) (link : KeptParts) (k : ℕ) → is_numbered (length link.parts.modules) SLOTS (get_or (plan_pieces options link) k no_piece) ≡ is_numbered (length link.parts.modules) SLOTS (get_or (whole_pieces link) k no_piece)
number_planned options link k =
    let test = is_numbered (length link.parts.modules) SLOTS in
    elim (cases_lt k (length (link_pieces link.parts))) [
      | inl inside ↦ ap test (planned_at options link k inside) ∙ ap test (sym (whole_at link k inside))
      | inr behind ↦ ap test (table_at options link k behind)
    ]

first_same_test : (n : ℕ) (f g : ℕ → Bool) → ((k : ℕ) → f k ≡ g k) → first_below n f ≡ first_below n g
unfolding first_below
first_same_test zero f g same = refl
first_same_test (suc n) f g same = rw (first_same_test n f g same, same n) refl

-- so the table that is found is that of the slots
pub table_planned : (options : LinkOptions) (link : KeptParts) (count : ℕ) (after : List Piece) → count ≡ length link.parts.modules → map bare after ≡ plan_pieces options link → unwrap_or (first_below (length after) (holds (is_numbered count SLOTS) (map bare after))) 0 ≡ slot_table link
table_planned options link count after counted are =
    ap (λ (o : Option ℕ). unwrap_or o 0)
    (ap (λ (n : ℕ). first_below n (holds (is_numbered count SLOTS) (map bare after))) (sym (length-map after bare) ∙ ap (λ (ps : List Piece). length ps) are ∙ plan_count options link)
    ∙ ap (λ (ps : List Piece). first_below (length (whole_pieces link)) (holds (is_numbered count SLOTS) ps)) are
    ∙ ap (λ (n : ℕ). first_below (length (whole_pieces link)) (holds (is_numbered n SLOTS) (plan_pieces options link))) counted
    ∙ first_same_test (length (whole_pieces link)) (holds (is_numbered (length link.parts.modules) SLOTS) (plan_pieces options link)) (holds (is_numbered (length link.parts.modules) SLOTS) (whole_pieces link)) (number_planned options link))

-- no piece of the link is found
pub others_fail : (options : LinkOptions) (link : KeptParts) (count n : ℕ) (after : List Piece) → count ≡ length link.parts.modules → n ≡ length (link_pieces link.parts) → map bare after ≡ plan_pieces options link → (k : ℕ) → k < n → holds (is_numbered count SLOTS) (map bare after) k ≡ false
others_fail options link count n after counted all are k below =
    let inside : k < length (link_pieces link.parts) = omega (arith, below, all) in
    ap (λ (ps : List Piece). holds (is_numbered count SLOTS) ps k) are
    ∙ ap (λ (m : ℕ). is_numbered m SLOTS (get_or (plan_pieces options link) k no_piece)) counted
    ∙ number_planned options link k
    ∙ ap (is_numbered (length link.parts.modules) SLOTS) (whole_at link k inside)
    ∙ not_slots link.parts k inside

-- ---- what is behind the pieces
