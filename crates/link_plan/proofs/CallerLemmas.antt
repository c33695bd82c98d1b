-- What callers may cite of a plan: what the fields of what is kept mean is kept and stands in a section, and so does what is
-- exported, the entry and what the loader of a program looks for; no field of the exception table holds an address.
use Rattle.std.proofs.Common.{◌≡◌, ◌⊎◌, ℕ, zero, suc, ◌+◌, ◌-◌, ◌<◌, ◌≤◌, Bool, true, false, cond, ◌&&◌, ◌||◌, eqb, ltb, List, [], ◌∷◌, ◌++◌, length, map, filter, take, get_or, replicate, Option, Some, None, option_map, option_and_then, Result, Ok, Err, inl, inr, refl, sym, ap, subst, ◌∙◌, eq-eqb, arith}
use Rattle.std.specs.Prelude.{filter_map, unwrap_or}
use Rattle.std.specs.List.{All, Contains, list_any, range_with_len, cons_option}
use Rattle.std.proofs.lemmas.Bool.{cases_lt, and_parts, ltb-true, lt-ltb, le-ltb, or_right, or_left}
use Rattle.std.proofs.lemmas.List.{get_or_append_left, get_or-append_right, get_or_past, get_or-take, get_or-drop, get_or-map, length-append, length-map, length-replicate, length-take}
use Rattle.std.proofs.lemmas.List.Elements.{All-nil, All-cons, All-head, All-tail, All-contains, Contains-get_or, Contains-append_left, Contains-append_right, Contains-append_cases}
use Rattle.std.proofs.lemmas.List.FromFn.{get_or-map-range_with_len, length-map-range_with_len}
use Rattle.section_group.specs.declared.piece.Piece.{Piece}
use Rattle.section_group.specs.SectionOrder.{no_piece}
use Rattle.relocate.specs.declared.fix.Fix.{Fix}
use Rattle.relocate.specs.declared.fix.Target.{Target}
use Rattle.relocate.specs.declared.fix.Target.TheVariants as target
use Rattle.relocate.specs.Field.{has_field}
use Rattle.relocate.specs.Value.{target_of}
use Rattle.relocate.specs.Value.{meant}
use Rattle.relocate.specs.Redirected.{place_of, redirected_if}
use Rattle.relocate.specs.PatchedBytes.{is_based, AreNumbered, AreSuited, HaveNoBased}
use Rattle.relocate.proofs.CallerLemmas.{numbered_redirected, suited_redirected}
use Rattle.link_base.specs.declared.kinds.target.TargetFault.{TargetFault}
use Rattle.link_base.proofs.OptionLemmas.{both_none}
use Rattle.link_base.proofs.RangeLemmas.{joined_there}
use Rattle.synthetic_sections.specs.LinkerPieces.{SLOTS, size_at}
use Rattle.link_imports.proofs.CallerLemmas.{slots_made}
use Rattle.link_words.specs.Outcome.{LinkOptions}
use Rattle.link_pieces.specs.LinkParts.{LinkParts}
use Rattle.link_pieces.specs.Pieces.{link_pieces}
use Rattle.link_pieces.specs.TablePieces.{KeptParts, kept_imports, tables_of, table_sizes, whole_pieces, table_index}
use Rattle.link_pieces.proofs.TableLemmas.{import_size}
use Rattle.link_pieces.proofs.CallerLemmas.{table_is, table_there, table_found}
use Rattle.link_fields.specs.declared.entry.EntryPlace.{EntryPlace}
use Rattle.link_fields.specs.Entry.{entry_meant, entry_place, piece_of_place}
use Rattle.link_fields.specs.LoaderPlaces.{loader_place, TLS_NAME, LOAD_CONFIG_NAME}
use Rattle.link_fields.specs.Pdata.{is_pdata}
use Rattle.link_fields.specs.Places.{places_fault}
use Rattle.link_fields.specs.ExportTargets.{export_targets}
use Rattle.link_fields.specs.Fixes.{piece_at, piece_fixes, fixes_fault, meant_in, edge_by, edges_of, field_edges}
use Rattle.link_fields.specs.Targets.{piece_in}
use Rattle.link_fields.proofs.EntryLemmas.{loader_target}
use Rattle.link_fields.proofs.PdataLemmas.{fixes_suited, pdata_no_based}
use Rattle.link_fields.proofs.CallerLemmas.{IsWithin, IsImportNode, fields_within, exports_within, fixes_numbered}
use Rattle.link_keeping.specs.Reach.{node_count, child_edges, named_nodes, node_of, name_node, loader_names}
use Rattle.link_keeping.specs.Named.{is_at, leads_there}
use Rattle.link_keeping.specs.Standing.{AreStanding}
use Rattle.link_keeping.proofs.CallerLemmas.{length_standing, place_inside, place_behind, place_from, next_stands, root_stands}
use Rattle.link_plan.specs.PlanFaults.{fields_fault}
use Rattle.link_plan.specs.Planned.{is_kept, is_meant, is_sought, is_shared, used_pieces, planned_piece, plan_pieces, slot_offsets, slot_table, placed_target, placed_fix, fixes_if, planned_fixes, planned_target, planned_targets, placed_entry, planned_entry, planned_loader}
use Rattle.link_plan.proofs.PlacedLemmas.{placed_some}

-- ---- the pieces of a plan

-- a field of what is kept means a piece, something else does, or one that is named stands at its place
abbrev pub is_named : LinkOptions → KeptParts → ℕ → Bool
is_named options link k = is_meant link k || (is_sought options link k || is_shared link k)

pub planned_at : (options : LinkOptions) (link : KeptParts) (k : ℕ) → k < length (link_pieces link.parts) → get_or (plan_pieces options link) k no_piece ≡ planned_piece options link k
unfolding plan_pieces
planned_at options link k lt =
    let n = length (link_pieces link.parts) in
    get_or_append_left (map (planned_piece options link) (range_with_len 0 n)) (tables_of link) no_piece k (omega (arith, lt, length-map-range_with_len (planned_piece options link) 0 n))
    ∙ get_or-map-range_with_len (planned_piece options link) 0 n k k no_piece lt (omega arith)

-- the tables are as they are among all
pub table_at : (options : LinkOptions) (link : KeptParts) (k : ℕ) → length (link_pieces link.parts) ≤ k → get_or (plan_pieces options link) k no_piece ≡ get_or (whole_pieces link) k no_piece
unfolding plan_pieces
table_at options link k behind =
    let n = length (link_pieces link.parts) in
    get_or-append_right (map (planned_piece options link) (range_with_len 0 n)) (tables_of link) n k no_piece (length-map-range_with_len (planned_piece options link) 0 n) behind
    ∙ sym (get_or-append_right (link_pieces link.parts) (tables_of link) n k no_piece refl behind)

pub plan_count : (options : LinkOptions) (link : KeptParts) → length (plan_pieces options link) ≡ length (whole_pieces link)
unfolding plan_pieces
plan_count options link =
    let n = length (link_pieces link.parts) in
    length-append (map (planned_piece options link) (range_with_len 0 n)) (tables_of link)
    ∙ ap (λ (m : ℕ). m + length (tables_of link)) (length-map-range_with_len (planned_piece options link) 0 n)
    ∙ sym (length-append (link_pieces link.parts) (tables_of link))

-- the piece of a plan has the name of the link's, and is one of the exception table where that is
pub planned_name : (options : LinkOptions) (link : KeptParts) (k : ℕ) → k < length (link_pieces link.parts) → (get_or (plan_pieces options link) k no_piece).name ≡ (piece_at link.parts k).name
planned_name options link k lt = ap (λ (piece : Piece). piece.name) (planned_at options link k lt)

pub planned_pdata : (options : LinkOptions) (link : KeptParts) (k : ℕ) → k < length (link_pieces link.parts) → is_pdata (get_or (plan_pieces options link) k no_piece) ≡ is_pdata (piece_at link.parts k)
unfolding is_pdata
planned_pdata options link k lt = rw (planned_name options link k lt) refl

-- ---- which of them are used

pub standing_length : (options : LinkOptions) (link : KeptParts) → AreStanding options link → length link.kept ≡ node_count link.parts
standing_length options link are = ap length are.kept_are ∙ length_standing are.reached link.places ∙ are.reached_are.for_each

pub used_count : (options : LinkOptions) (link : KeptParts) → AreStanding options link → length (used_pieces link) ≡ length (whole_pieces link)
used_count options link kept =
    let n = length (link_pieces link.parts) in
    length-append (take n link.kept) (replicate (length (tables_of link)) true)
    ∙ omega (arith, length-take n link.kept, standing_length options link kept, length-replicate (length (tables_of link)) true, length-append (link_pieces link.parts) (tables_of link))

pub used_first : (options : LinkOptions) (link : KeptParts) (k : ℕ) → AreStanding options link → k < length (link_pieces link.parts) → get_or (used_pieces link) k false ≡ get_or link.kept k false
used_first options link k kept lt =
    let n = length (link_pieces link.parts) in
    get_or_append_left (take n link.kept) (replicate (length (tables_of link)) true) false k (omega (arith, lt, length-take n link.kept, standing_length options link kept))
    ∙ get_or-take n link.kept k false lt

-- the tables are
pub used_last : (options : LinkOptions) (link : KeptParts) (k : ℕ) → AreStanding options link → length (link_pieces link.parts) ≤ k → k < length (whole_pieces link) → get_or (used_pieces link) k false ≡ true
used_last options link k kept behind lt =
    let n = length (link_pieces link.parts) in
    get_or-append_right (take n link.kept) (replicate (length (tables_of link)) true) n k false (omega (arith, length-take n link.kept, standing_length options link kept)) behind
    ∙ each (length (tables_of link)) (k - n) (omega (arith, behind, lt, length-append (link_pieces link.parts) (tables_of link)))
  where
    each : (n k : ℕ) → k < n → get_or (replicate n true) k false ≡ true
    each zero k lt = absurd (omega arith)
    each (suc n) zero lt = refl
    each (suc n) (suc k) lt = each n k (omega arith)

-- ---- what is meant stands in a section

-- a target in a piece: the piece is used, and has bytes or is named
abbrev pub Stands : LinkOptions → KeptParts → Target → Type 0
Stands options link (target.Piece piece value) =
    (piece < length (whole_pieces link)) × (get_or (used_pieces link) piece false ≡ true) × ((0 < (get_or (plan_pieces options link) piece no_piece).size) ⊎ ((get_or (plan_pieces options link) piece no_piece).named ≡ true))
Stands options link (target.Absolute value) = Unit {0}
Stands options link target.ImageBase = Unit {0}

-- ---- what is kept leads to what is kept

first_there : {X : Type 0} (x : X) (xs : List X) → Contains (x ∷ xs) x
first_there x xs = Contains-append_left (x ∷ []) xs x (Contains-get_or (x ∷ []) 0 x (omega arith))

later_there : {X : Type 0} (y : X) (xs : List X) (x : X) → Contains xs x → Contains (y ∷ xs) x
later_there y xs x there = Contains-append_right (y ∷ []) xs x there

-- a test that one item passes
any_there : {X : Type 0} (test : X → Bool) (xs : List X) (x : X) → Contains xs x → test x ≡ true → list_any test xs ≡ true
any_there test [] x there passes = absurd (omega (arith, there.1))
any_there {X} test (y ∷ xs) x there passes =
    elim (Contains-append_cases (y ∷ []) xs x there) [
      | inl first ↦
          let same : y ≡ x = All-contains (λ (z : X). y ≡ z) (y ∷ []) x (All-cons (λ (z : X). y ≡ z) y [] refl (All-nil (λ (z : X). y ≡ z))) first in
          or_left (test y) (list_any test xs) (ap test same ∙ passes)
      | inr later ↦ or_right (test y) (list_any test xs) (any_there test xs x later passes)
    ]

-- a list has what is made of one of its items
made_there : {X Y : Type 0} (f : X → Option Y) (xs : List X) (i : ℕ) (d : X) (y : Y) → i < length xs → f (get_or xs i d) ≡ Some y → Contains (filter_map f xs) y
made_there f [] i d y lt is = absurd (omega arith)
made_there {X} {Y} f (x ∷ xs) zero d y lt is = subst (λ (o : Option Y). Contains (cons_option o (filter_map f xs)) y) (sym is) (first_there y (filter_map f xs))
made_there {X} {Y} f (x ∷ xs) (suc i) d y lt is = by (f x) (made_there f xs i d y (omega arith) is)
  where
    by : (o : Option Y) → Contains (filter_map f xs) y → Contains (cons_option o (filter_map f xs)) y
    by None later = later
    by (Some z) later = later_there z (filter_map f xs) y later

-- ---- where imports stand

-- an import that is kept has a slot in the table of the slots
import_stands : (options : LinkOptions) (link : KeptParts) (node value : ℕ) → AreStanding options link → IsImportNode link.parts node → get_or link.kept node false ≡ true → Stands options link (target.Piece (slot_table link) value)
import_stands options link node value are import kept = by (table_index link SLOTS) refl
  where
    n : ℕ
    n = length (link_pieces link.parts)

    own : get_or (kept_imports link) import.position false ≡ true
    own = get_or-drop (length (link_pieces link.parts)) link.kept import.position false ∙ ap (λ (k : ℕ). get_or link.kept k false) (sym import.is) ∙ kept

    some : 0 < size_at (table_sizes link) SLOTS
    some = subst (λ (m : ℕ). 0 < m) (sym (import_size link SLOTS (omega arith))) (slots_made link.parts.modules (kept_imports link) import.position import.within own import.imported)

    by : (o : Option ℕ) → table_index link SLOTS ≡ o → Stands options link (target.Piece (slot_table link) value)
    by None none = absurd (table_there link SLOTS (omega arith) some none)
    by (Some t) found =
        let at = table_found link SLOTS t (omega arith) found in
        let is : slot_table link ≡ t = ap (λ (o : Option ℕ). unwrap_or o 0) found in
        let table = table_is link t at.0 at.1 in
        subst (λ (p : ℕ). Stands options link (target.Piece p value)) (sym is)
        (at.1, used_last options link t are at.0 at.1, inl (subst (λ (piece : Piece). 0 < piece.size) (sym (table_at options link t at.0)) table.some))

-- ---- what targets mean

-- a target is in one of the pieces or an import, and that is kept where it stands, and named
node_stands : (options : LinkOptions) (link : KeptParts) (t : Target) → AreStanding options link → IsWithin link.parts t → ((node : ℕ) → piece_in t ≡ Some node → (get_or link.kept (place_of link.places node) false ≡ true) × (is_named options link (place_of link.places node) ≡ true)) → Stands options link (placed_target link t)
node_stands options link (target.Absolute value) are within kept = tt
node_stands options link target.ImageBase are within kept = tt
node_stands options link (target.Piece piece value) are (inl inside) kept =
    let here = kept piece refl in
    let place = place_of link.places piece in
    let there = place_inside options link piece are inside in
    rw (lt-ltb piece (length (link_pieces link.parts)) inside) (
      omega (arith, there, length-append (link_pieces link.parts) (tables_of link)),
      used_first options link place are there ∙ here.0,
      inr (ap (λ (p : Piece). p.named) (planned_at options link place there) ∙ or_right (piece_at link.parts place).named (is_named options link place) here.1),
    )
node_stands options link (target.Piece piece value) are (inr import) kept =
    let past : length (link_pieces link.parts) ≤ piece = omega (arith, import.is) in
    let own = subst (λ (n : ℕ). get_or link.kept n false ≡ true) (place_behind options link piece are past) (kept piece refl).0 in
    rw (le-ltb piece (length (link_pieces link.parts)) past)
    (import_stands options link piece (get_or (slot_offsets link) (piece - length (link_pieces link.parts)) 0) are import own)

-- a node is one that there is
node_there : (link : LinkParts) (t : Target) (node : ℕ) → IsWithin link t → piece_in t ≡ Some node → node < node_count link
node_there link (target.Piece piece value) node (inl inside) is = let same : piece ≡ node = cc in omega (arith, inside, same)
node_there link (target.Piece piece value) node (inr import) is = let same : piece ≡ node = cc in omega (arith, import.is, import.within, same)
node_there link (target.Absolute value) node within is = absurd cc
node_there link target.ImageBase node within is = absurd cc

-- ---- fields

target_placed_of : (link : KeptParts) (fix : Fix) → target_of (placed_fix link fix) ≡ placed_target link (target_of fix)
target_placed_of link fix = by fix.target
  where
    by : (t : Option (Result Target TargetFault)) → meant (option_map (redirected_if link.places (length (link_pieces link.parts)) (slot_table link) (slot_offsets link)) t) ≡ placed_target link (meant t)
    by None = refl
    by (Some (Ok t)) = refl
    by (Some (Err fault)) = refl

-- what a field of a piece that is kept means is kept, and stands in a section
field_stands : (options : LinkOptions) (link : KeptParts) (k i : ℕ) (d : Fix) → AreStanding options link → k < length (link_pieces link.parts) → get_or link.kept k false ≡ true → i < length (piece_fixes link.parts k) → has_field (get_or (piece_fixes link.parts k) i d) ≡ true → Stands options link (placed_target link (target_of (get_or (piece_fixes link.parts k) i d)))
unfolding meant_in field_edges
field_stands options link k i d are inside here lt some =
    node_stands options link (target_of fix) are within (λ node is. (
      next_stands options link k node are here (Contains-append_left (field_edges link.parts) (child_edges link.parts) (k, node) (edge node is)) (node_there link.parts (target_of fix) node within is),
      or_left (is_meant link (place_of link.places node)) (is_sought options link (place_of link.places node) || is_shared link (place_of link.places node)) (any_there (leads_there link.kept link.places (place_of link.places node)) (field_edges link.parts) (k, node) (edge node is) (ap (λ (b : Bool). b && eqb (place_of link.places node) (place_of link.places node)) here ∙ eq-eqb (place_of link.places node) (place_of link.places node) refl)),
    ))
  where
    fix : Fix
    fix = get_or (piece_fixes link.parts k) i d

    within : IsWithin link.parts (target_of (get_or (piece_fixes link.parts k) i d))
    within = fields_within link.parts k i d lt

    edge : (node : ℕ) → piece_in (target_of (get_or (piece_fixes link.parts k) i d)) ≡ Some node → Contains (field_edges link.parts) (k, node)
    edge node is =
        joined_there (edges_of link.parts) 0 (length (link_pieces link.parts)) k (k, node) (omega arith) (omega (arith, inside))
        (made_there (edge_by k) (piece_fixes link.parts k) i d (k, node) lt
        (ap (λ (o : Option ℕ). option_map (λ to. (k, to)) o) (ap (λ (b : Bool). cond b (piece_in (target_of (get_or (piece_fixes link.parts k) i d))) None) some ∙ is)))

pub fields_stand : (options : LinkOptions) (link : KeptParts) (k : ℕ) → AreStanding options link → All (λ fix. Stands options link (target_of fix)) (filter has_field (planned_fixes link k))
fields_stand options link k are = by (is_kept link k) refl
  where
    each : (fixes : List Fix) → All (λ fix. has_field fix ≡ true → Stands options link (placed_target link (target_of fix))) fixes → All (λ fix. Stands options link (target_of fix)) (filter has_field (map (placed_fix link) fixes))
    each [] all = All-nil (λ fix. Stands options link (target_of fix))
    each (fix ∷ fixes) all =
        one (has_field fix) refl (each fixes (All-tail (λ f. has_field f ≡ true → Stands options link (placed_target link (target_of f))) fix fixes all))
      where
        one : (b : Bool) → has_field fix ≡ b → All (λ fix. Stands options link (target_of fix)) (filter has_field (map (placed_fix link) fixes)) → All (λ fix. Stands options link (target_of fix)) (cond b (placed_fix link fix ∷ filter has_field (map (placed_fix link) fixes)) (filter has_field (map (placed_fix link) fixes)))
        one true is rest =
            All-cons (λ f. Stands options link (target_of f)) (placed_fix link fix) (filter has_field (map (placed_fix link) fixes))
            (subst (Stands options link) (sym (target_placed_of link fix)) (All-head (λ f. has_field f ≡ true → Stands options link (placed_target link (target_of f))) fix fixes all is)) rest
        one false is rest = rest

    by : (b : Bool) → is_kept link k ≡ b → All (λ fix. Stands options link (target_of fix)) (filter has_field (fixes_if b (map (placed_fix link) (piece_fixes link.parts k))))
    by false is = All-nil (λ fix. Stands options link (target_of fix))
    by true is =
        let both = and_parts (ltb k (length (link_pieces link.parts))) (get_or link.kept k false) is in
        each (piece_fixes link.parts k) (λ i d lt some. field_stands options link k i d are (ltb-true k (length (link_pieces link.parts)) both.0) both.1 lt some)

-- a piece that has fields is kept
pub fixes_kept : (link : KeptParts) (k : ℕ) → 0 < length (planned_fixes link k) → is_kept link k ≡ true
fixes_kept link k some = by (is_kept link k) some
  where
    by : (b : Bool) → 0 < length (fixes_if b (map (placed_fix link) (piece_fixes link.parts k))) → b ≡ true
    by true some = refl
    by false some = absurd (omega (arith, some))

-- each relocation has its number
pub planned_numbered : (link : KeptParts) (k : ℕ) → AreNumbered (planned_fixes link k)
planned_numbered link k = by (is_kept link k)
  where
    by : (b : Bool) → AreNumbered (fixes_if b (map (placed_fix link) (piece_fixes link.parts k)))
    by true i lt = numbered_redirected link.places (length (link_pieces link.parts)) (slot_table link) (slot_offsets link) (piece_fixes link.parts k) (fixes_numbered link.parts k) i lt
    by false i lt = absurd (omega arith)

-- ---- the entry, the exports and what a loader looks for

-- what is named besides the entry
behind_entry : (entry : Option ℕ) (others : List ℕ) (node : ℕ) → Contains others node → Contains (cons_option entry others) node
behind_entry None others node there = there
behind_entry (Some first) others node there = later_there first others node there

named_export : (options : LinkOptions) (link : LinkParts) (row : ℕ) (t : Target) (node : ℕ) → get_or (export_targets link) row None ≡ Some t → piece_in t ≡ Some node → Contains (named_nodes options link) node
named_export options link row t node is piece =
    elim (cases_lt row (length (export_targets link))) [
      | inl lt ↦ behind_entry (piece_of_place (entry_place link options.entry_name)) (filter_map (option_and_then piece_in) (export_targets link) ++ filter_map (name_node link) loader_names) node (Contains-append_left (filter_map (option_and_then piece_in) (export_targets link)) (filter_map (name_node link) loader_names) node (made_there (option_and_then piece_in) (export_targets link) row None node lt (ap (option_and_then piece_in) is ∙ piece)))
      | inr past ↦ absurd (none_past (sym (get_or_past (export_targets link) row None past) ∙ is))
    ]
  where
    none_past : None ≡ Some t → ⊥
    none_past e = cc

named_loader : (options : LinkOptions) (link : LinkParts) (name : List ℕ) (place : EntryPlace) → Contains loader_names name → loader_place link name ≡ Some place → Contains (named_nodes options link) place.piece
named_loader options link name place among is =
    let own : name_node link name ≡ Some place.piece = ap node_of (loader_target link name place is) in
    behind_entry (piece_of_place (entry_place link options.entry_name)) (filter_map (option_and_then piece_in) (export_targets link) ++ filter_map (name_node link) loader_names) place.piece
    (Contains-append_right (filter_map (option_and_then piece_in) (export_targets link)) (filter_map (name_node link) loader_names) place.piece
    (made_there (name_node link) loader_names among.0 name place.piece among.1 (ap (name_node link) among.2 ∙ own)))

-- what is sought at a place
sought_there : (options : LinkOptions) (link : KeptParts) (node : ℕ) → Contains (named_nodes options link.parts) node → is_sought options link (place_of link.places node) ≡ true
sought_there options link node there =
    let place = place_of link.places node in
    any_there (is_at link.places place) (named_nodes options link.parts) node there (eq-eqb place place refl)

-- what is named is a root
sought_kept : (options : LinkOptions) (link : KeptParts) (node : ℕ) → AreStanding options link → Contains (named_nodes options link.parts) node → node < node_count link.parts → (get_or link.kept (place_of link.places node) false ≡ true) × (is_named options link (place_of link.places node) ≡ true)
sought_kept options link node are there within =
    let place = place_of link.places node in (
      root_stands options link node are (Contains-append_left (named_nodes options link.parts) _ node there) within,
      or_right (is_meant link place) (is_sought options link place || is_shared link place) (or_left (is_sought options link place) (is_shared link place) (sought_there options link node there)),
    )

pub exports_stand : (options : LinkOptions) (link : KeptParts) (row : ℕ) (t : Target) → AreStanding options link → get_or (planned_targets link) row None ≡ Some t → Stands options link t
exports_stand options link row t are is =
    elim (cases_lt row (length (export_targets link.parts))) [
      | inl lt ↦ by (get_or (export_targets link.parts) row None) refl (sym (get_or-map (planned_target link) (export_targets link.parts) row None None lt) ∙ is)
      | inr past ↦ absurd (none_past (sym (get_or_past (planned_targets link) row None (omega (arith, past, length-map (export_targets link.parts) (planned_target link)))) ∙ is))
    ]
  where
    none_past : None ≡ Some t → ⊥
    none_past e = cc

    by : (o : Option Target) → get_or (export_targets link.parts) row None ≡ o → planned_target link o ≡ Some t → Stands options link t
    by None own same = absurd cc
    by (Some u) own same =
        let placed : placed_target link u ≡ t = cc in
        let within = exports_within link.parts row u own in
        subst (Stands options link) placed
        (node_stands options link u are within (λ node node_is.
        sought_kept options link node are
        (named_export options link.parts row u node own node_is)
        (node_there link.parts u node within node_is)))

-- a place in a piece that is named, where that stands
named_used : (options : LinkOptions) (link : KeptParts) (place : EntryPlace) (entry : Option EntryPlace) → AreStanding options link → place.piece < length (link_pieces link.parts) → option_map (placed_entry link.places) entry ≡ Some place → ((own : EntryPlace) → entry ≡ Some own → Contains (named_nodes options link.parts) own.piece) → (get_or (used_pieces link) place.piece false ≡ true) × (is_sought options link place.piece ≡ true)
named_used options link place entry are inside is named =
    let placed = placed_some link.places entry place is in
    let own = placed.own.piece in
    let same : place_of link.places own ≡ place.piece = ap (λ (e : EntryPlace). e.piece) placed.placed in
    let there = named placed.own placed.is in
    let stands : place_of link.places own < length (link_pieces link.parts) = omega (arith, inside, same) in
    let first = place_from options link own are stands in
    subst (λ (k : ℕ). (get_or (used_pieces link) k false ≡ true) × (is_sought options link k ≡ true)) same (
      used_first options link (place_of link.places own) are stands ∙ (sought_kept options link own are there (omega (arith, first))).0,
      sought_there options link own there,
    )

pub entry_used : (options : LinkOptions) (link : KeptParts) (place : EntryPlace) → AreStanding options link → place.piece < length (link_pieces link.parts) → planned_entry options link ≡ Some place → (get_or (used_pieces link) place.piece false ≡ true) × (is_sought options link place.piece ≡ true)
entry_used options link place are inside is =
    named_used options link place (entry_place link.parts options.entry_name) are inside is (λ own e.
    subst (λ (o : Option EntryPlace). Contains (cons_option (piece_of_place o) (filter_map (option_and_then piece_in) (export_targets link.parts) ++ filter_map (name_node link.parts) loader_names)) own.piece) (sym e) (first_there own.piece _))

-- one of the names that a loader looks for
pub loader_used : (options : LinkOptions) (link : KeptParts) (name : List ℕ) (place : EntryPlace) → Contains loader_names name → AreStanding options link → place.piece < length (link_pieces link.parts) → planned_loader link name ≡ Some place → (get_or (used_pieces link) place.piece false ≡ true) × (is_sought options link place.piece ≡ true)
loader_used options link name place among are inside is =
    named_used options link place (loader_place link.parts name) are inside is (λ own e. named_loader options link.parts name own among e)

-- those names
pub tls_sought : Contains loader_names TLS_NAME
tls_sought = (0, omega arith, refl)

pub load_config_sought : Contains loader_names LOAD_CONFIG_NAME
load_config_sought = (1, omega arith, refl)

-- ---- the exception table

-- where no relocation has a fault, no field of a piece of it that is kept holds an address
pub pdata_not_based : (options : LinkOptions) (link : KeptParts) (k : ℕ) → k < length (link_pieces link.parts) → fields_fault options link.parts ≡ None → is_pdata (piece_at link.parts k) ≡ true → HaveNoBased (planned_fixes link k)
pdata_not_based options link k lt none table = by (is_kept link k)
  where
    judged : AreSuited options.large true (piece_fixes link.parts k)
    judged =
        subst (λ (b : Bool). AreSuited options.large b (piece_fixes link.parts k)) table
        (fixes_suited link.parts options.large k lt (both_none (places_fault link.parts (entry_meant link.parts options.entry_name)) (fixes_fault link.parts options.large) none).1)

    by : (b : Bool) → HaveNoBased (fixes_if b (map (placed_fix link) (piece_fixes link.parts k)))
    by true =
        pdata_no_based options.large (map (placed_fix link) (piece_fixes link.parts k))
        (suited_redirected link.places (length (link_pieces link.parts)) (slot_table link) (slot_offsets link) options.large true (piece_fixes link.parts k) judged)
    by false = All-nil (λ fix. has_field fix ≡ true → is_based fix ≡ false)
