-- What callers may cite of the fields of a link: what they mean is there, and each relocation has its number.
use Rattle.std.proofs.Common.{◌≡◌, ◌⊎◌, ℕ, zero, suc, ◌+◌, ◌-◌, ◌<◌, Bool, true, false, cond, eqb, ltb, List, [], ◌∷◌, length, get_or, Option, Some, None, option_map, option_and_then, Result, Ok, Err, inl, inr, refl, sym, ap, subst, ◌∙◌, arith}
use Rattle.std.specs.Prelude.{is_some}
use Rattle.std.specs.List.{All, find}
use Rattle.std.proofs.lemmas.Bool.{cases_lt, false≢true}
use Rattle.std.proofs.lemmas.List.{get_or-map, get_or_past, length-map}
use Rattle.symbol_names.specs.Exports.{internal_name}
use Rattle.export_tables.specs.Ordinals.{no_export}
use Rattle.std.proofs.lemmas.List.Elements.{All-nil, All-cons}
use Rattle.link_base.proofs.CallerLemmas.{first_below-some}
use Rattle.link_base.specs.declared.kinds.target.TargetFault.{TargetFault}
use Rattle.link_base.specs.declared.kinds.target.TargetFault.TheVariants.{Local, Discarded}
use Rattle.coff_records.specs.declared.relocation.Relocation.{Relocation}
use Rattle.coff_records.specs.ObjectFile.{SymbolView, SymbolEntry, value_in, section_number_in, section_of_number, symbol_entries, name_in, relocations_of}
use Rattle.relocate.specs.declared.fix.Fix.{Fix}
use Rattle.relocate.specs.declared.fix.Target.{Target}
use Rattle.relocate.specs.declared.fix.Target.TheVariants as target
use Rattle.relocate.specs.Field.{fix_at}
use Rattle.relocate.specs.Value.{meant, target_of}
use Rattle.relocate.specs.PatchedBytes.{AreNumbered}
use Rattle.module_view.specs.Module.{ModuleView, no_module, module_at}
use Rattle.link_pieces.specs.LinkParts.{LinkParts}
use Rattle.module_view.specs.SymbolLists.{is_absolute}
use Rattle.symbol_table.specs.declared.meaning.Meaning.{Meaning}
use Rattle.symbol_table.specs.declared.meaning.Meaning.TheVariants as meaning
use Rattle.symbol_table.specs.declared.meaning.NoMeaning.{NoMeaning}
use Rattle.link_pieces.specs.NameMeaning.{name_meaning, takes_part}
use Rattle.link_pieces.specs.Pieces.{link_pieces}
use Rattle.link_pieces.specs.PieceIndex.{piece_index, common_index, linker_index, slot_index, is_section, is_section_of, is_common_of, holds}
use Rattle.link_pieces.proofs.CallerLemmas.{found_linker, found_slot}
use Rattle.synthetic_sections.specs.LinkerPieces.{FIRST_THUNK, FIRST_LOCAL_SLOT}
use Rattle.synthetic_sections.specs.LinkerFields.{thunk_field, slot_field}
use Rattle.link_imports.specs.Imports.{is_import}
use Rattle.link_fields.specs.Targets.{target_in, section_target, common_target, import_target, own_target, meant_target, has_meaning, local_target, symbol_target, is_record}
use Rattle.link_fields.specs.ExportTargets.{target_of as export_target_of, export_target, export_targets}
use Rattle.link_fields.specs.Fixes.{fix_of, fixes_from, piece_at, piece_fixes, section_fixes, slot_at, slot_fixes, jump_fixes, linker_fixes}

-- ---- numbers

numbered_from : (link : LinkParts) (position : ℕ) (bytes : List ℕ) (index : ℕ) (relocations : List Relocation) (k : ℕ) → k < length (fixes_from link position bytes index relocations) → (fix_at (fixes_from link position bytes index relocations) k).index ≡ index + k
unfolding fixes_from
numbered_from link position bytes index [] k lt = absurd (omega arith)
numbered_from link position bytes index (r ∷ rs) zero lt = omega arith
numbered_from link position bytes index (r ∷ rs) (suc k) lt =
    let more = numbered_from link position bytes (index + 1) rs k (omega arith) in omega (arith, more)

one_numbered : (fix : Fix) → fix.index ≡ 0 → AreNumbered (fix ∷ [])
one_numbered fix first zero lt = first
one_numbered fix first (suc i) lt = absurd (omega (arith, lt))

linker_numbered : (link : LinkParts) (number : ℕ) (table jump : Bool) → AreNumbered (cond table [] (cond jump (jump_fixes link (number - FIRST_THUNK)) (slot_fixes link (slot_at link number))))
linker_numbered link number true jump i lt = absurd (omega arith)
linker_numbered link number false true i lt = one_numbered (thunk_field (import_target link (number - FIRST_THUNK))) refl i lt
linker_numbered link number false false i lt =
    one_numbered (slot_field (meant_target link (name_meaning link (slot_at link number)))) refl i lt

pub fixes_numbered : (link : LinkParts) (k : ℕ) → AreNumbered (piece_fixes link k)
fixes_numbered link k = by_kind (is_section (length link.modules) (piece_at link k)) (eqb (piece_at link k).«module» (length link.modules))
  where
    by_kind : (section linker : Bool) → AreNumbered (cond section (section_fixes link (piece_at link k).«module» (module_at link.modules (piece_at link k).«module»).bytes (piece_at link k).number) (cond linker (linker_fixes link (piece_at link k).number) []))
    by_kind false false i lt = absurd (omega arith)
    by_kind false true i lt = linker_numbered link (piece_at link k).number (ltb (piece_at link k).number FIRST_THUNK) (ltb (piece_at link k).number FIRST_LOCAL_SLOT) i lt
    by_kind true linker i lt =
        let at = piece_at link k in
        let held = (module_at link.modules at.«module»).bytes in
        let number = numbered_from link at.«module» held 0 (relocations_of held at.number) i lt in
        omega (arith, number)

-- ---- targets

-- behind the pieces an import
pub record IsImportNode (link : LinkParts) (node : ℕ) : Type 0 where
  pub position : ℕ
  pub is : node ≡ length (link_pieces link) + position
  pub within : position < length link.modules
  pub imported : is_import link.modules position ≡ true

-- a target in a piece is in one that there is, or is an import behind them
abbrev pub IsWithin : LinkParts → Target → Type 0
IsWithin link (target.Piece piece value) = (piece < length (link_pieces link)) ⊎ IsImportNode link piece
IsWithin link (target.Absolute value) = Unit {0}
IsWithin link target.ImageBase = Unit {0}

abbrev OkWithin : LinkParts → Result Target TargetFault → Type 0
OkWithin link (Ok t) = IsWithin link t
OkWithin link (Err fault) = Unit {0}

index_within : (link : LinkParts) (value : ℕ) (found : Option ℕ) (position section : ℕ) → piece_index link position section ≡ found → OkWithin link (target_in value found)
index_within link value None position section e = tt
index_within link value (Some piece) position section e =
    inl (first_below-some (length (link_pieces link)) piece (holds (is_section_of (length link.modules) position section) (link_pieces link)) e).0

section_within : (link : LinkParts) (position section value : ℕ) → OkWithin link (section_target link position section value)
section_within link position section value = index_within link value (piece_index link position section) position section refl

common_found : (link : LinkParts) (found : Option ℕ) (position symbol : ℕ) → common_index link position symbol ≡ found → OkWithin link (target_in 0 found)
common_found link None position symbol e = tt
common_found link (Some piece) position symbol e =
    inl (first_below-some (length (link_pieces link)) piece (holds (is_common_of position symbol) (link_pieces link)) e).0

common_within : (link : LinkParts) (position symbol : ℕ) → OkWithin link (common_target link position symbol)
common_within link position symbol = common_found link (common_index link position symbol) position symbol refl

slot_found : (link : LinkParts) (found : Option ℕ) (name : List ℕ) → slot_index link name ≡ found → OkWithin link (target_in 0 found)
slot_found link None name e = tt
slot_found link (Some piece) name e = inl (found_slot link name piece e)

linker_within : (link : LinkParts) (number value : ℕ) (found : Option ℕ) → linker_index link number ≡ found → OkWithin link (target_in value found)
linker_within link number value None e = tt
linker_within link number value (Some piece) e = inl (found_linker link number piece e)

-- a module that is an import is there
import_there : (modules : List ModuleView) (position : ℕ) → is_import modules position ≡ true → position < length modules
import_there modules position imported =
    elim (cases_lt position (length modules)) [
      | inl inside ↦ inside
      | inr past ↦ absurd (false≢true (sym (ap (λ (view : ModuleView). is_some view.imported) (get_or_past modules position no_module past)) ∙ imported))
    ]

import_within : (link : LinkParts) (position : ℕ) → OkWithin link (import_target link position)
import_within link position = by_kind (is_import link.modules position) refl
  where
    by_kind : (imported : Bool) → is_import link.modules position ≡ imported → OkWithin link (target_in 0 (cond imported (Some (length (link_pieces link) + position)) None))
    by_kind false is = tt
    by_kind true is =
        inr (record { position = position; is = refl; within = import_there link.modules position is; imported = is })

name_within : (link : LinkParts) (r : Result Meaning NoMeaning) → OkWithin link (meant_target link r)
name_within link (Ok (meaning.Section position section value)) = section_within link position section value
name_within link (Ok (meaning.Common position symbol)) = common_within link position symbol
name_within link (Ok (meaning.Slot position)) = import_within link position
name_within link (Ok (meaning.Thunk position)) =
    linker_within link (FIRST_THUNK + position) 0 (linker_index link (FIRST_THUNK + position)) refl
name_within link (Ok (meaning.LocalSlot name)) = slot_found link (slot_index link name) name refl
name_within link (Ok (meaning.Absolute value)) = tt
name_within link (Ok meaning.ImageBase) = tt
name_within link (Err none) = tt

own_within : (link : LinkParts) (position section value : ℕ) (part : Bool) → OkWithin link (cond part (section_target link position section value) (Err Discarded))
own_within link position section value true = section_within link position section value
own_within link position section value false = tt

local_within : (link : LinkParts) (position : ℕ) (symbol : SymbolView) (absolute inside : Bool) → OkWithin link (cond absolute (Ok (target.Absolute (value_in symbol))) (cond inside (own_target link position (section_of_number (section_number_in symbol)) (value_in symbol)) (Err Local)))
local_within link position symbol true inside = tt
local_within link position symbol false true =
    own_within link position (section_of_number (section_number_in symbol)) (value_in symbol) (takes_part link position (section_of_number (section_number_in symbol)))
local_within link position symbol false false = tt

symbol_within : (link : LinkParts) (position : ℕ) (symbol : SymbolView) (b : Bool) → OkWithin link (cond b (meant_target link (name_meaning link (name_in symbol))) (local_target link position symbol))
unfolding local_target
symbol_within link position symbol true = name_within link (name_meaning link (name_in symbol))
symbol_within link position symbol false = local_within link position symbol (is_absolute symbol) _

result_within : (link : LinkParts) (r : Result Target TargetFault) → OkWithin link r → IsWithin link (meant (Some r))
result_within link (Ok t) h = h
result_within link (Err fault) h = tt

record_within : (link : LinkParts) (position : ℕ) (found : Option SymbolEntry) → IsWithin link (meant (option_map (λ entry. symbol_target link position entry.1) found))
record_within link position None = tt
record_within link position (Some entry) = result_within link (symbol_target link position entry.1) (symbol_within link position entry.1 (has_meaning entry.1))

-- ---- fields

all_within : (link : LinkParts) (position : ℕ) (bytes : List ℕ) (index : ℕ) (relocations : List Relocation) → All (λ fix. IsWithin link (target_of fix)) (fixes_from link position bytes index relocations)
unfolding fixes_from
all_within link position bytes index [] = All-nil (λ fix. IsWithin link (target_of fix))
all_within link position bytes index (r ∷ rs) =
    All-cons (λ fix. IsWithin link (target_of fix)) (fix_of link position bytes index r) (fixes_from link position bytes (index + 1) rs)
    (record_within link position (find (is_record r.symbol) (symbol_entries bytes)))
    (all_within link position bytes (index + 1) rs)

one_within : (link : LinkParts) (fix : Fix) (means : Result Target TargetFault) → fix.target ≡ Some means → OkWithin link means → All (λ fix. IsWithin link (target_of fix)) (fix ∷ [])
one_within link fix means is within =
    All-cons (λ (f : Fix). IsWithin link (target_of f)) fix []
    (subst (λ (told : Option (Result Target TargetFault)). IsWithin link (meant told)) (sym is) (result_within link means within))
    (All-nil (λ (f : Fix). IsWithin link (target_of f)))

made_within : (link : LinkParts) (number : ℕ) (table jump : Bool) → All (λ fix. IsWithin link (target_of fix)) (cond table [] (cond jump (jump_fixes link (number - FIRST_THUNK)) (slot_fixes link (slot_at link number))))
made_within link number true jump = All-nil (λ fix. IsWithin link (target_of fix))
made_within link number false true =
    let means = import_target link (number - FIRST_THUNK) in
    one_within link (thunk_field means) means refl (import_within link (number - FIRST_THUNK))
made_within link number false false =
    let means = meant_target link (name_meaning link (slot_at link number)) in
    one_within link (slot_field means) means refl (name_within link (name_meaning link (slot_at link number)))

-- what the fields of a piece mean is there
pub fields_within : (link : LinkParts) (k : ℕ) → All (λ fix. IsWithin link (target_of fix)) (piece_fixes link k)
fields_within link k = of_piece (is_section (length link.modules) (piece_at link k)) (eqb (piece_at link k).«module» (length link.modules))
  where
    of_piece : (section linker : Bool) → All (λ fix. IsWithin link (target_of fix)) (cond section (section_fixes link (piece_at link k).«module» (module_at link.modules (piece_at link k).«module»).bytes (piece_at link k).number) (cond linker (linker_fixes link (piece_at link k).number) []))
    of_piece false false = All-nil (λ fix. IsWithin link (target_of fix))
    of_piece false true = made_within link (piece_at link k).number (ltb (piece_at link k).number FIRST_THUNK) (ltb (piece_at link k).number FIRST_LOCAL_SLOT)
    of_piece true linker =
        let piece = piece_at link k in
        let bytes = (module_at link.modules piece.«module»).bytes in
        all_within link piece.«module» bytes 0 (relocations_of bytes piece.number)

-- ---- what the command line names

-- what an export stands for
export_within : (link : LinkParts) (name : Option (List ℕ)) (t : Target) → option_and_then export_target_of (option_map (λ n. meant_target link (name_meaning link n)) name) ≡ Some t → IsWithin link t
export_within link None t e = absurd cc
export_within link (Some name) t e = by_result (meant_target link (name_meaning link name)) (name_within link (name_meaning link name)) e
  where
    by_result : (r : Result Target TargetFault) → OkWithin link r → export_target_of r ≡ Some t → IsWithin link t
    by_result (Ok found) within same = let is : found ≡ t = cc in subst (IsWithin link) is within
    by_result (Err fault) within same = absurd cc

-- what the exports stand for is there
pub exports_within : (link : LinkParts) (row : ℕ) (t : Target) → get_or (export_targets link) row None ≡ Some t → IsWithin link t
exports_within link row t is =
    elim (cases_lt row (length (export_targets link))) [
      | inl lt ↦
          let count = length-map link.exports.rows (export_target link) in
          let own = sym (get_or-map (export_target link) link.exports.rows row no_export None (omega (arith, lt, count))) ∙ is in
          export_within link (internal_name (get_or link.exports.rows row no_export)) t own
      | inr past ↦ absurd (none_past (sym (get_or_past (export_targets link) row None past) ∙ is))
    ]
  where
    none_past : None ≡ Some t → ⊥
    none_past e = cc

-- and so is what a name means
pub target_within : (link : LinkParts) (name : List ℕ) (t : Target) → meant_target link (name_meaning link name) ≡ Ok t → IsWithin link t
target_within link name t is = go (meant_target link (name_meaning link name)) (name_within link (name_meaning link name)) is
  where
    go : (r : Result Target TargetFault) → OkWithin link r → r ≡ Ok t → IsWithin link t
    go (Ok found) within same = let here : found ≡ t = cc in subst (IsWithin link) here within
    go (Err fault) within same = absurd cc
