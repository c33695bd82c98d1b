-- Contents in which the data that names the PDB has an identifier: no other piece differs, and none is longer or shorter.
use Rattle.std.proofs.Common.{Bool, true, cond, ◌≡◌, ℕ, ◌<◌, List, [], ◌++◌, length, get_or, set, slice_index, Option, Some, None, inl, inr, refl, sym, ap, ◌∙◌, arith}
use Rattle.std.proofs.lemmas.Bool.{cases_eq}
use Rattle.std.proofs.lemmas.List.{get_or-set_same, get_or-set_other, set-append_left}
use Rattle.address_layout.specs.declared.layout.Layout.{Layout}
use Rattle.link_debug.specs.LinkDebug.{no_identifier, data_size, data_bytes}
use Rattle.link_debug.proofs.DataLemmas.{length-data, length-bytes}
use Rattle.synthetic_sections.specs.LinkerPieces.{DEBUG_DATA}
use Rattle.link_pieces.specs.LinkParts.{LinkParts}
use Rattle.link_pieces.proofs.CallerLemmas.{table_there}
use Rattle.link_pieces.specs.TablePieces.{KeptParts, table_index, whole_pieces}
use Rattle.link_words.specs.Outcome.{LinkOptions}
use Rattle.link_plan.specs.declared.planning.LinkPlan.{LinkPlan}
use Rattle.link_plan.specs.Planned.{planned_fixes}
use Rattle.link_plan.specs.Plan.{IsPlanOf, kept_parts}
use Rattle.link_image.specs.LinkedBytes.{tables_at, contents_at, with_bytes}
use Rattle.link_image.proofs.HeldLemmas.{debug_sized, table_contents, table_fixes}
use Rattle.link_image.proofs.ExportLemmas.{data_size_is, data_table_is}
use Rattle.link_image.proofs.TableLemmas.{IsTableAt, found_table}

-- ---- other bytes in the place of a piece

pub other_read : (place : Option ℕ) (bytes : List ℕ) (contents : List (List ℕ)) (k : ℕ) → (place ≡ Some k → ⊥) → get_or (with_bytes place bytes contents) k [] ≡ get_or contents k []
other_read None bytes contents k apart = refl
other_read (Some d) bytes contents k apart = get_or-set_other contents d k bytes [] (λ same. apart (ap Some (sym same)))

pub length_with : (place : Option ℕ) (bytes : List ℕ) (contents : List (List ℕ)) → ((d : ℕ) → place ≡ Some d → (d < length contents) × (length bytes ≡ length (get_or contents d []))) → (k : ℕ) → length (get_or (with_bytes place bytes contents) k []) ≡ length (get_or contents k [])
length_with None bytes contents fits k = refl
length_with (Some d) bytes contents fits k =
    elim (cases_eq k d) [
      | inl here ↦
          ap (λ (n : ℕ). length (get_or (set contents d bytes) n [])) here
          ∙ ap (λ (b : List ℕ). length b) (get_or-set_same contents d bytes [] (fits d refl).0)
          ∙ (fits d refl).1
          ∙ sym (ap (λ (n : ℕ). length (get_or contents n [])) here)
      | inr apart ↦ ap (λ (b : List ℕ). length b) (get_or-set_other contents d k bytes [] apart)
    ]

-- a byte that is the same without them is the same with them
pub byte_with : (place : Option ℕ) (bytes : List ℕ) (old new : List (List ℕ)) (k t : ℕ) → ((d : ℕ) → place ≡ Some d → (d < length old) × (d < length new)) → slice_index (get_or new k []) t ≡ slice_index (get_or old k []) t → slice_index (get_or (with_bytes place bytes new) k []) t ≡ slice_index (get_or (with_bytes place bytes old) k []) t
byte_with None bytes old new k t fits same = same
byte_with (Some d) bytes old new k t fits same =
    elim (cases_eq k d) [
      | inl here ↦
          ap (λ (n : ℕ). slice_index (get_or (set new d bytes) n []) t) here
          ∙ ap (λ (b : List ℕ). slice_index b t) (get_or-set_same new d bytes [] (fits d refl).1)
          ∙ sym (ap (λ (b : List ℕ). slice_index b t) (get_or-set_same old d bytes [] (fits d refl).0))
          ∙ sym (ap (λ (n : ℕ). slice_index (get_or (set old d bytes) n []) t) here)
      | inr apart ↦
          ap (λ (b : List ℕ). slice_index b t) (get_or-set_other new d k bytes [] apart)
          ∙ same
          ∙ sym (ap (λ (b : List ℕ). slice_index b t) (get_or-set_other old d k bytes [] apart))
    ]

pub with_front : (place : Option ℕ) (bytes : List ℕ) (contents tables : List (List ℕ)) → ((d : ℕ) → place ≡ Some d → d < length contents) → with_bytes place bytes contents ++ tables ≡ with_bytes place bytes (contents ++ tables)
with_front None bytes contents tables fits = refl
with_front (Some d) bytes contents tables fits = sym (set-append_left contents tables d bytes (fits d refl))

-- ---- the data that names the PDB

-- a piece without fields, and bytes as many as it holds
pub record IsReplaced (link : KeptParts) (layout : Layout) (bytes : List ℕ) (d : ℕ) : Type 0 where
  pub there : d < length (whole_pieces link)
  pub fixed : planned_fixes link d ≡ []
  pub long : length bytes ≡ length (contents_at link layout d)

-- it is one, with each identifier
pub data_replaced : (options : LinkOptions) (plan : LinkPlan) (planned : IsPlanOf options plan.modules.items plan) (layout : Layout) (identifier : List ℕ) → length identifier ≡ 16 → (d : ℕ) → table_index (kept_parts plan) DEBUG_DATA ≡ Some d → IsReplaced (kept_parts plan) layout (data_bytes plan.names.debug identifier) d
data_replaced options plan planned layout identifier sixteen d found =
    let link = kept_parts plan in
    let at : IsTableAt (kept_parts plan) DEBUG_DATA d = found_table (kept_parts plan) DEBUG_DATA d (omega arith) found in
    let sized = debug_sized options plan planned in
    record {
      there = at.there;
      fixed = table_fixes (kept_parts plan) d at.table;
      long =
          length-bytes plan.names.debug identifier sixteen sized
          ∙ sym (length-bytes plan.names.debug no_identifier refl sized)
          ∙ sym (ap (λ (b : List ℕ). length b)
          (table_contents (kept_parts plan) layout d at.table
          ∙ ap (λ (n : ℕ). get_or (tables_at (kept_parts plan) layout) n []) at.number_is
          ∙ data_table_is (kept_parts plan) layout));
    }

some_data : (pdb : List ℕ) → 0 < data_size pdb
unfolding data_size
some_data pdb = omega (arith, length-data no_identifier pdb refl)

-- where a PDB is asked for, there is data that names it
pub data_there : (options : LinkOptions) (plan : LinkPlan) (planned : IsPlanOf options plan.modules.items plan) → options.debug ≡ true → table_index (kept_parts plan) DEBUG_DATA ≡ None → ⊥
data_there options plan planned asked none =
    let debug = ap (λ (parts : LinkParts). parts.debug.size) planned.link_is.parts_are ∙ ap (λ (b : Bool). cond b (data_size options.pdb) 0) asked in
    table_there (kept_parts plan) DEBUG_DATA (omega arith) (omega (arith, data_size_is (kept_parts plan), debug, some_data options.pdb)) none
