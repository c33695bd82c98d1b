-- The store that a map of named files tells: a look-up in it, and a file put into it.
use Rattle.std.proofs.Common.{◌≡◌, ℕ, Bool, true, false, cond, List, [], ◌∷◌, map, Option, Some, option_map, String, Vec, string_bytes, refl, sym, ap, ◌∙◌}
use Rattle.std.specs.Ordering.{nat_cmp, is_eq, eq_by_cmp}
use Rattle.std.specs.Cmp.Lexicographic.{slice_cmp, nat_list_cmp_total, nat_list_eq_equiv}
use Rattle.std.specs.Str.{bytes_eq}
use Rattle.std.specs.String.{string_cmp}
use Rattle.std.specs.Map.{lookup}
use Rattle.std.specs.BTreeMap.{BTreeMap, is_at, get_by_text, Updates}
use Rattle.std.specs.FinMap.{find, get-from_entries, get-insert, same_map, slice_cmp-IsAntisymmetric, nat_cmp-IsAntisymmetric}
use Rattle.std.proofs.lemmas.Map.Text.{is_eq-slice_cmp, btree_map_updates_text}
use Rattle.link_files.specs.Store.{file_of, with_file, store_of}

-- the two tests of a name against a key agree
same_test : (key name : List ℕ) → bytes_eq key name ≡ eq_by_cmp (slice_cmp nat_cmp) name key
same_test key name = nat_list_eq_equiv.symm key name ∙ sym (is_eq-slice_cmp name key)

module _ {Y Z : Type 0} where
  -- the names and bytes of the entries
  abbrev plain : List (String Y × Vec ℕ Z) → List (List ℕ × List ℕ)
  plain entries = map (λ e. (string_bytes e.0, e.1.items)) entries

  find_by_name : (name : List ℕ) (entries : List (String Y × Vec ℕ Z)) → find (slice_cmp nat_cmp) name (plain entries) ≡ option_map (λ v. v.items) (lookup (is_at (λ k. slice_cmp nat_cmp name (string_bytes k))) entries)
  find_by_name name [] = refl
  find_by_name name (e ∷ es) =
      elim (is_eq (slice_cmp nat_cmp name (string_bytes e.0))) as (λ b. cond b (Some e.1.items) (find (slice_cmp nat_cmp) name (plain es)) ≡ option_map (λ v. v.items) (cond b (Some e.1) (lookup (is_at (λ k. slice_cmp nat_cmp name (string_bytes k))) es))) [
        | true ↦ refl
        | false ↦ find_by_name name es
      ]

  -- the file of a name is the value at the key with its bytes
  pub file_of-store_of : (files : BTreeMap (String Y) (Vec ℕ Z)) (name : List ℕ) → file_of (store_of files.entries) name ≡ option_map (λ v. v.items) (get_by_text files name)
  file_of-store_of files name =
      get-from_entries nat_list_cmp_total (plain files.entries) name ∙ find_by_name name files.entries

module _ {Z : Type 0} where
  -- the items of a choice are the choice of the items
  items_of_choice : (b c : Bool) (v : Vec ℕ Z) (o : Option (Vec ℕ Z)) (rest : Option (List ℕ)) → b ≡ c → option_map (λ w. w.items) o ≡ rest → option_map (λ w. w.items) (cond b (Some v) o) ≡ cond c (Some v.items) rest
  items_of_choice true c v o rest same at = ap (λ (d : Bool). cond d (Some v.items) rest) same
  items_of_choice false c v o rest same at = at ∙ ap (λ (d : Bool). cond d (Some v.items) rest) same

module _ {Y Z : Type 0} where
  -- an insert puts a file in place of one of its name
  pub store_of-insert : (old new : BTreeMap (String Y) (Vec ℕ Z)) (key : String Y) (value : Vec ℕ Z) → Updates string_cmp old new key (Some value) → store_of new.entries ≡ with_file (store_of old.entries) (string_bytes key) value.items
  store_of-insert old new key value updates =
      same_map nat_list_cmp_total (slice_cmp-IsAntisymmetric nat_cmp-IsAntisymmetric) _ _ (λ name.
      file_of-store_of new name
      ∙ ap (option_map (λ v. v.items)) (btree_map_updates_text (string_bytes key) old new (Some value) updates name)
      ∙ items_of_choice _ _ value _ _ (same_test (string_bytes key) name) (sym (file_of-store_of old name))
      ∙ sym (get-insert nat_list_cmp_total (store_of old.entries) (string_bytes key) value.items name))
