-- An entry is known by its type, its name and its language.
use Rattle.std.proofs.Common.{◌≡◌, ℕ, Bool, List, [], ◌∷◌, map, refl, ap, ◌∙◌}
use Rattle.std.specs.Prelude.{◌||◌}
use Rattle.std.specs.List.{list_any}
use Rattle.res_merge.specs.Entries.{Key, Number, Text, Entry}
use Rattle.resource_files.specs.contracts.key.ResourceKeyPartialEq.TheImpl.{eq-value}
use Rattle.resource_files.specs.Held.{same_entry, is_again}
use Rattle.resource_files.specs.Parts.{known_by}

entry_with : Key → Key → ℕ → List ℕ → Entry
entry_with kind name language body = record { kind = kind; name = name; language = language; body = body }

-- what two are known by is equal where they are one
known_same : (ak bk an bn : Key) (al bl : ℕ) (ab bb : List ℕ) → eq-value.it (known_by (entry_with ak an al ab)) (known_by (entry_with bk bn bl bb)) ≡ same_entry (entry_with bk bn bl bb) (entry_with ak an al ab)
unfolding entry_with
known_same (Number ak) (Number bk) (Number an) (Number bn) al bl ab bb = refl
known_same (Number ak) (Number bk) (Number an) (Text bn) al bl ab bb = refl
known_same (Number ak) (Number bk) (Text an) (Number bn) al bl ab bb = refl
known_same (Number ak) (Number bk) (Text an) (Text bn) al bl ab bb = refl
known_same (Number ak) (Text bk) (Number an) (Number bn) al bl ab bb = refl
known_same (Number ak) (Text bk) (Number an) (Text bn) al bl ab bb = refl
known_same (Number ak) (Text bk) (Text an) (Number bn) al bl ab bb = refl
known_same (Number ak) (Text bk) (Text an) (Text bn) al bl ab bb = refl
known_same (Text ak) (Number bk) (Number an) (Number bn) al bl ab bb = refl
known_same (Text ak) (Number bk) (Number an) (Text bn) al bl ab bb = refl
known_same (Text ak) (Number bk) (Text an) (Number bn) al bl ab bb = refl
known_same (Text ak) (Number bk) (Text an) (Text bn) al bl ab bb = refl
known_same (Text ak) (Text bk) (Number an) (Number bn) al bl ab bb = refl
known_same (Text ak) (Text bk) (Number an) (Text bn) al bl ab bb = refl
known_same (Text ak) (Text bk) (Text an) (Number bn) al bl ab bb = refl
known_same (Text ak) (Text bk) (Text an) (Text bn) al bl ab bb = refl

-- an entry is one of some
pub known_again : (entry : Entry) (entries : List Entry) → list_any (eq-value.it (known_by entry)) (map known_by entries) ≡ is_again entries entry
unfolding entry_with
known_again entry [] = refl
known_again entry (other ∷ entries) =
    ap (λ (b : Bool). b || list_any (eq-value.it (known_by entry)) (map known_by entries)) (known_same entry.kind other.kind entry.name other.name entry.language other.language entry.body other.body)
    ∙ ap (λ (b : Bool). same_entry other entry || b) (known_again entry entries)
