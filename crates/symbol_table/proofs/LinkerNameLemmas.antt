-- A name that does not begin as the linker's names do is none of them.
use Rattle.std.proofs.Common.{◌≡◌, ℕ, Bool, true, false, not, ◌&&◌, ◌||◌, None, List, [], ◌∷◌, codes, refl, sym, ap, ◌∙◌, inl, inr}
use Rattle.std.proofs.lemmas.Bool.{false≢true, cases_Bool, and_right}
use Rattle.std.specs.List.{list_any}
use Rattle.link_base.specs.NameText.{same_name, begins, begins_import, behind_import}
use Rattle.link_base.proofs.NameTextLemmas.{same_is}
use Rattle.symbol_table.specs.LinkerNames.{image_base_name, zero_names, linker_meaning}

-- it begins with two underscores, and not with the import prefix
abbrev begins_so : List ℕ → Bool
begins_so name = not (begins_import name) && begins (behind_import name) (codes "__")

other : (name known : List ℕ) → begins_so known ≡ true → begins_so name ≡ false → same_name name known ≡ false
other name known is none =
    elim (cases_Bool (same_name name known)) [
      | inl holds ↦ absurd (false≢true (sym none ∙ ap begins_so (same_is name known holds) ∙ is))
      | inr fails ↦ fails
    ]

none_of : (name : List ℕ) (all : List (List ℕ)) → list_any (λ known. not (begins_so known)) all ≡ false → begins_so name ≡ false → list_any (same_name name) all ≡ false
none_of name [] so none = refl
none_of name (known ∷ all) so none =
    let rest : Bool = list_any (λ known. not (begins_so known)) all in
    elim (cases_Bool (begins_so known)) [
      | inl holds ↦ rw (other name known holds none) (none_of name all (sym (ap (λ (b : Bool). not b || rest) holds) ∙ so) none)
      | inr fails ↦ absurd (false≢true (sym so ∙ ap (λ (b : Bool). not b || rest) fails))
    ]

no_meaning : (name : List ℕ) → begins_so name ≡ false → linker_meaning name ≡ None
unfolding linker_meaning
no_meaning name none =
    rw (other name image_base_name refl none) (rw (none_of name zero_names refl none) refl)

pub no_meaning_begun : (name : List ℕ) → begins (behind_import name) (codes "__") ≡ false → linker_meaning name ≡ None
no_meaning_begun name none = no_meaning name (and_right (not (begins_import name)) (begins (behind_import name) (codes "__")) none)

pub no_meaning_import : (name : List ℕ) → begins_import name ≡ true → linker_meaning name ≡ None
no_meaning_import name is = no_meaning name (ap (λ (b : Bool). not b && begins (behind_import name) (codes "__")) is)
