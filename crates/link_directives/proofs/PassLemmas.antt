-- What the directives so far say, one directive and one module at a time.
use Rattle.std.proofs.Common.{◌≡◌, ℕ, ◌+◌, ◌<◌, List, [], ◌∷◌, ◌++◌, length, map, take, drop, get_or, Option, sym, ap, ◌∙◌, append_assoc}
use Rattle.std.specs.List.{filter_map}
use Rattle.std.proofs.lemmas.List.{append-nil, map-append, take_more, take-append-drop}
use Rattle.std.proofs.lemmas.List.Concat.{flat_map-append}
use Rattle.std.proofs.lemmas.List.Elements.{filter_map-append}
use Rattle.directives.specs.declared.item.Directive.{Directive}
use Rattle.directives.specs.Said.{Said, said}
use Rattle.module_view.specs.Module.{ModuleView}
use Rattle.link_directives.specs.LinkDirectives.{directives_by, all_directives}

-- what some directives say
abbrev pub picked : {A : Type 0} → (Said → Option A) → List Directive → List A
picked pick directives = filter_map pick (map said directives)

-- what some modules say
abbrev pub picked_of : {A : Type 0} → (Said → Option A) → List ModuleView → List A
picked_of pick modules = filter_map pick (all_directives modules)

pub picked-append : {A : Type 0} (pick : Said → Option A) (xs ys : List Directive) → picked pick (xs ++ ys) ≡ picked pick xs ++ picked pick ys
picked-append pick xs ys = ap (filter_map pick) (map-append said xs ys) ∙ filter_map-append pick (map said xs) (map said ys)

pub picked_of-append : {A : Type 0} (pick : Said → Option A) (xs ys : List ModuleView) → picked_of pick (xs ++ ys) ≡ picked_of pick xs ++ picked_of pick ys
picked_of-append pick xs ys =
    ap (filter_map pick) (flat_map-append directives_by xs ys) ∙ filter_map-append pick (all_directives xs) (all_directives ys)

-- one more directive, behind what was said before
pub picked_more : {A : Type 0} (pick : Said → Option A) (earlier : List A) (directives : List Directive) (i : ℕ) (d : Directive) → i < length directives → d ≡ get_or directives i d → (earlier ++ picked pick (take i directives)) ++ filter_map pick (said d ∷ []) ≡ earlier ++ picked pick (take (i + 1) directives)
picked_more {A} pick earlier directives i d lt is =
    append_assoc earlier (picked pick (take i directives)) (filter_map pick (said d ∷ []))
    ∙ ap (λ (one : Directive). earlier ++ (picked pick (take i directives) ++ filter_map pick (said one ∷ []))) is
    ∙ ap (λ (some : List A). earlier ++ some)
    (sym (ap (picked pick) (take_more directives i d lt) ∙ picked-append pick (take i directives) (get_or directives i d ∷ [])))

-- one more module, by its list of directives
pub picked_of_more : {A : Type 0} (pick : Said → Option A) (earlier : List A) (modules : List ModuleView) (i : ℕ) (m : ModuleView) (directives : List Directive) → i < length modules → m ≡ get_or modules i m → map said directives ≡ directives_by m → (earlier ++ picked_of pick (take i modules)) ++ picked pick directives ≡ earlier ++ picked_of pick (take (i + 1) modules)
picked_of_more {A} pick earlier modules i m directives lt is says =
    append_assoc earlier (picked_of pick (take i modules)) (picked pick directives)
    ∙ ap (λ (some : List A). earlier ++ some) (sym step)
  where
    step : picked_of pick (take (i + 1) modules) ≡ picked_of pick (take i modules) ++ picked pick directives
    step =
        ap (picked_of pick) (take_more modules i m lt)
        ∙ picked_of-append pick (take i modules) (get_or modules i m ∷ [])
        ∙ ap (λ (said : List Said). picked_of pick (take i modules) ++ filter_map pick said)
        (append-nil (directives_by (get_or modules i m)) ∙ ap directives_by (sym is) ∙ sym says)

-- all, by those so far and the others
pub picked_split : {A : Type 0} (pick : Said → Option A) (earlier : List A) (directives : List Directive) (i : ℕ) → (earlier ++ picked pick (take i directives)) ++ picked pick (drop i directives) ≡ earlier ++ picked pick directives
picked_split {A} pick earlier directives i =
    append_assoc earlier (picked pick (take i directives)) (picked pick (drop i directives))
    ∙ ap (λ (some : List A). earlier ++ some)
    (sym (picked-append pick (take i directives) (drop i directives)) ∙ ap (picked pick) (take-append-drop i directives))

pub picked_of_split : {A : Type 0} (pick : Said → Option A) (modules : List ModuleView) (i : ℕ) → picked_of pick (take i modules) ++ picked_of pick (drop i modules) ≡ picked_of pick modules
picked_of_split pick modules i =
    sym (picked_of-append pick (take i modules) (drop i modules)) ∙ ap (picked_of pick) (take-append-drop i modules)
