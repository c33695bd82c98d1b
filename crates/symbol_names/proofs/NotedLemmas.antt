-- One more name that is asked for, and what directives say one after the other.
use Rattle.std.proofs.Common.{◌≡◌, ℕ, ◌+◌, ◌<◌, List, [], ◌∷◌, ◌++◌, length, map, take, get_or, Option, refl, sym, ap, subst, ◌∙◌, append_assoc}
use Rattle.std.proofs.lemmas.List.Elements.{filter_map-append}
use Rattle.std.specs.Prelude.{filter_map}
use Rattle.std.specs.List.{AllZip, cons_option}
use Rattle.std.proofs.lemmas.List.{map-append, take_more}
use Rattle.directives.specs.Said.{Said, said}
use Rattle.directives.specs.declared.item.Directive.{Directive}
use Rattle.symbol_names.specs.declared.noted.NotedAsked.{NotedAsked}
use Rattle.symbol_names.specs.References.{Asked, asked_by_name, name_said}
use Rattle.symbol_names.specs.Interning.{KeepsNumbers, NotesAsked}
use Rattle.symbol_names.proofs.NumberLemmas.{mapped_more, zip_push, zip_map, asked_kept}

-- ---- one more that asks

pub asked_last : (before after : List (List ℕ)) → KeepsNumbers before after → (earlier : List Asked) (notes now : List NotedAsked) (asked : Asked) (noted : NotedAsked) → AllZip (NotesAsked before) earlier notes → NotesAsked after asked noted → now ≡ notes ++ noted ∷ [] → AllZip (NotesAsked after) (earlier ++ asked ∷ []) now
asked_last before after kept earlier notes now asked noted was is pushed =
    subst (AllZip (NotesAsked after) (earlier ++ asked ∷ [])) (sym pushed)
    (zip_push (NotesAsked after) earlier notes asked noted (zip_map (NotesAsked before) (NotesAsked after) earlier notes (asked_kept before after kept) was) is)

pub asked_more : {X : Type 0} (asks : X → Asked) (before after : List (List ℕ)) → KeepsNumbers before after → (earlier : List Asked) (xs : List X) (i : ℕ) (x : X) (notes now : List NotedAsked) (noted : NotedAsked) → i < length xs → x ≡ get_or xs i x → AllZip (NotesAsked before) (earlier ++ map asks (take i xs)) notes → NotesAsked after (asks x) noted → now ≡ notes ++ noted ∷ [] → AllZip (NotesAsked after) (earlier ++ map asks (take (i + 1) xs)) now
asked_more {X} asks before after kept earlier xs i x notes now noted lt here was is pushed =
    subst (λ (l : List Asked). AllZip (NotesAsked after) l now)
    (ap (λ (y : X). (earlier ++ map asks (take i xs)) ++ asks y ∷ []) here ∙ sym (mapped_more asks earlier xs i x lt))
    (asked_last before after kept (earlier ++ map asks (take i xs)) notes now (asks x) noted was is pushed)

-- the names that directives include
abbrev pub included : List Directive → List Asked
included directives = map asked_by_name (filter_map name_said (map said directives))

pub included_more : (earlier : List Asked) (directives : List Directive) (i : ℕ) (d : Directive) → i < length directives → d ≡ get_or directives i d → earlier ++ included (take (i + 1) directives) ≡ (earlier ++ included (take i directives)) ++ included (d ∷ [])
included_more earlier directives i d lt is =
    ap (λ (ds : List Directive). earlier ++ included ds) (take_more directives i d lt ∙ ap (λ (x : Directive). take i directives ++ x ∷ []) (sym is))
    ∙ ap (λ (says : List Said). earlier ++ map asked_by_name (filter_map name_said says)) (map-append said (take i directives) (d ∷ []))
    ∙ ap (λ (names : List (List ℕ)). earlier ++ map asked_by_name names) (filter_map-append name_said (map said (take i directives)) (said d ∷ []))
    ∙ ap (λ (asked : List Asked). earlier ++ asked) (map-append asked_by_name (filter_map name_said (map said (take i directives))) (filter_map name_said (said d ∷ [])))
    ∙ sym (append_assoc earlier (included (take i directives)) (included (d ∷ [])))

pub filter_map_mapped : {A B C : Type 0} (h : B → Option C) (f : A → B) (xs : List A) → filter_map (λ x. h (f x)) xs ≡ filter_map h (map f xs)
filter_map_mapped h f [] = refl
filter_map_mapped {A} {B} {C} h f (x ∷ xs) = ap (λ (ys : List C). cons_option (h (f x)) ys) (filter_map_mapped h f xs)
