-- The parts of a list one after another: the last that says counts, where each is one of the table.
use Rattle.std.proofs.Common.{◌≡◌, ℕ, ◌+◌, ◌<◌, Bool, cond, List, [], ◌∷◌, map, length, take, drop, get_or, fold, Option, Some, None, is_some, refl, sym, ap, ◌∙◌, arith}
use Rattle.std.proofs.Math.ListN.{get_or-map}
use Rattle.std.specs.Option.{option_or}
use Rattle.std.specs.List.{take-map, slice_split, list_all, filter_map, last_or}
use Rattle.std.proofs.lemmas.List.{take-append-drop, length-map}
use Rattle.std.proofs.lemmas.List.Sums.{fold-append, fold_more}
use Rattle.directives.specs.Text.{is_comma}
use Rattle.link_words.specs.Values.{opt_item, refs_in, icf_in, opts}

abbrev pub more_opts : Option (Option Bool × Option Bool) → Option (Option Bool × Option Bool) → Option (Option Bool × Option Bool)
more_opts None part = None
more_opts (Some before) None = None
more_opts (Some (refs, icf)) (Some (part_refs, part_icf)) = Some (option_or part_refs refs, option_or part_icf icf)

refused : (parts : List (Option (Option Bool × Option Bool))) → fold more_opts None parts ≡ None
refused [] = refl
refused (part ∷ parts) = refused parts

together : (refs icf : Option Bool) (parts : List (Option (Option Bool × Option Bool))) → fold more_opts (Some (refs, icf)) parts ≡ cond (list_all is_some parts) (Some (last_or refs (filter_map refs_in parts), last_or icf (filter_map icf_in parts))) None
together refs icf [] = refl
together refs icf (None ∷ parts) = refused parts
together refs icf (Some (None, None) ∷ parts) = together refs icf parts
together refs icf (Some (None, Some folds) ∷ parts) = together refs (Some folds) parts
together refs icf (Some (Some drops, None) ∷ parts) = together (Some drops) icf parts
together refs icf (Some (Some drops, Some folds) ∷ parts) = together (Some drops) (Some folds) parts

-- all of them are of the table
pub opts_all : (text : List ℕ) (parts : List (List ℕ)) (said : Option Bool × Option Bool) → fold more_opts (Some (None, None)) (map opt_item parts) ≡ Some said → parts ≡ slice_split is_comma text → Some said ≡ opts text
unfolding opts
opts_all text parts said h e =
    sym h ∙ ap (λ (p : List (List ℕ)). fold more_opts (Some (None, None)) (map opt_item p)) e ∙ together None None (map opt_item (slice_split is_comma text))

-- one is not
pub opts_refused : (text : List ℕ) (k : ℕ) (parts : List (List ℕ)) (part : List ℕ) (said : Option Bool × Option Bool) → fold more_opts (Some (None, None)) (map opt_item parts) ≡ Some said → parts ≡ take k (slice_split is_comma text) → (k < length (slice_split is_comma text)) × (part ≡ get_or (slice_split is_comma text) k part) → opt_item part ≡ None → None ≡ opts text
unfolding opts
opts_refused text k parts part said h e at refuses =
    let split : List (List ℕ) = slice_split is_comma text in
    let all : List (Option (Option Bool × Option Bool)) = map opt_item split in
    let front : fold more_opts (Some (None, None)) (take k all) ≡ Some said = ap (fold more_opts (Some (None, None))) (take-map opt_item k split) ∙ ap (λ (p : List (List ℕ)). fold more_opts (Some (None, None)) (map opt_item p)) (sym e) ∙ h in
    let lt : k < length all = omega (arith, at.0, length-map {A = List ℕ} split opt_item) in
    let found : get_or all k (opt_item part) ≡ None = get_or-map opt_item split k part ∙ ap opt_item (sym at.1) ∙ refuses in
    let here : fold more_opts (Some (None, None)) (take (k + 1) all) ≡ None =
    fold_more more_opts (Some (None, None)) all k (opt_item part) lt ∙ ap (λ (o : Option (Option Bool × Option Bool)). more_opts o (get_or all k (opt_item part))) front ∙ ap (more_opts (Some said)) found in
    let none : fold more_opts (Some (None, None)) all ≡ None = ap (fold more_opts (Some (None, None))) (sym (take-append-drop (k + 1) all)) ∙ fold-append more_opts (Some (None, None)) (take (k + 1) all) (drop (k + 1) all) ∙ ap (λ (o : Option (Option Bool × Option Bool)). fold more_opts o (drop (k + 1) all)) here ∙ refused (drop (k + 1) all) in
    sym none ∙ together None None all
