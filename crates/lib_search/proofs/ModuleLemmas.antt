-- The lists of all modules, with one module more.
use Rattle.std.proofs.Common.{◌≡◌, ℕ, ◌+◌, ◌<◌, List, [], ◌∷◌, ◌++◌, length, refl, sym, ap, ◌∙◌, arith}
use Rattle.std.specs.List.{flat_map, range_with_len}
use Rattle.std.proofs.lemmas.List.{length-append, get_or_append_left, get_or_push}
use Rattle.link_base.proofs.RangeLemmas.{joined_more, same_joined}
use Rattle.module_view.specs.Module.{ModuleView, no_module, module_at}
use Rattle.symbol_names.specs.Lists.{of_each, of_all}

-- the lists of the first modules
abbrev pub each_first : {A : Type 0} → (ℕ → ModuleView → List A) → List ModuleView → ℕ → List A
each_first list modules n = flat_map (λ k. list k (module_at modules k)) (range_with_len 0 n)

pub each_first_more : {A : Type 0} (list : ℕ → ModuleView → List A) (modules : List ModuleView) (n : ℕ) (m : ModuleView) → n < length modules → m ≡ module_at modules n → each_first list modules (n + 1) ≡ each_first list modules n ++ list n m
each_first_more {A} list modules n m lt is =
    joined_more (λ k. list k (module_at modules k)) 0 n n (omega arith)
    ∙ ap (λ (v : ModuleView). each_first list modules n ++ list n v) (sym is)

-- those of one module more come after the others
pub of_each_push : {A : Type 0} (list : ℕ → ModuleView → List A) (modules : List ModuleView) (m : ModuleView) → of_each list (modules ++ m ∷ []) ≡ of_each list modules ++ list (length modules) m
of_each_push {A} list modules m =
    let more = modules ++ m ∷ [] in
    let n = length modules in
    let longer : length more ≡ n + 1 = length-append modules (m ∷ []) in
    ap (each_first list more) longer
    ∙ each_first_more list more n m (omega (arith, longer)) (sym (get_or_push modules m no_module n refl))
    ∙ ap (λ (xs : List A). xs ++ list n m)
    (same_joined (λ k. list k (module_at more k)) (λ k. list k (module_at modules k)) 0 n (λ k low high.
    ap (list k) (get_or_append_left modules (m ∷ []) no_module k (omega (arith, high)))))

pub of_all_push : {A : Type 0} (list : ℕ → List ℕ → List A) (modules : List ModuleView) (m : ModuleView) → of_all list (modules ++ m ∷ []) ≡ of_all list modules ++ list (length modules) m.bytes
of_all_push list modules m = of_each_push (λ k (view : ModuleView). list k view.bytes) modules m
