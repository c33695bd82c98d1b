-- Exports that are noted one after the other.
use Rattle.std.proofs.Common.{◌≡◌, ℕ, ◌+◌, ◌<◌, Bool, true, false, cond, List, [], ◌∷◌, ◌++◌, length, map, fold, take, get_or, refl, sym, ap, ◌∙◌, append_assoc}
use Rattle.std.specs.Prelude.{◌&&◌, not, nat_eq, filter_map}
use Rattle.std.specs.Bool.{beq}
use Rattle.std.specs.Option.{option_eq}
use Rattle.std.specs.List.{list_any}
use Rattle.std.proofs.lemmas.Bool.{true≢false, false≢true}
use Rattle.std.proofs.lemmas.List.{append-nil, map-append, take_more}
use Rattle.std.proofs.lemmas.List.Elements.{filter_map-append}
use Rattle.std.proofs.lemmas.List.Sums.{fold-append}
use Rattle.std.proofs.lemmas.List.Concat.{flat_map-append}
use Rattle.link_base.specs.NameText.{same_name}
use Rattle.directives.specs.Said.{Said, said}
use Rattle.directives.specs.declared.item.Directive.{Directive}
use Rattle.directives.specs.declared.item.Export.{Export}
use Rattle.module_view.specs.Module.{ModuleView}
use Rattle.link_directives.specs.LinkDirectives.{directives_by, all_directives}
use Rattle.link_exports.specs.Exports.{export_said, all_exports, agrees, with_row}
use Rattle.link_exports.specs.Steps.{SaidRow, said_row}

-- ---- whether another says the same

abbrev pub says_same : SaidRow → SaidRow → Bool
says_same told other =
    ((same_name told.0 other.0 && option_eq same_name told.1 other.1) && option_eq nat_eq told.2 other.2) && beq told.3 other.3

same_any : (row : Export) (rows : List Export) → list_any (says_same (said_row row)) (map said_row rows) ≡ list_any (agrees row) rows
same_any row [] = refl
same_any row (other ∷ rows) = rw (same_any row rows) refl

-- whether one does, by what is known of the exports
known_any : (row : Export) (rows : List Export) (keys : List SaidRow) (b : Bool) → keys ≡ map said_row rows → list_any (says_same (said_row row)) keys ≡ b → with_row rows row ≡ cond b rows (rows ++ row ∷ [])
known_any row rows keys b known is =
    ap (λ (b : Bool). cond b rows (rows ++ row ∷ [])) (sym (same_any row rows) ∙ ap (list_any (says_same (said_row row))) (sym known) ∙ is)

-- one that is added
pub noted_now : (rows : List Export) (keys : List SaidRow) (row : Export) (added : Bool) → keys ≡ map said_row rows → added ≡ not (list_any (says_same (said_row row)) keys) → added ≡ true → rows ++ row ∷ [] ≡ with_row rows row
noted_now rows keys row added known is new = go (list_any (says_same (said_row row)) keys) refl (sym is ∙ new)
  where
    go : (b : Bool) → list_any (says_same (said_row row)) keys ≡ b → not b ≡ true → rows ++ row ∷ [] ≡ with_row rows row
    go false e n = sym (known_any row rows keys false known e)
    go true e n = absurd (false≢true n)

-- one that is not
pub noted_before : (rows : List Export) (keys : List SaidRow) (row : Export) (added : Bool) → keys ≡ map said_row rows → added ≡ not (list_any (says_same (said_row row)) keys) → added ≡ false → rows ≡ with_row rows row
noted_before rows keys row added known is old = go (list_any (says_same (said_row row)) keys) refl (sym is ∙ old)
  where
    go : (b : Bool) → list_any (says_same (said_row row)) keys ≡ b → not b ≡ false → rows ≡ with_row rows row
    go true e n = sym (known_any row rows keys true known e)
    go false e n = absurd (true≢false n)

-- ---- one more of a list that is walked

pub rows_more : {A : Type 0} (names : List A → List Export) → ((xs ys : List A) → names (xs ++ ys) ≡ names xs ++ names ys) → (before now after : List Export) (xs : List A) (k : ℕ) (x : A) → k < length xs → x ≡ get_or xs k x → now ≡ fold with_row before (names (take k xs)) → after ≡ fold with_row now (names (x ∷ [])) → after ≡ fold with_row before (names (take (k + 1) xs))
rows_more {A} names append before now after xs k x lt read is more =
    more
    ∙ ap (λ (rows : List Export). fold with_row rows (names (x ∷ []))) is
    ∙ sym (fold-append with_row before (names (take k xs)) (names (x ∷ [])))
    ∙ sym (ap (fold with_row before) (ap names (take_more xs k x lt ∙ ap (λ (y : A). take k xs ++ y ∷ []) (sym read)) ∙ append (take k xs) (x ∷ [])))

-- the exports among directives
pub among_append : (xs ys : List Directive) → filter_map export_said (map said (xs ++ ys)) ≡ filter_map export_said (map said xs) ++ filter_map export_said (map said ys)
among_append xs ys = ap (filter_map export_said) (map-append said xs ys) ∙ filter_map-append export_said (map said xs) (map said ys)

-- and among those of modules
pub modules_more : (given : List Export) (before now after : List Export) (modules : List ModuleView) (k : ℕ) (m : ModuleView) (directives : List Directive) → k < length modules → m ≡ get_or modules k m → map said directives ≡ directives_by m → now ≡ fold with_row before (all_exports given (take k modules)) → after ≡ fold with_row now (filter_map export_said (map said directives)) → after ≡ fold with_row before (all_exports given (take (k + 1) modules))
modules_more given before now after modules k m directives lt read says is more =
    more
    ∙ ap (λ (rows : List Export). fold with_row rows (filter_map export_said (map said directives))) is
    ∙ sym (fold-append with_row before (all_exports given (take k modules)) (filter_map export_said (map said directives)))
    ∙ ap (fold with_row before) (step ∙ ap (λ (rows : List Export). given ++ rows) (sym grown))
  where
    own : List ModuleView → List Export
    own ms = filter_map export_said (all_directives ms)

    step : all_exports given (take k modules) ++ filter_map export_said (map said directives) ≡ given ++ (own (take k modules) ++ filter_map export_said (map said directives))
    step = append_assoc given (own (take k modules)) (filter_map export_said (map said directives))

    grown : own (take (k + 1) modules) ≡ own (take k modules) ++ filter_map export_said (map said directives)
    grown =
        ap own (take_more modules k m lt ∙ ap (λ (v : ModuleView). take k modules ++ v ∷ []) (sym read))
        ∙ ap (filter_map export_said) (flat_map-append directives_by (take k modules) (m ∷ []))
        ∙ filter_map-append export_said (all_directives (take k modules)) (all_directives (m ∷ []))
        ∙ ap (λ (said : List Said). own (take k modules) ++ filter_map export_said said) (append-nil (directives_by m) ∙ sym says)
