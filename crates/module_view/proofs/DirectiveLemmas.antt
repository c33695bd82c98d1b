-- The directives of a text, of a section and of an object, one part after another.
use Rattle.std.proofs.Common.{◌≡◌, ℕ, suc, ◌+◌, ◌-◌, ◌<◌, Bool, false, List, [], ◌∷◌, ◌++◌, map, filter, Option, Some, None, Result, refl, sym, ap, subst, ◌∙◌, append_assoc, arith}
use Rattle.std.specs.Prelude.{flat_map, filter_map, option_map}
use Rattle.std.specs.List.{list_any, range_with_len}
use Rattle.std.specs.Option.{option_or}
use Rattle.std.proofs.lemmas.List.Concat.{flat_map-append}
use Rattle.std.proofs.lemmas.List.Elements.{filter-append, filter_map-append}
use Rattle.link_base.specs.Refusals.{first_standing}
use Rattle.link_base.proofs.TestLemmas.{or_left, or_right}
use Rattle.coff_records.specs.ObjectFile.{section_total}
use Rattle.directives.specs.Said.{Said}
use Rattle.directives.specs.declared.item.BadDirective.{BadDirective}
use Rattle.module_view.specs.declared.error.ModuleError.{ModuleError}
use Rattle.module_view.specs.declared.error.ModuleError.TheVariants as error
use Rattle.module_view.specs.ModuleDirectives.{sections_in, holds_directives, section_says, sections_say, module_says, well_formed, malformed}
use Rattle.module_view.specs.Opening.{bad_directive_error, RefusesToOpen}

-- ---- what one part says, and what later parts say

-- the first malformed one
abbrev pub first_bad : List (Result Said BadDirective) → Option BadDirective
first_bad items = first_standing (map malformed items)

-- the directives grow by those of one part
pub said_more : (before one after : List (Result Said BadDirective)) (was now whole : List Said) → before ≡ one ++ after → was ++ filter_map well_formed before ≡ whole → now ≡ was ++ filter_map well_formed one → now ++ filter_map well_formed after ≡ whole
said_more before one after was now whole is sum grown =
    ap (λ (ds : List Said). ds ++ filter_map well_formed after) grown
    ∙ append_assoc was (filter_map well_formed one) (filter_map well_formed after)
    ∙ ap (λ (ds : List Said). was ++ ds) (sym (filter_map-append well_formed one after) ∙ ap (filter_map well_formed) (sym is))
    ∙ sum

or_or : {A : Type 0} (a b c : Option A) → option_or a (option_or b c) ≡ option_or (option_or a b) c
or_or None b c = refl
or_or (Some x) b c = refl

-- the first malformed one is that of the first part that has one
first_bad-append : (one after : List (Result Said BadDirective)) → first_bad (one ++ after) ≡ option_or (first_bad one) (first_bad after)
first_bad-append [] after = refl
first_bad-append (item ∷ one) after =
    ap (option_or (malformed item)) (first_bad-append one after) ∙ or_or (malformed item) (first_bad one) (first_bad after)

-- none in one part: it is that of the later ones
pub bad_later : (before one after : List (Result Said BadDirective)) (whole : Option BadDirective) → before ≡ one ++ after → first_bad before ≡ whole → first_bad one ≡ None → first_bad after ≡ whole
bad_later before one after whole is was none =
    ap (λ (first : Option BadDirective). option_or first (first_bad after)) (sym none)
    ∙ sym (first_bad-append one after) ∙ ap first_bad (sym is) ∙ was

earlier_refuses : (earlier later : Option BadDirective) (e : ModuleError) → RefusesToOpen (option_map bad_directive_error earlier) e → RefusesToOpen (option_map bad_directive_error (option_or earlier later)) e
earlier_refuses (Some bad) later e h = h
earlier_refuses None later (error.Object fault) h = absurd cc
earlier_refuses None later (error.Import fault) h = absurd cc
earlier_refuses None later (error.Directive at) h = absurd cc
earlier_refuses None later (error.Unsupported kind) h = absurd cc
earlier_refuses None later error.Memory h = tt

-- one part is refused: the whole is
pub part_refused : (before one after : List (Result Said BadDirective)) (whole : Option BadDirective) (e : ModuleError) → before ≡ one ++ after → first_bad before ≡ whole → RefusesToOpen (option_map bad_directive_error (first_bad one)) e → RefusesToOpen (option_map bad_directive_error whole) e
part_refused before one after whole e is was h =
    subst (λ (first : Option BadDirective). RefusesToOpen (option_map bad_directive_error first) e)
    (sym (first_bad-append one after) ∙ ap first_bad (sym is) ∙ was)
    (earlier_refuses (first_bad one) (first_bad after) e h)

-- ---- the sections

-- those behind the first so many
abbrev pub sections_left : List ℕ → ℕ → List ℕ
sections_left bytes done = range_with_len (done + 1) (section_total bytes - done)

pub all_left : (bytes : List ℕ) → sections_say bytes (sections_left bytes 0) ≡ module_says bytes
unfolding module_says
all_left bytes =
    let whole : section_total bytes - 0 ≡ section_total bytes = omega arith in
    ap (λ (count : ℕ). sections_say bytes (range_with_len 1 count)) whole

sections_say-append : (bytes : List ℕ) (xs ys : List ℕ) → sections_say bytes (xs ++ ys) ≡ sections_say bytes xs ++ sections_say bytes ys
sections_say-append bytes xs ys =
    ap (flat_map (section_says bytes)) (filter-append (holds_directives bytes) xs ys)
    ∙ flat_map-append (section_says bytes) (filter (holds_directives bytes) xs) (filter (holds_directives bytes) ys)

-- the next of them, and those behind it
pub one_left : (bytes : List ℕ) (done : ℕ) → done < section_total bytes → sections_say bytes (sections_left bytes done) ≡ sections_say bytes ((done + 1) ∷ []) ++ sections_say bytes (sections_left bytes (done + 1))
one_left bytes done lt =
    let more : section_total bytes - done ≡ suc (section_total bytes - (done + 1)) = omega arith in
    ap (λ (count : ℕ). sections_say bytes (range_with_len (done + 1) count)) more
    ∙ sections_say-append bytes ((done + 1) ∷ []) (sections_left bytes (done + 1))

none_pass : (test : ℕ → Bool) (xs : List ℕ) → list_any test xs ≡ false → filter test xs ≡ []
none_pass test [] none = refl
none_pass test (x ∷ xs) none =
    rw (or_left (test x) (list_any test xs) none) (none_pass test xs (or_right (test x) (list_any test xs) none))

-- no section holds directives
pub nothing_said : (bytes : List ℕ) → list_any (holds_directives bytes) (sections_in bytes) ≡ false → module_says bytes ≡ []
unfolding module_says
nothing_said bytes none = ap (flat_map (section_says bytes)) (none_pass (holds_directives bytes) (sections_in bytes) none)
