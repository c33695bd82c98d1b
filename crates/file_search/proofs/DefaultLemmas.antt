-- One more name of a default library, and those of one more module.
use Rattle.std.proofs.Common.{◌≡◌, ◌<◌, ◌≤◌, ◌+◌, ℕ, zero, suc, Bool, true, false, cond, ◌||◌, List, [], ◌∷◌, ◌++◌, length, map, take, get_or, Option, Some, None, refl, sym, ap, ◌∙◌, append_assoc, arith}
use Rattle.std.specs.List.{filter_map, flat_map, cons_option, range_with_len}
use Rattle.std.specs.Str.{str_eq_ignore_ascii_case}
use Rattle.std.proofs.Math.Seq.{take-append_seam, get_or-append_seam}
use Rattle.std.proofs.lemmas.Bool.{true≢false}
use Rattle.std.proofs.lemmas.List.{append-nil, map-append, take_more, take_all, take-append-le, get_or_append_left, length_push}
use Rattle.std.proofs.lemmas.List.Elements.{filter_map-append}
use Rattle.link_base.proofs.RangeLemmas.{range_more, joined_more, same_joined}
use Rattle.directives.specs.Said.{Said, said}
use Rattle.directives.specs.declared.item.Directive.{Directive}
use Rattle.module_view.specs.Module.{ModuleView, no_module, module_at}
use Rattle.module_view.specs.ModuleDirectives.{module_directives}
use Rattle.symbol_names.specs.Lists.{of_all}
use Rattle.link_words.specs.Outcome.{LinkOptions}
use Rattle.file_search.specs.FileNames.{completed}
use Rattle.file_search.specs.DefaultLibraries.{default_said, defaults_by, default_names, ruled_out, is_among_names, is_passed_over, wanted_after, wanted_at, wanted_names}
use Rattle.file_search.specs.DefaultSteps.{has_noted, wanted_by, KeepsDefaults}
use Rattle.file_search.specs.declared.default_libraries.DefaultLibraries.{DefaultLibraries}
use Rattle.file_search.proofs.NotedLemmas.{among_more}

-- ---- over a range of numbers, on which two functions agree

same_filter_map : {B : Type 0} (f g : ℕ → Option B) (a n : ℕ) → ((k : ℕ) → a ≤ k → k < a + n → f k ≡ g k) → filter_map f (range_with_len a n) ≡ filter_map g (range_with_len a n)
same_filter_map f g a zero same = refl
same_filter_map {B} f g a (suc n) same =
    ap (λ (o : Option B). cons_option o (filter_map f (range_with_len (a + 1) n))) (same a (omega arith) (omega arith))
    ∙ ap (cons_option (g a)) (same_filter_map f g (a + 1) n (λ k low high. same k (omega arith) (omega arith)))

-- ---- one more name

earlier_same : (options : LinkOptions) (names : List (List ℕ)) (name : List ℕ) (k : ℕ) → k < length names → wanted_at options (names ++ name ∷ []) k ≡ wanted_at options names k
earlier_same options names name k lt =
    ap (λ (earlier : List (List ℕ)). wanted_after options earlier (get_or (names ++ name ∷ []) k [])) (take-append-le k names (name ∷ []) (omega arith))
    ∙ ap (wanted_after options (take k names)) (get_or_append_left names (name ∷ []) [] k lt)

last_is : (options : LinkOptions) (names : List (List ℕ)) (name : List ℕ) → wanted_at options (names ++ name ∷ []) (length names) ≡ wanted_after options names name
last_is options names name =
    ap (λ (earlier : List (List ℕ)). wanted_after options earlier (get_or (names ++ name ∷ []) (length names) [])) (take-append_seam names (name ∷ []))
    ∙ ap (wanted_after options names) (get_or-append_seam names name [] [])

wanted_more : (options : LinkOptions) (names : List (List ℕ)) (name : List ℕ) → wanted_names options (names ++ name ∷ []) ≡ wanted_names options names ++ cons_option (wanted_after options names name) []
wanted_more options names name =
    let n = length names in
    let f = wanted_at options (names ++ name ∷ []) in
    ap (λ (len : ℕ). filter_map f (range_with_len 0 len)) (length_push names name)
    ∙ ap (filter_map f) (range_more 0 n n (omega arith))
    ∙ filter_map-append f (range_with_len 0 n) (n ∷ [])
    ∙ ap (λ (xs : List (List ℕ)). xs ++ cons_option (f n) []) (same_filter_map f (wanted_at options names) 0 n (λ k low high. earlier_same options names name k (omega arith)))
    ∙ ap (λ (o : Option (List ℕ)). wanted_names options names ++ cons_option o []) (last_is options names name)

wanted_new : (options : LinkOptions) (names : List (List ℕ)) (name : List ℕ) → is_passed_over options names name ≡ false → wanted_names options (names ++ name ∷ []) ≡ wanted_names options names ++ name ∷ []
wanted_new options names name new =
    wanted_more options names name
    ∙ ap (λ (b : Bool). wanted_names options names ++ cons_option (cond b None (Some name)) []) new

wanted_known : (options : LinkOptions) (names : List (List ℕ)) (name : List ℕ) → is_passed_over options names name ≡ true → wanted_names options (names ++ name ∷ []) ≡ wanted_names options names
wanted_known options names name known =
    wanted_more options names name
    ∙ ap (λ (b : Bool). wanted_names options names ++ cons_option (cond b None (Some name)) []) known
    ∙ append-nil (wanted_names options names)

-- ---- what is kept, after one more name

noted_further : (options : LinkOptions) (names : List (List ℕ)) (name other : List ℕ) (before after : Bool) → after ≡ (before || str_eq_ignore_ascii_case other name) → before ≡ is_among_names (ruled_out options ++ names) other → after ≡ is_among_names (ruled_out options ++ (names ++ name ∷ [])) other
noted_further options names name other before after step was =
    step
    ∙ ap (λ (b : Bool). b || str_eq_ignore_ascii_case other name) was
    ∙ sym (among_more (ruled_out options ++ names) name other)
    ∙ ap (λ (all : List (List ℕ)). is_among_names all other) (append_assoc (ruled_out options) names (name ∷ []))

passed_over : (options : LinkOptions) (names : List (List ℕ)) (name : List ℕ) (b : Bool) → options.no_default_all ≡ false → is_among_names (ruled_out options ++ names) name ≡ b → is_passed_over options names name ≡ b
passed_over options names name b none is =
    ap (λ (all : Bool). all || is_among_names (ruled_out options ++ names) name) none ∙ is

pub keeps_new : (options : LinkOptions) (names : List (List ℕ)) (name : List ℕ) (before after : DefaultLibraries) → before.all_ruled_out ≡ false → after.all_ruled_out ≡ before.all_ruled_out → has_noted before.seen name ≡ false → ((other : List ℕ) → has_noted after.seen other ≡ (has_noted before.seen other || str_eq_ignore_ascii_case other name)) → wanted_by after ≡ wanted_by before ++ name ∷ [] → KeepsDefaults options names before → KeepsDefaults options (names ++ name ∷ []) after
keeps_new options names name before after none all_kept new step wanted was =
    let some : options.no_default_all ≡ false = sym was.all_is ∙ none in
    record {
      all_is = all_kept ∙ was.all_is;
      seen = λ e other. noted_further options names name other (has_noted before.seen other) (has_noted after.seen other) (step other) (was.seen some other);
      wanted =
          wanted
          ∙ ap (λ (list : List (List ℕ)). list ++ name ∷ []) was.wanted
          ∙ sym (wanted_new options names name (passed_over options names name false some (sym (was.seen some name) ∙ new)));
    }

pub keeps_known : (options : LinkOptions) (names : List (List ℕ)) (name : List ℕ) (before after : DefaultLibraries) → before.all_ruled_out ≡ false → after.all_ruled_out ≡ before.all_ruled_out → has_noted before.seen name ≡ true → ((other : List ℕ) → has_noted after.seen other ≡ (has_noted before.seen other || str_eq_ignore_ascii_case other name)) → wanted_by after ≡ wanted_by before → KeepsDefaults options names before → KeepsDefaults options (names ++ name ∷ []) after
keeps_known options names name before after none all_kept known step wanted was =
    let some : options.no_default_all ≡ false = sym was.all_is ∙ none in
    record {
      all_is = all_kept ∙ was.all_is;
      seen = λ e other. noted_further options names name other (has_noted before.seen other) (has_noted after.seen other) (step other) (was.seen some other);
      wanted =
          wanted ∙ was.wanted
          ∙ sym (wanted_known options names name (passed_over options names name true some (sym (was.seen some name) ∙ known)));
    }

-- all are ruled out
pub keeps_none : (options : LinkOptions) (names : List (List ℕ)) (name : List ℕ) (libraries : DefaultLibraries) → libraries.all_ruled_out ≡ true → KeepsDefaults options names libraries → KeepsDefaults options (names ++ name ∷ []) libraries
keeps_none options names name libraries all was =
    let ruled : options.no_default_all ≡ true = sym was.all_is ∙ all in
    record {
      all_is = was.all_is;
      seen = λ e. absurd (true≢false (sym ruled ∙ e));
      wanted =
          was.wanted
          ∙ sym (wanted_known options names name (ap (λ (b : Bool). b || is_among_names (ruled_out options ++ names) name) ruled));
    }

-- ---- the names of one more module

of_all_more : {A : Type 0} (list : ℕ → List ℕ → List A) (modules : List ModuleView) (m : ModuleView) → of_all list (modules ++ m ∷ []) ≡ of_all list modules ++ list (length modules) m.bytes
of_all_more {A} list modules m =
    let n = length modules in
    let f = λ (k : ℕ). list k (module_at (modules ++ m ∷ []) k).bytes in
    let g = λ (k : ℕ). list k (module_at modules k).bytes in
    ap (λ (len : ℕ). flat_map f (range_with_len 0 len)) (length_push modules m)
    ∙ joined_more f 0 n n (omega arith)
    ∙ ap (λ (xs : List A). xs ++ f n) (same_joined f g 0 n (λ k low high. ap (λ (v : ModuleView). list k v.bytes) (get_or_append_left modules (m ∷ []) no_module k (omega arith))))
    ∙ ap (λ (v : ModuleView). flat_map g (range_with_len 0 n) ++ list n v.bytes) (get_or-append_seam modules m [] no_module)

pub default_names_more : (options : LinkOptions) (modules : List ModuleView) (m : ModuleView) → default_names options (modules ++ m ∷ []) ≡ default_names options modules ++ map completed (filter_map default_said (module_directives m.bytes))
default_names_more options modules m =
    let own = filter_map default_said (module_directives m.bytes) in
    ap (λ (said : List (List ℕ)). map completed (options.default_libs ++ said)) (of_all_more defaults_by modules m)
    ∙ ap (map completed) (sym (append_assoc options.default_libs (of_all defaults_by modules) own))
    ∙ map-append completed (options.default_libs ++ of_all defaults_by modules) own

-- one more directive of it
pub said_more : (names : List (List ℕ)) (directives : List Directive) (index : ℕ) (d : Directive) → index < length directives → d ≡ get_or directives index d → (names ++ map completed (filter_map default_said (map said (take index directives)))) ++ map completed (filter_map default_said (said d ∷ [])) ≡ names ++ map completed (filter_map default_said (map said (take (index + 1) directives)))
said_more names directives index d lt is =
    let first = take index directives in
    append_assoc names (map completed (filter_map default_said (map said first))) (map completed (filter_map default_said (said d ∷ [])))
    ∙ ap (λ (list : List (List ℕ)). names ++ list)
    (sym (map-append completed (filter_map default_said (map said first)) (filter_map default_said (said d ∷ [])))
    ∙ ap (map completed)
    (sym (filter_map-append default_said (map said first) (said d ∷ []))
    ∙ ap (filter_map default_said) (sym (map-append said first (d ∷ [])) ∙ ap (λ (one : Directive). map said (first ++ one ∷ [])) is ∙ ap (map said) (sym (take_more directives index d lt)))))

-- all of them
pub said_all : (options : LinkOptions) (modules : List ModuleView) (m : ModuleView) (directives : List Directive) (index : ℕ) → length directives ≤ index → map said directives ≡ module_directives m.bytes → default_names options modules ++ map completed (filter_map default_said (map said (take index directives))) ≡ default_names options (modules ++ m ∷ [])
said_all options modules m directives index le said_are =
    ap (λ (list : List Directive). default_names options modules ++ map completed (filter_map default_said (map said list))) (take_all index directives le)
    ∙ ap (λ (list : List Said). default_names options modules ++ map completed (filter_map default_said list)) said_are
    ∙ sym (default_names_more options modules m)
