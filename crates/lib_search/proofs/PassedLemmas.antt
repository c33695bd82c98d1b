-- What was passed over stays passed over while no library is added.
use Rattle.std.proofs.Common.{◌≡◌, ℕ, ◌<◌, ◌≤◌, Bool, true, false, ◌&&◌, ◌||◌, not, cond, List, [], ◌∷◌, ◌++◌, length, map, get_or, Option, Some, None, refl, sym, ap, ◌∙◌, append_assoc, arith}
use Rattle.std.specs.Prelude.{option_and_then, is_some}
use Rattle.std.specs.List.{list_any}
use Rattle.std.proofs.lemmas.List.{length-append, get_or_append_left}
use Rattle.std.proofs.lemmas.List.Folds.{list_any-append}
use Rattle.module_view.specs.Module.{ModuleView}
use Rattle.symbol_names.specs.LinkView.{LinkView}
use Rattle.symbol_table.specs.LinkerNames.{linker_meaning}
use Rattle.symbol_names.specs.Lists.{of_all, provided_by, has_name, all_definitions, offered_by, offers, all_commons}
use Rattle.symbol_names.specs.References.{Asked, asked_by_name, asked_by, all_asked}
use Rattle.symbol_table.specs.OpenNames.{nothing_asked, asked_at, is_open, is_open_at, is_provided}
use Rattle.file_search.specs.FoundFiles.{FoundFile}
use Rattle.lib_search.specs.SearchSteps.{MemberPlace, Searched, is_place, unless_joined, listed_member, first_listing, asked_member, member_at, with_module, with_member}
use Rattle.lib_search.specs.SearchParts.{IsPassed}
use Rattle.lib_search.proofs.ModuleLemmas.{of_each_push, of_all_push}

abbrev pub searched_of : LinkView → List FoundFile → Bool → List MemberPlace → Searched
searched_of link libraries merges joined = record { link = link; libraries = libraries; merges = merges; joined = joined }

-- ---- what is asked for

pub asked_push : (link : LinkView) (m : ModuleView) → all_asked (with_module link m) ≡ all_asked link ++ asked_by (length link.modules) m.bytes
asked_push link m =
    let words = map asked_by_name link.words in
    ap (λ (later : List Asked). words ++ later) (of_all_push asked_by link.modules m)
    ∙ sym (append_assoc words (of_all asked_by link.modules) (asked_by (length link.modules) m.bytes))

pub asked_same : (link : LinkView) (m : ModuleView) (k : ℕ) → k < length (all_asked link) → asked_at (with_module link m) k ≡ asked_at link k
asked_same link m k lt =
    ap (λ (asked : List Asked). get_or asked k nothing_asked) (asked_push link m)
    ∙ get_or_append_left (all_asked link) (asked_by (length link.modules) m.bytes) nothing_asked k lt

pub asked_longer : (link : LinkView) (m : ModuleView) → length (all_asked link) ≤ length (all_asked (with_module link m))
asked_longer link m =
    let longer = ap (λ (asked : List Asked). length asked) (asked_push link m) ∙ length-append (all_asked link) (asked_by (length link.modules) m.bytes) in
    omega (arith, longer)

-- ---- what is provided stays so

or_more : (a b c d e : Bool) → (a || (b || c)) ≡ true → ((a || d) || ((b || e) || c)) ≡ true
or_more true b c d e h = refl
or_more false true c true e h = refl
or_more false true c false e h = refl
or_more false false true true e h = refl
or_more false false true false true h = refl
or_more false false true false false h = refl
or_more false false false d e h = absurd cc

pub provided_more : (modules : List ModuleView) (m : ModuleView) (name : List ℕ) → is_provided modules name ≡ true → is_provided (modules ++ m ∷ []) name ≡ true
unfolding is_provided
provided_more modules m name h =
    let n = length modules in
    let definitions = list_any (has_name name) in
    let commons = list_any (offers name) in
    let linked = is_some (linker_meaning name) in
    ap (λ (ds : List _). definitions ds || (commons (all_commons (modules ++ m ∷ [])) || linked)) (of_each_push provided_by modules m)
    ∙ ap (λ (cs : List _). definitions (all_definitions modules ++ provided_by n m) || (commons cs || linked)) (of_all_push offered_by modules m)
    ∙ ap (λ (b : Bool). b || (commons (all_commons modules ++ offered_by n m.bytes) || linked)) (list_any-append (has_name name) (all_definitions modules) (provided_by n m))
    ∙ ap (λ (b : Bool). (definitions (all_definitions modules) || definitions (provided_by n m)) || (b || linked)) (list_any-append (offers name) (all_commons modules) (offered_by n m.bytes))
    ∙ or_more (definitions (all_definitions modules)) (commons (all_commons modules)) linked (definitions (provided_by n m)) (commons (offered_by n m.bytes)) h

closed_more : (search before after : Bool) → (before ≡ true → after ≡ true) → (search && not before) ≡ false → (search && not after) ≡ false
closed_more false before after more h = refl
closed_more true true after more h = ap not (more refl)
closed_more true false after more h = absurd cc

pub closed_stays : (link : LinkView) (m : ModuleView) (k : ℕ) → k < length (all_asked link) → is_open_at link k ≡ false → is_open_at (with_module link m) k ≡ false
closed_stays link m k lt h =
    let asked = asked_at link k in
    ap (is_open (link.modules ++ m ∷ [])) (asked_same link m k lt)
    ∙ closed_more asked.search (is_provided link.modules asked.name) (is_provided (link.modules ++ m ∷ []) asked.name) (provided_more link.modules m asked.name) h

-- ---- what has joined stays so

pub unlisted_more : (joined more : List MemberPlace) (place : Option MemberPlace) → option_and_then (unless_joined joined) place ≡ None → option_and_then (unless_joined (joined ++ more)) place ≡ None
unlisted_more joined more None h = refl
unlisted_more joined more (Some place) h =
    ap (λ (b : Bool). cond b None (Some place)) (list_any-append (is_place place) joined more)
    ∙ go (list_any (is_place place) joined) (list_any (is_place place) more) h
  where
    go : (a b : Bool) → cond a None (Some place) ≡ None → cond (a || b) None (Some place) ≡ None
    go true b e = refl
    go false b e = absurd cc

-- ---- together

passed_more : (s : Searched) (place : MemberPlace) (k : ℕ) → k < length (all_asked s.link) → asked_member s k ≡ None → asked_member (with_member s place) k ≡ None
passed_more s place k lt h =
    let m = member_at s place in
    go (is_open_at s.link k) (is_open_at (with_module s.link m) k) refl refl
  where
    later : Searched
    later = with_member s place

    go : (before after : Bool) → is_open_at s.link k ≡ before → is_open_at (with_module s.link (member_at s place)) k ≡ after → asked_member (with_member s place) k ≡ None
    go before false b a = ap (λ (o : Bool). cond o (listed_member later (asked_at later.link k).name) None) a
    go true true b a =
        let name = (asked_at s.link k).name in
        let unlisted : listed_member s name ≡ None = sym (ap (λ (o : Bool). cond o (listed_member s name) None) b) ∙ h in
        ap (λ (o : Bool). cond o (listed_member later (asked_at later.link k).name) None) a
        ∙ ap (λ (asked : Asked). listed_member later asked.name) (asked_same s.link (member_at s place) k lt)
        ∙ unlisted_more s.joined (place ∷ []) (first_listing s.libraries name) unlisted
    go false true b a = absurd (clash (sym a ∙ closed_stays s.link (member_at s place) k lt b))
      where
        clash : true ≡ false → ⊥
        clash e = cc

pub passed_joined : (s : Searched) (place : MemberPlace) (passed : ℕ) → IsPassed s passed → IsPassed (with_member s place) passed
passed_joined s place passed over = record {
  within = let longer = asked_longer s.link (member_at s place) in omega (arith, over.within, longer);
  none = λ k lt. passed_more s place k (omega (arith, lt, over.within)) (over.none k lt);
}

-- the parts after a member joined
pub joins_now : (s : Searched) (place : MemberPlace) (view : ModuleView) (link : LinkView) (libraries : List FoundFile) (merges : Bool) (joined : List MemberPlace) → link ≡ with_module s.link view → view ≡ member_at s place → libraries ≡ s.libraries → merges ≡ s.merges → joined ≡ s.joined ++ place ∷ [] → searched_of link libraries merges joined ≡ with_member s place
joins_now s place view link libraries merges joined link_is view_is libraries_are merges_is joined_is =
    ap (λ (l : LinkView). searched_of l libraries merges joined) (link_is ∙ ap (with_module s.link) view_is)
    ∙ ap (λ (ls : List FoundFile). searched_of (with_module s.link (member_at s place)) ls merges joined) libraries_are
    ∙ ap (λ (b : Bool). searched_of (with_module s.link (member_at s place)) s.libraries b joined) merges_is
    ∙ ap (searched_of (with_module s.link (member_at s place)) s.libraries s.merges) joined_is

pub fresh_joined : (joined : List MemberPlace) (place : MemberPlace) → list_any (is_place place) joined ≡ false → cond (list_any (is_place place) joined) joined (joined ++ place ∷ []) ≡ joined ++ place ∷ []
fresh_joined joined place fresh = ap (λ (b : Bool). cond b joined (joined ++ place ∷ [])) fresh
