-- The parts of a search after a member joined.
use Rattle.std.proofs.Common.{◌≡◌, ℕ, ◌+◌, ◌<◌, ◌≤◌, List, [], ◌∷◌, ◌++◌, length, take, get_or, sym, ap, subst, ◌∙◌, arith}
use Rattle.std.proofs.lemmas.List.{take_more}
use Rattle.link_words.specs.Outcome.{LinkOptions}
use Rattle.module_view.specs.Module.{ModuleView}
use Rattle.symbol_names.specs.Alternates.{alternates_by, all_alternates}
use Rattle.symbol_names.specs.LinkView.{LinkView}
use Rattle.symbol_names.specs.References.{all_asked}
use Rattle.file_search.specs.FoundFiles.{FoundFile}
use Rattle.lib_search.specs.SearchSteps.{MemberPlace, Searched, member_at, with_member, with_library}
use Rattle.lib_search.specs.LinkOf.{link_of}
use Rattle.lib_search.specs.AlternateParts.{KeepsAlternates, AreTogether}
use Rattle.lib_search.specs.declared.alternates.Alternates.{Alternates}
use Rattle.lib_search.proofs.PassedLemmas.{asked_longer}
use Rattle.lib_search.proofs.WaitLemmas.{alternates_push, alternates_joined, keeps_joined}

module _ (s later : Searched) (place : MemberPlace) (asked : ℕ) (is : later ≡ with_member s place) (count : asked ≡ length (all_asked s.link)) where
  pub asked_before : asked ≤ length (all_asked later.link)
  asked_before =
      let longer = asked_longer s.link (member_at s place) in
      let now = ap (λ (v : Searched). length (all_asked v.link)) is in
      omega (arith, longer, now, count)

  -- what was asked for before it was looked at
  pub looked_before : (a : Alternates) → KeepsAlternates s (length (all_asked s.link)) a → KeepsAlternates later asked a
  looked_before a keeps =
      subst (λ (n : ℕ). KeepsAlternates later n a) (sym count)
      (subst (λ (v : Searched). KeepsAlternates v (length (all_asked s.link)) a) (sym is) (alternates_joined s place a keeps))

pub keeps_now : (s later : Searched) (place : MemberPlace) (view : ModuleView) (modules more : List ModuleView) (before woken after : Alternates) (passed : ℕ) → later ≡ with_member s place → view ≡ member_at s place → more ≡ modules ++ view ∷ [] → woken.pairs.items ≡ before.pairs.items → after.pairs.items ≡ woken.pairs.items ++ alternates_by (length s.link.modules) view.bytes → KeepsAlternates later (length (all_asked later.link)) after → AreTogether s modules before passed → AreTogether later more after passed
keeps_now s later place view modules more before woken after passed is view_is more_is woken_is after_is kept keeps =
    subst (λ (v : Searched). AreTogether v more after passed) (sym is)
    (subst (λ (ms : List ModuleView). AreTogether (with_member s place) ms after passed) (sym (more_is ∙ ap (λ (v : ModuleView). modules ++ v ∷ []) view_is))
    (keeps_joined s place modules before after passed keeps
    (subst (λ (v : Searched). KeepsAlternates v (length (all_asked v.link)) after) is kept)
    (after_is
    ∙ ap (λ (ps : List (List ℕ × List ℕ)). ps ++ alternates_by (length s.link.modules) view.bytes) woken_is
    ∙ ap (λ (v : ModuleView). before.pairs.items ++ alternates_by (length s.link.modules) v.bytes) view_is)))

-- ---- those of the first modules

pub said_by_more : (options : LinkOptions) (modules : List ModuleView) (i : ℕ) (m : ModuleView) → i < length modules → m ≡ get_or modules i m → all_alternates (link_of options (take i modules)) ++ alternates_by 0 m.bytes ≡ all_alternates (link_of options (take (i + 1) modules))
said_by_more options modules i m lt is =
    sym (alternates_push (link_of options (take i modules)) m)
    ∙ ap (λ (ms : List ModuleView). all_alternates (link_of options ms)) (ap (λ (v : ModuleView). take i modules ++ v ∷ []) is ∙ sym (take_more modules i m lt))

-- ---- a library is added

pub keeps_library : (s later : Searched) (library : FoundFile) (modules : List ModuleView) (before after : Alternates) (passed : ℕ) → later ≡ with_library s library → after.pairs.items ≡ before.pairs.items → KeepsAlternates later (length (all_asked later.link)) after → AreTogether s modules before passed → AreTogether later modules after 0
keeps_library s later library modules before after passed is pairs kept keeps =
    let link : later.link ≡ s.link = ap (λ (v : Searched). v.link) is in
    record {
      modules_are = ap (λ (l : LinkView). l.modules) link ∙ keeps.modules_are;
      over = record { within = omega arith; none = λ k lt. absurd (omega (arith, lt)) };
      pairs_are = pairs ∙ keeps.pairs_are ∙ sym (ap all_alternates link);
      kept = kept;
    }
