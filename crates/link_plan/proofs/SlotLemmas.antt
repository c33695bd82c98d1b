-- The slots that the names of a link mean: its entry, the names that it includes, and those of its modules.
use Rattle.std.proofs.Common.{◌≡◌, ℕ, List, [], ◌∷◌, Option, Some, None, refl, sym, ap, ◌∙◌}
use Rattle.std.specs.List.{cons_option}
use Rattle.link_pieces.specs.LinkParts.{LinkParts}
use Rattle.link_pieces.specs.LocalSlots.{with_meant, modules_asked, slot_names}
use Rattle.symbol_table.specs.declared.meaning.Meaning.{Meaning}
use Rattle.link_words.specs.Outcome.{LinkOptions}
use Rattle.lib_search.specs.LinkOf.{asked_names}
use Rattle.link_fields.specs.Entry.{entry_meant}
use Rattle.link_plan.proofs.ReferenceLemmas.{meant_append}

-- the words are the entry, where there is one, and the included names
words_meant : (link : LinkParts) (entry : Option (List ℕ)) (includes : List (List ℕ)) → with_meant link [] (cons_option entry includes) ≡ with_meant link (with_meant link [] (cons_option entry [])) includes
words_meant link None includes = refl
words_meant link (Some name) includes = meant_append link [] (name ∷ []) includes

-- the entry is noted, then the included names, then those of the modules
pub slots_noted : (link : LinkParts) (entry : Option (List ℕ)) (includes none after_entry after_includes slots : List (List ℕ)) → link.words ≡ cons_option entry includes → none ≡ [] → after_entry ≡ with_meant link none (cons_option entry []) → after_includes ≡ with_meant link after_entry includes → slots ≡ with_meant link after_includes (modules_asked link) → slots ≡ slot_names link
unfolding slot_names
slots_noted link entry includes none after_entry after_includes slots words begins entered included all =
    all
    ∙ ap (λ (before : List (List ℕ)). with_meant link before (modules_asked link))
    (included
    ∙ ap (λ (before : List (List ℕ)). with_meant link before includes) (entered ∙ ap (λ (before : List (List ℕ)). with_meant link before (cons_option entry [])) begins)
    ∙ sym (words_meant link entry includes)
    ∙ ap (with_meant link []) (sym words))

-- as the code notes them
pub slots_so : (options : LinkOptions) (link : LinkParts) (meaning : Option Meaning) (includes none entered included all slots : List (List ℕ)) → link.words ≡ cons_option options.entry_name (asked_names options) → slots ≡ all → none ≡ [] → meaning ≡ entry_meant link options.entry_name → ((l : LinkParts) (entry : Option (List ℕ)) → meaning ≡ entry_meant l entry → entered ≡ with_meant l none (cons_option entry [])) → includes ≡ asked_names options → included ≡ with_meant link entered includes → all ≡ with_meant link included (modules_asked link) → slots ≡ slot_names link
slots_so options link meaning includes none entered included all slots words is empty meant noted same of_words of_modules =
    is
    ∙ slots_noted link options.entry_name (asked_names options) none entered included all words empty (noted link options.entry_name meant) (of_words ∙ ap (with_meant link entered) same) of_modules
