use Rattle.std.proofs.Common.{◌≡◌, List, [], ◌∷◌, ◌++◌, ℕ, true, false, refl, ap, ◌∙◌}
use Rattle.std.proofs.lemmas.List.{map-append}
use Rattle.link_words.specs.SettingsView.{text_of, texts_of}
use Rattle.file_search.specs.FileNames.{completed}
use Rattle.file_search.proofs.NotedLemmas.{noted_one, noted_before}
use Rattle.file_search.proofs.DefaultLemmas.{keeps_new, keeps_known, keeps_none}
use Rattle.file_search.proofs.default_libraries.DefaultLibraries.add.Goals as goal

pub returns-then-self-clause-named : goal.returns-then-self-clause-named
returns-then-self-clause-named c = λ options names was.
    keeps_none options names (completed c.args.name.now) c.args.self.now c.if-self.true was

pub returns-in_ok-push-clause-named : goal.returns-in_ok-push-clause-named
returns-in_ok-push-clause-named c = λ options names was.
    let name = completed c.args.name.now in
    let before = c.args.self.now in
    let key = c.in_ok-complete_key.field-0 in
    let wanted : texts_of c.push.new.self.items ≡ texts_of before.wanted.items ++ name ∷ [] =
    ap texts_of c.in_ok-push.ensures.items
    ∙ map-append text_of before.wanted.items (c.in_ok-complete_name.field-0 ∷ [])
    ∙ ap (λ (text : List ℕ). texts_of before.wanted.items ++ text ∷ []) c.in_ok-complete_name.ensures.completed in
    keeps_new options names name before (record { all_ruled_out = before.all_ruled_out; seen = c.insert.new.self; wanted = c.push.new.self }) c.if-self.false refl
    (noted_before before.seen key name c.in_ok-insert.field-0 false c.in_ok-complete_key.ensures c.in_ok-insert.ensures.added c.if-branch.true)
    (λ other. noted_one before.seen c.insert.new.self key name other c.in_ok-complete_key.ensures c.in_ok-insert.ensures.updates)
    wanted was

pub returns-else-branch-clause-named : goal.returns-else-branch-clause-named
returns-else-branch-clause-named c = λ options names was.
    let name = completed c.args.name.now in
    let before = c.args.self.now in
    let key = c.in_ok-complete_key.field-0 in
    keeps_known options names name before (record { all_ruled_out = before.all_ruled_out; seen = c.insert.new.self; wanted = before.wanted }) c.if-self.false refl
    (noted_before before.seen key name c.in_ok-insert.field-0 true c.in_ok-complete_key.ensures c.in_ok-insert.ensures.added c.if-branch.false)
    (λ other. noted_one before.seen c.insert.new.self key name other c.in_ok-complete_key.ensures c.in_ok-insert.ensures.updates)
    refl was
