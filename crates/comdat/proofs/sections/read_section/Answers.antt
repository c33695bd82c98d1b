use Rattle.std.proofs.Common.{◌≡◌, ℕ, false, Option, Some, None, refl, sym, subst, ◌∙◌}
use Rattle.std.specs.Prelude.{is_some}
use Rattle.module_view.specs.Choices.{SaysChoice}
use Rattle.module_view.specs.ImportModule.{module_definitions}
use Rattle.comdat.proofs.EntryLemmas.{one_kept}
use Rattle.comdat.proofs.sections.read_section.Goals as goal

none : (o : Option ℕ) → is_some o ≡ false → o ≡ None
none None fails = refl
none (Some n) fails = absurd cc

pub returns : goal.returns
returns c = λ names modules named view at is zipped kept.
    let said = subst (SaysChoice view.bytes (module_definitions view) c.args.section) c.in-Some.is is in
    one_kept names modules named c.args.entries.now.items c.push.new.self.items c.args.position c.args.section c.in-Some-leader.leader view c.in-Some.choice c.args.noted.now _ at said zipped (none c.in-Some.choice.parent (sym c.is_some.ensures ∙ c.if-is_some.false)) c.in-Some-leader.is c.in_ok-push.ensures.items kept
