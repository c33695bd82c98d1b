use Rattle.std.proofs.Common.{◌∙◌, Result, sym, subst}
use Rattle.std.specs.String.{string_bytes}
use Rattle.link_words.specs.Outcome.{CommandSaid, Refused, command_said}
use Rattle.link_words.specs.Answers.{Answers}
use Rattle.link_words.proofs.LinkLemmas.{link_line}
use Rattle.link_words.proofs.commands.read_words.Goals as goal

pub returns-then-eq : goal.returns-then-eq
returns-then-eq c =
    subst (λ (expected : Result CommandSaid Refused). Answers command_said expected c.link.result) (link_line string_bytes c.args.words.now c.in-Some.rest.now c.in-Some.command.now c.as_str.result.now c.in-Some.ensures.cases.0 c.as_str.ensures.value (sym c.eq.ensures ∙ c.if-eq.true)) c.link.ensures
