use Rattle.std.proofs.Common.{map, string_bytes, ap, sym, ◌∙◌, ◌≡◌, Ok}
use Rattle.link_words.specs.Outcome.{options_said, command_said, Link}
use Rattle.link_words.specs.Commands.{words_say}
use Rattle.generated_world.specs.GeneratedWorld.{generated_words}
use Rattle.linker_program.proofs.GenWordLemmas.{world_links}
use Rattle.linker_program.proofs.GeneratedLemmas.{link_tells, words_tell}
use Rattle.linker_program.proofs.generate.link_by_words.Goals as goal

pub returns : goal.returns
returns g c =
    let words = map string_bytes c.args.words.now in
    let said : words_say words ≡ Ok (Link (options_said c.in-Link.options)) = rw c.in-Link.is at c.in-Ok.ensures in
    link_tells c.link_by_options.result c.args.count (options_said c.in-Link.options) words c.args.files.now c.requires.words c.requires.files said c.link_by_options.ensures

pub unreachable-requires : goal.unreachable-requires
unreachable-requires g c =
    let said : words_say (map string_bytes c.args.words.now) ≡ Ok (command_said c.in-Ok.command) = c.in-Ok.ensures in
    let own : words_say (generated_words c.args.count) ≡ Ok (command_said c.in-Ok.command) = ap words_say (sym c.requires.words) ∙ said in
    let links = world_links c.args.count c.in-Ok.command own in
    c.in_default.not-Link links.0 links.1

pub returns-in-Err-Usage : goal.returns-in-Err-Usage
returns-in-Err-Usage g c =
    words_tell c.words_refused.result c.args.count (map string_bytes c.args.words.now) c.in-Err-Usage.index c.in-Err-Usage.kind c.requires.words
    (rw c.in-Err-Usage.field-0-is at c.in-Err-Usage.ensures) (rw c.usage_word.ensures at c.words_refused.ensures)
