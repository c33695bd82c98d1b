use Rattle.std.proofs.Common.{◌≡◌, map, string_bytes, Ok}
use Rattle.link_files.specs.Outside.{files_of}
use Rattle.link_words.specs.Outcome.{Link, At, Show, Gen, options_said}
use Rattle.link_words.specs.Commands.{words_say}
use Rattle.linker_program.proofs.StepLemmas.{if_words_refused, if_linked, on_linked}
use Rattle.linker_program.proofs.ShownLemmas.{if_at, if_show, on_show}
use Rattle.linker_program.proofs.GenWordLemmas.{gen_bounds}
use Rattle.linker_program.proofs.GeneratedLemmas.{if_generated}
use Rattle.linker_program.proofs.linker.answer.Goals as goal

pub returns-in-Ok-Link-clause-answered : goal.returns-in-Ok-Link-clause-answered
returns-in-Ok-Link-clause-answered g c =
    let before = files_of g.F.Files.store g.F.Files.read_faults g.F.Files.write_faults c.args.files.now in
    let after = files_of g.F.Files.store g.F.Files.read_faults g.F.Files.write_faults c.link.new.files in
    let words = map string_bytes c.args.words.now in
    let options = options_said c.in-Ok-Link.options in
    let said : words_say words ≡ Ok (Link options) = rw c.in-Ok-Link.field-0-is at c.in-Ok-Link.ensures in
    if_linked c.link.result words before after options said c.link.ensures.answered

pub returns-in-Ok-Link-clause-memory : goal.returns-in-Ok-Link-clause-memory
returns-in-Ok-Link-clause-memory g c =
    let before = files_of g.F.Files.store g.F.Files.read_faults g.F.Files.write_faults c.args.files.now in
    let after = files_of g.F.Files.store g.F.Files.read_faults g.F.Files.write_faults c.link.new.files in
    let words = map string_bytes c.args.words.now in
    let options = options_said c.in-Ok-Link.options in
    let said : words_say words ≡ Ok (Link options) = rw c.in-Ok-Link.field-0-is at c.in-Ok-Link.ensures in
    on_linked c.link.result words before after options said c.link.ensures.memory

pub returns-in-Ok-At-clause-answered : goal.returns-in-Ok-At-clause-answered
returns-in-Ok-At-clause-answered g c =
    let before = files_of g.F.Files.store g.F.Files.read_faults g.F.Files.write_faults c.args.files.now in
    let after = files_of g.F.Files.store g.F.Files.read_faults g.F.Files.write_faults c.show_at.new.files in
    let words = map string_bytes c.args.words.now in
    let said : words_say words ≡ Ok (At c.in-Ok-At.image.now c.in-Ok-At.base c.in-Ok-At.rva c.in-Ok-At.length) = rw c.in-Ok-At.field-0-is at c.in-Ok-At.ensures in
    if_at c.show_at.result words c.in-Ok-At.image.now c.in-Ok-At.base c.in-Ok-At.rva c.in-Ok-At.length before after said c.show_at.ensures.answered

pub returns-in-Ok-At-clause-memory : goal.returns-in-Ok-At-clause-memory
returns-in-Ok-At-clause-memory g c =
    let before = files_of g.F.Files.store g.F.Files.read_faults g.F.Files.write_faults c.args.files.now in
    let after = files_of g.F.Files.store g.F.Files.read_faults g.F.Files.write_faults c.show_at.new.files in
    on_show c.show_at.result (map string_bytes c.args.words.now) before after c.show_at.ensures.memory

pub returns-in-Ok-Show-clause-answered : goal.returns-in-Ok-Show-clause-answered
returns-in-Ok-Show-clause-answered g c =
    let before = files_of g.F.Files.store g.F.Files.read_faults g.F.Files.write_faults c.args.files.now in
    let after = files_of g.F.Files.store g.F.Files.read_faults g.F.Files.write_faults c.show_symbol.new.files in
    let words = map string_bytes c.args.words.now in
    let arm = c.in-Ok-Show in
    let said : words_say words ≡ Ok (Show arm.image.now arm.pdb.now arm.base arm.symbol.now arm.length) = rw c.in-Ok-Show.field-0-is at c.in-Ok-Show.ensures in
    if_show c.show_symbol.result words arm.image.now arm.pdb.now arm.base arm.symbol.now arm.length before after said c.show_symbol.ensures.answered

pub returns-in-Ok-Show-clause-memory : goal.returns-in-Ok-Show-clause-memory
returns-in-Ok-Show-clause-memory g c =
    let before = files_of g.F.Files.store g.F.Files.read_faults g.F.Files.write_faults c.args.files.now in
    let after = files_of g.F.Files.store g.F.Files.read_faults g.F.Files.write_faults c.show_symbol.new.files in
    on_show c.show_symbol.result (map string_bytes c.args.words.now) before after c.show_symbol.ensures.memory

pub generate-requires-clause-some : goal.generate-requires-clause-some
generate-requires-clause-some g c κs within =
    let words = map string_bytes c.args.words.now in
    let said : words_say words ≡ Ok (Gen c.in-Ok-Gen.n) = rw c.in-Ok-Gen.field-0-is at c.in-Ok-Gen.ensures in
    (gen_bounds words c.in-Ok-Gen.n said).0

pub generate-requires-clause-few : goal.generate-requires-clause-few
generate-requires-clause-few g c κs within =
    let words = map string_bytes c.args.words.now in
    let said : words_say words ≡ Ok (Gen c.in-Ok-Gen.n) = rw c.in-Ok-Gen.field-0-is at c.in-Ok-Gen.ensures in
    (gen_bounds words c.in-Ok-Gen.n said).1

pub returns-in-Ok-Gen-clause-answered : goal.returns-in-Ok-Gen-clause-answered
returns-in-Ok-Gen-clause-answered g c =
    let files = files_of g.F.Files.store g.F.Files.read_faults g.F.Files.write_faults c.args.files.now in
    let words = map string_bytes c.args.words.now in
    let said : words_say words ≡ Ok (Gen c.in-Ok-Gen.n) = rw c.in-Ok-Gen.field-0-is at c.in-Ok-Gen.ensures in
    if_generated c.generate.result words c.in-Ok-Gen.n files said c.generate.ensures

pub returns-in-Err-Usage-clause-answered : goal.returns-in-Err-Usage-clause-answered
returns-in-Err-Usage-clause-answered g c =
    let files = files_of g.F.Files.store g.F.Files.read_faults g.F.Files.write_faults c.args.files.now in
    if_words_refused c.words_refused.result (map string_bytes c.args.words.now) files c.in-Err-Usage.index c.in-Err-Usage.kind
    (rw c.in-Err-Usage.field-0-is at c.in-Err-Usage.ensures) (rw c.usage_word.ensures at c.words_refused.ensures)
