use Rattle.std.proofs.Common.{Some, ap, sym, ◌∙◌}
use Rattle.std.specs.Prelude.{is_some}
use Rattle.lib_reader.specs.MemberName.{names_long_names}
use Rattle.lib_reader.proofs.WalkLemmas.{long_names_passed, long_names_kept, long_names_found, text_tested, data_read, copied_some}
use Rattle.lib_reader.proofs.walk.long_names_behind.Goals as goal
use Rattle.lib_reader.proofs.walk.long_names_behind.Goals.{then-is_some-via-then-is_some, then-is_some-via-else-is_some+then-not-names_long_names}

pub returns-then-is_some : goal.returns-then-is_some
returns-then-is_some c =
    let bytes = c.args.bytes.now in
    elim c.then-is_some.branch [
      | then-is_some-via-then-is_some w ↦
          let some = ap is_some (sym c.requires.found) ∙ (copied_some c.args.found ∙ (sym c.is_some.ensures ∙ w.if-is_some.true)) in
          c.requires.found ∙ sym (long_names_kept bytes c.args.position some)
      | then-is_some-via-else-is_some+then-not-names_long_names w ↦
          let other = text_tested bytes c.args.at c.args.position w.name_text.result.now names_long_names w.names_long_names.result c.requires.place w.name_text.ensures.text w.names_long_names.ensures ∙ w.if-not-names_long_names.true in
          c.requires.found ∙ sym (long_names_passed bytes c.args.position other)
    ]

pub returns : goal.returns
returns c =
    let bytes = c.args.bytes.now in
    let here = text_tested bytes c.args.at c.args.position c.name_text.result.now names_long_names c.names_long_names.result c.requires.place c.name_text.ensures.text c.names_long_names.ensures ∙ c.if-not-names_long_names.false in
    let none = ap is_some (sym c.requires.found) ∙ (copied_some c.args.found ∙ (sym c.is_some.ensures ∙ c.if-is_some.false)) in
    let content = data_read bytes c.args.at c.args.position c.data_in.result.now c.requires.place c.data_in.ensures in
    ap Some content ∙ sym (long_names_found bytes c.args.position here none)
