use Rattle.std.proofs.Common.{◌≡◌, List, Option, subst, sym, ◌∙◌}
use Rattle.std.specs.Prelude.{IfSome}
use Rattle.lib_reader.specs.MemberName.{names_directory}
use Rattle.lib_reader.specs.Listing.{Entry}
use Rattle.lib_reader.proofs.WalkLemmas.{directory_judged, directory_first, directory_second, other_judged, other_first_judged, other_first, other_second, text_tested, data_read}
use Rattle.lib_reader.proofs.walk.directories_behind.Goals as goal

pub returns-then-names_directory-clause-fails : goal.returns-then-names_directory-clause-fails
returns-then-names_directory-clause-fails c =
    let bytes = c.args.bytes.now in
    let here = text_tested bytes c.args.at c.args.position c.name_text.result.now names_directory c.names_directory.result c.requires.place c.name_text.ensures.text c.names_directory.ensures ∙ c.if-names_directory.true in
    let content = data_read bytes c.args.at c.args.position c.data_in.result.now c.requires.place c.data_in.ensures in
    c.with_directory.ensures.fails
    ∙ directory_judged bytes c.args.position c.data_in.result.now c.args.found.first c.args.found.second c.requires.first c.requires.second content here

pub returns-then-names_directory-clause-first : goal.returns-then-names_directory-clause-first
returns-then-names_directory-clause-first c =
    let bytes = c.args.bytes.now in
    let here = text_tested bytes c.args.at c.args.position c.name_text.result.now names_directory c.names_directory.result c.requires.place c.name_text.ensures.text c.names_directory.ensures ∙ c.if-names_directory.true in
    let content = data_read bytes c.args.at c.args.position c.data_in.result.now c.requires.place c.data_in.ensures in
    subst (λ (listed : Option (List Entry)). IfSome c.with_directory.result (λ all. all.first ≡ listed)) (directory_first bytes c.args.position c.data_in.result.now c.args.found.first c.requires.first content here) c.with_directory.ensures.first

pub returns-then-names_directory-clause-second : goal.returns-then-names_directory-clause-second
returns-then-names_directory-clause-second c =
    let bytes = c.args.bytes.now in
    let here = text_tested bytes c.args.at c.args.position c.name_text.result.now names_directory c.names_directory.result c.requires.place c.name_text.ensures.text c.names_directory.ensures ∙ c.if-names_directory.true in
    let content = data_read bytes c.args.at c.args.position c.data_in.result.now c.requires.place c.data_in.ensures in
    subst (λ (listed : Option (List Entry)). IfSome c.with_directory.result (λ all. all.second ≡ listed)) (directory_second bytes c.args.position c.data_in.result.now c.args.found.first c.args.found.second c.requires.first c.requires.second content here) c.with_directory.ensures.second

pub returns-then-position-eq0-clause-fails : goal.returns-then-position-eq0-clause-fails
returns-then-position-eq0-clause-fails c =
    let other = text_tested c.args.bytes.now c.args.at c.args.position c.name_text.result.now names_directory c.names_directory.result c.requires.place c.name_text.ensures.text c.names_directory.ensures ∙ c.if-names_directory.false in
    sym (other_first_judged c.args.bytes.now c.args.position other c.if-position-eq0.true)

pub returns-clause-fails : goal.returns-clause-fails
returns-clause-fails c =
    let other = text_tested c.args.bytes.now c.args.at c.args.position c.name_text.result.now names_directory c.names_directory.result c.requires.place c.name_text.ensures.text c.names_directory.ensures ∙ c.if-names_directory.false in
    sym (other_judged c.args.bytes.now c.args.position other c.if-position-eq0.false)

pub returns-clause-first : goal.returns-clause-first
returns-clause-first c =
    let other = text_tested c.args.bytes.now c.args.at c.args.position c.name_text.result.now names_directory c.names_directory.result c.requires.place c.name_text.ensures.text c.names_directory.ensures ∙ c.if-names_directory.false in
    c.requires.first ∙ sym (other_first c.args.bytes.now c.args.position other)

pub returns-clause-second : goal.returns-clause-second
returns-clause-second c =
    let other = text_tested c.args.bytes.now c.args.at c.args.position c.name_text.result.now names_directory c.names_directory.result c.requires.place c.name_text.ensures.text c.names_directory.ensures ∙ c.if-names_directory.false in
    c.requires.second ∙ sym (other_second c.args.bytes.now c.args.position other)
