use Rattle.std.proofs.Common.{◌≡◌, None, Option, subst}
use Rattle.std.specs.Prelude.{OnOk, IfErr}
use Rattle.link_base.specs.Refusals.{RefusesFor}
use Rattle.link_base.specs.declared.fault.Fault.{Fault}
use Rattle.lib_reader.specs.LibraryWalk.{long_names_of}
use Rattle.lib_reader.specs.MemberFault.{member_fault}
use Rattle.file_search.specs.FoundFiles.{FoundFile}
use Rattle.lib_search.specs.SearchSteps.{member_fault_in}
use Rattle.lib_search.proofs.LibraryLemmas.{not_refused, joins_as}
use Rattle.lib_search.proofs.library.OpenLibrary.open_member.Goals as goal

pub returns-clause-accepted : goal.returns-clause-accepted
returns-clause-accepted c =
    let library : FoundFile = record { file = c.self.inside.file; bytes = c.self.inside.library } in
    let none : member_fault (long_names_of library.bytes) library.bytes c.args.at ≡ None = not_refused _ c.in-Ok.ensures.found in
    subst (λ (l : FoundFile). OnOk c.join_opened.result (member_fault_in l c.args.at c.args.merges c.args.modules.now ≡ None)) c.self.view_is
    (subst (λ (fault : Option Fault). OnOk c.join_opened.result (fault ≡ None))
    (joins_as library c.args.at c.args.merges c.args.modules.now c.again-2.result c.in-Ok.member.name c.in-Ok.member.bytes.now none c.again-2.ensures c.in-Ok.ensures.name c.in-Ok.ensures.content)
    c.join_opened.ensures.accepted)

pub returns-clause-refused : goal.returns-clause-refused
returns-clause-refused c =
    let library : FoundFile = record { file = c.self.inside.file; bytes = c.self.inside.library } in
    let none : member_fault (long_names_of library.bytes) library.bytes c.args.at ≡ None = not_refused _ c.in-Ok.ensures.found in
    subst (λ (l : FoundFile). IfErr c.join_opened.result (RefusesFor (member_fault_in l c.args.at c.args.merges c.args.modules.now))) c.self.view_is
    (subst (λ (fault : Option Fault). IfErr c.join_opened.result (RefusesFor fault))
    (joins_as library c.args.at c.args.merges c.args.modules.now c.again-2.result c.in-Ok.member.name c.in-Ok.member.bytes.now none c.again-2.ensures c.in-Ok.ensures.name c.in-Ok.ensures.content)
    c.join_opened.ensures.refused)
