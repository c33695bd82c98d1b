use Rattle.std.proofs.Common.{rules, arith}
use mir.Val.{SFits}
use mir.Syntax.{w32}
use Rattle.std.proofs.lemmas.Int.{to_z-of_z}
use Rattle.coff_object.proofs.NumberLemmas.{number_inside}
use Rattle.coff_object.proofs.symbol_fault.value_exceeds.Goals as goal

pub section_header-header-requires-clause-last : goal.section_header-header-requires-clause-last
section_header-header-requires-clause-last c =
    let fits : SFits w32 c.section-section.result = search rules in
    let is = simp to_z-of_z at c.section_of_number.ensures in
    omega (arith, is, number_inside c.args.file.now c.args.symbol.now c.section-section.result c.section-section.ensures c.requires.number)
