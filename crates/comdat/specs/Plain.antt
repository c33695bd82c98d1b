-- Sections without the places of what they borrow. Own.
use Rattle.std.specs.Prelude.{option_map, option_copied}
use Rattle.comdat.specs.declared.candidate.Candidate.{Candidate}
use Rattle.comdat.specs.Selection.{lent}

abbrev pub plain : Candidate → Candidate
plain candidate = record candidate { body = option_map lent (option_copied candidate.body) }
