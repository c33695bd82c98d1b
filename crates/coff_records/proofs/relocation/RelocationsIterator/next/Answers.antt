use Rattle.std.proofs.Common.{sym, ap, ◌∙◌, ◌∷◌, ◌+◌, ◌-◌, arith}
use Rattle.coff_records.specs.declared.relocation.Relocation.{Relocation}
use Rattle.coff_records.specs.Relocations.{relocations_from}
use Rattle.coff_records.proofs.RelocationLemmas.{relocations_from-none, relocations_from-more}
use Rattle.coff_records.proofs.SymbolsLemmas.{one_less}
use Rattle.coff_records.proofs.relocation.RelocationsIterator.next.Goals as goal

pub returns-then-self-eq0-clause-steps : goal.returns-then-self-eq0-clause-steps
returns-then-self-eq0-clause-steps c =
    let none = sym c.self.view_is ∙ relocations_from-none _ _ _ c.self.inside.left (omega arith) in (none, none)

pub overflow_add-self : goal.overflow_add-self
overflow_add-self c = omega (arith, c.self.invariant.counted)

pub returns-clause-steps : goal.returns-clause-steps
returns-clause-steps c =
    let inside = c.self.inside in
    sym c.self.view_is
    ∙ relocations_from-more inside.bytes.now inside.place inside.index inside.left (omega arith)
    ∙ ap (λ (first : Relocation). first ∷ relocations_from inside.bytes.now inside.place (inside.index + 1) (inside.left - 1)) (sym c.relocation_at-relocation.ensures)

pub returns-clause-goes : goal.returns-clause-goes
returns-clause-goes c =
    let less = one_less _ _ _ (returns-clause-steps c) in record { on = λ _. (tt, tt, less); keeps = tt; rests = λ _. tt }
