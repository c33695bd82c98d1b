use Rattle.std.proofs.Common.{List, ◌∷◌, length, Ok, Err, Result, sym, ap, ◌∙◌, arith}
use Rattle.link_base.specs.declared.kinds.resource.ResFault.TheVariants as bad
use Rattle.link_base.proofs.ListLemmas.{fewer}
use Rattle.res_merge.specs.declared.resource.ResError.{ResError}
use Rattle.res_merge.specs.Entries.{Entry, entry_of}
use Rattle.res_merge.proofs.WalkLemmas.{ok_step, err_step, end_step, left_cut, cut_short, left_at, left_behind}
use Rattle.res_merge.proofs.reader.ResourcesIterator.next.Goals as goal

pub returns-then-is_cut-clause-steps : goal.returns-then-is_cut-clause-steps
returns-then-is_cut-clause-steps c =
    left_cut c.args.self.now (sym c.is_cut.ensures ∙ c.if-is_cut.true)
    ∙ ap (λ (rest : List (Result Entry ResError)). Err (record { kind = bad.Header; at = 0 }) ∷ rest) (sym (end_step c.args.self.now.bytes.now 32 (omega (arith, cut_short c.args.self.now (sym c.is_cut.ensures ∙ c.if-is_cut.true)))))

pub returns-then-is_cut-clause-goes : goal.returns-then-is_cut-clause-goes
returns-then-is_cut-clause-goes c =
    record { on = λ f. (tt, tt, fewer _ _ _ (returns-then-is_cut-clause-steps c)); keeps = tt; rests = λ f. tt }

pub returns-then-at-bytes-clause-steps : goal.returns-then-at-bytes-clause-steps
returns-then-at-bytes-clause-steps c =
    let left = left_at c.args.self.now c.entry_place-at.result c.entry_place-at.ensures (sym c.is_cut.ensures ∙ c.if-is_cut.false) ∙ end_step c.args.self.now.bytes.now c.entry_place-at.result c.if-at-bytes.true in
    (left, left)

pub returns-in-Err-clause-steps : goal.returns-in-Err-clause-steps
returns-in-Err-clause-steps c =
    left_at c.args.self.now c.entry_place-at.result c.entry_place-at.ensures (sym c.is_cut.ensures ∙ c.if-is_cut.false)
    ∙ err_step c.args.self.now.bytes.now c.entry_place-at.result c.in-Err.kind c.if-at-bytes.false c.in-Err.ensures.read
    ∙ ap (λ (rest : List (Result Entry ResError)). Err (record { kind = c.in-Err.kind; at = c.entry_place-at.result }) ∷ rest) (sym (left_behind c.args.self.now.bytes.now (length c.args.self.now.bytes.now) (omega arith) ∙ end_step c.args.self.now.bytes.now _ (omega arith)))

pub returns-in-Err-clause-goes : goal.returns-in-Err-clause-goes
returns-in-Err-clause-goes c =
    record { on = λ f. (tt, tt, fewer _ _ _ (returns-in-Err-clause-steps c)); keeps = tt; rests = λ f. tt }

pub returns-clause-steps : goal.returns-clause-steps
returns-clause-steps c =
    left_at c.args.self.now c.entry_place-at.result c.entry_place-at.ensures (sym c.is_cut.ensures ∙ c.if-is_cut.false)
    ∙ ok_step c.args.self.now.bytes.now c.entry_place-at.result _ c.if-at-bytes.false c.in-Ok.ensures.read
    ∙ ap (λ (rest : List (Result Entry ResError)). Ok (entry_of c.in-Ok.read.resource) ∷ rest) (sym (left_behind c.args.self.now.bytes.now c.in-Ok.read.next (omega (arith, c.in-Ok.ensures.behind))))

pub returns-clause-goes : goal.returns-clause-goes
returns-clause-goes c =
    record { on = λ f. (tt, tt, fewer _ _ _ (returns-clause-steps c)); keeps = tt; rests = λ f. tt }
