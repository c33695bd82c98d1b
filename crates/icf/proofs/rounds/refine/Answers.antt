use Rattle.std.proofs.Common.{ℕ, Vec, length}
use Rattle.std.specs.declared.alloc.Global.{Global}
use Rattle.std.proofs.lemmas.Result.{IfOk-weaker}
use Rattle.icf.specs.contracts.rounds.KeyPartialEq.TheImpl as key_eq
use Rattle.icf.specs.FirstEqual.{AreFirstTo}
use Rattle.icf.specs.Rounds.{Refines}
use Rattle.icf.proofs.RoundLemmas.{refined_are}
use Rattle.icf.proofs.rounds.refine.Goals as goal

pub returns : goal.returns
returns c =
    let keys = c.in_ok-keys.keys.items in
    IfOk-weaker c.first_equal.result (λ (numbers : Vec ℕ Global). AreFirstTo (key_eq.ghosts).eq keys (length keys) numbers.items)
    (λ (numbers : Vec ℕ Global). Refines c.args.lists.now c.args.classes.now numbers.items)
    (λ numbers first. refined_are c.args.lists.now c.args.classes.now keys numbers.items c.in_ok-keys.ensures first)
    c.first_equal.ensures
