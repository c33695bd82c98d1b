use Rattle.std.proofs.Common.{ℕ, Vec, length}
use Rattle.std.specs.declared.alloc.Global.{Global}
use Rattle.std.specs.Cmp.Lexicographic.{pointwise}
use Rattle.std.proofs.lemmas.Result.{IfOk-weaker}
use Rattle.icf.specs.contracts.contents.ContentsPartialEq.TheImpl as contents_eq
use Rattle.icf.specs.FirstEqual.{AreFirstTo}
use Rattle.icf.specs.Contents.{AreFirstClasses}
use Rattle.icf.proofs.ContentLemmas.{first_classes_are}
use Rattle.icf.proofs.contents.first_classes.Goals as goal

pub returns : goal.returns
returns c =
    let keys = c.in_ok-keys.keys.items in
    IfOk-weaker c.first_equal.result (λ (numbers : Vec ℕ Global). AreFirstTo (λ left right. pointwise (contents_eq.ghosts).eq left.items right.items) keys (length keys) numbers.items)
    (λ (numbers : Vec ℕ Global). AreFirstClasses c.args.pieces.now c.args.candidates.now numbers.items)
    (λ numbers first. first_classes_are c.args.pieces.now c.args.candidates.now keys numbers.items c.in_ok-keys.ensures first)
    c.first_equal.ensures
