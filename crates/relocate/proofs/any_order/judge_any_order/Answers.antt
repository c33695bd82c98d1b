use Rattle.std.proofs.lemmas.Bool.{MatchBool-at_true}
use Rattle.relocate.proofs.ApartLemmas.{none_overlap}
use Rattle.relocate.proofs.any_order.judge_any_order.Goals as goal

pub judge_apart-requires : goal.judge_apart-requires
judge_apart-requires c = λ k lt. none_overlap _ _ c.requires (MatchBool-at_true _ _ c.if-are_apart.true c.are_apart.ensures) k lt
