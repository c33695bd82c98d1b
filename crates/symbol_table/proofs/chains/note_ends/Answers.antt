use Rattle.std.proofs.Common.{◌≡◌, ◌<◌, List, [], ◌∷◌, length, refl, arith}
use Rattle.std.proofs.lemmas.Bool.{false≢true}
use Rattle.symbol_table.proofs.ChainLemmas.{noted_back, all_known}
use Rattle.symbol_table.proofs.chains.note_ends.Goals as goal

none_left : {X : Type 0} (xs : List X) → (0 < length xs → ⊥) → xs ≡ []
none_left [] none = refl
none_left (x ∷ xs) none = absurd (none (omega arith))

pub loop-passed-init : goal.loop-passed-init
loop-passed-init c = record {
  long = refl;
  within = c.requires.within;
  below = λ count below. below;
  walked = λ view chosen number is. is;
  ended = λ other none. none;
}

pub loop-passed-preserved : goal.loop-passed-preserved
loop-passed-preserved c =
    noted_back c.args.names.now.keys c.args.links.now.items c.args.path.now.items c.args.end c.loop-passed.links.items c.loop-passed.path.items c.pop.new.self.items c.in-Some.passed c.loop-passed.end c.passed_on-end.result c.again.result c.requires.long c.passed_on-end.ensures c.again.ensures c.in-Some.ensures.items c.loop-passed.invariant

pub returns-clause-known : goal.returns-clause-known
returns-clause-known c = λ view chosen number is.
    all_known view chosen c.args.names.now.keys number c.loop-passed.path.items c.loop-passed.end c.loop-passed.links.items (none_left c.loop-passed.path.items (λ some. false≢true (c.in_default.ensures.variant.1 (omega (arith, some, c.loop-passed.path.ok.0))))) (c.loop-passed.invariant.walked view chosen number is)
