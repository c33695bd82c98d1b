use Rattle.std.proofs.Common.{◌++◌, ◌∷◌, List, ℕ, ap, sym, ◌∙◌}
use Rattle.std.proofs.lemmas.List.{append-nil}
use Rattle.link_pieces.proofs.SlotLemmas.{slots_more}
use Rattle.link_pieces.proofs.slots.LocalSlots.of.Goals as goal

pub loop-name-init : goal.loop-name-init
loop-name-init c =
    let gives = c.into_iter-name-iterator.ensures.into_iter_gives in
    record {
      sorted = gives.4;
      parts = ap (λ (found : List (List ℕ)). found ++ c.into_iter-name-iterator.result) c.new-found.ensures.empty ∙ gives.0;
    }

pub loop-name-preserved : goal.loop-name-preserved
loop-name-preserved c =
    let found = c.loop-name.found.keys in
    let rest = c.next.new.self in
    let kept = c.loop-name.invariant in
    record {
      sorted = kept.sorted;
      parts =
          slots_more c.args.names.now.keys found c.insert.new.self.keys rest c.again.result kept.sorted
          (ap (λ (name : List ℕ). found ++ name ∷ rest) c.again.ensures ∙ ap (λ (names : List (List ℕ)). found ++ names) (sym c.in-Some.ensures.steps) ∙ kept.parts)
          c.in_ok-insert.ensures.keys;
    }

pub returns : goal.returns
returns c =
    let found = c.loop-name.found.keys in
    sym (append-nil found) ∙ ap (λ (names : List (List ℕ)). found ++ names) (sym c.in-None.ensures.steps.0) ∙ c.loop-name.invariant.parts
