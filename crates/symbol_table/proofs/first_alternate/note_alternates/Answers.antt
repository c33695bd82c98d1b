use Rattle.std.proofs.Common.{◌<◌, ◌∷◌, [], ◌++◌, List, ℕ, length, get_or, take, sym, ap, subst, ◌∙◌, append_assoc, arith}
use Rattle.std.proofs.lemmas.List.{append-nil, take_all, take_more}
use Rattle.symbol_names.specs.Interning.{NotesAlternate}
use Rattle.symbol_table.specs.Passes.{AreAlternates}
use Rattle.symbol_names.proofs.NumberLemmas.{zip_length}
use Rattle.symbol_table.proofs.AlternateLemmas.{no_pair, pair_at}
use Rattle.symbol_table.proofs.first_alternate.note_alternates.Goals as goal

pub loop-alternate-init : goal.loop-alternate-init
loop-alternate-init c = record {
  long = c.requires.long;
  noted = λ earlier entries zipped was. subst (λ (es : List (List ℕ × List ℕ)). AreAlternates c.args.names.now.keys es c.args.alternates.now.items) (sym (append-nil earlier)) was;
}

pub note_alternate-requires-clause-long : goal.note_alternate-requires-clause-long
note_alternate-requires-clause-long c = c.loop-alternate.invariant.long

pub note_alternate-requires-clause-within : goal.note_alternate-requires-clause-within
note_alternate-requires-clause-within c = c.requires.within c.loop-alternate.alternate-index _ c.loop-alternate-test.true

pub loop-alternate-preserved : goal.loop-alternate-preserved
loop-alternate-preserved c =
    let names = c.args.names.now.keys in
    let i = c.loop-alternate.alternate-index in
    record {
      long = c.note_alternate.ensures.long;
      noted = λ earlier entries zipped was.
          let lt : i < length entries = omega (arith, c.loop-alternate-test.true, zip_length (NotesAlternate names) entries c.args.noted.now zipped) in
          subst (λ (es : List (List ℕ × List ℕ)). AreAlternates names es c.note_alternate.new.alternates.items)
          (append_assoc earlier (take i entries) (get_or entries i no_pair ∷ []) ∙ ap (λ (es : List (List ℕ × List ℕ)). earlier ++ es) (sym (take_more entries i no_pair lt)))
          (c.note_alternate.ensures.noted (earlier ++ take i entries) (get_or entries i no_pair) (pair_at names entries c.args.noted.now i _ zipped c.loop-alternate-test.true) (c.loop-alternate.invariant.noted earlier entries zipped was));
    }

pub returns-clause-long : goal.returns-clause-long
returns-clause-long c = c.loop-alternate.invariant.long

pub returns-clause-noted : goal.returns-clause-noted
returns-clause-noted c = λ earlier entries zipped was.
    let names = c.args.names.now.keys in
    subst (λ (es : List (List ℕ × List ℕ)). AreAlternates names (earlier ++ es) c.loop-alternate.alternates.items)
    (take_all c.loop-alternate.alternate-index entries (omega (arith, c.loop-alternate-test.false, zip_length (NotesAlternate names) entries c.args.noted.now zipped)))
    (c.loop-alternate.invariant.noted earlier entries zipped was)
