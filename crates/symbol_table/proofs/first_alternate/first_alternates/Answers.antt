use Rattle.std.proofs.Common.{◌<◌, ◌++◌, List, ℕ, length, map, not, rules, ap, sym, subst, ◌∙◌, append_assoc, arith}
use Rattle.std.specs.List.{All, AllZip}
use Rattle.std.proofs.lemmas.List.{append-nil}
use Rattle.symbol_names.specs.declared.noted.NotedAlternate.{NotedAlternate}
use Rattle.symbol_names.specs.Alternates.{alternates_by}
use Rattle.symbol_names.specs.Interning.{NotesAlternate}
use Rattle.symbol_names.specs.Kept.{noted_view}
use Rattle.symbol_table.specs.Passes.{TellsAlternates, AreAlternates}
use Rattle.symbol_table.proofs.PassLemmas.{none_kept, noted_at, of_first, of_first_more, of_first_all}
use Rattle.symbol_table.proofs.AlternateLemmas.{no_alternates, lefts_within, none_given}
use Rattle.symbol_table.proofs.first_alternate.first_alternates.Goals as goal

pub loop-module-init : goal.loop-module-init
loop-module-init c =
    let names = c.args.names.now.keys in
    record {
      long = c.note_alternates.ensures.long;
      noted = λ pairs zipped.
          subst (λ (es : List (List ℕ × List ℕ)). AreAlternates names es c.note_alternates.new.alternates.items) (sym (append-nil pairs))
          (c.note_alternates.ensures.noted _ pairs zipped (no_alternates names c.len.result c.in_ok-alternates.alternates.items (c.in_ok-alternates.ensures.items_if_clones_equal (search rules)) c.len.ensures.len));
    }

pub note_alternates-requires-in-loop-module-clause-long :
    goal.note_alternates-requires-in-loop-module-clause-long
note_alternates-requires-in-loop-module-clause-long c = c.loop-module.invariant.long

pub note_alternates-requires-in-loop-module-clause-within :
    goal.note_alternates-requires-in-loop-module-clause-within
note_alternates-requires-in-loop-module-clause-within c =
    let names = c.args.names.now.keys in
    let noted = noted_at names c.args.modules.now c.loop-module.module-index c.module-item.result c.requires.noted (omega arith) c.module-item.is in
    subst (λ (notes : List NotedAlternate). All (λ alternate. alternate.left < length names) notes) (sym c.deref.ensures.value)
    (lefts_within names _ _ noted.alternates)

pub loop-module-preserved : goal.loop-module-preserved
loop-module-preserved c =
    let names = c.args.names.now.keys in
    let i = c.loop-module.module-index in
    let item = c.module-item.result in
    let modules = c.args.modules.now in
    let noted = noted_at names modules i item c.requires.noted (omega arith) c.module-item.is in
    let own = alternates_by i item.bytes.now in
    record {
      long = c.note_alternates-in-loop-module.ensures.long;
      noted = λ pairs zipped.
          subst (λ (es : List (List ℕ × List ℕ)). AreAlternates names es c.note_alternates-in-loop-module.new.alternates.items)
          (append_assoc pairs (of_first alternates_by (map noted_view modules) i) own
          ∙ ap (λ (es : List (List ℕ × List ℕ)). pairs ++ es) (sym (of_first_more alternates_by modules i item (omega arith) c.module-item.is)))
          (c.note_alternates-in-loop-module.ensures.noted _ own
          (subst (λ (notes : List NotedAlternate). AllZip (NotesAlternate names) own notes) (sym c.deref.ensures.value) noted.alternates)
          (c.loop-module.invariant.noted pairs zipped));
    }

pub returns-then-not-give_alternates : goal.returns-then-not-give_alternates
returns-then-not-give_alternates c =
    none_given c.args.names.now.keys c.args.modules.now c.args.given.now c.new.result.items c.requires.noted (none_kept c.args.given.now (ap not (sym c.is_empty.ensures ∙ c.if-is_empty.true))) (sym c.give_alternates.ensures ∙ c.if-not-give_alternates.true) c.new.ensures.items

pub returns : goal.returns
returns c = λ pairs zipped.
    subst (λ (es : List (List ℕ × List ℕ)). TellsAlternates c.args.names.now.keys (pairs ++ es) c.loop-module.alternates.items)
    (of_first_all alternates_by c.args.modules.now c.loop-module.module-index (omega arith))
    (c.loop-module.invariant.noted pairs zipped).first
