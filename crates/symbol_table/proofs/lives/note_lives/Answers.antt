use Rattle.std.proofs.Common.{◌+◌, ◌++◌, true, false, List, length, map, take, sym, ap, subst, ◌∙◌, arith}
use Rattle.std.specs.Prelude.{filter}
use Rattle.std.specs.List.{AllZip}
use Rattle.std.proofs.lemmas.List.{append-nil, take_all}
use Rattle.module_view.specs.ImportModule.{module_definitions}
use Rattle.module_view.specs.declared.definition.Definition.{Definition}
use Rattle.symbol_table.specs.declared.lives.Lives.{Lives}
use Rattle.symbol_names.specs.Interning.{NotesDefinition}
use Rattle.symbol_names.specs.Lists.{Provided, provided, is_live}
use Rattle.symbol_names.specs.Kept.{rows_of, noted_view}
use Rattle.symbol_table.specs.Passes.{AreLives}
use Rattle.symbol_names.proofs.NumberLemmas.{number_within, zip_length}
use Rattle.symbol_table.proofs.LiveLemmas.{noted_at, live_more}
use Rattle.symbol_table.proofs.lives.note_lives.Goals as goal
use Rattle.symbol_table.proofs.lives.note_lives.Goals.{then-is_live_at, else-is_live_at}

pub loop-definition-init : goal.loop-definition-init
loop-definition-init c = record {
  long = c.requires.long;
  noted = λ earlier was. subst (λ (es : List Provided). AreLives c.args.names.now.keys es c.args.lives.now.firsts.items c.args.lives.now.clash) (sym (append-nil earlier)) was;
}

pub note_live-requires-clause-long : goal.note_live-requires-clause-long
note_live-requires-clause-long c = c.loop-definition.invariant.long

pub note_live-requires-clause-within : goal.note_live-requires-clause-within
note_live-requires-clause-within c =
    let definitions = module_definitions (noted_view c.args.«module».now) in
    let names = c.args.names.now.keys in
    let items = c.deref-definition-items.result.now in
    let zipped : AllZip (NotesDefinition names) definitions items =
    subst (AllZip (NotesDefinition names) definitions) (sym c.deref-definition-items.ensures.value) c.requires.noted.definitions in
    number_within names _ _ (noted_at names definitions items c.loop-definition.definition-index _ zipped c.loop-definition-test.true).named

pub loop-definition-preserved : goal.loop-definition-preserved
loop-definition-preserved c =
    let definitions = module_definitions (noted_view c.args.«module».now) in
    let names = c.args.names.now.keys in
    let rows = rows_of c.args.chosen.now in
    let items = c.deref-definition-items.result.now in
    let i = c.loop-definition.definition-index in
    let position = c.args.position in
    let zipped : AllZip (NotesDefinition names) definitions items =
    subst (AllZip (NotesDefinition names) definitions) (sym c.deref-definition-items.ensures.value) c.requires.noted.definitions in
    record {
      long =
          elim c.if-is_live_at.branch [
            | then-is_live_at w ↦ ap (λ (l : Lives). length l.firsts.items) w.lives-is ∙ w.note_live.ensures.long
            | else-is_live_at w ↦ ap (λ (l : Lives). length l.firsts.items) w.lives-is ∙ c.loop-definition.invariant.long
          ];
      noted = λ earlier was.
          let before = earlier ++ filter (is_live rows) (map (provided position) (take i definitions)) in
          elim c.if-is_live_at.branch [
            | then-is_live_at w ↦
                subst (λ (l : Lives). AreLives names (earlier ++ filter (is_live rows) (map (provided position) (take (i + 1) definitions))) l.firsts.items l.clash) (sym w.lives-is)
                (subst (λ (es : List Provided). AreLives names es w.note_live.new.lives.firsts.items w.note_live.new.lives.clash)
                (sym (live_more names rows earlier position definitions items i _ true zipped c.loop-definition-test.true (sym c.is_live_at.ensures ∙ w.if-is_live_at.true)))
                (w.note_live.ensures.noted before _ (noted_at names definitions items i _ zipped c.loop-definition-test.true) (c.loop-definition.invariant.noted earlier was)))
            | else-is_live_at w ↦
                subst (λ (l : Lives). AreLives names (earlier ++ filter (is_live rows) (map (provided position) (take (i + 1) definitions))) l.firsts.items l.clash) (sym w.lives-is)
                (subst (λ (es : List Provided). AreLives names es c.loop-definition.lives.firsts.items c.loop-definition.lives.clash)
                (sym (live_more names rows earlier position definitions items i _ false zipped c.loop-definition-test.true (sym c.is_live_at.ensures ∙ w.if-is_live_at.false) ∙ append-nil before))
                (c.loop-definition.invariant.noted earlier was))
          ];
    }

pub returns-clause-long : goal.returns-clause-long
returns-clause-long c = c.loop-definition.invariant.long

pub returns-clause-noted : goal.returns-clause-noted
returns-clause-noted c = λ earlier was.
    let definitions = module_definitions (noted_view c.args.«module».now) in
    let names = c.args.names.now.keys in
    let items = c.deref-definition-items.result.now in
    let zipped : AllZip (NotesDefinition names) definitions items =
    subst (AllZip (NotesDefinition names) definitions) (sym c.deref-definition-items.ensures.value) c.requires.noted.definitions in
    subst (λ (ds : List Definition). AreLives names (earlier ++ filter (is_live (rows_of c.args.chosen.now)) (map (provided c.args.position) ds)) c.loop-definition.lives.firsts.items c.loop-definition.lives.clash)
    (take_all c.loop-definition.definition-index definitions (omega (arith, c.loop-definition-test.false, zip_length (NotesDefinition names) definitions items zipped)))
    (c.loop-definition.invariant.noted earlier was)
