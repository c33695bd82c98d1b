use Rattle.std.proofs.Common.{◌<◌, ◌++◌, List, length, map, sym, subst, arith}
use Rattle.std.specs.List.{AllZip}
use Rattle.std.proofs.lemmas.List.{append-nil, take_all}
use Rattle.module_view.specs.SymbolLists.{weaks_of}
use Rattle.module_view.specs.declared.reference.Weak.{Weak}
use Rattle.symbol_names.specs.Interning.{NotesWeak}
use Rattle.symbol_names.specs.Lists.{Said, said}
use Rattle.symbol_table.specs.Passes.{AreWeaks}
use Rattle.symbol_names.proofs.NumberLemmas.{number_within, zip_length, mapped_more}
use Rattle.symbol_table.proofs.WeakLemmas.{no_weak, weak_at}
use Rattle.symbol_table.proofs.first_weak.note_weaks.Goals as goal

pub loop-weak-init : goal.loop-weak-init
loop-weak-init c = record {
  long = c.requires.long;
  noted = λ earlier was. subst (λ (es : List Said). AreWeaks c.args.names.now.keys es c.args.weaks.now.items) (sym (append-nil earlier)) was;
}

pub note_weak-requires-clause-long : goal.note_weak-requires-clause-long
note_weak-requires-clause-long c = c.loop-weak.invariant.long

pub note_weak-requires-clause-within : goal.note_weak-requires-clause-within
note_weak-requires-clause-within c =
    let bytes = c.args.«module».now.bytes.now in
    let names = c.args.names.now.keys in
    let zipped : AllZip (NotesWeak names bytes) (weaks_of bytes) c.deref-weak-items.result.now =
    subst (AllZip (NotesWeak names bytes) (weaks_of bytes)) (sym c.deref-weak-items.ensures.value) c.requires.noted.weaks in
    number_within names _ _ (weak_at names bytes (weaks_of bytes) c.deref-weak-items.result.now c.loop-weak.weak-index _ zipped c.loop-weak-test.true).named

pub loop-weak-preserved : goal.loop-weak-preserved
loop-weak-preserved c =
    let bytes = c.args.«module».now.bytes.now in
    let names = c.args.names.now.keys in
    let items = c.deref-weak-items.result.now in
    let i = c.loop-weak.weak-index in
    let position = c.args.position in
    let zipped : AllZip (NotesWeak names bytes) (weaks_of bytes) items =
    subst (AllZip (NotesWeak names bytes) (weaks_of bytes)) (sym c.deref-weak-items.ensures.value) c.requires.noted.weaks in
    let lt : i < length (weaks_of bytes) = omega (arith, c.loop-weak-test.true, zip_length (NotesWeak names bytes) (weaks_of bytes) items zipped) in
    record {
      long = c.note_weak.ensures.long;
      noted = λ earlier was.
          subst (λ (es : List Said). AreWeaks names es c.note_weak.new.weaks.items) (sym (mapped_more (said position bytes) earlier (weaks_of bytes) i no_weak lt))
          (c.note_weak.ensures.noted _ bytes _ (weak_at names bytes (weaks_of bytes) items i _ zipped c.loop-weak-test.true) (c.loop-weak.invariant.noted earlier was));
    }

pub returns-clause-long : goal.returns-clause-long
returns-clause-long c = c.loop-weak.invariant.long

pub returns-clause-noted : goal.returns-clause-noted
returns-clause-noted c = λ earlier was.
    let bytes = c.args.«module».now.bytes.now in
    let names = c.args.names.now.keys in
    let items = c.deref-weak-items.result.now in
    let zipped : AllZip (NotesWeak names bytes) (weaks_of bytes) items =
    subst (AllZip (NotesWeak names bytes) (weaks_of bytes)) (sym c.deref-weak-items.ensures.value) c.requires.noted.weaks in
    subst (λ (ws : List Weak). AreWeaks names (earlier ++ map (said c.args.position bytes) ws) c.loop-weak.weaks.items)
    (take_all c.loop-weak.weak-index (weaks_of bytes) (omega (arith, c.loop-weak-test.false, zip_length (NotesWeak names bytes) (weaks_of bytes) items zipped)))
    (c.loop-weak.invariant.noted earlier was)
