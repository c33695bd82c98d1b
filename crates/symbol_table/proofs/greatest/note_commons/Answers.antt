use Rattle.std.proofs.Common.{◌<◌, ◌++◌, List, length, map, sym, subst, arith}
use Rattle.std.specs.List.{AllZip}
use Rattle.std.proofs.lemmas.List.{append-nil, take_all}
use Rattle.module_view.specs.SymbolLists.{commons_of}
use Rattle.module_view.specs.declared.definition.Common.{Common}
use Rattle.symbol_names.specs.Interning.{NotesCommon}
use Rattle.symbol_names.specs.Lists.{Offered, offered}
use Rattle.symbol_table.specs.Passes.{AreGreatest}
use Rattle.symbol_names.proofs.NumberLemmas.{number_within, zip_length, mapped_more}
use Rattle.symbol_table.proofs.GreatestLemmas.{no_common, common_at}
use Rattle.symbol_table.proofs.greatest.note_commons.Goals as goal

pub loop-common-init : goal.loop-common-init
loop-common-init c = record {
  long = c.requires.long;
  noted = λ earlier was. subst (λ (es : List Offered). AreGreatest c.args.names.now.keys es c.args.commons.now.items) (sym (append-nil earlier)) was;
}

pub note_common-requires-clause-long : goal.note_common-requires-clause-long
note_common-requires-clause-long c = c.loop-common.invariant.long

pub note_common-requires-clause-within : goal.note_common-requires-clause-within
note_common-requires-clause-within c =
    let bytes = c.args.«module».now.bytes.now in
    let names = c.args.names.now.keys in
    let zipped : AllZip (NotesCommon names) (commons_of bytes) c.deref-common-items.result.now =
    subst (AllZip (NotesCommon names) (commons_of bytes)) (sym c.deref-common-items.ensures.value) c.requires.noted.commons in
    number_within names _ _ (common_at names (commons_of bytes) c.deref-common-items.result.now c.loop-common.common-index _ zipped c.loop-common-test.true).named

pub loop-common-preserved : goal.loop-common-preserved
loop-common-preserved c =
    let bytes = c.args.«module».now.bytes.now in
    let names = c.args.names.now.keys in
    let items = c.deref-common-items.result.now in
    let i = c.loop-common.common-index in
    let position = c.args.position in
    let zipped : AllZip (NotesCommon names) (commons_of bytes) items =
    subst (AllZip (NotesCommon names) (commons_of bytes)) (sym c.deref-common-items.ensures.value) c.requires.noted.commons in
    let lt : i < length (commons_of bytes) = omega (arith, c.loop-common-test.true, zip_length (NotesCommon names) (commons_of bytes) items zipped) in
    record {
      long = c.note_common.ensures.long;
      noted = λ earlier was.
          subst (λ (es : List Offered). AreGreatest names es c.note_common.new.commons.items) (sym (mapped_more (offered position) earlier (commons_of bytes) i no_common lt))
          (c.note_common.ensures.noted _ _ (common_at names (commons_of bytes) items i _ zipped c.loop-common-test.true) (c.loop-common.invariant.noted earlier was));
    }

pub returns-clause-long : goal.returns-clause-long
returns-clause-long c = c.loop-common.invariant.long

pub returns-clause-noted : goal.returns-clause-noted
returns-clause-noted c = λ earlier was.
    let bytes = c.args.«module».now.bytes.now in
    let names = c.args.names.now.keys in
    let items = c.deref-common-items.result.now in
    let zipped : AllZip (NotesCommon names) (commons_of bytes) items =
    subst (AllZip (NotesCommon names) (commons_of bytes)) (sym c.deref-common-items.ensures.value) c.requires.noted.commons in
    subst (λ (ws : List Common). AreGreatest names (earlier ++ map (offered c.args.position) ws) c.loop-common.commons.items)
    (take_all c.loop-common.common-index (commons_of bytes) (omega (arith, c.loop-common-test.false, zip_length (NotesCommon names) (commons_of bytes) items zipped)))
    (c.loop-common.invariant.noted earlier was)
