use Rattle.std.proofs.Common.{List, Bool, ◌++◌, map, filter, sym, ap, ◌∙◌}
use Rattle.std.specs.List.{list_any}
use Rattle.coff_records.specs.SymbolRecord.{name_in}
use Rattle.coff_records.specs.ObjectFile.{SymbolEntry}
use Rattle.coff_object.proofs.CallerLemmas.{symbols_left-all, symbols_left-step, symbol_strings}
use Rattle.module_view.specs.declared.definition.Common.{Common}
use Rattle.module_view.specs.declared.definition.Definition.{Definition}
use Rattle.module_view.specs.declared.reference.Reference.{Reference}
use Rattle.module_view.specs.declared.reference.Weak.{Weak}
use Rattle.module_view.specs.SymbolLists.{defines, definition_of, definitions_in, definitions_of, refers, reference_of, references_of, is_weak, weak_of, weaks_of, is_common, common_of, commons_in, commons_of}
use Rattle.module_view.specs.Opening.{is_long}
use Rattle.coff_aux.proofs.CallerLemmas.{still_none}
use Rattle.module_view.proofs.SymbolLemmas.{listed_more}
use Rattle.module_view.proofs.symbols.read_symbols.Goals as goal

abbrev weak_entry : SymbolEntry → Bool
weak_entry entry = is_weak entry.1

abbrev common_entry : SymbolEntry → Bool
common_entry entry = is_common entry.1

pub loop-index-init : goal.loop-index-init
unfolding definitions_of references_of weaks_of commons_of
loop-index-init c =
    let bytes = c.args.object.now in
    let all = c.into_iter-index-iterator.ensures.into_iter_gives ∙ c.symbols-index-items.ensures in
    let entries = c.into_iter-index-iterator.result in
    record {
      can = tt;
      ends = tt;
      left = symbols_left-all bytes entries all;
      long = ap (list_any (λ (entry : SymbolEntry). is_long (name_in entry.1))) all;
      definitions = ap (λ (ds : List Definition). ds ++ definitions_in entries) c.in_ok-lists.ensures.definitions ∙ ap definitions_in all;
      references = ap (λ (rs : List Reference). rs ++ map (reference_of bytes) (filter refers entries)) c.in_ok-lists.ensures.references ∙ ap (λ (es : List SymbolEntry). map (reference_of bytes) (filter refers es)) all;
      weaks = ap (λ (ws : List Weak). ws ++ map (weak_of bytes) (filter weak_entry entries)) c.in_ok-lists.ensures.weaks ∙ ap (λ (es : List SymbolEntry). map (weak_of bytes) (filter weak_entry es)) all;
      commons = ap (λ (cs : List Common). cs ++ commons_in entries) c.in_ok-lists.ensures.commons ∙ ap commons_in all;
    }

pub is_long_symbol-requires : goal.is_long_symbol-requires
is_long_symbol-requires c =
    let bytes = c.args.object.now in
    let step = symbols_left-step bytes c.loop-index.index-iterator c.next.new.self c.in-Some.index c.in-Some.symbol c.loop-index.invariant.left c.in-Some.ensures.steps in
    symbol_strings bytes c.in-Some.index c.in-Some.symbol step.is ∙ sym c.requires

pub note_symbol-requires-clause-start : goal.note_symbol-requires-clause-start
note_symbol-requires-clause-start c =
    (symbols_left-step c.args.object.now c.loop-index.index-iterator c.next.new.self c.in-Some.index c.in-Some.symbol c.loop-index.invariant.left c.in-Some.ensures.steps).starts

pub note_symbol-requires-clause-symbol : goal.note_symbol-requires-clause-symbol
note_symbol-requires-clause-symbol c =
    (symbols_left-step c.args.object.now c.loop-index.index-iterator c.next.new.self c.in-Some.index c.in-Some.symbol c.loop-index.invariant.left c.in-Some.ensures.steps).is

pub loop-index-preserved : goal.loop-index-preserved
loop-index-preserved c =
    let bytes = c.args.object.now in
    let before = c.loop-index.index-iterator in
    let after = c.next.new.self in
    let entry : SymbolEntry = (c.in-Some.index, c.in-Some.symbol) in
    let steps = c.in-Some.ensures.steps in
    let step = symbols_left-step bytes before after c.in-Some.index c.in-Some.symbol c.loop-index.invariant.left steps in
    let told = c.in_ok-note_symbol.ensures in
    record {
      can = tt;
      ends = tt;
      left = step.left;
      long = still_none (λ (e : SymbolEntry). is_long (name_in e.1)) before after entry _ c.is_long_symbol.result steps c.loop-index.invariant.long c.is_long_symbol.ensures c.if-is_long_symbol.false;
      definitions = listed_more defines definition_of before after entry c.loop-index.lists.definitions.items c.note_symbol.new.lists.definitions.items (definitions_of bytes) steps c.loop-index.invariant.definitions told.definitions;
      references = listed_more refers (reference_of bytes) before after entry c.loop-index.lists.references.items c.note_symbol.new.lists.references.items (references_of bytes) steps c.loop-index.invariant.references told.references;
      weaks = listed_more weak_entry (weak_of bytes) before after entry c.loop-index.lists.weaks.items c.note_symbol.new.lists.weaks.items (weaks_of bytes) steps c.loop-index.invariant.weaks told.weaks;
      commons = listed_more common_entry common_of before after entry c.loop-index.lists.commons.items c.note_symbol.new.lists.commons.items (commons_of bytes) steps c.loop-index.invariant.commons told.commons;
    }
