use Rattle.std.proofs.Common.{ℕ, List, map, Option, sym, ap, ◌∙◌, subst}
use Rattle.std.specs.Prelude.{filter_map}
use Rattle.std.proofs.lemmas.Result.{err_from_is_err_and}
use Rattle.std.specs.Option.{option_or}
use Rattle.link_base.specs.Refusals.{RefusesFor, first_standing}
use Rattle.link_base.proofs.RefusalLemmas.{refuses_first}
use Rattle.link_base.specs.declared.fault.Fault.{Fault}
use Rattle.coff_records.specs.ObjectFile.{SymbolEntry, symbol_at}
use Rattle.coff_object.proofs.CallerLemmas.{symbols_left-all, symbols_left-step}
use Rattle.link_pieces.specs.LocalSlots.{name_asked, with_meant}
use Rattle.link_plan.specs.References.{symbol_fault}
use Rattle.link_plan.proofs.ReferenceLemmas.{meant_first}
use Rattle.link_plan.proofs.references.check_object.Goals as goal

pub loop-index-init : goal.loop-index-init
loop-index-init c =
    let all = c.into_iter-index-iterator.ensures.into_iter_gives ∙ c.symbols-index-items.ensures in
    record {
      can = tt;
      ends = tt;
      left = symbols_left-all c.args.object.now c.into_iter-index-iterator.result all;
      fault = ap (λ (es : List SymbolEntry). first_standing (map (symbol_fault c.args.names.now c.args.position) es)) all;
      noted = ap (λ (es : List SymbolEntry). with_meant c.args.names.now c.args.slots.now.keys (filter_map (name_asked c.args.names.now c.args.position) es)) all;
    }

pub check_symbol-requires : goal.check_symbol-requires
check_symbol-requires c =
    (symbols_left-step c.args.object.now c.loop-index.index-iterator c.next.new.self c.in-Some.index c.in-Some.symbol c.loop-index.invariant.left c.in-Some.ensures.steps).is
    ∙ ap (λ (bytes : List ℕ). symbol_at bytes c.in-Some.index) c.requires

pub returns-in_err-check_symbol-clause-refused : goal.returns-in_err-check_symbol-clause-refused
returns-in_err-check_symbol-clause-refused c =
    let fault = symbol_fault c.args.names.now c.args.position in
    let given = err_from_is_err_and c.from_residual.result c.from_residual.ensures.1 in
    let rest = first_standing (map fault c.next.new.self) in
    let all = ap (λ (es : List SymbolEntry). first_standing (map fault es)) (sym c.in-Some.ensures.steps) ∙ c.loop-index.invariant.fault in
    rw (given.1, given.2)
    (subst (λ (o : Option Fault). RefusesFor o c.in_err-check_symbol.field-0.0) all
    (refuses_first (fault (c.in-Some.index, c.in-Some.symbol)) rest c.in_err-check_symbol.field-0.0 c.in_err-check_symbol.ensures.refused))

pub loop-index-preserved : goal.loop-index-preserved
loop-index-preserved c =
    let link = c.args.names.now in
    let name = name_asked link c.args.position in
    let fault = symbol_fault c.args.names.now c.args.position in
    record {
      can = tt;
      ends = tt;
      left = (symbols_left-step c.args.object.now c.loop-index.index-iterator c.next.new.self c.in-Some.index c.in-Some.symbol c.loop-index.invariant.left c.in-Some.ensures.steps).left;
      fault =
          sym (ap (λ (o : Option Fault). option_or o (first_standing (map fault c.next.new.self))) c.in_ok-check_symbol.ensures.accepted)
          ∙ sym (ap (λ (es : List SymbolEntry). first_standing (map fault es)) c.in-Some.ensures.steps)
          ∙ c.loop-index.invariant.fault;
      noted =
          ap (λ (before : List (List ℕ)). with_meant link before (filter_map name c.next.new.self)) c.in_ok-check_symbol.ensures.slots
          ∙ sym (meant_first link c.loop-index.slots.keys name (c.in-Some.index, c.in-Some.symbol) c.next.new.self)
          ∙ sym (ap (λ (es : List SymbolEntry). with_meant link c.loop-index.slots.keys (filter_map name es)) c.in-Some.ensures.steps)
          ∙ c.loop-index.invariant.noted;
    }
