use Rattle.std.proofs.Common.{◌≡◌, ◌<◌, ◌+◌, ℤ, w32, FitsSigned, ℕ, zero, suc, List, ◌∷◌, length, filter, map, replicate, refl, ap, ◌∙◌, arith}
use Rattle.std.proofs.lemmas.Int.{to_z-of_z}
use Rattle.std.proofs.lemmas.List.{length-map}
use Rattle.coff_records.specs.ObjectFile.{SymbolEntry, section_number_in}
use Rattle.coff_object.proofs.CallerLemmas.{symbols_left-all, symbols_left-step}
use Rattle.coff_aux.specs.Comdats.{SectionSymbols, section_symbols_of, stands_in, first_two}
use Rattle.coff_aux.specs.declared.comdat.NotedSymbols.{NotedSymbols}
use Rattle.coff_aux.specs.Steps.{symbols_noted, noted_symbols}
use Rattle.coff_aux.proofs.ComdatLemmas.{noted_then, noted_first, noted_more, all_noted, length-noted}
use Rattle.coff_aux.proofs.comdats.section_symbols.Goals as goal

map-replicate : (n : ℕ) (noted : NotedSymbols) → map symbols_noted (replicate n noted) ≡ replicate n (symbols_noted noted)
map-replicate zero noted = refl
map-replicate (suc n) noted = ap (λ (xs : List SectionSymbols). symbols_noted noted ∷ xs) (map-replicate n noted)

pub loop-index-init : goal.loop-index-init
unfolding section_symbols_of
loop-index-init c =
    let all = c.into_iter-index-iterator.ensures.into_iter_gives ∙ c.symbols-index-items.ensures in
    let entries = c.into_iter-index-iterator.result in
    let symbols = c.in_ok-symbols.symbols.items in
    record {
      can = tt;
      ends = tt;
      left = symbols_left-all c.args.object.now entries all;
      count = omega (arith, length-map symbols symbols_noted, c.in_ok-symbols.ensures.len, c.section_count.ensures);
      noted = λ k lt.
          noted_first (map symbols_noted symbols) _ k entries (ap (map symbols_noted) (c.in_ok-symbols.ensures.items_if_clones_equal (λ y e. e)) ∙ map-replicate _ _)
          ∙ ap (λ (es : List SymbolEntry). first_two (filter (stands_in (k + 1)) es)) all;
    }

pub note_symbol-requires : goal.note_symbol-requires
note_symbol-requires c =
    omega (arith, c.requires, (symbols_left-step c.args.object.now c.loop-index.index-iterator c.next.new.self c.in-Some.index c.in-Some.symbol c.loop-index.invariant.left c.in-Some.ensures.steps).below)

pub loop-index-preserved : goal.loop-index-preserved
loop-index-preserved c =
    let symbols = map symbols_noted c.loop-index.symbols.items in
    let number = section_number_in c.in-Some.symbol in
    let index = c.in-Some.index in
    let entry : SymbolEntry = (index, c.in-Some.symbol) in
    let steps = c.in-Some.ensures.steps in
    let fits : FitsSigned w32 c.section.result = record { sfits = c.section.type_inv } in
    let noted = c.note_symbol.ensures ∙ ap (λ (z : ℤ). noted_symbols symbols z index) (to_z-of_z w32 c.section.result fits ∙ c.section.ensures) in
    let same_length = ap (λ (xs : List SectionSymbols). length xs) noted ∙ length-noted symbols number index in
    record {
      can = tt;
      ends = tt;
      left = (symbols_left-step c.args.object.now c.loop-index.index-iterator c.next.new.self index c.in-Some.symbol c.loop-index.invariant.left steps).left;
      count = same_length ∙ c.loop-index.invariant.count;
      noted = λ k lt.
          let low : k < length symbols = omega (arith, same_length, lt) in
          ap (λ (xs : List SectionSymbols). noted_then xs k c.next.new.self) noted
          ∙ noted_more symbols c.loop-index.index-iterator c.next.new.self entry k (section_symbols_of c.args.object.now (k + 1)) steps low (c.loop-index.invariant.noted k low);
    }

pub returns : goal.returns
returns c =
    all_noted (map symbols_noted c.loop-index.symbols.items) c.args.object.now c.loop-index.index-iterator c.loop-index.invariant.count c.in-None.ensures.steps.0 c.loop-index.invariant.noted
