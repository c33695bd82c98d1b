use Rattle.std.proofs.Common.{◌≡◌, ◌-◌, ◌<◌, ℕ, zero, suc, ℤ, pos, negsuc, w32, nat_abs, false, List, length, map, get_or, set, sym, ap, ◌∙◌, arith}
use Rattle.std.specs.Int.Signed.{le_z}
use Rattle.std.proofs.lemmas.Int.{to_z-of_z}
use Rattle.std.proofs.lemmas.List.{map-set, get_or-map}
use Rattle.coff_aux.specs.declared.comdat.NotedSymbols.{NotedSymbols}
use Rattle.coff_aux.specs.Comdats.{SectionSymbols}
use Rattle.coff_aux.specs.Steps.{symbols_noted, with_symbol, noted_at, noted_symbols, no_symbols}
use Rattle.coff_aux.proofs.comdats.note_symbol.Goals as goal

one_noted : (symbols : List NotedSymbols) (place k index : ℕ) (noted d : NotedSymbols) → place ≡ k → place < length symbols → symbols_noted noted ≡ with_symbol (symbols_noted (get_or symbols place d)) index → map symbols_noted (set symbols place noted) ≡ noted_at (map symbols_noted symbols) (suc k) index
one_noted symbols place k index noted d same within is =
    map-set symbols_noted symbols place noted
    ∙ ap (set (map symbols_noted symbols) place) (is ∙ ap (λ (s : SectionSymbols). with_symbol s index) (sym (get_or-map symbols_noted symbols place d no_symbols within)))
    ∙ ap (λ (i : ℕ). noted_at (map symbols_noted symbols) (suc i) index) same

by_number : (number : ℤ) (symbols : List NotedSymbols) (index : ℕ) (noted d : NotedSymbols) → le_z number (pos 0) ≡ false → nat_abs number - 1 < length symbols → symbols_noted noted ≡ with_symbol (symbols_noted (get_or symbols (nat_abs number - 1) d)) index → map symbols_noted (set symbols (nat_abs number - 1) noted) ≡ noted_symbols (map symbols_noted symbols) number index
unfolding noted_symbols
by_number (pos zero) symbols index noted d above within is = absurd cc
by_number (pos (suc k)) symbols index noted d above within is =
    one_noted symbols (suc k - 1) k index noted d (omega arith) within is
by_number (negsuc n) symbols index noted d above within is = absurd cc

pub returns-then-place-len : goal.returns-then-place-len
returns-then-place-len c =
    let symbols = c.args.symbols.now.items in
    by_number _ symbols c.args.index c.note_one.new.noted c.index_mut.result.now c.if-section-le-SYM_UNDEFINED.false (omega (arith, c.if-place-len.true, c.len.ensures)) (c.note_one.ensures ∙ ap (λ (s : NotedSymbols). with_symbol (symbols_noted s) c.args.index) c.index_mut.ensures.value)
    ∙ ap (λ (number : ℤ). noted_symbols (map symbols_noted symbols) number c.args.index) (to_z-of_z w32 c.args.section c.ranges.section)
