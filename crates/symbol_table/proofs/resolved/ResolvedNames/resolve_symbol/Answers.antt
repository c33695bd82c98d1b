use Rattle.std.proofs.Common.{List, map, sym, ap, subst, ◌∙◌, arith}
use Rattle.std.specs.List.{All}
use Rattle.std.proofs.lemmas.List.{get_or_read}
use Rattle.symbol_table.specs.Links.{no_link, end_of}
use Rattle.coff_records.specs.ObjectFile.{SymbolView, name_in, symbol_name_of}
use Rattle.module_view.specs.Module.{module_at}
use Rattle.symbol_names.specs.declared.noted.ModuleNames.{ModuleNames}
use Rattle.symbol_names.specs.Interning.{Numbers, NotesModule}
use Rattle.symbol_names.specs.Kept.{rows_of, noted_view}
use Rattle.symbol_table.specs.TableParts.{link_view, ResolvedView}
use Rattle.symbol_table.specs.Resolution.{meaning_of}
use Rattle.symbol_table.proofs.EndLemmas.{settles_means}
use Rattle.symbol_names.proofs.NumberLemmas.{number_within}
use Rattle.symbol_table.proofs.resolved.ResolvedNames.resolve_symbol.Goals as goal

pub index-requires : goal.index-requires
index-requires c =
    let names = c.self.inside.names.keys in
    let number = c.in-Some.number in
    let numbered = (c.in-Some.ensures names (subst (All (NotesModule names)) (sym c.deref.ensures.value) c.self.invariant.whole.modules.noted)).named in
    omega (arith, number_within names number _ numbered, c.self.invariant.meant.long)

pub returns-in-Some-clause-meaning : goal.returns-in-Some-clause-meaning
returns-in-Some-clause-meaning c =
    let kept = c.self.inside.modules.items in
    let chosen = rows_of c.self.inside.chosen.items in
    let names = c.self.inside.names.keys in
    let number = c.in-Some.number in
    let position = c.args.«module» in
    let index = c.args.index in
    let name = symbol_name_of (module_at (map noted_view kept) position).bytes index in
    let numbered : Numbers names number name =
    subst (λ (ms : List ModuleNames). Numbers names number (symbol_name_of (module_at (map noted_view ms) position).bytes index)) c.deref.ensures.value
    (c.in-Some.ensures names (subst (All (NotesModule names)) (sym c.deref.ensures.value) c.self.invariant.whole.modules.noted)).named in
    c.end_of.ensures ∙ ap end_of (get_or_read c.self.inside.links.items number c.index.result.now (omega (arith, number_within names number name numbered, c.self.invariant.meant.long)) c.index.ensures no_link)
    ∙ sym (settles_means (link_view c.self.inside.given kept) chosen name _ (c.self.invariant.meant.each number name numbered))
    ∙ ap (λ (v : ResolvedView). meaning_of v.link v.chosen (symbol_name_of (module_at v.link.modules position).bytes index)) c.self.view_is
    ∙ ap (λ (s : SymbolView). meaning_of c.args.self.now.link c.args.self.now.chosen (name_in s)) (sym c.requires)
