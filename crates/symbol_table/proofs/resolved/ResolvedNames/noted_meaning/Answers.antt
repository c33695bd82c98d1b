use Rattle.std.proofs.Common.{List, map, sym, ap, subst, ◌∙◌, arith}
use Rattle.std.specs.List.{All}
use Rattle.std.specs.Result.{result_ok}
use Rattle.std.proofs.lemmas.List.{get_or_read}
use Rattle.coff_records.specs.ObjectFile.{symbol_name_of}
use Rattle.module_view.specs.Module.{module_at}
use Rattle.symbol_names.specs.declared.noted.ModuleNames.{ModuleNames}
use Rattle.symbol_names.specs.Interning.{NumbersSymbol, NotesModule}
use Rattle.symbol_names.specs.Kept.{rows_of, noted_view}
use Rattle.symbol_names.proofs.NumberLemmas.{number_within}
use Rattle.symbol_table.specs.Links.{no_link, end_of}
use Rattle.symbol_table.specs.SymbolMeaning.{MeansSymbol}
use Rattle.symbol_table.specs.TableParts.{link_view, ResolvedView}
use Rattle.symbol_table.proofs.EndLemmas.{settles_means}
use Rattle.symbol_table.proofs.resolved.ResolvedNames.noted_meaning.Goals as goal

pub index-requires : goal.index-requires
index-requires c =
    let names = c.self.inside.names.keys in
    let noted = c.in_ok-number.ensures names (subst (All (NotesModule names)) (sym c.deref.ensures.value) c.self.invariant.whole.modules.noted) in
    omega (arith, number_within names c.in_ok-number.number _ noted.named, c.self.invariant.meant.long)

pub returns : goal.returns
returns c =
    let kept = c.self.inside.modules.items in
    let names = c.self.inside.names.keys in
    let number = c.in_ok-number.number in
    let position = c.args.«module» in
    let index = c.args.index in
    let view : ResolvedView = record { link = link_view c.self.inside.given kept; chosen = rows_of c.self.inside.chosen.items } in
    let name = symbol_name_of (module_at (map noted_view kept) position).bytes index in
    let noted : NumbersSymbol names (module_at (map noted_view kept) position).bytes index number =
    subst (λ (ms : List ModuleNames). NumbersSymbol names (module_at (map noted_view ms) position).bytes index number) c.deref.ensures.value
    (c.in_ok-number.ensures names (subst (All (NotesModule names)) (sym c.deref.ensures.value) c.self.invariant.whole.modules.noted)) in
    let means : MeansSymbol view (module_at (map noted_view kept) position).bytes index c.meaning_in.result = record {
      starts = noted.starts;
      means =
          c.meaning_in.ensures
          ∙ ap (λ l. result_ok (end_of l)) (get_or_read c.self.inside.links.items number c.index.result.now (omega (arith, number_within names number name noted.named, c.self.invariant.meant.long)) c.index.ensures no_link)
          ∙ ap result_ok (sym (settles_means view.link view.chosen name _ (c.self.invariant.meant.each number name noted.named)));
    } in
    subst (λ (v : ResolvedView). MeansSymbol v (module_at v.link.modules position).bytes index c.meaning_in.result) c.self.view_is means
