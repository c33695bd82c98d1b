use Rattle.std.proofs.Common.{◌≡◌, ℕ, List, Result, Ok, Err, sym, ◌∙◌, subst}
use Rattle.std.specs.Prelude.{IfErr}
use Rattle.std.proofs.lemmas.Result.{err_from_is_err_and}
use Rattle.link_base.specs.declared.fault.Fault.{Fault}
use Rattle.pe_loader.specs.Extents.{numbered_section}
use Rattle.pe_loader.specs.Loading.{memory_of, section_of}
use Rattle.image_show.specs.ShownBytes.{RefusesAs, memory_shown, image_memory}
use Rattle.image_show.specs.SymbolPlace.{symbol_place}
use Rattle.image_show.proofs.PlaceLemmas.{place_alike, shown_there, refused_place}
use Rattle.image_show.proofs.symbol.shown_symbol.Goals as goal

pub returns-in_err-rva-clause-refused : goal.returns-in_err-rva-clause-refused
returns-in_err-rva-clause-refused c =
    let image = c.args.image.now in
    let pdb = c.args.pdb.now in
    let name = c.args.symbol in
    let made = c.in_ok-made.made in
    let given = err_from_is_err_and c.from_residual-in_err-rva.result c.from_residual-in_err-rva.ensures.1 in
    let place : symbol_place (section_of made) pdb name ≡ Err c.in_err-rva.field-0.0 = sym c.in_err-rva.ensures.place in
    let alike = place_alike pdb name (section_of made) (numbered_section image) c.in_ok-made.ensures.sections in
    rw (given.1, given.2)
    (refused_place c.args.base c.args.length (image_memory image c.args.base) (symbol_place (numbered_section image) pdb name) (memory_of made) c.in_err-rva.field-0.0 c.in_ok-made.ensures.memory (sym alike ∙ place))

pub returns-clause-refused : goal.returns-clause-refused
returns-clause-refused c =
    let image = c.args.image.now in
    let pdb = c.args.pdb.now in
    let name = c.args.symbol in
    let made = c.in_ok-made.made in
    let rva = c.in_ok-rva.rva in
    let place : symbol_place (section_of made) pdb name ≡ Ok rva = sym c.in_ok-rva.ensures.place in
    let alike = place_alike pdb name (section_of made) (numbered_section image) c.in_ok-made.ensures.sections in
    let there = shown_there c.args.base c.args.length (image_memory image c.args.base) (symbol_place (numbered_section image) pdb name) (memory_of made) rva c.in_ok-made.ensures.memory (sym alike ∙ place) in
    let refuses = subst (λ (memory : List ℕ). IfErr c.memory_line.result (RefusesAs (memory_shown c.args.base rva c.args.length memory))) c.memory.ensures c.memory_line.ensures.refused in
    subst (λ (shown : Result (List ℕ) Fault). IfErr c.memory_line.result (RefusesAs shown)) (sym there) refuses
