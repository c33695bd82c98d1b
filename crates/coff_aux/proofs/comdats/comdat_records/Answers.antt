use Rattle.std.proofs.Common.{◌+◌, List, ◌++◌, ◌∷◌, [], map, Option, sym, ap, ◌∙◌, arith}
use Rattle.std.specs.List.{range_with_len}
use Rattle.std.proofs.lemmas.List.FromFn.{map-range_with_len_more}
use Rattle.coff_aux.specs.declared.comdat.ComdatRecord.{ComdatRecord}
use Rattle.coff_aux.specs.Comdats.{SectionSymbols, comdat_record_of}
use Rattle.coff_aux.proofs.ComdatLemmas.{noted_count, noted_there}
use Rattle.coff_aux.proofs.comdats.comdat_records.Goals as goal

pub bounds-symbols-index : goal.bounds-symbols-index
bounds-symbols-index c =
    omega (arith, noted_count c.args.object.now c.args.symbols.now c.requires, c.section_count-index-end.ensures, c.loop-index-test.true)

pub comdat_record-said-requires-clause-symbol : goal.comdat_record-said-requires-clause-symbol
comdat_record-said-requires-clause-symbol c =
    ap (λ (noted : SectionSymbols). noted.first)
    (noted_there c.args.object.now c.args.symbols.now c.requires c.loop-index.index _ (omega (arith, c.section_count-index-end.ensures, c.loop-index-test.true)))

pub loop-index-preserved : goal.loop-index-preserved
loop-index-preserved c =
    let bytes = c.args.object.now in
    let i = c.loop-index.index in
    c.in_ok-push.ensures.items
    ∙ ap (λ (xs : List (Option ComdatRecord)). xs ++ c.comdat_record-said.result ∷ []) c.loop-index.invariant
    ∙ ap (λ (said : Option ComdatRecord). map (comdat_record_of bytes) (range_with_len 1 i) ++ said ∷ []) c.comdat_record-said.ensures
    ∙ sym (map-range_with_len_more (comdat_record_of bytes) 1 i (i + 1) (omega arith))
