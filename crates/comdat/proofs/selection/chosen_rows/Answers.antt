use Rattle.std.proofs.Common.{◌≡◌, ◌+◌, Bool, List, [], ◌∷◌, ◌++◌, map, sym, ap, ◌∙◌, arith}
use Rattle.std.specs.List.{range_with_len}
use Rattle.std.proofs.lemmas.List.{get_or_default, map-append}
use Rattle.std.proofs.lemmas.List.FromFn.{map-range_with_len_more}
use Rattle.coff_aux.specs.Comdats.{parents_of}
use Rattle.module_view.specs.Module.{ModuleView, no_module, module_at}
use Rattle.comdat.specs.Chains.{chain_end}
use Rattle.comdat.specs.Selection.{named_sections, sections_of, own_flag, is_chosen_of_group, chosen_row}
use Rattle.symbol_names.specs.Kept.{row_flags}
use Rattle.comdat.proofs.OpenedLemmas.{told_from, told_first, told_next, told_room}
use Rattle.comdat.proofs.selection.chosen_rows.Goals as goal

pub loop-position-init : goal.loop-position-init
loop-position-init c = record {
  rest = told_first c.args.modules.now c.args.selected.now c.requires;
  chosen = ap (map row_flags) c.in_ok-chosen.ensures.items;
}

pub chosen_row-requires : goal.chosen_row-requires
chosen_row-requires c =
    let modules = c.args.modules.now in
    let k = c.loop-position.position in
    let m = c.index-modules-position.result in
    let read : m ≡ module_at modules k = c.index-modules-position.is ∙ get_or_default modules k m no_module c.loop-position-test.true in
    told_room modules k c.loop-position.rest.now m c.loop-position-test.true c.loop-position.invariant.rest read

pub loop-position-preserved : goal.loop-position-preserved
loop-position-preserved c =
    let modules = c.args.modules.now in
    let k = c.loop-position.position in
    let before = c.loop-position.invariant in
    let m = c.index-modules-position.result in
    let read : m ≡ module_at modules k = c.index-modules-position.is ∙ get_or_default modules k m no_module c.loop-position-test.true in
    let chosen = is_chosen_of_group modules k in
    let told = c.in_ok-row.ensures chosen (told_from modules (k + 1)) (before.rest ∙ told_next modules k c.loop-position-test.true ∙ ap (λ (v : ModuleView). map chosen (named_sections v.bytes) ++ told_from modules (k + 1)) (sym read)) in
    let row : row_flags c.in_ok-row.row ≡ chosen_row modules k =
    told.0 ∙ ap (λ (v : ModuleView). map (λ section. own_flag chosen v.bytes (chain_end (parents_of v.bytes) section)) (sections_of v.bytes)) read in
    record {
      rest = told.1;
      chosen =
          ap (map row_flags) c.in_ok-push.ensures.items ∙ map-append row_flags c.loop-position.chosen.items (c.in_ok-row.row ∷ [])
          ∙ ap (λ (rows : List (List Bool)). rows ++ row_flags c.in_ok-row.row ∷ []) before.chosen
          ∙ ap (λ (flags : List Bool). map (chosen_row modules) (range_with_len 0 k) ++ flags ∷ []) row
          ∙ sym (map-range_with_len_more (chosen_row modules) 0 k k (omega arith));
    }
