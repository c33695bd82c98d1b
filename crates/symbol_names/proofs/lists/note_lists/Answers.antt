use Rattle.std.proofs.Common.{List, subst, sym}
use Rattle.std.specs.Prelude.{filter_map}
use Rattle.std.specs.List.{All, AllZip}
use Rattle.directives.specs.Said.{Said}
use Rattle.module_view.specs.ImportModule.{module_definitions}
use Rattle.module_view.specs.SymbolLists.{commons_of, weaks_of}
use Rattle.module_view.specs.declared.definition.Common.{Common}
use Rattle.symbol_names.specs.Alternates.{alternate_said, alternates_by}
use Rattle.symbol_names.specs.Interning.{IsNamedSo, NotesDefinition, NotesCommon, NotesWeak, NotesAlternate}
use Rattle.symbol_names.proofs.NumberLemmas.{definition_kept, common_kept, weak_kept, alternate_kept, zip_map, keeps_both}
use Rattle.symbol_names.proofs.RecordLemmas.{commons_named}
use Rattle.symbol_names.proofs.lists.note_lists.Goals as goal

pub returns-clause-noted : goal.returns-clause-noted
returns-clause-noted c =
    let bytes = c.args.«module».now.bytes in
    let first = c.note_directives.new.names.keys in
    let second = c.note_provided.new.names.keys in
    let third = c.note_commons.new.names.keys in
    let fourth = c.note_weaks.new.names.keys in
    let last = c.note_asked.new.names.keys in
    let from_fourth = c.note_asked.ensures.kept in
    let from_third = keeps_both third fourth last c.note_weaks.ensures.kept from_fourth in
    let from_second = keeps_both second third last c.note_commons.ensures.kept from_third in
    let from_first = keeps_both first second last c.note_provided.ensures.kept from_second in
    record {
      definitions = zip_map (NotesDefinition second) (NotesDefinition last) (module_definitions c.args.«module».now) c.in_ok-definitions.definitions.items (definition_kept second last from_second) c.in_ok-definitions.ensures.noted;
      commons = zip_map (NotesCommon third) (NotesCommon last) (commons_of bytes) c.in_ok-commons.commons.items (common_kept third last from_third)
          (subst (λ (cs : List Common). AllZip (NotesCommon third) cs c.in_ok-commons.commons.items) c.commons.ensures.commons c.in_ok-commons.ensures.noted);
      weaks = zip_map (NotesWeak fourth bytes) (NotesWeak last bytes) (weaks_of bytes) c.in_ok-weaks.weaks.items (weak_kept fourth last from_fourth bytes) c.in_ok-weaks.ensures.noted;
      alternates = zip_map (NotesAlternate first) (NotesAlternate last) (alternates_by 0 bytes) c.in_ok-alternates.alternates.items (alternate_kept first last from_first)
          (subst (λ (says : List Said). AllZip (NotesAlternate first) (filter_map alternate_said says) c.in_ok-alternates.alternates.items) c.directives.ensures.directives c.in_ok-alternates.ensures.noted);
      records = c.in_ok-asked.ensures.records
          (c.in_ok-weaks.ensures.records
          (c.in_ok-commons.ensures.records bytes (subst (λ (cs : List Common). All (λ d. IsNamedSo bytes d.symbol d.name) cs) (sym c.commons.ensures.commons) (commons_named bytes))
          (c.in_ok-definitions.ensures.records (c.in_ok-records.ensures first bytes))));
      asked = c.in_ok-asked.ensures.noted;
    }
