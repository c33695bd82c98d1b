-- What is kept of sections, and the sections that it stands for.
use Rattle.std.proofs.Common.{◌≡◌, ℕ, suc, ◌<◌, ◌≤◌, true, cond, eqb, ◌&&◌, List, [], ◌∷◌, ◌++◌, length, get_or, Option, Some, None, unwrap_or, refl, sym, ap, ◌∙◌, subst, arith}
use Rattle.std.specs.Prelude.{option_map, is_some}
use Rattle.std.specs.List.{All, AllZip, list_all}
use Rattle.std.specs.Option.{IfSome}
use Rattle.std.proofs.lemmas.List.{get_or-map, map-append}
use Rattle.std.proofs.lemmas.List.Elements.{All-append, All-cons, All-nil}
use Rattle.link_base.proofs.RangeLemmas.{one_added}
use Rattle.coff_records.specs.ObjectFile.{section_total}
use Rattle.coff_aux.specs.AuxRecords.{COMDAT_SELECT_ANY}
use Rattle.coff_aux.specs.Comdats.{comdat_of}
use Rattle.module_view.specs.declared.comdat_choice.ComdatChoice.{ComdatChoice}
use Rattle.module_view.specs.declared.definition.Definition.{Definition}
use Rattle.module_view.specs.Choices.{no_definition, name_defined, SaysChoice}
use Rattle.module_view.specs.ImportModule.{module_definitions}
use Rattle.module_view.specs.Module.{ModuleView}
use Rattle.symbol_names.specs.declared.noted.NotedDefinition.{NotedDefinition}
use Rattle.symbol_names.specs.Interning.{Numbers, NotesDefinition}
use Rattle.symbol_names.proofs.NumberLemmas.{zip_at}
use Rattle.comdat.specs.declared.entry.Entry.{Entry}
use Rattle.comdat.specs.Choice.{are_all_any}
use Rattle.comdat.specs.Entries.{no_entry, selection_at, entry_at, named_by, IsSection, KeepsEntry, KeepsEntries, IsSectionOf}
use Rattle.comdat.specs.Groups.{Named, no_named}
use Rattle.comdat.specs.Numbering.{candidate_at, candidates_at}
use Rattle.comdat.specs.Selection.{group_name_by, group_name_of, selection_said, goes_by_name, entry_in}

-- the section at a place
pub named_at : (modules : List ModuleView) (entries : List Entry) (k : ℕ) → k < length entries → get_or (named_by modules entries) k no_named ≡ entry_at modules (get_or entries k no_entry)
named_at modules entries k lt = get_or-map (entry_at modules) entries k no_entry no_named lt

-- those at some places are all ANY where what is kept of them says so
pub any_at : (modules : List ModuleView) (entries : List Entry) (places : List ℕ) → All (IsSection modules) entries → All (λ k. k < length entries) places → list_all (λ k. eqb (selection_at entries k) COMDAT_SELECT_ANY) places ≡ are_all_any (candidates_at (named_by modules entries) places)
any_at modules entries [] sections within = refl
any_at modules entries (k ∷ ks) sections within =
    let lt : k < length entries = within 0 0 (omega arith) in
    let same : selection_at entries k ≡ (candidate_at (named_by modules entries) k).selection =
    (sections k no_entry lt).selection ∙ ap (λ (entry : Named). entry.candidate.selection) (sym (named_at modules entries k lt)) in
    λ i. eqb (same i) COMDAT_SELECT_ANY && any_at modules entries ks sections (λ j d less. within (suc j) d (omega arith)) i

-- ---- one more section

-- the name of one that has a leader and no parent, and that it goes by it
record IsLed (bytes : List ℕ) (section : ℕ) (name : List ℕ) : Type 0 where
  goes : goes_by_name bytes section ≡ true
  named : unwrap_or (group_name_of (comdat_of bytes section)) [] ≡ name

is_led : (bytes : List ℕ) (definitions : List Definition) (section leader : ℕ) (choice : ComdatChoice) → SaysChoice bytes definitions section (Some choice) → choice.parent ≡ None → choice.leader ≡ Some leader → IsLed bytes section (name_defined definitions leader)
is_led bytes definitions section leader choice is alone led =
    let name : group_name_of (comdat_of bytes section) ≡ Some (name_defined definitions leader) =
    ap group_name_of (sym is.says) ∙ (λ i. group_name_by (alone i) (option_map (name_defined definitions) (led i))) in
    record {
      goes = ap is_some name;
      named = ap (λ (o : Option (List ℕ)). unwrap_or o []) name;
    }

-- one that goes by a name is, with the number that is noted of its leader
pub one_kept : (names : List (List ℕ)) (modules : List ModuleView) (named : List Named) (entries more : List Entry) (position section leader : ℕ) (view : ModuleView) (choice : ComdatChoice) (noted : List NotedDefinition) (note : NotedDefinition) → IsSectionOf modules position view section → SaysChoice view.bytes (module_definitions view) section (Some choice) → AllZip (NotesDefinition names) (module_definitions view) noted → choice.parent ≡ None → choice.leader ≡ Some leader → more ≡ entries ++ record { number = (get_or noted leader note).name; «module» = position; section = section; selection = choice.selection } ∷ [] → KeepsEntries names modules named entries → KeepsEntries names modules (named ++ cond (goes_by_name view.bytes section) (entry_in position view.bytes section ∷ []) []) more
one_kept names modules named entries more position section leader view choice noted note at is zipped alone led pushed kept =
    let definitions = module_definitions view in
    let entry : Entry = record { number = (get_or noted leader note).name; «module» = position; section = section; selection = choice.selection } in
    let by_name = is_led view.bytes definitions section leader choice is alone led in
    let stands : entry_at modules entry ≡ entry_in position view.bytes section = ap (λ (v : ModuleView). entry_in position v.bytes section) at.is in
    let in_definitions : leader < length definitions = subst (λ (o : Option ℕ). IfSome o (λ k. k < length definitions)) led is.leads in
    let of_leader : Numbers names entry.number (name_defined definitions leader) = (zip_at (NotesDefinition names) definitions noted leader no_definition note zipped in_definitions).named in
    let keeps : KeepsEntry names modules entry =
    record {
      section = record {
        within = at.within;
        first = at.first;
        last = subst (λ (v : ModuleView). section ≤ section_total v.bytes) (sym at.is) at.last;
        selection = ap selection_said is.says ∙ ap (λ (e : Named). e.candidate.selection) (sym stands);
      };
      number = subst (Numbers names entry.number) (sym (ap (λ (e : Named). e.name) stands ∙ by_name.named)) of_leader;
    } in
    record {
      stand_for = one_added named (named_by modules more) (entry_at modules entry) (entry_in position view.bytes section) (goes_by_name view.bytes section) by_name.goes
          (ap (named_by modules) pushed ∙ map-append (entry_at modules) entries (entry ∷ []) ∙ ap (λ (before : List Named). before ++ entry_at modules entry ∷ []) kept.stand_for)
          stands;
      each = subst (All (KeepsEntry names modules)) (sym pushed)
          (All-append (KeepsEntry names modules) entries (entry ∷ []) kept.each (All-cons (KeepsEntry names modules) entry [] keeps (All-nil (KeepsEntry names modules))));
    }
