-- What a section says of itself as a COMDAT section, by the place of its leader, and what is kept of it.
use Rattle.std.proofs.Common.{◌≡◌, ℕ, ◌+◌, ◌-◌, ◌<◌, ◌≤◌, true, false, not, List, [], ◌∷◌, ◌++◌, length, get_or, inl, inr, Option, Some, None, refl, sym, ap, subst, ◌∙◌, arith}
use Rattle.std.specs.Prelude.{option_map, nat_le}
use Rattle.std.specs.Option.{IfSome, MatchOption}
use Rattle.std.proofs.Math.ListN.{get_or-append}
use Rattle.std.proofs.Math.Seq.{get_or-append_seam}
use Rattle.std.proofs.lemmas.Bool.{cases_lt, eq-eqb, ne_eqb, false≢true, le-leb, and_from}
use Rattle.coff_records.specs.ObjectFile.{section_total, symbol_name_of, symbol_class_of}
use Rattle.coff_aux.specs.declared.comdat.Comdat.{Comdat}
use Rattle.coff_aux.specs.declared.comdat.ComdatRecord.{ComdatRecord}
use Rattle.coff_aux.specs.Comdats.{is_section_number, is_comdat, has_comdat, comdat_of, section_symbols_of, comdat_record_of, leader_name, parent_said, comdat_by}
use Rattle.coff_aux.proofs.CallerLemmas.{some_section, no_comdat}
use Rattle.module_view.specs.declared.comdat_choice.ComdatChoice.{ComdatChoice}
use Rattle.module_view.specs.declared.definition.Definition.{Definition}
use Rattle.module_view.specs.SymbolLists.{definitions_of}
use Rattle.module_view.specs.Choices.{no_definition, definition_at, name_defined, comdat_named, IsPlaceOf, IsLeaderOf, IsChoice, IsChoiceBy, AreChoicesBy, SaysChoice, AreChoices}
use Rattle.module_view.proofs.DefinitionLemmas.{IsExternal, definitions_are, second_internal}

-- ---- the leader

-- the place of the second symbol of a section is that of the leader, where it is external
pub leader_by_place : (bytes : List ℕ) (section : ℕ) (second place : Option ℕ) → 1 ≤ section → second ≡ (section_symbols_of bytes section).second → MatchOption second (place ≡ None) (λ symbol. IsPlaceOf (definitions_of bytes) symbol place) → option_map (name_defined (definitions_of bytes)) place ≡ leader_name bytes second
unfolding leader_name
leader_by_place bytes section None place first is none = rw none refl
leader_by_place bytes section (Some j) None first is absent = rw (second_internal bytes section j first (sym is) absent) refl
leader_by_place bytes section (Some j) (Some k) first is found =
    let external : IsExternal bytes (definition_at (definitions_of bytes) k) = definitions_are bytes k no_definition found.within in
    rw (eq-eqb (symbol_class_of bytes j) 2 (ap (symbol_class_of bytes) (sym found.symbol_is) ∙ external.class_is))
    (ap Some (external.name_is ∙ ap (symbol_name_of bytes) found.symbol_is))

-- a leader is among the definitions
pub leader_among : (definitions : List Definition) (second leader : Option ℕ) → IsLeaderOf definitions second leader → IfSome leader (λ k. k < length definitions)
leader_among definitions None leader none = subst (λ (o : Option ℕ). IfSome o (λ k. k < length definitions)) (sym none) tt
leader_among definitions (Some symbol) None absent = tt
leader_among definitions (Some symbol) (Some k) found = found.within

-- ---- a COMDAT section, by its record

choice_by_record : (bytes : List ℕ) (section : ℕ) (said : ComdatRecord) (choice : ComdatChoice) → comdat_record_of bytes section ≡ Some said → 1 ≤ section → IsChoice (definitions_of bytes) said (section_symbols_of bytes section).second choice → Some (comdat_named (definitions_of bytes) choice) ≡ comdat_by (leader_name bytes (section_symbols_of bytes section).second) (comdat_record_of bytes section)
choice_by_record bytes section said choice says first made =
    let second = (section_symbols_of bytes section).second in
    let leader_same : option_map (name_defined (definitions_of bytes)) choice.leader ≡ leader_name bytes second = leader_by_place bytes section second choice.leader first refl made.leads in
    ap (λ (n : ℕ). Some (comdat_with n (option_map (name_defined (definitions_of bytes)) choice.leader) choice.parent)) made.selection_is
    ∙ ap (λ (p : Option ℕ). Some (comdat_with said.selection (option_map (name_defined (definitions_of bytes)) choice.leader) p)) made.parent_is
    ∙ ap (λ (l : Option (List ℕ)). Some (comdat_with said.selection l (parent_said said))) leader_same
    ∙ ap (comdat_by (leader_name bytes second)) (sym says)
  where
    comdat_with : ℕ → Option (List ℕ) → Option ℕ → Comdat
    comdat_with selection leader parent = record { selection = selection; leader = leader; parent = parent }

is_within : (section count : ℕ) → 1 ≤ section → section ≤ count → is_section_number count section ≡ true
is_within section count first last =
    and_from (nat_le 1 section) (nat_le section count) (le-leb 1 section first) (le-leb section count last)

choice_by : (bytes : List ℕ) (section : ℕ) (said : Option ComdatRecord) (choice : Option ComdatChoice) → comdat_record_of bytes section ≡ said → 1 ≤ section → section ≤ section_total bytes → IsChoiceBy (definitions_of bytes) said (section_symbols_of bytes section).second choice → SaysChoice bytes (definitions_of bytes) section choice
unfolding comdat_of
choice_by bytes section None choice is first last none =
    subst (SaysChoice bytes (definitions_of bytes) section) (sym none)
    (record {
      says = rw (is_within section (section_total bytes) first last) (ap (comdat_by (leader_name bytes (section_symbols_of bytes section).second)) (sym is));
      leads = tt;
    })
choice_by bytes section (Some said) None is first last made = absurd made
choice_by bytes section (Some said) (Some choice) is first last made = record {
  says = rw (is_within section (section_total bytes) first last) (choice_by_record bytes section said choice is first made);
  leads = leader_among (definitions_of bytes) (section_symbols_of bytes section).second choice.leader made.leads;
}

-- ---- what is kept

no_record : (bytes : List ℕ) (section : ℕ) → is_comdat bytes section ≡ false → comdat_record_of bytes section ≡ None
unfolding comdat_record_of
no_record bytes section none = rw none refl

-- nothing, where no section is a COMDAT
pub none_kept : (bytes : List ℕ) (definitions : List Definition) (choices : List (Option ComdatChoice)) → has_comdat bytes ≡ false → choices ≡ [] → AreChoices bytes definitions choices
unfolding comdat_of
none_kept bytes definitions choices none nothing =
    subst (AreChoices bytes definitions) (sym nothing)
    (record {
      some = none;
      count = λ some. absurd (false≢true (sym none ∙ some));
      each = λ section first last. record {
        says = rw (is_within section (section_total bytes) first last) (sym (ap (comdat_by (leader_name bytes (section_symbols_of bytes section).second)) (no_record bytes section (no_comdat bytes section none first last))));
        leads = tt;
      };
    })

pub all_kept : (bytes : List ℕ) (choices : List (Option ComdatChoice)) (definitions : List Definition) → has_comdat bytes ≡ true → definitions ≡ definitions_of bytes → AreChoicesBy bytes definitions choices → AreChoices bytes (definitions_of bytes) choices
all_kept bytes choices definitions some defined made = record {
  some = some ∙ sym (ap not (ne_eqb (length choices) 0 (λ empty. absurd (omega (arith, empty, made.count, some_section bytes some)))));
  count = λ some. made.count;
  each = choice_of;
}
  where
    made_at : (section : ℕ) → 1 ≤ section → section ≤ section_total bytes → IsChoiceBy definitions (comdat_record_of bytes section) (section_symbols_of bytes section).second (get_or choices (section - 1) None)
    made_at section low high =
        let next : section - 1 + 1 ≡ section = omega arith in
        subst (λ (s : ℕ). IsChoiceBy definitions (comdat_record_of bytes s) (section_symbols_of bytes s).second (get_or choices (section - 1) None)) next (made.each (section - 1) (omega arith))

    choice_of : (section : ℕ) → 1 ≤ section → section ≤ section_total bytes → SaysChoice bytes (definitions_of bytes) section (get_or choices (section - 1) None)
    choice_of section low high =
        choice_by bytes section (comdat_record_of bytes section) (get_or choices (section - 1) None) refl low high
        (subst (λ (ds : List Definition). IsChoiceBy ds (comdat_record_of bytes section) (section_symbols_of bytes section).second (get_or choices (section - 1) None)) defined (made_at section low high))

-- ---- one more section in a loop over all

pub all_more : (P : ℕ → Type 0) (n : ℕ) → ((k : ℕ) → k < n → P k) → P n → (k : ℕ) → k < n + 1 → P k
all_more P n before last k lt = elim (cases_lt k n) [
  | inl low ↦ before k low
  | inr high ↦ subst P (let same : n ≡ k = omega arith in same) last
]

pub choices_more : (Q : ℕ → Option ComdatChoice → Type 0) (choices now : List (Option ComdatChoice)) (choice : Option ComdatChoice) (n : ℕ) → length choices ≡ n → now ≡ choices ++ choice ∷ [] → ((k : ℕ) → k < n → Q k (get_or choices k None)) → Q n choice → (k : ℕ) → k < n + 1 → Q k (get_or now k None)
choices_more Q choices now choice n count grown made last =
    all_more (λ k. Q k (get_or now k None)) n
    (λ k lt. subst (Q k) (sym (ap (λ (xs : List (Option ComdatChoice)). get_or xs k None) grown ∙ get_or-append choices (choice ∷ []) None k (omega (arith, count, lt)))) (made k lt))
    (subst (Q n) (sym (ap (λ (xs : List (Option ComdatChoice)). get_or xs n None) grown ∙ ap (λ (k : ℕ). get_or (choices ++ choice ∷ []) k None) (sym count) ∙ get_or-append_seam choices choice [] None)) last)

pub some_made : (definitions : List Definition) (record_there : Option ComdatRecord) (said : ComdatRecord) (noted second : Option ℕ) (choice : ComdatChoice) → record_there ≡ Some said → noted ≡ second → IsChoice definitions said noted choice → IsChoiceBy definitions record_there second (Some choice)
some_made definitions record_there said noted second choice is same made =
    subst (λ (one : Option ComdatRecord). IsChoiceBy definitions one second (Some choice)) (sym is)
    (subst (λ (o : Option ℕ). IsChoice definitions said o choice) same made)

pub none_made : (definitions : List Definition) (record_there : Option ComdatRecord) (second : Option ℕ) → record_there ≡ None → IsChoiceBy definitions record_there second None
none_made definitions record_there second is =
    subst (λ (one : Option ComdatRecord). IsChoiceBy definitions one second None) (sym is) refl
