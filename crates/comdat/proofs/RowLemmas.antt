-- What is said of the sections of a module, in a loop over by what each is chosen.
use Rattle.std.proofs.Common.{◌≡◌, ℕ, suc, ◌+◌, ◌-◌, ◌<◌, ◌≤◌, Bool, true, false, cond, List, [], ◌∷◌, ◌++◌, length, get_or, drop, filter, map, Option, Some, None, refl, sym, ap, subst, ◌∙◌, drop-cons, add-one, arith}
use Rattle.std.specs.Prelude.{option_map, is_some}
use Rattle.std.specs.List.{range_with_len}
use Rattle.std.proofs.lemmas.List.{length-drop, length-append}
use Rattle.std.proofs.lemmas.List.FromFn.{map-range_with_len_more, length-map-range_with_len, get_or-map-range_with_len}
use Rattle.coff_aux.specs.declared.comdat.Comdat.{Comdat}
use Rattle.coff_records.specs.ObjectFile.{section_total}
use Rattle.coff_aux.specs.Comdats.{comdat_of}
use Rattle.module_view.specs.declared.comdat_choice.ComdatChoice.{ComdatChoice}
use Rattle.module_view.specs.declared.definition.Definition.{Definition}
use Rattle.module_view.specs.Choices.{name_defined, comdat_named, SaysChoice, AreChoices}
use Rattle.comdat.specs.declared.chosen_by.ChosenBy.{ChosenBy}
use Rattle.comdat.specs.declared.chosen_by.ChosenBy.TheVariants as by
use Rattle.comdat.specs.ChosenBy.{is_itself, is_group, by_parent_or_leader, chosen_by_said, chosen_by, by_choice}
use Rattle.comdat.specs.Selection.{group_name_by, group_name_of, goes_by_name, is_free, sections_of, named_sections, own_flag}

-- ---- one section

-- it is chosen in a group where it goes by a name
pub group_is : (said : Option Comdat) → is_group (chosen_by_said said) ≡ is_some (group_name_of said)
group_is None = refl
group_is (Some said) = go said.parent said.leader
  where
    go : (parent : Option ℕ) (leader : Option (List ℕ)) → is_group (by_parent_or_leader parent leader) ≡ is_some (group_name_by parent leader)
    go (Some parent) leader = refl
    go None (Some leader) = refl
    go None None = refl

-- and by itself where it is free
pub itself_is : (said : Option Comdat) → is_itself (chosen_by_said said) ≡ is_free said
itself_is None = refl
itself_is (Some said) = go said.parent said.leader
  where
    go : (parent : Option ℕ) (leader : Option (List ℕ)) → is_itself (by_parent_or_leader parent leader) ≡ is_free (Some (record said { parent = parent; leader = leader }))
    go (Some parent) leader = refl
    go None (Some leader) = refl
    go None None = refl

-- ---- what is kept of a section

-- at a place stands what the section says
pub says_at : (bytes : List ℕ) (definitions : List Definition) (choices : List (Option ComdatChoice)) (k : ℕ) → AreChoices bytes definitions choices → k < section_total bytes → SaysChoice bytes definitions (k + 1) (get_or choices k None)
says_at bytes definitions choices k are lt =
    let place : k + 1 - 1 ≡ k = omega arith in
    subst (λ (n : ℕ). SaysChoice bytes definitions (k + 1) (get_or choices n None)) place (are.each (k + 1) (omega arith) (omega arith))

-- it says by what the section is chosen
pub by_said : (bytes : List ℕ) (definitions : List Definition) (section : ℕ) (choice : Option ComdatChoice) → option_map (comdat_named definitions) choice ≡ comdat_of bytes section → by_choice choice ≡ chosen_by bytes section
by_said bytes definitions section choice says = go choice ∙ ap chosen_by_said says
  where
    of : (parent leader : Option ℕ) → by_parent_or_leader parent leader ≡ by_parent_or_leader parent (option_map (name_defined definitions) leader)
    of (Some parent) leader = refl
    of None (Some leader) = refl
    of None None = refl

    go : (choice : Option ComdatChoice) → by_choice choice ≡ chosen_by_said (option_map (comdat_named definitions) choice)
    go None = refl
    go (Some choice) = of choice.parent choice.leader

-- ---- the sections of a list, in a loop

-- the sections after the first that go by a name
pub left : List ℕ → ℕ → ℕ → List ℕ
left bytes total done = filter (goes_by_name bytes) (range_with_len (done + 1) (total - done))

pub left_all : (bytes : List ℕ) → left bytes (section_total bytes) 0 ≡ named_sections bytes
unfolding left
left_all bytes = ap (λ (n : ℕ). filter (goes_by_name bytes) (range_with_len 1 n)) (omega arith)

pub left_next : (bytes : List ℕ) (total done : ℕ) (b : Bool) → done < total → goes_by_name bytes (done + 1) ≡ b → left bytes total done ≡ cond b ((done + 1) ∷ left bytes total (done + 1)) (left bytes total (done + 1))
unfolding left
left_next bytes total done b lt goes =
    ap (λ (n : ℕ). filter (goes_by_name bytes) (range_with_len (done + 1) n)) (one_less total done lt)
    ∙ ap (λ (t : Bool). cond t ((done + 1) ∷ left bytes total (done + 1)) (left bytes total (done + 1))) goes
  where
    one_less : (total done : ℕ) → done < total → total - done ≡ suc (total - (done + 1))
    one_less total done lt = omega (arith, lt)

pub left_none : (bytes : List ℕ) (total done : ℕ) → total ≤ done → left bytes total done ≡ []
unfolding left
left_none bytes total done le =
    let none : total - done ≡ 0 = omega (arith, le) in
    ap (λ (n : ℕ). filter (goes_by_name bytes) (range_with_len (done + 1) n)) none

-- the number of those of a list, from a place on, that go by a name
pub group_count : List ChosenBy → ℕ → ℕ
group_count row done = length (filter is_group (drop done row))

pub count_all : (row : List ChosenBy) → group_count row 0 ≡ length (filter is_group row)
unfolding group_count
count_all row = refl

pub count_next : (row : List ChosenBy) (done : ℕ) (here : ChosenBy) (b : Bool) → done < length row → here ≡ get_or row done by.Itself → is_group here ≡ b → group_count row done ≡ cond b (group_count row (done + 1) + 1) (group_count row (done + 1))
unfolding group_count
count_next row done here b lt is group =
    let rest = filter is_group (drop (suc done) row) in
    ap (λ (r : List ChosenBy). length (filter is_group r)) (drop-cons row done by.Itself lt)
    ∙ ap (λ (t : Bool). length (cond t (get_or row done by.Itself ∷ rest) rest)) (ap is_group (sym is) ∙ group)
    ∙ go b (get_or row done by.Itself) rest (group_count row (done + 1)) (ap (λ (n : ℕ). length (filter is_group (drop n row))) (add-one done))
  where
    go : (b : Bool) (first : ChosenBy) (rest : List ChosenBy) (n : ℕ) → n ≡ length rest → length (cond b (first ∷ rest) rest) ≡ cond b (n + 1) n
    go true first rest n e = omega (arith, e)
    go false first rest n e = sym e

pub record RowSoFar (row : List ChosenBy) (selected rest flags : List Bool) (done : ℕ) : Type 0 where
  pub counted : length flags ≡ done
  pub room : group_count row done ≤ length rest
  pub told :
      (bytes : List ℕ) (chosen : ℕ → Bool) (later : List Bool) → row ≡ map (chosen_by bytes) (sections_of bytes) → selected ≡ map chosen (named_sections bytes) ++ later → (flags ≡ map (own_flag chosen bytes) (range_with_len 1 done)) × (rest ≡ map chosen (left bytes (section_total bytes) done) ++ later)

pub row_none : (row : List ChosenBy) (selected flags : List Bool) → length (filter is_group row) ≤ length selected → flags ≡ [] → RowSoFar row selected selected flags 0
unfolding group_count
row_none row selected flags room none = record {
  counted = ap length none;
  room = room;
  told = λ bytes chosen later is e. (none, e ∙ ap (λ (s : List ℕ). map chosen s ++ later) (sym (left_all bytes)));
}

-- the section at a place of the list
pub record IsHere (row : List ChosenBy) (done : ℕ) (here : ChosenBy) (bytes : List ℕ) : Type 0 where
  pub within : done < section_total bytes
  pub said : here ≡ chosen_by bytes (done + 1)
  pub group : is_group here ≡ goes_by_name bytes (done + 1)
  pub itself : is_itself here ≡ is_free (comdat_of bytes (done + 1))

pub is_here : (row : List ChosenBy) (done : ℕ) (here : ChosenBy) (bytes : List ℕ) → done < length row → here ≡ get_or row done by.Itself → row ≡ map (chosen_by bytes) (sections_of bytes) → IsHere row done here bytes
is_here row done here bytes lt is all =
    let within : done < section_total bytes = omega (arith, ap length all, length-map-range_with_len (chosen_by bytes) 1 (section_total bytes)) in
    let said : here ≡ chosen_by bytes (done + 1) =
    is ∙ ap (λ (r : List ChosenBy). get_or r done by.Itself) all ∙ get_or-map-range_with_len (chosen_by bytes) 1 (section_total bytes) done (done + 1) by.Itself within (omega arith) in
    record {
      within = within;
      said = said;
      group = ap is_group said ∙ group_is (comdat_of bytes (done + 1));
      itself = ap is_itself said ∙ itself_is (comdat_of bytes (done + 1));
    }

flags_more : (bytes : List ℕ) (chosen : ℕ → Bool) (done : ℕ) (flags more : List Bool) (flag : Bool) → flags ≡ map (own_flag chosen bytes) (range_with_len 1 done) → more ≡ flags ++ flag ∷ [] → flag ≡ own_flag chosen bytes (done + 1) → more ≡ map (own_flag chosen bytes) (range_with_len 1 (done + 1))
flags_more bytes chosen done flags more flag is pushed own =
    pushed ∙ ap (λ (fs : List Bool). fs ++ flag ∷ []) is
    ∙ ap (λ (b : Bool). map (own_flag chosen bytes) (range_with_len 1 done) ++ b ∷ []) own
    ∙ sym (map-range_with_len_more (own_flag chosen bytes) 1 done (done + 1) (omega arith))

-- one that goes by a name
pub row_group : (row : List ChosenBy) (selected rest rest' flags more : List Bool) (flag : Bool) (done : ℕ) (here : ChosenBy) → RowSoFar row selected rest flags done → done < length row → here ≡ get_or row done by.Itself → is_group here ≡ true → flag ≡ get_or rest 0 false → rest' ≡ drop 1 rest → more ≡ flags ++ flag ∷ [] → RowSoFar row selected rest' more (done + 1)
row_group row selected rest rest' flags more flag done here before lt is group first later pushed =
    record {
      counted = omega (arith, ap length pushed, length-append flags (flag ∷ []), before.counted);
      room = omega (arith, before.room, count_next row done here true lt is group, ap length later, length-drop 1 rest);
      told = λ bytes chosen others all e.
          let at = is_here row done here bytes lt is all in
          let goes : goes_by_name bytes (done + 1) ≡ true = sym at.group ∙ group in
          let told = before.told bytes chosen others all e in
          let there : rest ≡ chosen (done + 1) ∷ (map chosen (left bytes (section_total bytes) (done + 1)) ++ others) = told.1 ∙ ap (λ (s : List ℕ). map chosen s ++ others) (left_next bytes (section_total bytes) done true at.within goes) in
          let own : own_flag chosen bytes (done + 1) ≡ chosen (done + 1) = ap (λ (b : Bool). cond b (chosen (done + 1)) (is_free (comdat_of bytes (done + 1)))) goes in
          (flags_more bytes chosen done flags more flag told.0 pushed (first ∙ ap (λ (r : List Bool). get_or r 0 false) there ∙ sym own), later ∙ ap (drop 1) there);
    }

-- another one
pub row_other : (row : List ChosenBy) (selected rest flags more : List Bool) (flag : Bool) (done : ℕ) (here : ChosenBy) → RowSoFar row selected rest flags done → done < length row → here ≡ get_or row done by.Itself → is_group here ≡ false → flag ≡ is_itself here → more ≡ flags ++ flag ∷ [] → RowSoFar row selected rest more (done + 1)
row_other row selected rest flags more flag done here before lt is group itself pushed =
    record {
      counted = omega (arith, ap length pushed, length-append flags (flag ∷ []), before.counted);
      room = omega (arith, before.room, count_next row done here false lt is group);
      told = λ bytes chosen others all e.
          let at = is_here row done here bytes lt is all in
          let goes : goes_by_name bytes (done + 1) ≡ false = sym at.group ∙ group in
          let told = before.told bytes chosen others all e in
          let own : own_flag chosen bytes (done + 1) ≡ is_free (comdat_of bytes (done + 1)) = ap (λ (b : Bool). cond b (chosen (done + 1)) (is_free (comdat_of bytes (done + 1)))) goes in
          (flags_more bytes chosen done flags more flag told.0 pushed (itself ∙ at.itself ∙ sym own), told.1 ∙ ap (λ (s : List ℕ). map chosen s ++ others) (left_next bytes (section_total bytes) done false at.within goes));
    }

-- all sections were seen
pub row_all : (row : List ChosenBy) (selected rest flags : List Bool) (done : ℕ) (bytes : List ℕ) (chosen : ℕ → Bool) (later : List Bool) → RowSoFar row selected rest flags done → done ≡ length row → row ≡ map (chosen_by bytes) (sections_of bytes) → selected ≡ map chosen (named_sections bytes) ++ later → (flags ≡ map (own_flag chosen bytes) (sections_of bytes)) × (rest ≡ later)
row_all row selected rest flags done bytes chosen later is end all e =
    let told = is.told bytes chosen later all e in
    let total : done ≡ section_total bytes = end ∙ ap length all ∙ length-map-range_with_len (chosen_by bytes) 1 (section_total bytes) in
    (told.0 ∙ ap (λ (n : ℕ). map (own_flag chosen bytes) (range_with_len 1 n)) total, told.1 ∙ ap (λ (s : List ℕ). map chosen s ++ later) (left_none bytes (section_total bytes) done (omega (arith, total))))

-- the next section has an entry
pub has_next : (row : List ChosenBy) (selected rest flags : List Bool) (done : ℕ) (here : ChosenBy) → RowSoFar row selected rest flags done → done < length row → here ≡ get_or row done by.Itself → is_group here ≡ true → 0 < length rest
has_next row selected rest flags done here before lt is group =
    omega (arith, before.room, count_next row done here true lt is group)
