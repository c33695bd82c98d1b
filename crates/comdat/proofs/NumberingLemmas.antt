-- The numbers of groups, in a loop over sections.
use Rattle.std.proofs.Common.{◌≡◌, ℕ, ◌+◌, ◌<◌, ◌≤◌, eqb, nat_eq, List, [], ◌∷◌, ◌++◌, length, get_or, set, refl, sym, ap, ◌∙◌, subst, inl, inr, eq-eqb, length-append, arith}
use borrow.Author.Count.{below_more}
use Rattle.std.specs.List.{All, IsDistinct}
use Rattle.std.proofs.Math.ListN.{length-set}
use Rattle.std.proofs.lemmas.Bool.{ne_eqb, cases_eq}
use Rattle.std.proofs.lemmas.List.{get_or_append_left, get_or_push, get_or-set_same, get_or-set_other, length-map}
use Rattle.link_base.specs.NameText.{same_name}
use Rattle.module_view.specs.Module.{ModuleView}
use Rattle.symbol_names.specs.Interning.{Numbers}
use Rattle.symbol_names.proofs.NumberLemmas.{same_number}
use Rattle.comdat.specs.declared.entry.Entry.{Entry}
use Rattle.comdat.specs.Entries.{no_entry, entry_at, named_by, KeepsEntry}
use Rattle.comdat.specs.Groups.{Named, name_at}
use Rattle.comdat.specs.Numbering.{NO_GROUP, IsFirstOf, AreNumbers}
use Rattle.comdat.proofs.EntryLemmas.{named_at}

-- the number of the name of a section
abbrev pub number_at : List Entry → ℕ → ℕ
number_at entries k = (get_or entries k no_entry).number

-- the group that has a name, by its number
abbrev pub group_at : List ℕ → ℕ → ℕ
group_at groups name = get_or groups name NO_GROUP

-- a group has been numbered, and the name of its first section has this number
pub record HasGroup (entries : List Entry) (firsts : List ℕ) (name group : ℕ) : Type 0 where
  pub within : group < length firsts
  pub named : number_at entries (get_or firsts group 0) ≡ name

-- the groups of the first sections, by the numbers of names
pub record Grouped (entries : List Entry) (count done : ℕ) (groups numbers firsts : List ℕ) : Type 0 where
  pub same_length : length numbers ≡ done
  pub long : length groups ≡ count
  pub few : length firsts ≤ NO_GROUP
  pub given : (k : ℕ) → k < done → group_at groups (number_at entries k) ≡ get_or numbers k 0
  pub within : (k : ℕ) → k < done → get_or numbers k 0 < length firsts
  pub first : (group : ℕ) → group < length firsts → IsFirstOf numbers group (get_or firsts group 0)
  pub held : (name : ℕ) → (group_at groups name ≡ NO_GROUP → ⊥) → HasGroup entries firsts name (group_at groups name)

first_kept : (numbers : List ℕ) (group first more : ℕ) → IsFirstOf numbers group first → IsFirstOf (numbers ++ more ∷ []) group first
first_kept numbers group first more is = record {
  within = omega (arith, length-append numbers (more ∷ []), is.within);
  has = get_or_append_left numbers (more ∷ []) 0 first is.within ∙ is.has;
  before = λ k lt.
      let earlier : k < length numbers = omega (arith, is.within, lt) in
      subst (λ (n : ℕ). n < group) (sym (get_or_append_left numbers (more ∷ []) 0 k earlier)) (is.before k lt);
}

-- a section of a name that a group has
pub grouped_known : (entries : List Entry) (count done : ℕ) (groups numbers firsts : List ℕ) → Grouped entries count done groups numbers firsts → (group_at groups (number_at entries done) ≡ NO_GROUP → ⊥) → Grouped entries count (done + 1) groups (numbers ++ group_at groups (number_at entries done) ∷ []) firsts
grouped_known entries count done groups numbers firsts is some =
    let group = group_at groups (number_at entries done) in
    let more = numbers ++ group ∷ [] in
    let old = λ (k : ℕ) (lt : k < done). get_or_append_left numbers (group ∷ []) 0 k (omega (arith, lt, is.same_length)) in
    let here : get_or more done 0 ≡ group = get_or_push numbers group 0 done is.same_length in
    record {
      same_length = omega (arith, length-append numbers (group ∷ []), is.same_length);
      long = is.long;
      few = is.few;
      given = below_more (λ k. group_at groups (number_at entries k) ≡ get_or more k 0) done
          (λ k lt. is.given k lt ∙ sym (old k lt)) (sym here);
      within = below_more (λ k. get_or more k 0 < length firsts) done
          (λ k lt. subst (λ (n : ℕ). n < length firsts) (sym (old k lt)) (is.within k lt))
          (subst (λ (n : ℕ). n < length firsts) (sym here) (is.held (number_at entries done) some).within);
      first = λ n lt. first_kept numbers n (get_or firsts n 0) group (is.first n lt);
      held = is.held;
    }

-- a section of a new name
pub grouped_new : (entries : List Entry) (count done : ℕ) (groups numbers firsts : List ℕ) → Grouped entries count done groups numbers firsts → number_at entries done < count → group_at groups (number_at entries done) ≡ NO_GROUP → length firsts < NO_GROUP → Grouped entries count (done + 1) (set groups (number_at entries done) (length firsts)) (numbers ++ length firsts ∷ []) (firsts ++ done ∷ [])
grouped_new entries count done groups numbers firsts is in_count none few =
    let name = number_at entries done in
    let group = length firsts in
    let noted = set groups name group in
    let more = numbers ++ group ∷ [] in
    let counts = firsts ++ done ∷ [] in
    let total : length counts ≡ group + 1 = length-append firsts (done ∷ []) in
    let old = λ (k : ℕ) (lt : k < done). get_or_append_left numbers (group ∷ []) 0 k (omega (arith, lt, is.same_length)) in
    let here : get_or more done 0 ≡ group = get_or_push numbers group 0 done is.same_length in
    let same : group_at noted name ≡ group = get_or-set_same groups name group NO_GROUP (omega (arith, in_count, is.long)) in
    record {
      same_length = omega (arith, length-append numbers (group ∷ []), is.same_length);
      long = length-set groups name group ∙ is.long;
      few = omega (arith, total, few);
      given = below_more (λ k. group_at noted (number_at entries k) ≡ get_or more k 0) done
          (λ k lt.
          let differs = λ (e : number_at entries k ≡ name). absurd (omega (arith, is.within k lt, few, sym (is.given k lt) ∙ ap (group_at groups) e ∙ none)) in
          get_or-set_other groups name (number_at entries k) group NO_GROUP differs ∙ is.given k lt ∙ sym (old k lt))
          (same ∙ sym here);
      within = below_more (λ k. get_or more k 0 < length counts) done
          (λ k lt. omega (arith, total, old k lt, is.within k lt)) (omega (arith, total, here));
      first = λ n lt. below_more (λ m. IsFirstOf more m (get_or counts m 0)) group
          (λ m less. subst (IsFirstOf more m) (sym (get_or_append_left firsts (done ∷ []) 0 m less)) (first_kept numbers m (get_or firsts m 0) group (is.first m less)))
          (subst (IsFirstOf more group) (sym (get_or_push firsts done 0 group refl))
          (record {
            within = omega (arith, length-append numbers (group ∷ []), is.same_length);
            has = here;
            before = λ k less. omega (arith, old k less, is.within k less);
          })) n (omega (arith, total, lt));
      held = λ other some. elim (cases_eq other name) [
        | inl e ↦
            subst (λ (m : ℕ). HasGroup entries counts m (group_at noted m)) (sym e)
            (subst (HasGroup entries counts name) (sym same)
            (record {
              within = omega (arith, total);
              named = ap (number_at entries) (get_or_push firsts done 0 group refl);
            }))
        | inr apart ↦
            let kept : group_at noted other ≡ group_at groups other = get_or-set_other groups name other group NO_GROUP apart in
            let was = is.held other (λ e. some (kept ∙ e)) in
            subst (HasGroup entries counts other) (sym kept)
            (record {
              within = omega (arith, total, was.within);
              named = ap (number_at entries) (get_or_append_left firsts (done ∷ []) 0 (group_at groups other) was.within) ∙ was.named;
            })
      ];
    }

-- what is kept of a section has the number of its name
pub numbered_at : (keys : List (List ℕ)) (modules : List ModuleView) (entries : List Entry) (k : ℕ) → All (KeepsEntry keys modules) entries → k < length entries → Numbers keys (number_at entries k) (name_at (named_by modules entries) k)
numbered_at keys modules entries k kept lt =
    subst (λ (entry : Named). Numbers keys (number_at entries k) entry.name) (sym (named_at modules entries k lt)) (kept k no_entry lt).number

pub to_numbers : (keys : List (List ℕ)) (modules : List ModuleView) (entries : List Entry) (count done : ℕ) (groups numbers firsts : List ℕ) → IsDistinct same_name keys → All (KeepsEntry keys modules) entries → Grouped entries count done groups numbers firsts → done ≡ length entries → AreNumbers (named_by modules entries) numbers firsts
to_numbers keys modules entries count done groups numbers firsts distinct kept is all = record {
  same_length = is.same_length ∙ all ∙ sym total;
  within = λ k lt. is.within k (omega (arith, all, total));
  alike = λ j k in_j in_k.
      alike j k (omega (arith, all, total)) (omega (arith, all, total))
      ∙ sym (same_number keys (number_at entries k) (number_at entries j) (name_at (named_by modules entries) k) (name_at (named_by modules entries) j) distinct (numbered_at keys modules entries k kept (omega (arith, total))) (numbered_at keys modules entries j kept (omega (arith, total))));
  first = is.first;
}
  where
    total : length (named_by modules entries) ≡ length entries
    total = length-map entries (entry_at modules)

    -- the first section of the group of a section has the number of its name
    of_first : (k : ℕ) → k < done → number_at entries (get_or firsts (get_or numbers k 0) 0) ≡ number_at entries k
    of_first k lt =
        let some = λ (e : group_at groups (number_at entries k) ≡ NO_GROUP). absurd (omega (arith, is.within k lt, is.few, sym (is.given k lt) ∙ e)) in
        ap (λ (group : ℕ). number_at entries (get_or firsts group 0)) (sym (is.given k lt)) ∙ (is.held (number_at entries k) some).named

    alike : (j k : ℕ) → j < done → k < done → eqb (get_or numbers j 0) (get_or numbers k 0) ≡ nat_eq (number_at entries j) (number_at entries k)
    alike j k in_j in_k =
        elim (cases_eq (number_at entries j) (number_at entries k)) [
          | inl same ↦
              eq-eqb (get_or numbers j 0) (get_or numbers k 0) (sym (is.given j in_j) ∙ ap (group_at groups) same ∙ is.given k in_k)
              ∙ sym (eq-eqb (number_at entries j) (number_at entries k) same)
          | inr apart ↦
              ne_eqb (get_or numbers j 0) (get_or numbers k 0) (λ e. apart (sym (of_first j in_j) ∙ ap (λ (group : ℕ). number_at entries (get_or firsts group 0)) e ∙ of_first k in_k))
              ∙ sym (ne_eqb (number_at entries j) (number_at entries k) apart)
        ]

-- ---- one more section, as the loop notes it

pub section_known : (entries : List Entry) (count done : ℕ) (groups groups' numbers firsts firsts' : List ℕ) → Grouped entries count done groups numbers firsts → groups' ≡ groups → firsts' ≡ firsts → (group_at groups (number_at entries done) ≡ NO_GROUP → ⊥) → Grouped entries count (done + 1) groups' (numbers ++ group_at groups' (number_at entries done) ∷ []) firsts'
section_known entries count done groups groups' numbers firsts firsts' is same old some =
    subst (λ (gs : List ℕ). Grouped entries count (done + 1) gs (numbers ++ group_at gs (number_at entries done) ∷ []) firsts') (sym same)
    (subst (Grouped entries count (done + 1) groups (numbers ++ group_at groups (number_at entries done) ∷ [])) (sym old) (grouped_known entries count done groups numbers firsts is some))

pub section_new : (entries : List Entry) (count done group : ℕ) (groups groups' numbers firsts firsts' : List ℕ) → Grouped entries count done groups numbers firsts → groups' ≡ set groups (number_at entries done) group → firsts' ≡ firsts ++ done ∷ [] → group ≡ length firsts → group < NO_GROUP → number_at entries done < count → group_at groups (number_at entries done) ≡ NO_GROUP → Grouped entries count (done + 1) groups' (numbers ++ group_at groups' (number_at entries done) ∷ []) firsts'
section_new entries count done group groups groups' numbers firsts firsts' is noted counted next few in_count none =
    let name = number_at entries done in
    let last : groups' ≡ set groups name (length firsts) = noted ∙ ap (set groups name) next in
    let here : group_at groups' name ≡ length firsts = ap (λ (gs : List ℕ). group_at gs name) last ∙ get_or-set_same groups name (length firsts) NO_GROUP (omega (arith, in_count, is.long)) in
    subst (λ (n : ℕ). Grouped entries count (done + 1) groups' (numbers ++ n ∷ []) firsts') (sym here)
    (subst (λ (gs : List ℕ). Grouped entries count (done + 1) gs (numbers ++ length firsts ∷ []) firsts') (sym last)
    (subst (Grouped entries count (done + 1) (set groups name (length firsts)) (numbers ++ length firsts ∷ [])) (sym counted)
    (grouped_new entries count done groups numbers firsts is in_count none (omega (arith, next, few)))))
