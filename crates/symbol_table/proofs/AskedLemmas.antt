-- What a link asks for, and what its modules provide, by the numbers of names.
use Rattle.std.proofs.Common.{◌≡◌, ℕ, zero, suc, ◌+◌, ◌<◌, ◌≤◌, Bool, true, false, ◌&&◌, ◌||◌, not, cond, inl, inr, List, [], ◌∷◌, ◌++◌, length, map, take, get_or, Some, None, refl, sym, ap, subst, ◌∙◌, add-one, arith}
use Rattle.std.specs.Prelude.{is_some}
use Rattle.std.specs.List.{All, AllZip, IsDistinct, find, list_any, flat_map, range_with_len}
use Rattle.std.proofs.Math.Bool.{or_assoc, and-false}
use Rattle.std.proofs.lemmas.Bool.{cases_lt}
use Rattle.std.proofs.lemmas.Grind.{flat_map-append}
use Rattle.std.proofs.lemmas.List.{append-nil, take_more, take_all}
use Rattle.std.proofs.lemmas.List.Folds.{list_any-append, list_any_none}
use Rattle.link_base.specs.NameText.{same_name}
use Rattle.module_view.specs.Module.{ModuleView}
use Rattle.module_view.specs.ImportModule.{module_definitions}
use Rattle.module_view.specs.SymbolLists.{commons_of}
use Rattle.symbol_table.specs.declared.asked.AskedNames.{AskedNames}
use Rattle.symbol_names.specs.declared.given.GivenNames.{GivenNames}
use Rattle.symbol_names.specs.declared.noted.ModuleNames.{ModuleNames}
use Rattle.symbol_names.specs.declared.noted.NotedAsked.{NotedAsked}
use Rattle.symbol_table.specs.LinkerNames.{linker_meaning}
use Rattle.symbol_names.specs.Lists.{of_each, provided, provided_by, has_name, all_definitions, offered, offered_by, offers, all_commons}
use Rattle.symbol_names.specs.References.{Asked, all_asked}
use Rattle.symbol_table.specs.OpenNames.{asks_for, is_provided, is_open_name, nothing_asked, asked_at, is_open_at}
use Rattle.symbol_names.specs.Interning.{Numbers, NotesDefinition, NotesCommon, NotesAsked, NotesModule}
use Rattle.symbol_names.specs.Kept.{noted_view}
use Rattle.symbol_names.specs.Flags.{names_definition, names_common, seeks, flag_of}
use Rattle.symbol_table.specs.AskedParts.{kept_definitions, kept_commons}
use Rattle.symbol_table.specs.TableParts.{link_view, KeepsTable}
use Rattle.symbol_names.proofs.NumberLemmas.{same_number, zip_at, zip_length}
use Rattle.symbol_table.proofs.PassLemmas.{item_at, noted_at, each_first, each_first_more, each_first_all}
use Rattle.symbol_table.proofs.AbsentLemmas.{Absent, differs, zip_left, no_definition, no_common}

-- ---- lists side by side

any_beside : {A B : Type 0} (R : A → B → Type 0) (p : A → Bool) (q : B → Bool) (xs : List A) (ys : List B) → ((x : A) (y : B) → R x y → p x ≡ q y) → AllZip R xs ys → list_any p xs ≡ list_any q ys
any_beside R p q [] [] same h = refl
any_beside R p q [] (y ∷ ys) same h = absurd h
any_beside R p q (x ∷ xs) [] same h = absurd h
any_beside R p q (x ∷ xs) (y ∷ ys) same h =
    ap (λ (b : Bool). b || list_any p xs) (same x y h.0) ∙ ap (λ (b : Bool). q y || b) (any_beside R p q xs ys same h.1)

any_mapped : {A B : Type 0} (p : B → Bool) (f : A → B) (xs : List A) → list_any p (map f xs) ≡ list_any (λ x. p (f x)) xs
any_mapped p f [] = refl
any_mapped p f (x ∷ xs) = ap (λ (b : Bool). p (f x) || b) (any_mapped p f xs)

-- the lists of all modules beside what is kept of each
module _ {A B : Type 0} (list : ℕ → ModuleView → List A) (pick : ModuleNames → List B) (p : A → Bool) (q : B → Bool) (kept : List ModuleNames) (each : (k : ℕ) (m : ModuleNames) → k < length kept → m ≡ get_or kept k m → list_any p (list k (noted_view m)) ≡ list_any q (pick m)) where
  picked_more : (n : ℕ) (m : ModuleNames) → n < length kept → m ≡ get_or kept n m → flat_map pick (take (n + 1) kept) ≡ flat_map pick (take n kept) ++ pick m
  picked_more n m lt is =
      ap (flat_map pick) (take_more kept n m lt ∙ ap (λ (x : ModuleNames). take n kept ++ x ∷ []) (sym is))
      ∙ flat_map-append pick (take n kept) (m ∷ [])
      ∙ ap (λ (ys : List B). flat_map pick (take n kept) ++ ys) (append-nil (pick m))

  any_first : (n : ℕ) → n ≤ length kept → list_any p (each_first list (map noted_view kept) n) ≡ list_any q (flat_map pick (take n kept))
  any_first zero le = refl
  any_first (suc n) le =
      let item = item_at kept n (omega arith) in
      let m : ModuleNames = item.0 in
      let is : m ≡ get_or kept n m = item.1 in
      let views = map noted_view kept in
      let lt : n < length kept = omega arith in
      ap (λ (k : ℕ). list_any p (each_first list views k)) (sym (add-one n))
      ∙ ap (list_any p) (each_first_more list kept n m lt is)
      ∙ list_any-append p (each_first list views n) (list n (noted_view m))
      ∙ ap (λ (b : Bool). b || list_any p (list n (noted_view m))) (any_first n (omega arith))
      ∙ ap (λ (b : Bool). list_any q (flat_map pick (take n kept)) || b) (each n m lt is)
      ∙ sym (list_any-append q (flat_map pick (take n kept)) (pick m))
      ∙ ap (list_any q) (sym (picked_more n m lt is))
      ∙ ap (λ (k : ℕ). list_any q (flat_map pick (take k kept))) (add-one n)

  any_all : list_any p (of_each list (map noted_view kept)) ≡ list_any q (flat_map pick kept)
  any_all =
      ap (list_any p) (sym (each_first_all list kept (length kept) refl))
      ∙ any_first (length kept) (omega arith)
      ∙ ap (λ (ms : List ModuleNames). list_any q (flat_map pick ms)) (take_all (length kept) kept (omega arith))

-- ---- a name with a number

module _ (names : List (List ℕ)) (number : ℕ) (name : List ℕ) (distinct : IsDistinct same_name names) (numbered : Numbers names number name) where
  defined_is : (kept : List ModuleNames) → All (NotesModule names) kept → list_any (has_name name) (all_definitions (map noted_view kept)) ≡ list_any (names_definition number) (flat_map kept_definitions kept)
  defined_is kept noted =
      any_all provided_by kept_definitions (has_name name) (names_definition number) kept (λ k m lt is.
      any_mapped (has_name name) (provided k) (module_definitions (noted_view m))
      ∙ any_beside (NotesDefinition names) (λ d. same_name d.name name) (names_definition number) (module_definitions (noted_view m)) m.definitions.items
      (λ d n notes. same_number names number n.name name d.name distinct numbered notes.named) (noted_at names kept k m noted lt is).definitions)

  shared_is : (kept : List ModuleNames) → All (NotesModule names) kept → list_any (offers name) (all_commons (map noted_view kept)) ≡ list_any (names_common number) (flat_map kept_commons kept)
  shared_is kept noted =
      any_all (λ k (view : ModuleView). offered_by k view.bytes) kept_commons (offers name) (names_common number) kept (λ k m lt is.
      any_mapped (offers name) (offered k) (commons_of m.bytes.now)
      ∙ any_beside (NotesCommon names) (λ d. same_name d.name name) (names_common number) (commons_of m.bytes.now) m.commons.items
      (λ d n notes. same_number names number n.name name d.name distinct numbered notes.named) (noted_at names kept k m noted lt is).commons)

  pub provided_is : (kept : List ModuleNames) (flag : Bool) → All (NotesModule names) kept → flag ≡ (list_any (names_definition number) (flat_map kept_definitions kept) || list_any (names_common number) (flat_map kept_commons kept)) → is_provided (map noted_view kept) name ≡ (flag || is_some (linker_meaning name))
  unfolding is_provided
  provided_is kept flag noted is =
      let linked = is_some (linker_meaning name) in
      let defined = list_any (names_definition number) (flat_map kept_definitions kept) in
      let shared = list_any (names_common number) (flat_map kept_commons kept) in
      ap (λ (b : Bool). b || (list_any (offers name) (all_commons (map noted_view kept)) || linked)) (defined_is kept noted)
      ∙ ap (λ (b : Bool). defined || (b || linked)) (shared_is kept noted)
      ∙ sym (or_assoc defined shared linked)
      ∙ ap (λ (b : Bool). b || linked) (sym is)

  pub sought_is : (asked : List Asked) (notes : List NotedAsked) → AllZip (NotesAsked names) asked notes → list_any (asks_for name) asked ≡ list_any (seeks number) notes
  sought_is asked notes zipped =
      any_beside (NotesAsked names) (asks_for name) (seeks number) asked notes (λ a n is.
      ap (λ (b : Bool). b && same_name a.name name) (sym is.search_is)
      ∙ ap (λ (b : Bool). n.search && b) (same_number names number n.name name a.name distinct numbered is.named)) zipped

-- ---- a name without a number

module _ (names : List (List ℕ)) (name : List ℕ) (absent : Absent names name) where
  pub absent_provided : (kept : List ModuleNames) → All (NotesModule names) kept → is_provided (map noted_view kept) name ≡ is_some (linker_meaning name)
  unfolding is_provided
  absent_provided kept noted =
      ap (λ (b : Bool). b || (list_any (offers name) (all_commons (map noted_view kept)) || is_some (linker_meaning name)))
      (list_any_none (has_name name) (all_definitions (map noted_view kept)) (no_definition names kept noted name absent))
      ∙ ap (λ (b : Bool). b || is_some (linker_meaning name))
      (list_any_none (offers name) (all_commons (map noted_view kept)) (no_common names kept noted name absent))

  pub absent_sought : (asked : List Asked) (notes : List NotedAsked) → AllZip (NotesAsked names) asked notes → list_any (asks_for name) asked ≡ false
  absent_sought asked notes zipped =
      list_any_none (asks_for name) asked
      (zip_left (NotesAsked names) (λ (a : Asked). asks_for name a ≡ false) asked notes zipped (λ a n is.
      ap (λ (b : Bool). a.search && b) (differs names name a.name n.name absent is.named) ∙ and-false a.search))

-- ---- what is open

module _ (names : List (List ℕ)) (given : GivenNames) (kept : List ModuleNames) (asked : AskedNames) where
  pub open_by_number : (number : ℕ) (name : List ℕ) → KeepsTable names given kept asked → Numbers names number name → is_open_name (link_view given kept) name ≡ (flag_of asked.sought.items number && not (flag_of asked.provided.items number || is_some (linker_meaning name)))
  open_by_number number name is numbered =
      let link = link_view given kept in
      let there = is_provided link.modules name in
      ap (λ (b : Bool). b && not there) (sought_is names number name is.distinct numbered (all_asked link) asked.list.items is.asked_for.list ∙ sym (is.asked_for.sought number))
      ∙ ap (λ (b : Bool). flag_of asked.sought.items number && not b) (provided_is names number name is.distinct numbered kept (flag_of asked.provided.items number) is.whole.modules.noted (is.asked_for.provided number))

  -- what is asked for at a number, and what is noted of it
  noted_asked : (at : ℕ) (noted : NotedAsked) → KeepsTable names given kept asked → at < length asked.list.items → noted ≡ get_or asked.list.items at noted → NotesAsked names (asked_at (link_view given kept) at) noted
  noted_asked at noted is lt here =
      let link = link_view given kept in
      subst (NotesAsked names (asked_at link at)) (sym here)
      (zip_at (NotesAsked names) (all_asked link) asked.list.items at nothing_asked noted is.asked_for.list (omega (arith, lt, zip_length (NotesAsked names) (all_asked link) asked.list.items is.asked_for.list)))

  pub asked_number : (at : ℕ) (noted : NotedAsked) → KeepsTable names given kept asked → at < length asked.list.items → noted ≡ get_or asked.list.items at noted → Numbers names noted.name (asked_at (link_view given kept) at).name
  asked_number at noted is lt here = (noted_asked at noted is lt here).named

  pub open_here : (at : ℕ) (noted : NotedAsked) (open_is : Bool) → KeepsTable names given kept asked → at < length asked.list.items → noted ≡ get_or asked.list.items at noted → ((name : List ℕ) → Numbers names noted.name name → open_is ≡ (noted.search && not (flag_of asked.provided.items noted.name || is_some (linker_meaning name)))) → open_is ≡ is_open_at (link_view given kept) at
  open_here at noted open_is is lt here each =
      let link = link_view given kept in
      let one = asked_at link at in
      let notes = noted_asked at noted is lt here in
      each one.name notes.named
      ∙ ap (λ (b : Bool). noted.search && not b) (sym (provided_is names noted.name one.name is.distinct notes.named kept (flag_of asked.provided.items noted.name) is.whole.modules.noted (is.asked_for.provided noted.name)))
      ∙ ap (λ (b : Bool). b && not (is_provided link.modules one.name)) notes.search_is

-- ---- the first of a range

pub first_found : (test : ℕ → Bool) (a n k : ℕ) → a ≤ k → k < a + n → ((j : ℕ) → a ≤ j → j < k → test j ≡ false) → test k ≡ true → find test (range_with_len a n) ≡ Some k
first_found test a zero k low high before here = absurd (omega arith)
first_found test a (suc n) k low high before here =
    elim (cases_lt a k) [
      | inl above ↦
          ap (λ (b : Bool). cond b (Some a) (find test (range_with_len (a + 1) n))) (before a (omega arith) above)
          ∙ first_found test (a + 1) n k (omega arith) (omega arith) (λ j from to. before j (omega arith) to) here
      | inr level ↦
          let same : a ≡ k = omega arith in
          ap (λ (b : Bool). cond b (Some a) (find test (range_with_len (a + 1) n))) (ap test same ∙ here) ∙ ap (λ (j : ℕ). Some j) same
    ]

pub none_found : (test : ℕ → Bool) (a n : ℕ) → ((j : ℕ) → a ≤ j → j < a + n → test j ≡ false) → find test (range_with_len a n) ≡ None
none_found test a zero before = refl
none_found test a (suc n) before =
    ap (λ (b : Bool). cond b (Some a) (find test (range_with_len (a + 1) n))) (before a (omega arith) (omega arith))
    ∙ none_found test (a + 1) n (λ j from to. before j (omega arith) (omega arith))
