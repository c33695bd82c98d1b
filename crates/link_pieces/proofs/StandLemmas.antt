-- Where the names stand that a link asks for and that symbols define, those do that its modules ask for.
use Rattle.std.proofs.Common.{◌≡◌, ℕ, zero, suc, ◌+◌, ◌<◌, ◌≤◌, Bool, true, false, cond, ◌||◌, List, [], ◌∷◌, length, get_or, map, filter, Option, None, Some, refl, sym, subst, ◌∙◌, inl, inr, arith}
use Rattle.std.specs.Prelude.{filter_map}
use Rattle.std.specs.Option.{IfSome}
use Rattle.std.specs.List.{All, cons_option, flat_map, range_with_len}
use Rattle.std.proofs.lemmas.Bool.{false≢true, cases_lt, and_parts}
use Rattle.std.proofs.lemmas.List.Elements.{All-append, All-cons, All-nil, All-tail}
use Rattle.link_base.proofs.RangeLemmas.{all_joined}
use Rattle.link_base.proofs.ListLemmas.{all_front, all_back}
use Rattle.coff_records.specs.ObjectFile.{SymbolEntry, name_in, symbol_entries}
use Rattle.module_view.specs.Module.{module_at}
use Rattle.module_view.specs.SymbolLists.{is_definition, definition_of, defines, definitions_of, is_reference, reference_of, refers, references_of}
use Rattle.module_view.specs.declared.definition.Definition.{Definition}
use Rattle.module_view.specs.declared.reference.Reference.{Reference}
use Rattle.symbol_names.specs.References.{asked_by_name, asked_by_symbol, names_by, asked_by}
use Rattle.symbol_table.specs.Meant.{StandsAsked, AllStand}
use Rattle.comdat.specs.Selection.{chosen_sections}
use Rattle.link_pieces.specs.LinkParts.{LinkParts, names_in}
use Rattle.link_pieces.specs.LocalSlots.{is_lost, asks, name_asked, names_asked, modules_asked}
use Rattle.link_pieces.specs.NameMeaning.{StandsIn}

-- ---- what holds of each of a list

all_unmapped : {X Y : Type 0} (f : X → Y) (P : Y → Type 0) (xs : List X) → All P (map f xs) → All (λ x. P (f x)) xs
all_unmapped f P [] all = λ k d lt. absurd (omega arith)
all_unmapped {X} f P (x ∷ xs) all =
    All-cons (λ (y : X). P (f y)) x xs (all zero (f x) (omega arith)) (all_unmapped f P xs (All-tail P (f x) (map f xs) all))

-- of those that pass a test
all_tested : {X Y : Type 0} (f : X → Y) (p : X → Bool) (P : Y → Type 0) (xs : List X) → All P (map f (filter p xs)) → All (λ x. p x ≡ true → P (f x)) xs
all_tested f p P [] all = λ k d lt. absurd (omega arith)
all_tested {X} {Y} f p P (x ∷ xs) all = go (p x) refl all (all_tested f p P xs)
  where
    go : (b : Bool) → p x ≡ b → All P (map f (cond b (x ∷ filter p xs) (filter p xs))) → (All P (map f (filter p xs)) → All (λ y. p y ≡ true → P (f y)) xs) → All (λ y. p y ≡ true → P (f y)) (x ∷ xs)
    go true is each later =
        All-cons (λ (y : X). p y ≡ true → P (f y)) x xs (λ _. each zero (f x) (omega arith)) (later (All-tail P (f x) (map f (filter p xs)) each))
    go false is each later =
        All-cons (λ (y : X). p y ≡ true → P (f y)) x xs (λ holds. absurd (false≢true (sym is ∙ holds))) (later each)

-- of what is given of each
all_given : {X Y : Type 0} (f : X → Option Y) (P : Y → Type 0) (xs : List X) → All (λ x. IfSome (f x) P) xs → All P (filter_map f xs)
all_given f P [] all = All-nil P
all_given {X} {Y} f P (x ∷ xs) all = go (f x) (all zero x (omega arith)) (all_given f P xs (All-tail (λ (y : X). IfSome (f y) P) x xs all))
  where
    go : (o : Option Y) → IfSome o P → All P (filter_map f xs) → All P (cons_option o (filter_map f xs))
    go None first later = later
    go (Some y) first later = All-cons P y (filter_map f xs) first later

-- of one of the lists that are joined
pub joined_part : {X : Type 0} (P : X → Type 0) (f : ℕ → List X) (a n : ℕ) → All P (flat_map f (range_with_len a n)) → (k : ℕ) → a ≤ k → k < a + n → All P (f k)
joined_part P f a zero all k low high = absurd (omega arith)
joined_part P f a (suc n) all k low high = elim (cases_lt a k) [
  | inl above ↦ joined_part P f (a + 1) n (all_back P (f a) (flat_map f (range_with_len (a + 1) n)) all) k (omega arith) (omega arith)
  | inr level ↦ subst (λ (j : ℕ). All P (f j)) (omega arith) (all_front P (f a) (flat_map f (range_with_len (a + 1) n)) all)
]

-- ---- the names that a module asks for

module _ (link : LinkParts) (stand : AllStand (names_in link) (chosen_sections link.modules)) where
  asked_of : (k : ℕ) → k < length link.modules → All (StandsAsked (names_in link) (chosen_sections link.modules)) (asked_by k (module_at link.modules k).bytes)
  asked_of k lt =
      joined_part (StandsAsked (names_in link) (chosen_sections link.modules)) (λ j. asked_by j (module_at link.modules j).bytes) 0 (length link.modules)
      (all_back (StandsAsked (names_in link) (chosen_sections link.modules)) (map asked_by_name link.words) _ stand.asked) k (omega arith) (omega arith)

  by_directives : (k : ℕ) → k < length link.modules → All (StandsIn link) (names_by (module_at link.modules k).bytes)
  by_directives k lt =
      let bytes = (module_at link.modules k).bytes in
      all_unmapped asked_by_name (StandsAsked (names_in link) (chosen_sections link.modules)) (names_by bytes)
      (all_back (StandsAsked (names_in link) (chosen_sections link.modules)) (map asked_by_symbol (references_of bytes)) (map asked_by_name (names_by bytes)) (asked_of k lt))

  referred : (k : ℕ) → k < length link.modules → All (λ (entry : SymbolEntry). refers entry ≡ true → StandsIn link (name_in entry.1)) (symbol_entries (module_at link.modules k).bytes)
  unfolding references_of
  referred k lt =
      let bytes = (module_at link.modules k).bytes in
      all_tested (reference_of bytes) refers (λ (r : Reference). StandsIn link r.name) (symbol_entries bytes)
      (all_unmapped asked_by_symbol (StandsAsked (names_in link) (chosen_sections link.modules)) (references_of bytes)
      (all_front (StandsAsked (names_in link) (chosen_sections link.modules)) (map asked_by_symbol (references_of bytes)) (map asked_by_name (names_by bytes)) (asked_of k lt)))

  defined : (k : ℕ) → k < length link.modules → All (λ (entry : SymbolEntry). defines entry ≡ true → StandsIn link (name_in entry.1)) (symbol_entries (module_at link.modules k).bytes)
  unfolding definitions_of
  defined k lt =
      all_tested definition_of defines (λ (d : Definition). StandsIn link d.name) (symbol_entries (module_at link.modules k).bytes) (stand.defined k lt)

  name_stands : (k : ℕ) (entry : SymbolEntry) → (refers entry ≡ true → StandsIn link (name_in entry.1)) → (defines entry ≡ true → StandsIn link (name_in entry.1)) → IfSome (name_asked link k entry) (StandsIn link)
  unfolding asks
  name_stands k entry when_refers when_defines = go (is_reference entry.1) (is_lost link k entry.1) refl refl
    where
      go : (reference lost : Bool) → is_reference entry.1 ≡ reference → is_lost link k entry.1 ≡ lost → IfSome (cond (reference || lost) (Some (name_in entry.1)) None) (StandsIn link)
      go true lost is other = when_refers is
      go false true is other = when_defines (and_parts (is_definition entry.1) _ other).0
      go false false is other = tt

  pub asked_stand : All (StandsIn link) (modules_asked link)
  asked_stand = all_joined (StandsIn link) (λ k. names_asked link k (module_at link.modules k).bytes) 0 (length link.modules) (λ k low high.
      let bytes = (module_at link.modules k).bytes in
      All-append (StandsIn link) (filter_map (name_asked link k) (symbol_entries bytes)) (names_by bytes)
      (all_given (name_asked link k) (StandsIn link) (symbol_entries bytes) (λ j d lt. name_stands k (get_or (symbol_entries bytes) j d) (referred k (omega arith) j d lt) (defined k (omega arith) j d lt)))
      (by_directives k (omega arith)))
