-- What the runs of resources in order say is what the resources say.
use Rattle.std.proofs.Common.{◌≡◌, ℕ, suc, ◌+◌, Bool, true, false, cond, eqb, List, [], ◌∷◌, take, drop, Option, Some, None, refl, sym, ap, ◌∙◌, subst, arith}
use Rattle.std.specs.Prelude.{◌&&◌}
use Rattle.std.specs.List.{sum_by, AllByRecursion}
use Rattle.std.specs.Ordering.{is_eq}
use Rattle.std.proofs.lemmas.Bool.{false≢true, and_parts}
use Rattle.std.proofs.lemmas.List.{drop-drop}
use Rattle.std.proofs.lemmas.List.Sums.{sum_by-cons}
use Rattle.res_merge.specs.Entries.{Key, Entry}
use Rattle.res_merge.specs.Order.{same_key, IsShort}
use Rattle.res_merge.specs.Runs.{Run, run_before, runs, heads, same_kind, same_name}
use Rattle.res_merge.specs.Found.{equal_key, is_resource, data_of, body_of, named_data, kind_data}
use Rattle.res_merge.proofs.SizeLemmas.{run_count}
use Rattle.res_merge.proofs.GroupLemmas.{keys_one, wanted_is, same_itself, one_wanted, Rises, separated, kind_cmp, name_cmp, kind_total, name_total, same_is}

abbrev pub AreShort : List Entry → Type 0
AreShort list = AllByRecursion (λ entry. IsShort entry.kind × IsShort entry.name) list

-- the type and the name are wanted
abbrev pub is_pair : Key → Key → Entry → Bool
is_pair kind name entry = equal_key kind entry.kind && equal_key name entry.name

-- the first run of a type and a name, and the language among its resources
unfoldable pub pair_data : Key → Key → ℕ → List Run → List Entry → Option (List ℕ)
pair_data kind name language [] entries = None
pair_data kind name language (run ∷ runs) entries =
    cond (is_pair kind name run.head) (body_of language (take run.count entries)) (pair_data kind name language runs (drop run.count entries))

-- ---- runs

no_runs : (same : Entry → Entry → Bool) (list : List Entry) → runs same list ≡ [] → list ≡ []
unfolding runs
no_runs same [] e = refl
no_runs same (entry ∷ rest) e = absurd (go (runs same rest) e)
  where
    go : (list : List Run) → run_before same entry 1 list ≡ [] → ⊥
    go [] e = cc
    go (run ∷ list) e = by_test (same entry run.head) e
      where
        by_test : (b : Bool) → cond b (record { head = entry; count = 1 + run.count } ∷ list) (record { head = entry; count = 1 } ∷ run ∷ list) ≡ [] → ⊥
        by_test true e = cc
        by_test false e = cc

-- the head of the first run is the first resource
first_head : (same : Entry → Entry → Bool) (entry : Entry) (rest : List Entry) (run : Run) (list : List Run) → runs same (entry ∷ rest) ≡ run ∷ list → run.head ≡ entry
unfolding runs
first_head same entry rest run list e = go (runs same rest) e
  where
    go : (later : List Run) → run_before same entry 1 later ≡ run ∷ list → run.head ≡ entry
    go [] e = let is : run ≡ record { head = entry; count = 1 } = cc in ap (λ (r : Run). r.head) is
    go (next ∷ later) e = by_test (same entry next.head) e
      where
        by_test : (b : Bool) → cond b (record { head = entry; count = 1 + next.count } ∷ later) (record { head = entry; count = 1 } ∷ next ∷ later) ≡ run ∷ list → run.head ≡ entry
        by_test true e = let is : run ≡ record { head = entry; count = 1 + next.count } = cc in ap (λ (r : Run). r.head) is
        by_test false e = let is : run ≡ record { head = entry; count = 1 } = cc in ap (λ (r : Run). r.head) is

-- ---- resources of one type and name

module _ (kind name : Key) (language : ℕ) where
  resource_parts : (entry : Entry) → is_resource kind name language entry ≡ (is_pair kind name entry && eqb entry.language language)
  resource_parts entry = go (equal_key kind entry.kind) (equal_key name entry.name) (eqb entry.language language)
    where
      go : (a b c : Bool) → (a && (b && c)) ≡ ((a && b) && c)
      go true b c = refl
      go false b c = refl

  -- where one has the type and the name, none that differs from it has
  none_other : (entry : Entry) (rest : List Entry) → is_pair kind name entry ≡ true → AllByRecursion (λ other. is_eq (name_cmp entry other) ≡ false) rest → data_of kind name language rest ≡ None
  unfolding data_of
  none_other entry [] is apart = refl
  none_other entry (other ∷ rest) is apart =
      let here : is_resource kind name language other ≡ false = resource_parts other ∙ ap (λ (b : Bool). b && eqb other.language language) (unpaired (equal_key kind other.kind) (equal_key name other.name) refl refl) in
      rw here (none_other entry rest is apart.1)
    where
      parts : (equal_key kind entry.kind ≡ true) × (equal_key name entry.name ≡ true)
      parts = and_parts (equal_key kind entry.kind) (equal_key name entry.name) is

      unpaired : (a b : Bool) → equal_key kind other.kind ≡ a → equal_key name other.name ≡ b → is_pair kind name other ≡ false
      unpaired false b e f = rw e refl
      unpaired true false e f = rw (e, f) refl
      unpaired true true e f =
          let same_kinds : entry.kind ≡ other.kind = sym (wanted_is kind entry.kind parts.0) ∙ wanted_is kind other.kind e in
          let same_names : entry.name ≡ other.name = sym (wanted_is name entry.name parts.1) ∙ wanted_is name other.name f in
          absurd (false≢true (sym apart.0 ∙ sym (same_is entry other) ∙ both_same same_kinds same_names))
        where
          both_same : entry.kind ≡ other.kind → entry.name ≡ other.name → same_name entry other ≡ true
          both_same p q =
              ap (λ (k : Key). same_key entry.kind k && same_key entry.name other.name) (sym p) ∙ ap (λ (k : Key). same_key entry.kind entry.kind && same_key entry.name k) (sym q) ∙ rw (itself entry.kind, itself entry.name) refl
            where
              itself : (key : Key) → same_key key key ≡ true
              itself key = same_itself key

  -- resources that are the same in type and name are wanted alike
  alike : (a b : Entry) → IsShort a.kind × IsShort a.name → IsShort b.kind × IsShort b.name → same_name a b ≡ true → is_pair kind name a ≡ is_pair kind name b
  alike a b short also e =
      let parts = and_parts (same_key a.kind b.kind) (same_key a.name b.name) e in
      ap (λ (k : Key). equal_key kind k && equal_key name a.name) (keys_one a.kind b.kind short.0 also.0 parts.0)
      ∙ ap (λ (k : Key). equal_key kind b.kind && equal_key name k) (keys_one a.name b.name short.1 also.1 parts.1)

  found_in : (entry : Entry) (b c : Bool) (later : Option (List ℕ)) → is_pair kind name entry ≡ b → eqb entry.language language ≡ c → cond b (cond c (Some entry.body) later) later ≡ cond (is_resource kind name language entry) (Some entry.body) later
  found_in entry true true later e f = rw (resource_parts entry, e, f) refl
  found_in entry true false later e f = rw (resource_parts entry, e, f) refl
  found_in entry false c later e f = rw (resource_parts entry, e) refl

  pub pairs_said : (list : List Entry) → AreShort list → Rises name_cmp list → pair_data kind name language (runs same_name list) list ≡ data_of kind name language list
  unfolding runs data_of pair_data body_of
  pairs_said [] short rises = refl
  pairs_said (entry ∷ []) short rises = found_in entry (is_pair kind name entry) (eqb entry.language language) None refl refl
  pairs_said (entry ∷ next ∷ rest) short rises = go (runs same_name (next ∷ rest)) refl (pairs_said (next ∷ rest) short.1 rises.1)
    where
      go : (later : List Run) → runs same_name (next ∷ rest) ≡ later → pair_data kind name language later (next ∷ rest) ≡ data_of kind name language (next ∷ rest) → pair_data kind name language (run_before same_name entry 1 later) (entry ∷ next ∷ rest) ≡ data_of kind name language (entry ∷ next ∷ rest)
      go [] none was = absurd (let empty : next ∷ rest ≡ [] = no_runs same_name (next ∷ rest) none in let no : ⊥ = cc in no)
      go (run ∷ later) some was = by_test (same_name entry run.head) refl
        where
          head : run.head ≡ next
          head = first_head same_name next rest run later some

          more : 1 + run.count ≡ suc run.count
          more = omega arith

          longer : (b c : Bool) → is_pair kind name entry ≡ b → is_pair kind name run.head ≡ b → eqb entry.language language ≡ c → cond b (cond c (Some entry.body) (body_of language (take run.count (next ∷ rest)))) (pair_data kind name language later (drop run.count (next ∷ rest))) ≡ cond (is_resource kind name language entry) (Some entry.body) (data_of kind name language (next ∷ rest))
          longer true c e f g =
              let inner : body_of language (take run.count (next ∷ rest)) ≡ data_of kind name language (next ∷ rest) = sym (ap (λ (b : Bool). cond b (body_of language (take run.count (next ∷ rest))) (pair_data kind name language later (drop run.count (next ∷ rest)))) f) ∙ was in
              ap (λ (o : Option (List ℕ)). cond c (Some entry.body) o) inner ∙ found_in entry true c (data_of kind name language (next ∷ rest)) e g
          longer false c e f g =
              let inner : pair_data kind name language later (drop run.count (next ∷ rest)) ≡ data_of kind name language (next ∷ rest) = sym (ap (λ (b : Bool). cond b (body_of language (take run.count (next ∷ rest))) (pair_data kind name language later (drop run.count (next ∷ rest)))) f) ∙ was in
              inner ∙ found_in entry false c (data_of kind name language (next ∷ rest)) e g

          alone : (b c : Bool) → is_pair kind name entry ≡ b → eqb entry.language language ≡ c → is_eq (name_cmp entry next) ≡ false → cond b (cond c (Some entry.body) None) (pair_data kind name language (run ∷ later) (next ∷ rest)) ≡ cond (is_resource kind name language entry) (Some entry.body) (data_of kind name language (next ∷ rest))
          alone true c e f differ =
              ap (λ (o : Option (List ℕ)). cond c (Some entry.body) o) (sym (none_other entry (next ∷ rest) e (separated name_total entry next rest rises differ)))
              ∙ found_in entry true c (data_of kind name language (next ∷ rest)) e f
          alone false c e f differ = was ∙ found_in entry false c (data_of kind name language (next ∷ rest)) e f

          by_test : (b : Bool) → same_name entry run.head ≡ b → pair_data kind name language (cond b (record { head = entry; count = 1 + run.count } ∷ later) (record { head = entry; count = 1 } ∷ run ∷ later)) (entry ∷ next ∷ rest) ≡ data_of kind name language (entry ∷ next ∷ rest)
          by_test true e =
              let pair : is_pair kind name entry ≡ is_pair kind name run.head = alike entry run.head short.0 (subst (λ (h : Entry). IsShort h.kind × IsShort h.name) (sym head) short.1.0) e in
              rw more (longer (is_pair kind name entry) (eqb entry.language language) refl (sym pair) refl)
          by_test false e =
              alone (is_pair kind name entry) (eqb entry.language language) refl refl (sym (same_is entry next) ∙ ap (same_name entry) (sym head) ∙ e)

  -- ---- names of one type

  -- where one has the type, none of another type is found
  no_pairs : (head : Entry) (names : List Run) (entries : List Entry) → equal_key kind head.kind ≡ true → AllByRecursion (λ other. is_eq (kind_cmp head other) ≡ false) (heads names) → pair_data kind name language names entries ≡ None
  unfolding pair_data
  no_pairs head [] entries is apart = refl
  no_pairs head (run ∷ names) entries is apart =
      let other : equal_key kind run.head.kind ≡ false = one_wanted kind head.kind run.head.kind apart.0 is in
      rw other (no_pairs head names (drop run.count entries) is apart.1)

  pub kinds_said : (names : List Run) (entries : List Entry) → AreShort (heads names) → Rises kind_cmp (heads names) → kind_data kind name language (runs same_kind (heads names)) names entries ≡ pair_data kind name language names entries
  unfolding runs pair_data kind_data named_data
  kinds_said [] entries short rises = refl
  kinds_said (run ∷ []) entries short rises = go (equal_key kind run.head.kind) (equal_key name run.head.name)
    where
      go : (b c : Bool) → cond b (cond c (body_of language (take run.count entries)) None) None ≡ cond (b && c) (body_of language (take run.count entries)) None
      go true c = refl
      go false c = refl
  kinds_said (run ∷ next ∷ names) entries short rises = go (runs same_kind (heads (next ∷ names))) refl (kinds_said (next ∷ names) (drop run.count entries) short.1 rises.1)
    where
      left : List Entry
      left = drop run.count entries

      go : (later : List Run) → runs same_kind (heads (next ∷ names)) ≡ later → kind_data kind name language later (next ∷ names) (drop run.count entries) ≡ pair_data kind name language (next ∷ names) (drop run.count entries) → kind_data kind name language (run_before same_kind run.head 1 later) (run ∷ next ∷ names) entries ≡ pair_data kind name language (run ∷ next ∷ names) entries
      go [] none was = absurd (let empty : heads (next ∷ names) ≡ [] = no_runs same_kind (heads (next ∷ names)) none in let no : ⊥ = cc in no)
      go (first ∷ later) some was = by_test (same_kind run.head first.head) refl
        where
          head : first.head ≡ next.head
          head = first_head same_kind next.head (heads names) first later some

          more : 1 + first.count ≡ suc first.count
          more = omega arith

          behind_all : drop (sum_by run_count (run ∷ take first.count (next ∷ names))) entries ≡ drop (sum_by run_count (take first.count (next ∷ names))) (drop run.count entries)
          behind_all = ap (λ (n : ℕ). drop n entries) (sum_by-cons run_count run (take first.count (next ∷ names))) ∙ sym (drop-drop (sum_by run_count (take first.count (next ∷ names))) run.count entries)

          longer : (b c : Bool) → equal_key kind first.head.kind ≡ b → cond b (cond c (body_of language (take run.count entries)) (named_data name language (take first.count (next ∷ names)) (drop run.count entries))) (kind_data kind name language later (drop first.count (next ∷ names)) (drop (sum_by run_count (run ∷ take first.count (next ∷ names))) entries)) ≡ cond (b && c) (body_of language (take run.count entries)) (pair_data kind name language (next ∷ names) (drop run.count entries))
          longer true c e =
              ap (λ (o : Option (List ℕ)). cond c (body_of language (take run.count entries)) o)
              (sym (ap (λ (b : Bool). cond b (named_data name language (take first.count (next ∷ names)) (drop run.count entries)) (kind_data kind name language later (drop first.count (next ∷ names)) (drop (sum_by run_count (take first.count (next ∷ names))) (drop run.count entries)))) e) ∙ was)
          longer false c e =
              ap (kind_data kind name language later (drop first.count (next ∷ names))) behind_all
              ∙ sym (ap (λ (b : Bool). cond b (named_data name language (take first.count (next ∷ names)) (drop run.count entries)) (kind_data kind name language later (drop first.count (next ∷ names)) (drop (sum_by run_count (take first.count (next ∷ names))) (drop run.count entries)))) e) ∙ was

          one : drop (sum_by run_count (run ∷ [])) entries ≡ drop run.count entries
          one = ap (λ (n : ℕ). drop n entries) (single run.count)
            where
              single : (n : ℕ) → 0 + n ≡ n
              single n = omega arith

          alone : (b c : Bool) → equal_key kind run.head.kind ≡ b → is_eq (kind_cmp run.head next.head) ≡ false → cond b (cond c (body_of language (take run.count entries)) None) (kind_data kind name language (first ∷ later) (next ∷ names) (drop (sum_by run_count (run ∷ [])) entries)) ≡ cond (b && c) (body_of language (take run.count entries)) (pair_data kind name language (next ∷ names) (drop run.count entries))
          alone true c e differ =
              ap (λ (o : Option (List ℕ)). cond c (body_of language (take run.count entries)) o)
              (sym (no_pairs run.head (next ∷ names) (drop run.count entries) e (separated kind_total run.head next.head (heads names) rises differ)))
          alone false c e differ = ap (kind_data kind name language (first ∷ later) (next ∷ names)) one ∙ was

          by_test : (b : Bool) → same_kind run.head first.head ≡ b → kind_data kind name language (cond b (record { head = run.head; count = 1 + first.count } ∷ later) (record { head = run.head; count = 1 } ∷ first ∷ later)) (run ∷ next ∷ names) entries ≡ pair_data kind name language (run ∷ next ∷ names) entries
          by_test true e =
              let kinds : run.head.kind ≡ first.head.kind = keys_one run.head.kind first.head.kind short.0.0 (subst (λ (h : Entry). IsShort h.kind) (sym head) short.1.0.0) e in
              rw more
              (ap (λ (b : Bool). cond b (cond (equal_key name run.head.name) (body_of language (take run.count entries)) (named_data name language (take first.count (next ∷ names)) (drop run.count entries))) (kind_data kind name language later (drop first.count (next ∷ names)) (drop (sum_by run_count (run ∷ take first.count (next ∷ names))) entries))) (ap (equal_key kind) kinds)
              ∙ longer (equal_key kind first.head.kind) (equal_key name run.head.name) refl
              ∙ ap (λ (b : Bool). cond (b && equal_key name run.head.name) (body_of language (take run.count entries)) (pair_data kind name language (next ∷ names) (drop run.count entries))) (sym (ap (equal_key kind) kinds)))
          by_test false e = alone (equal_key kind run.head.kind) (equal_key name run.head.name) refl (ap (same_kind run.head) (sym head) ∙ e)
