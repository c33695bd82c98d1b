-- Runs of resources, one resource after another.
use Rattle.std.proofs.Common.{◌≡◌, ℕ, ◌+◌, ◌<◌, ◌≤◌, Bool, true, false, cond, List, [], ◌∷◌, ◌++◌, length, drop, get_or, map, refl, sym, ap, ◌∙◌, append_assoc, add-one, drop-cons, arith}
use Rattle.std.specs.Prelude.{◌&&◌}
use Rattle.std.specs.Ordering.{is_eq}
use Rattle.std.specs.declared.cmp.Ordering.{Ordering}
use Rattle.std.specs.declared.cmp.Ordering.TheVariants.{Less, Equal, Greater}
use Rattle.std.proofs.lemmas.Bool.{false≢true, and_parts}
use Rattle.std.proofs.lemmas.List.{drop_all}
use Rattle.link_base.specs.declared.kinds.resource.ResName.TheVariants as name
use Rattle.res_merge.specs.declared.resource.Resource.{Resource}
use Rattle.res_merge.specs.Entries.{Key, Entry, entry_of}
use Rattle.res_merge.specs.Order.{key_cmp, same_key}
use Rattle.res_merge.specs.Runs.{Run, run_before, runs}
use Rattle.res_merge.specs.Levels.{same_at}
use Rattle.res_merge.specs.declared.runs.Level.{Level}
use Rattle.res_merge.specs.declared.runs.Level.TheVariants.{Types, Names}
use Rattle.res_merge.proofs.OrderLemmas.{key_total}

equal : (r : Ordering) → is_eq r ≡ true → r ≡ Equal
equal Less e = absurd (false≢true e)
equal Equal e = refl
equal Greater e = absurd (false≢true e)

-- what is the same as a key is the same as what that is the same as
keys_agree : (left right other : Key) → same_key left right ≡ true → same_key right other ≡ same_key left other
keys_agree left right other e = ap is_eq (sym (key_total.congr left right other (equal (key_cmp left right) e)))

pub agree : (level : Level) (left right other : Entry) → same_at level left right ≡ true → same_at level right other ≡ same_at level left other
agree Types left right other e = keys_agree left.kind right.kind other.kind e
agree Names left right other e =
    let both = and_parts (same_key left.kind right.kind) (same_key left.name right.name) e in
    ap (λ (b : Bool). b && same_key right.name other.name) (keys_agree left.kind right.kind other.kind both.0)
    ∙ ap (λ (b : Bool). same_key left.kind other.kind && b) (keys_agree left.name right.name other.name both.1)

-- one more resource of a run
longer : (same : Entry → Entry → Bool) (head next : Entry) (count : ℕ) (rest : List Run) → ((other : Entry) → same next other ≡ same head other) → same head next ≡ true → run_before same head count (run_before same next 1 rest) ≡ run_before same head (count + 1) rest
longer same head next count [] agrees e = rw e refl
longer same head next count (run ∷ rest) agrees e = by_test (same next run.head) refl
  where
    by_test : (b : Bool) → same next run.head ≡ b → run_before same head count (cond b (record { head = next; count = 1 + run.count } ∷ rest) (record { head = next; count = 1 } ∷ run ∷ rest)) ≡ run_before same head (count + 1) (run ∷ rest)
    by_test true is =
        let total : count + (1 + run.count) ≡ count + 1 + run.count = omega arith in
        let also : same head run.head ≡ true = sym (agrees run.head) ∙ is in
        rw (e, also, total) refl
    by_test false is =
        let also : same head run.head ≡ false = sym (agrees run.head) ∙ is in
        rw (e, also) refl

-- the first resource of another
ended : (same : Entry → Entry → Bool) (head next : Entry) (count : ℕ) (rest : List Run) → same head next ≡ false → run_before same head count (run_before same next 1 rest) ≡ record { head = head; count = count } ∷ run_before same next 1 rest
ended same head next count [] e = rw e refl
ended same head next count (run ∷ rest) e = by_test (same next run.head)
  where
    by_test : (b : Bool) → run_before same head count (cond b (record { head = next; count = 1 + run.count } ∷ rest) (record { head = next; count = 1 } ∷ run ∷ rest)) ≡ record { head = head; count = count } ∷ cond b (record { head = next; count = 1 + run.count } ∷ rest) (record { head = next; count = 1 } ∷ run ∷ rest)
    by_test true = rw e refl
    by_test false = rw e refl

-- ---- a walk along resources

pub runs_begin : (same : Entry → Entry → Bool) (head : Entry) (rest : List Entry) → [] ++ run_before same head 1 (runs same rest) ≡ runs same (head ∷ rest)
unfolding runs
runs_begin same head rest = refl

pub runs_none : (same : Entry → Entry → Bool) → [] ≡ runs same []
unfolding runs
runs_none same = refl

pub same_step : (level : Level) (found all : List Run) (head next : Entry) (count : ℕ) (rest : List Entry) → found ++ run_before (same_at level) head count (runs (same_at level) (next ∷ rest)) ≡ all → same_at level head next ≡ true → found ++ run_before (same_at level) head (count + 1) (runs (same_at level) rest) ≡ all
unfolding runs
same_step level found all head next count rest was e =
    ap (λ (later : List Run). found ++ later) (sym (longer (same_at level) head next count (runs (same_at level) rest) (λ other. agree level head next other e) e)) ∙ was

pub other_step : (level : Level) (found all : List Run) (head next : Entry) (count : ℕ) (rest : List Entry) → found ++ run_before (same_at level) head count (runs (same_at level) (next ∷ rest)) ≡ all → same_at level head next ≡ false → (found ++ record { head = head; count = count } ∷ []) ++ run_before (same_at level) next 1 (runs (same_at level) rest) ≡ all
unfolding runs
other_step level found all head next count rest was e =
    append_assoc found (record { head = head; count = count } ∷ []) (run_before (same_at level) next 1 (runs (same_at level) rest))
    ∙ ap (λ (later : List Run). found ++ later) (sym (ended (same_at level) head next count (runs (same_at level) rest) e)) ∙ was

pub end_runs : (same : Entry → Entry → Bool) (found all : List Run) (head : Entry) (count : ℕ) → found ++ run_before same head count (runs same []) ≡ all → found ++ record { head = head; count = count } ∷ [] ≡ all
unfolding runs
end_runs same found all head count was = was

-- ---- the resources that are left

abbrev pub any_resource : Resource
any_resource = record { kind = name.Number 0; name = name.Number 0; language = 0; body = record { ref_ptr = (0, 0); now = [] } }

pub next_said : (list : List Resource) (k : ℕ) → k < length list → map entry_of (drop k list) ≡ entry_of (get_or list k any_resource) ∷ map entry_of (drop (k + 1) list)
next_said list k lt =
    ap (map entry_of) (drop-cons list k any_resource lt)
    ∙ ap (λ (i : ℕ). entry_of (get_or list k any_resource) ∷ map entry_of (drop i list)) (sym (add-one k))

pub none_said : (list : List Resource) (k : ℕ) → length list ≤ k → map entry_of (drop k list) ≡ []
none_said list k le = ap (map entry_of) (drop_all k list le)
