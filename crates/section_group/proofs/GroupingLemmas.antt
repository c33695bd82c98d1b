-- Sections that are built from what was gathered are a grouping.
use Rattle.std.proofs.Common.{◌≡◌, ℕ, ◌<◌, Bool, true, false, ◌||◌, IsTrue, List, [], ◌∷◌, zero, suc, length, get_or, Vec, refl, sym, ap, ◌∙◌, subst, inl, inr, arith}
use Rattle.std.specs.List.{Any, Contains, list_any}
use Rattle.std.specs.Ordering.{is_lt, nat_cmp, ordering_then}
use Rattle.std.specs.Cmp.{tied_itself}
use Rattle.std.proofs.lemmas.Cmp.{nat_cmp_total}
use Rattle.std.specs.declared.cmp.Ordering.{Ordering}
use Rattle.std.specs.declared.cmp.Ordering.TheVariants.{Less, Equal, Greater}
use Rattle.std.specs.declared.alloc.Global.{Global}
use Rattle.std.proofs.lemmas.Bool.{false≢true, or_right}
use Rattle.std.proofs.lemmas.List.{get_or_default}
use Rattle.std.proofs.lemmas.List.Sorted.{Contains-permutation, IsPermutation-sym}
use Rattle.std.proofs.lemmas.Option.{slice_get_cases}
use Rattle.link_base.proofs.OrderingLemmas.{one_number}
use Rattle.section_group.specs.declared.homes.Home.{Home}
use Rattle.section_group.specs.declared.key.SectionKey.{SectionKey}
use Rattle.section_group.specs.declared.piece.OutSection.{OutSection}
use Rattle.section_group.specs.SectionOrder.{Input, piece_at, is_used, place_cmp, rank_of, IsFirstPiece, ComesBefore}
use Rattle.section_group.specs.Placement.{goes_to, needs_place, IsSection, IsGrouping}
use Rattle.section_group.specs.Sections.{Gathers, OrdersSections, IsKey, IsBuilt, AreBuilt, home_at, pieces_at}
use Rattle.section_group.proofs.OrderLemmas.{then_level}

-- ---- some element passes

pub any_there : (test : ℕ → Bool) (xs : List ℕ) → list_any test xs ≡ true → (x : ℕ) × Contains xs x × (test x ≡ true)
any_there test [] e = absurd (false≢true e)
any_there test (x ∷ xs) e = go (test x) refl e (any_there test xs)
  where
    go : (b : Bool) → test x ≡ b → (b || list_any test xs) ≡ true → (list_any test xs ≡ true → (y : ℕ) × Contains xs y × (test y ≡ true)) → (y : ℕ) × Contains (x ∷ xs) y × (test y ≡ true)
    go true p h rest = (x, (0, omega arith, refl), p)
    go false p h rest = let found = rest h in (found.0, (suc found.1.0, omega (arith, found.1.1), found.1.2), found.2)

pub any_passes : (test : ℕ → Bool) (xs : List ℕ) (k : ℕ) (y : ℕ) → k < length xs → get_or xs k y ≡ y → test y ≡ true → list_any test xs ≡ true
any_passes test [] k y lt is pass = absurd (omega arith)
any_passes test (x ∷ xs) zero y lt is pass = ap (λ (b : Bool). b || list_any test xs) (ap test is ∙ pass)
any_passes test (x ∷ xs) (suc k) y lt is pass = or_right (test x) (list_any test xs) (any_passes test xs k y (omega arith) is pass)

-- ---- keys

then_assoc : (a b c : Ordering) → ordering_then (ordering_then a b) c ≡ ordering_then a (ordering_then b c)
then_assoc Less b c = refl
then_assoc Equal b c = refl
then_assoc Greater b c = refl

-- the last key does not decide where those before it are not level
last_drops : (r s : Ordering) → is_lt (ordering_then r s) ≡ true → (r ≡ Equal → s ≡ Equal) → is_lt r ≡ true
last_drops Less s e h = refl
last_drops Equal s e h = absurd (false≢true (sym (ap is_lt (h refl)) ∙ e))
last_drops Greater s e h = e

first_key : SectionKey
first_key = record { rank = 0; «module» = 0; number = 0; index = 0; section = 0 }

pub is_grouping : (input : Input) (homes : List Home) (members : List (Vec ℕ Global)) (keys : List SectionKey) (sections : List OutSection) → Gathers input homes members → OrdersSections input homes members keys → AreBuilt input homes members keys (length keys) sections → IsGrouping input sections
is_grouping input homes members keys sections gathered ordered are = record {
  each = λ i d lt. section_is i d (omega (arith, are.same_length));
  complete = λ k used needs. complete k used needs;
  ascending = λ i j d lt within. comes_before i j d lt (omega (arith, are.same_length));
}
  where
    key : ℕ → SectionKey
    key i = get_or keys i first_key

    home : ℕ → Home
    home i = home_at homes (key i).section

    pieces : ℕ → List ℕ
    pieces i = pieces_at members (key i).section

    is_key : (i : ℕ) → i < length keys → IsKey input homes members (key i)
    is_key i lt = ordered.each i first_key lt

    built : (i : ℕ) (d : OutSection) → i < length keys → IsBuilt input (home i) (pieces i) (get_or sections i d)
    built i d lt = are.each i first_key d lt

    moved : (i : ℕ) (d : OutSection) (k : ℕ) → i < length keys → Contains (pieces i) k → Contains (get_or sections i d).pieces.items k
    moved i d k lt there = Contains-permutation (pieces i) (get_or sections i d).pieces.items k (built i d lt).permutation there

    back : (i : ℕ) (d : OutSection) (k : ℕ) → i < length keys → Contains (get_or sections i d).pieces.items k → Contains (pieces i) k
    back i d k lt there = Contains-permutation (get_or sections i d).pieces.items (pieces i) k (IsPermutation-sym (pieces i) (get_or sections i d).pieces.items (built i d lt).permutation) there

    section_is : (i : ℕ) (d : OutSection) → i < length keys → IsSection input (get_or sections i d)
    section_is i d lt =
        let section = get_or sections i d in
        let b = built i d lt in
        let exact = λ (k : ℕ). gathered.exact (key i).section k (is_key i lt).within in
        let found = any_there (needs_place input) (pieces i) (is_key i lt).needed in
        let there = moved i d found.0 lt found.1 in
        record {
          attributes = (home i).attributes;
          members = λ k. (
            λ in'. ap (λ (name : List ℕ). goes_to input name (home i).attributes k) b.named ∙ (exact k).0 (back i d k lt in'),
            λ goes. moved i d k lt ((exact k).1 (ap (λ (name : List ℕ). goes_to input name (home i).attributes k) (sym b.named) ∙ goes)),
          );
          ascending = b.ascending;
          needed = (there.0, found.0, there.1, there.2, found.2);
          flags = b.flags;
        }

    complete : (k : ℕ) → IsTrue (is_used input k) → IsTrue (needs_place input k) → Any (λ section. Contains section.pieces.items k) sections
    complete k used needs =
        let g = gathered.complete k used in
        let needed = any_passes (needs_place input) (pieces_at members g.0) g.2.0 k g.2.1 g.2.2 needs in
        let at = ordered.complete g.0 g.1 needed in
        let same : (key at.0).section ≡ g.0 = ap (λ (a : SectionKey). a.section) (get_or_default keys at.0 first_key at.1 at.2 ∙ at.3) ∙ at.4 in
        let in' = subst (λ (section : ℕ). Contains (pieces_at members section) k) (sym same) g.2 in
        elim (slice_get_cases sections at.0).1 [
          | inl there ↦ (at.0, there.0, there.1, there.3, subst (λ (s : OutSection). Contains s.pieces.items k) there.3 (moved at.0 there.0 k at.2 in'))
          | inr past ↦ absurd (omega (arith, past.0, are.same_length, at.2))
        ]

    first_of : (i : ℕ) (d : OutSection) → i < length keys → IsFirstPiece input (get_or sections i d).pieces.items (key i).index
    first_of i d lt =
        let first = (is_key i lt).first in
        record {
          among = moved i d (key i).index lt first.among;
          before = λ k there. first.before k (back i d k lt there);
        }

    regroup : (a b c d e : Ordering) → ordering_then a (ordering_then b (ordering_then c (ordering_then d e))) ≡ ordering_then (ordering_then a (ordering_then b (ordering_then c d))) e
    regroup a b c d e =
        ap (λ (o : Ordering). ordering_then a (ordering_then b o)) (sym (then_assoc c d e)) ∙ ap (ordering_then a) (sym (then_assoc b (ordering_then c d) e)) ∙ sym (then_assoc a (ordering_then b (ordering_then c d)) e)

    level_at : (i j : ℕ) → i < length keys → j < length keys → ordering_then (nat_cmp (key i).rank (key j).rank) (ordering_then (nat_cmp (key i).module (key j).module) (ordering_then (nat_cmp (key i).number (key j).number) (nat_cmp (key i).index (key j).index))) ≡ Equal → nat_cmp (key i).section (key j).section ≡ Equal
    level_at i j lt lt' e =
        let index = one_number (key i).index (key j).index (then_level (nat_cmp (key i).number (key j).number) _ (then_level (nat_cmp (key i).module (key j).module) _ (then_level (nat_cmp (key i).rank (key j).rank) _ e))) in
        let here = (is_key i lt).first.among in
        let there = subst (Contains (pieces j)) (sym index) (is_key j lt').first.among in
        let same = gathered.apart (key i).section (key j).section (key i).index (is_key i lt).within (is_key j lt').within here there in
        ap (nat_cmp (key i).section) (sym same) ∙ tied_itself nat_cmp_total (key i).section

    comes_before : (i j : ℕ) (d : OutSection) → i < j → j < length keys → ComesBefore input (get_or sections i d) (get_or sections j d)
    comes_before i j d lt within =
        let in' : i < length keys = omega arith in
        let a = key i in
        let b = key j in
        let less = sym (ap is_lt (regroup (nat_cmp a.rank b.rank) (nat_cmp a.module b.module) (nat_cmp a.number b.number) (nat_cmp a.index b.index) (nat_cmp a.section b.section))) ∙ ordered.ascending i j first_key lt within in
        let drops = last_drops (ordering_then (nat_cmp a.rank b.rank) (ordering_then (nat_cmp a.module b.module) (ordering_then (nat_cmp a.number b.number) (nat_cmp a.index b.index)))) (nat_cmp a.section b.section) less (level_at i j in' within) in
        let ka = is_key i in' in
        let kb = is_key j within in
        let rank_a = ka.rank ∙ ap rank_of (sym (built i d in').named) in
        let rank_b = kb.rank ∙ ap rank_of (sym (built j d within).named) in
        record {
          first = a.index;
          other_first = b.index;
          is_first = first_of i d in';
          is_other_first = first_of j d within;
          before =
              subst (λ (n : ℕ). is_lt (ordering_then (nat_cmp n (rank_of (get_or sections j d).name)) (place_cmp input a.index b.index)) ≡ true) rank_a
              (subst (λ (n : ℕ). is_lt (ordering_then (nat_cmp a.rank n) (place_cmp input a.index b.index)) ≡ true) rank_b
              (subst (λ (n : ℕ). is_lt (ordering_then (nat_cmp a.rank b.rank) (ordering_then (nat_cmp n (piece_at input b.index).module) (ordering_then (nat_cmp (piece_at input a.index).number (piece_at input b.index).number) (nat_cmp a.index b.index)))) ≡ true) ka.of_module
              (subst (λ (n : ℕ). is_lt (ordering_then (nat_cmp a.rank b.rank) (ordering_then (nat_cmp a.module n) (ordering_then (nat_cmp (piece_at input a.index).number (piece_at input b.index).number) (nat_cmp a.index b.index)))) ≡ true) kb.of_module
              (subst (λ (n : ℕ). is_lt (ordering_then (nat_cmp a.rank b.rank) (ordering_then (nat_cmp a.module b.module) (ordering_then (nat_cmp n (piece_at input b.index).number) (nat_cmp a.index b.index)))) ≡ true) ka.of_number
              (subst (λ (n : ℕ). is_lt (ordering_then (nat_cmp a.rank b.rank) (ordering_then (nat_cmp a.module b.module) (ordering_then (nat_cmp a.number n) (nat_cmp a.index b.index)))) ≡ true) kb.of_number
              drops)))));
        }
