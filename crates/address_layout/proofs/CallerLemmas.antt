-- What callers may cite: pieces that were grouped stand once, so that they can be placed, and what a layout says of them.
use Rattle.link_base.proofs.NameTextLemmas.{same_is}
use Rattle.link_base.proofs.NumberLemmas.{eqb_apart}
pub use Rattle.address_layout.proofs.BareLemmas.{layout_bare, size_bare, stand_bare}
pub use Rattle.address_layout.proofs.RowLemmas.{layout_same_rows, size_same_rows}
pub use Rattle.address_layout.proofs.InsideLemmas.{places_ascend, piece_end_inside, initialised_end_inside, all_ends_inside, StandsAt, stands_at, name_fits}
pub use Rattle.address_layout.proofs.RewrittenLemmas.{piece_stands, rewritten_holds, rewritten_can_grow}
pub use Rattle.address_layout.proofs.StandingLemmas.{row_here}
pub use Rattle.address_layout.proofs.ArrangementLemmas.{Aligned, aligned_rows}
pub use Rattle.address_layout.proofs.Theorems.{one_layout, one_image_size}
use Rattle.std.proofs.Common.{◌≡◌, ℕ, zero, suc, ◌<◌, false, ◌&&◌, eqb, IsTrue, List, [], ◌∷◌, ◌++◌, length, get_or, refl, sym, ap, ◌∙◌, subst, inl, inr, arith}
use Rattle.std.specs.List.{All, AllPairs, Any, Contains, IsDistinct}
use Rattle.std.specs.Ordering.{is_lt, nat_cmp, ordering_then}
use Rattle.std.specs.Cmp.{IsTotalOrder, tied_itself}
use Rattle.std.specs.Cmp.Rules.{comparing}
use Rattle.std.specs.declared.cmp.Ordering.{Ordering}
use Rattle.std.specs.declared.cmp.Ordering.TheVariants.{Equal}
pub use Rattle.address_layout.proofs.RewrittenLemmas.{piece_stands, rewritten_holds, rewritten_can_grow}
pub use Rattle.address_layout.proofs.StandingLemmas.{row_here}
pub use Rattle.address_layout.proofs.ArrangementLemmas.{Aligned, aligned_rows}
pub use Rattle.address_layout.proofs.Theorems.{one_layout, one_image_size}
use Rattle.std.proofs.Common.{rules}
use Rattle.std.proofs.lemmas.Bool.{false≢true, eqb-true, and_parts}
use Rattle.std.proofs.lemmas.Cmp.{nat_cmp_total}
use Rattle.std.proofs.lemmas.List.Elements.{All-head, All-tail, All-append, All-nil, All-from_recursion, recursion_from_All, Contains-get_or, Contains-append_left, Contains-append_right, Contains-append_cases}
use Rattle.std.proofs.lemmas.Map.Keys.{IsDistinct-from_apart, IsDistinct-cons}
use Rattle.section_group.specs.declared.piece.OutSection.{OutSection}
use Rattle.section_group.specs.Merging.{same_name}
use Rattle.section_group.specs.SectionOrder.{Input, is_used, section_name, place_cmp, inside_cmp, rank_of, ComesBefore}
use Rattle.section_group.specs.Placement.{goes_to, section_attributes, needs_place, IsSection, IsGrouping}
use Rattle.section_group.proofs.PartLemmas.{used_within}
use Rattle.section_group.proofs.OrderLemmas.{not_before_itself}
use Rattle.address_layout.specs.Layout.{all_pieces, StandOnce}

inside_total : (input : Input) → IsTotalOrder (inside_cmp input)
inside_total input = search (comparing, rules) depth 12

-- ---- a piece that stands in a section

record Home (input : Input) (name : List ℕ) (attributes k : ℕ) : Type 0 where
  used : IsTrue (is_used input k)
  named : section_name input k ≡ name
  same : section_attributes input k ≡ attributes

home : (input : Input) (name : List ℕ) (attributes k : ℕ) → IsTrue (goes_to input name attributes k) → Home input name attributes k
home input name attributes k goes =
    let parts = and_parts (is_used input k) (same_name (section_name input k) name && eqb (section_attributes input k) attributes) goes in
    let more = and_parts (same_name (section_name input k) name) (eqb (section_attributes input k) attributes) parts.1 in
    record {
      used = parts.0;
      named = same_is (section_name input k) name more.0;
      same = eqb-true (section_attributes input k) attributes more.1;
    }

-- no piece stands in two sections
apart_sections : (input : Input) (section other : OutSection) (k : ℕ) → IsSection input section → IsSection input other → ComesBefore input section other → Contains section.pieces.items k → Contains other.pieces.items k → ⊥
apart_sections input section other k a b before here there =
    let ha = home input section.name a.attributes k ((a.members k).0 here) in
    let hb = home input other.name b.attributes k ((b.members k).0 there) in
    let names : section.name ≡ other.name = sym ha.named ∙ hb.named in
    let attributes : a.attributes ≡ b.attributes = sym ha.same ∙ hb.same in
    let across = λ (m : ℕ) (in' : Contains section.pieces.items m).
    (b.members m).1 (subst (λ (name : List ℕ). IsTrue (goes_to input name b.attributes m)) names (subst (λ (n : ℕ). IsTrue (goes_to input section.name n m)) attributes ((a.members m).0 in')))
    in
    let later = before.is_other_first.before before.first (across before.first before.is_first.among) in
    let ranks : nat_cmp (rank_of section.name) (rank_of other.name) ≡ Equal = ap (λ (name : List ℕ). nat_cmp (rank_of section.name) (rank_of name)) (sym names) ∙ tied_itself nat_cmp_total (rank_of section.name) in
    false≢true (sym later ∙ ap (λ (o : Ordering). is_lt (ordering_then o (place_cmp input before.first before.other_first))) (sym ranks) ∙ before.before)

section_distinct : (input : Input) (section : OutSection) → IsSection input section → IsDistinct eqb section.pieces.items
section_distinct input section is =
    IsDistinct-from_apart eqb section.pieces.items (λ i j d lt within.
    eqb_apart (get_or section.pieces.items i d) (get_or section.pieces.items j d) (λ e.
    let less = is.ascending i j d lt within in
    false≢true (sym (not_before_itself (inside_total input) (get_or section.pieces.items i d)) ∙ ap (λ (k : ℕ). is_lt (inside_cmp input (get_or section.pieces.items i d) k)) e ∙ less)))

-- ---- all sections

distinct_both : (xs ys : List ℕ) → IsDistinct eqb xs → IsDistinct eqb ys → ((k : ℕ) → Contains xs k → Contains ys k → ⊥) → IsDistinct eqb (xs ++ ys)
unfolding IsDistinct
distinct_both [] ys a b apart = b
distinct_both (x ∷ xs) ys a b apart =
    let behind : All (λ y. eqb x y ≡ false) ys = λ k d lt. eqb_apart x (get_or ys k d) (λ e. apart x (0, omega arith, refl) (subst (Contains ys) (sym e) (Contains-get_or ys k d lt))) in
    IsDistinct-cons eqb x (xs ++ ys)
    (recursion_from_All (λ y. eqb x y ≡ false) (xs ++ ys) (All-append (λ y. eqb x y ≡ false) xs ys (All-from_recursion (λ y. eqb x y ≡ false) xs a.0) behind))
    (distinct_both xs ys a.1 b (λ k here there. apart k (suc here.0, omega (arith, here.1), here.2) there))

apart_all : (input : Input) (section : OutSection) (others : List OutSection) (k : ℕ) → IsSection input section → All (IsSection input) others → ((j : ℕ) (d : OutSection) → j < length others → ComesBefore input section (get_or others j d)) → Contains section.pieces.items k → Contains (all_pieces others) k → ⊥
apart_all input section [] k is all before here there = absurd (omega (arith, there.1))
apart_all input section (t ∷ ts) k is all before here there =
    elim (Contains-append_cases t.pieces.items (all_pieces ts) k there) [
      | inl now ↦ apart_sections input section t k is (All-head (IsSection input) t ts all) (before 0 t (omega arith)) here now
      | inr later ↦ apart_all input section ts k is (All-tail (IsSection input) t ts all) (λ j d lt. before (suc j) d (omega arith)) here later
    ]

all_distinct : (input : Input) (sections : List OutSection) → All (IsSection input) sections → AllPairs (ComesBefore input) sections → IsDistinct eqb (all_pieces sections)
unfolding IsDistinct
all_distinct input [] all pairs = tt
all_distinct input (s ∷ ss) all pairs =
    let is = All-head (IsSection input) s ss all in
    let rest = All-tail (IsSection input) s ss all in
    distinct_both s.pieces.items (all_pieces ss) (section_distinct input s is)
    (all_distinct input ss rest (λ i j d lt within. pairs (suc i) (suc j) d (omega arith) (omega arith)))
    (λ k here there. apart_all input s ss k is rest (λ j d lt. pairs 0 (suc j) d (omega arith) (omega arith)) here there)

all_within : (input : Input) (sections : List OutSection) → All (IsSection input) sections → All (λ k. k < length input.pieces) (all_pieces sections)
all_within input [] all = All-nil (λ k. k < length input.pieces)
all_within input (s ∷ ss) all =
    let is = All-head (IsSection input) s ss all in
    All-append (λ k. k < length input.pieces) s.pieces.items (all_pieces ss)
    (λ k d lt. used_within input (get_or s.pieces.items k d) (home input s.name is.attributes (get_or s.pieces.items k d) ((is.members (get_or s.pieces.items k d)).0 (Contains-get_or s.pieces.items k d lt))).used)
    (all_within input ss (All-tail (IsSection input) s ss all))

-- what `group` gives can be placed
pub stand_once : (input : Input) (sections : List OutSection) → IsGrouping input sections → StandOnce input.pieces sections
stand_once input sections grouped = record {
  some = λ i d lt. let needed = (grouped.each i d lt).needed in omega (arith, needed.2);
  within = all_within input sections grouped.each;
  once = all_distinct input sections grouped.each grouped.ascending;
}

-- ---- each piece that needs a place has one

in_section : (sections : List OutSection) (k : ℕ) → Any (λ section. Contains section.pieces.items k) sections → Contains (all_pieces sections) k
in_section [] k there = absurd (omega (arith, there.2))
in_section (s ∷ ss) k (zero, section, lt, is, there) =
    Contains-append_left s.pieces.items (all_pieces ss) k (subst (λ (x : OutSection). Contains x.pieces.items k) (sym is) there)
in_section (s ∷ ss) k (suc i, section, lt, is, there) =
    Contains-append_right s.pieces.items (all_pieces ss) k (in_section ss k (i, section, omega (arith, lt), is, there))

-- a used piece that has bytes or is named stands in a section
pub stands : (input : Input) (sections : List OutSection) (k : ℕ) → IsGrouping input sections → IsTrue (is_used input k) → IsTrue (needs_place input k) → Contains (all_pieces sections) k
stands input sections k grouped used needs = in_section sections k (grouped.complete k used needs)
