-- What is whole in a directory, by its tests that do not stand.
use Rattle.std.proofs.Common.{◌≡◌, ℕ, ◌+◌, ◌<◌, ◌≤◌, Bool, true, false, ltb, List, length, sym}
use Rattle.std.proofs.lemmas.Bool.{false≢true, ltb-true, leb-true, and_parts, ltb-false, not-false}
use Rattle.link_base.specs.Bytes.{all_below}
use Rattle.link_base.proofs.CallerLemmas.{all_below-each}
use Rattle.link_base.proofs.TestLemmas.{or_left, or_right}
use Rattle.lib_reader.specs.FirstDirectory.{first_names_place, first_table_leaves}
use Rattle.lib_reader.specs.SecondDirectory.{member_count, name_count_place, second_count, member_index, second_names_place, second_counts_leave, has_member, second_table_leaves}
use Rattle.lib_reader.specs.Listing.{table_leaves}

-- ---- the first linker member

pub record FirstTable (directory : List ℕ) : Type 0 where
  pub count : 4 ≤ length directory
  pub offsets : first_names_place directory ≤ length directory

pub first_whole : (directory : List ℕ) → first_table_leaves directory ≡ false → FirstTable directory
unfolding first_table_leaves
first_whole directory e = record {
  count = ltb-false (length directory) 4 (or_left _ _ e);
  offsets = ltb-false (length directory) (first_names_place directory) (or_right (ltb (length directory) 4) _ e);
}

-- ---- the second linker member

pub record SecondCounts (directory : List ℕ) : Type 0 where
  pub count : 4 ≤ length directory
  pub name_count : name_count_place directory + 4 ≤ length directory
  pub indices : second_names_place directory ≤ length directory

pub second_whole : (directory : List ℕ) → second_counts_leave directory ≡ false → SecondCounts directory
unfolding second_counts_leave
second_whole directory e =
    let later = or_right (ltb (length directory) 4) _ e in
    record {
      count = ltb-false (length directory) 4 (or_left _ _ e);
      name_count = ltb-false (length directory) (name_count_place directory + 4) (or_left _ _ later);
      indices = ltb-false (length directory) (second_names_place directory) (or_right (ltb (length directory) (name_count_place directory + 4)) _ later);
    }

pub record SecondTable (directory : List ℕ) : Type 0 where
  pub counts : second_counts_leave directory ≡ false
  pub members : all_below (second_count directory) (has_member directory) ≡ true

pub second_table : (directory : List ℕ) → second_table_leaves directory ≡ false → SecondTable directory
unfolding second_table_leaves
second_table directory e = record {
  counts = or_left (second_counts_leave directory) _ e;
  members = not-false _ (or_right (second_counts_leave directory) _ e);
}

-- the index of a name, and the offset that it refers to
pub record MemberInside (directory : List ℕ) (index : ℕ) : Type 0 where
  pub first : 0 < member_index directory index
  pub last : member_index directory index ≤ member_count directory
  pub whole : name_count_place directory + 4 ≤ length directory

pub member_inside : (directory : List ℕ) (index : ℕ) → second_table_leaves directory ≡ false → index < second_count directory → MemberInside directory index
unfolding has_member
member_inside directory index e lt =
    let table = second_table directory e in
    let both = and_parts (ltb 0 (member_index directory index)) _ (all_below-each (second_count directory) (has_member directory) table.members index lt) in
    record {
      first = ltb-true 0 (member_index directory index) both.0;
      last = leb-true (member_index directory index) (member_count directory) both.1;
      whole = (second_whole directory table.counts).name_count;
    }

-- ---- either of them

-- what is whole in a directory of the second form, and that it is one
pub record LaterForm (directory : List ℕ) : Type 0 where
  pub count : 4 ≤ length directory
  pub name_count : name_count_place directory + 4 ≤ length directory
  pub names : second_names_place directory ≤ length directory
  pub table : second_table_leaves directory ≡ false

pub later_form : (is_second : Bool) (directory : List ℕ) → is_second ≡ true → table_leaves is_second directory ≡ false → LaterForm directory
unfolding table_leaves
later_form false directory form e = absurd (false≢true form)
later_form true directory form e =
    let whole = second_whole directory (second_table directory e).counts in
    record { count = whole.count; name_count = whole.name_count; names = whole.indices; table = e }

pub record FirstForm (directory : List ℕ) : Type 0 where
  pub count : 4 ≤ length directory
  pub names : first_names_place directory ≤ length directory
  pub table : first_table_leaves directory ≡ false

pub first_form : (is_second : Bool) (directory : List ℕ) → is_second ≡ false → table_leaves is_second directory ≡ false → FirstForm directory
unfolding table_leaves
first_form true directory form e = absurd (false≢true (sym form))
first_form false directory form e =
    let whole = first_whole directory e in
    record { count = whole.count; names = whole.offsets; table = e }
