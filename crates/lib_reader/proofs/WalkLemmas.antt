-- The walk, one member on: the directories and the long names among one more member, and where the walk ends.
use Rattle.std.proofs.Common.{Bor, ◌≡◌, ℕ, ◌+◌, Bool, true, false, cond, ◌&&◌, List, Option, Some, None, option_map, refl, sym, ap, ◌∙◌, inl, inr}
use Rattle.std.specs.Prelude.{is_some, is_none}
use Rattle.std.specs.Option.{option_copied}
use Rattle.std.proofs.lemmas.Bool.{false≢true, and_left}
use Rattle.std.proofs.lemmas.Bool.Decides.{eqb_tells}
use Rattle.std.specs.Option.{option_or}
use Rattle.link_base.specs.Bytes.{first_below}
use Rattle.lib_reader.specs.ArchiveMember.{name_text, data_of}
use Rattle.lib_reader.specs.Listing.{Entry, directory_is_bad, listings_in}
use Rattle.lib_reader.specs.LibraryWalk.{header_at, text_at_position, data_at_position, is_directory, first_directory, is_later_directory, second_directory, is_long_names, first_long_names, long_names_data, directory_fails, has_directory_fault, first_listed, second_listed}
use Rattle.link_base.proofs.RefusalLemmas.{or_none}
use Rattle.link_base.proofs.CallerLemmas.{first_below-next}

-- ---- the least position that passes, one member on

passed_by : (n : ℕ) (test : ℕ → Bool) → test n ≡ false → first_below (n + 1) test ≡ first_below n test
passed_by n test fails =
    first_below-next n test
    ∙ (ap (λ (b : Bool). option_or (first_below n test) (cond b (Some n) None)) fails ∙ or_none (first_below n test))

found_by : (n : ℕ) (test : ℕ → Bool) (b : Bool) → test n ≡ b → first_below (n + 1) test ≡ option_or (first_below n test) (cond b (Some n) None)
found_by n test b is =
    first_below-next n test ∙ ap (λ (b : Bool). option_or (first_below n test) (cond b (Some n) None)) is

-- ---- a member that is a directory

none_mapped : {A : Type 0} (f : ℕ → A) (x : Option ℕ) → is_none (option_map f x) ≡ is_none x
none_mapped f None = refl
none_mapped f (Some k) = refl

pub directory_judged : (bytes : List ℕ) (position : ℕ) (content : List ℕ) (first second : Option (List Entry)) → first ≡ first_listed bytes position → second ≡ second_listed bytes position → content ≡ data_at_position bytes position → is_directory bytes position ≡ true → cond (is_none first) (directory_is_bad false content) (is_none second && directory_is_bad true content) ≡ has_directory_fault bytes position
unfolding has_directory_fault directory_fails
directory_judged bytes position content first second one two is directory =
    rw (one, two, is, directory, none_mapped (λ k. listings_in false (data_at_position bytes k)) (first_directory bytes position), none_mapped (λ k. listings_in true (data_at_position bytes k)) (second_directory bytes position)) refl

first_chosen : {A : Type 0} (f : ℕ → A) (x : Option ℕ) (n : ℕ) → cond (is_none (option_map f x)) (Some (f n)) (option_map f x) ≡ option_map f (option_or x (Some n))
first_chosen f None n = refl
first_chosen f (Some k) n = refl

pub directory_first : (bytes : List ℕ) (position : ℕ) (content : List ℕ) (first : Option (List Entry)) → first ≡ first_listed bytes position → content ≡ data_at_position bytes position → is_directory bytes position ≡ true → cond (is_none first) (Some (listings_in false content)) first ≡ first_listed bytes (position + 1)
unfolding first_directory
directory_first bytes position content first one is directory =
    let f = λ (k : ℕ). listings_in false (data_at_position bytes k) in
    rw (one, is) (first_chosen f (first_below position (is_directory bytes)) position ∙ ap (option_map f) (sym (found_by position (is_directory bytes) true directory)))

second_chosen : {A B : Type 0} (f : ℕ → A) (g : ℕ → B) (x y : Option ℕ) (n : ℕ) → cond (is_some (option_map f x) && is_none (option_map g y)) (Some (g n)) (option_map g y) ≡ option_map g (option_or y (cond (is_some x) (Some n) None))
second_chosen f g None None n = refl
second_chosen f g None (Some j) n = refl
second_chosen f g (Some k) None n = refl
second_chosen f g (Some k) (Some j) n = refl

later_is : (b c : Bool) → b ≡ true → (b && c) ≡ c
later_is b c is = rw is refl

pub directory_second : (bytes : List ℕ) (position : ℕ) (content : List ℕ) (first second : Option (List Entry)) → first ≡ first_listed bytes position → second ≡ second_listed bytes position → content ≡ data_at_position bytes position → is_directory bytes position ≡ true → cond (is_some first && is_none second) (Some (listings_in true content)) second ≡ second_listed bytes (position + 1)
unfolding second_directory
directory_second bytes position content first second one two is directory =
    let f = λ (k : ℕ). listings_in false (data_at_position bytes k) in
    let g = λ (k : ℕ). listings_in true (data_at_position bytes k) in
    rw (one, two, is)
    (second_chosen f g (first_directory bytes position) (first_below position (is_later_directory bytes)) position
    ∙ ap (option_map g) (sym (found_by position (is_later_directory bytes) (is_some (first_directory bytes position)) (later_is (is_directory bytes position) _ directory))))

-- ---- a member that is none

pub other_judged : (bytes : List ℕ) (position : ℕ) → is_directory bytes position ≡ false → (position ≡ 0 → ⊥) → has_directory_fault bytes position ≡ false
unfolding has_directory_fault
other_judged bytes position other some =
    elim (eqb_tells position 0) [
      | inl is ↦ absurd (some is.1)
      | inr not_zero ↦ rw (other, not_zero.0) refl
    ]

pub other_first_judged : (bytes : List ℕ) (position : ℕ) → is_directory bytes position ≡ false → position ≡ 0 → has_directory_fault bytes position ≡ true
unfolding has_directory_fault
other_first_judged bytes position other none = rw (other, none) refl

pub other_first : (bytes : List ℕ) (position : ℕ) → is_directory bytes position ≡ false → first_listed bytes (position + 1) ≡ first_listed bytes position
unfolding first_directory
other_first bytes position other =
    ap (option_map (λ k. listings_in false (data_at_position bytes k))) (passed_by position (is_directory bytes) other)

pub other_second : (bytes : List ℕ) (position : ℕ) → is_directory bytes position ≡ false → second_listed bytes (position + 1) ≡ second_listed bytes position
unfolding second_directory
other_second bytes position other =
    ap (option_map (λ k. listings_in true (data_at_position bytes k)))
    (passed_by position (is_later_directory bytes) (and_left (is_directory bytes position) _ other))

-- ---- long names

pub long_names_passed : (bytes : List ℕ) (position : ℕ) → is_long_names bytes position ≡ false → long_names_data bytes (position + 1) ≡ long_names_data bytes position
unfolding first_long_names
long_names_passed bytes position other = ap (option_map (data_at_position bytes)) (passed_by position (is_long_names bytes) other)

kept_first : {A : Type 0} (f : ℕ → A) (x : Option ℕ) (b : Bool) (n : ℕ) → is_some (option_map f x) ≡ true → option_map f (option_or x (cond b (Some n) None)) ≡ option_map f x
kept_first f None b n some = absurd (false≢true some)
kept_first f (Some k) b n some = refl

made_first : {A : Type 0} (f : ℕ → A) (x : Option ℕ) (n : ℕ) → is_some (option_map f x) ≡ false → option_map f (option_or x (Some n)) ≡ Some (f n)
made_first f None n none = refl
made_first f (Some k) n none = absurd (false≢true (sym none))

pub long_names_kept : (bytes : List ℕ) (position : ℕ) → is_some (long_names_data bytes position) ≡ true → long_names_data bytes (position + 1) ≡ long_names_data bytes position
unfolding first_long_names
long_names_kept bytes position some =
    ap (option_map (data_at_position bytes)) (found_by position (is_long_names bytes) (is_long_names bytes position) refl)
    ∙ kept_first (data_at_position bytes) (first_below position (is_long_names bytes)) (is_long_names bytes position) position some

pub long_names_found : (bytes : List ℕ) (position : ℕ) → is_long_names bytes position ≡ true → is_some (long_names_data bytes position) ≡ false → long_names_data bytes (position + 1) ≡ Some (data_at_position bytes position)
unfolding first_long_names
long_names_found bytes position here none =
    ap (option_map (data_at_position bytes)) (found_by position (is_long_names bytes) true here)
    ∙ made_first (data_at_position bytes) (first_below position (is_long_names bytes)) position none

-- ---- what is read at a place is what stands at its position

pub text_tested : (bytes : List ℕ) (at position : ℕ) (text : List ℕ) (test : List ℕ → Bool) (b : Bool) → at ≡ header_at bytes position → text ≡ name_text bytes at → b ≡ test text → test (text_at_position bytes position) ≡ b
text_tested bytes at position text test b place is tested =
    ap (λ (k : ℕ). test (name_text bytes k)) (sym place) ∙ (ap test (sym is) ∙ sym tested)

pub data_read : (bytes : List ℕ) (at position : ℕ) (content : List ℕ) → at ≡ header_at bytes position → content ≡ data_of bytes at → content ≡ data_at_position bytes position
unfolding data_at_position
data_read bytes at position content place is = is ∙ ap (data_of bytes) place

-- a slice that is there is there to read
pub copied_some : (found : Option (Bor (List ℕ))) → is_some (option_copied found) ≡ is_some found
copied_some None = refl
copied_some (Some text) = refl
