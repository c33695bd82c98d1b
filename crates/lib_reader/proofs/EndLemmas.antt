-- Where the walk ends, and what a library is by its end.
use Rattle.std.proofs.Common.{◌≡◌, ℕ, ◌+◌, ◌<◌, ◌≤◌, Bool, true, false, ◌||◌, not, leb, List, [], length, Some, None, unwrap_or, refl, sym, ap, ◌∙◌, add-one, le-leb}
use Rattle.std.proofs.Math.Bool.{or-true}
use Rattle.std.specs.Prelude.{is_some}
use Rattle.std.proofs.lemmas.Bool.{lt-leb}
use Rattle.link_base.specs.Bytes.{first_below}
use Rattle.link_base.proofs.CallerLemmas.{first_below-found, first_below-more}
use Rattle.link_base.proofs.TestLemmas.{or_left}
use Rattle.link_base.specs.declared.kinds.library.LibFault.TheVariants as kind
use Rattle.lib_reader.specs.declared.error.LibError.{LibError}
use Rattle.lib_reader.specs.ArchiveMember.{next_header}
use Rattle.lib_reader.specs.MemberName.{names_directory, names_long_names, names_other, names_special}
use Rattle.lib_reader.specs.LibraryWalk.{has_magic, header_at, text_at_position, is_past_end, is_directory, position_fault, ends_at, ends_walk, walk_end, end_fault, library_fault, long_names_of, long_names_among, first_listed, second_listed, listing_of}
use Rattle.link_base.proofs.RefusalLemmas.{or_none}

-- ---- the next header, and the first

pub header_next : (bytes : List ℕ) (at position : ℕ) → at ≡ header_at bytes position → next_header bytes at ≡ header_at bytes (position + 1)
unfolding header_at
header_next bytes at position place = ap (next_header bytes) place ∙ rw add-one refl

-- ---- a position at which the walk ends, or does not

-- a member that stands in the file, at which nothing is wrong, and behind which the walk goes on
pub goes_behind : (bytes : List ℕ) (at position : ℕ) → at ≡ header_at bytes position → at < length bytes → position_fault bytes position ≡ None → names_special (text_at_position bytes position) ≡ true → first_below position (ends_walk bytes) ≡ None → first_below (position + 1) (ends_walk bytes) ≡ None
unfolding ends_walk ends_at
goes_behind bytes at position place lt none special before =
    let inside : leb (length bytes) (header_at bytes position) ≡ false = ap (leb (length bytes)) (sym place) ∙ lt-leb (length bytes) at lt in
    first_below-more position (ends_walk bytes) before (rw (inside, none, special) refl)

-- what the end of the walk says of the library
pub record EndsAt (bytes : List ℕ) (position : ℕ) : Type 0 where
  pub fault : library_fault bytes ≡ end_fault bytes position
  pub listings : listing_of bytes ≡ unwrap_or (second_listed bytes position) (unwrap_or (first_listed bytes position) [])
  pub long_names : long_names_of bytes ≡ long_names_among bytes position

pub ended : (bytes : List ℕ) (position : ℕ) → has_magic bytes ≡ true → walk_end bytes ≡ Some position → EndsAt bytes position
unfolding library_fault listing_of long_names_of
ended bytes position magic is = record {
  fault = rw (magic, is) (or_none (end_fault bytes position));
  listings = rw is refl;
  long_names = rw is refl;
}

pub found_end : (bytes : List ℕ) (position : ℕ) → position < length bytes → first_below position (ends_walk bytes) ≡ None → ends_walk bytes position ≡ true → walk_end bytes ≡ Some position
unfolding walk_end
found_end bytes position lt before here = first_below-found position (length bytes) (ends_walk bytes) lt before here

-- no byte is left
pub ends_past : (bytes : List ℕ) (at position : ℕ) → has_magic bytes ≡ true → at ≡ header_at bytes position → length bytes ≤ at → position < length bytes → first_below position (ends_walk bytes) ≡ None → EndsAt bytes position
unfolding ends_walk
ends_past bytes at position magic place le lt before =
    let past : leb (length bytes) (header_at bytes position) ≡ true = ap (leb (length bytes)) (sym place) ∙ le-leb (length bytes) at le in
    ended bytes position magic (found_end bytes position lt before (rw past refl))

pub past_well : (bytes : List ℕ) (at position : ℕ) → at ≡ header_at bytes position → length bytes ≤ at → end_fault bytes position ≡ None
unfolding end_fault
past_well bytes at position place le =
    let past : leb (length bytes) (header_at bytes position) ≡ true = ap (leb (length bytes)) (sym place) ∙ le-leb (length bytes) at le in
    rw past refl

-- a fault stands there
pub ends_badly : (bytes : List ℕ) (at position : ℕ) (error : LibError) → has_magic bytes ≡ true → at ≡ header_at bytes position → at < length bytes → position < length bytes → first_below position (ends_walk bytes) ≡ None → position_fault bytes position ≡ Some error → library_fault bytes ≡ Some error
unfolding ends_walk ends_at end_fault
ends_badly bytes at position error magic place inside lt before is =
    let here : leb (length bytes) (header_at bytes position) ≡ false = ap (leb (length bytes)) (sym place) ∙ lt-leb (length bytes) at inside in
    (ended bytes position magic (found_end bytes position lt before (rw (here, is) refl))).fault ∙ rw (here, is) refl

-- the walk does not go on behind it
pub ends_there : (bytes : List ℕ) (position : ℕ) → has_magic bytes ≡ true → position < length bytes → first_below position (ends_walk bytes) ≡ None → names_special (text_at_position bytes position) ≡ false → EndsAt bytes position
unfolding ends_walk ends_at
ends_there bytes position magic lt before other =
    let fails = is_some (position_fault bytes position) in
    let past = is_past_end bytes position in
    ended bytes position magic
    (found_end bytes position lt before
    (ap (λ (b : Bool). past || (fails || not b)) other ∙ (ap (λ (b : Bool). past || b) (or-true fails) ∙ or-true past)))

pub there_well : (bytes : List ℕ) (at position : ℕ) → at ≡ header_at bytes position → at < length bytes → position_fault bytes position ≡ None → end_fault bytes position ≡ None
unfolding end_fault
there_well bytes at position place lt none =
    let inside : leb (length bytes) (header_at bytes position) ≡ false = ap (leb (length bytes)) (sym place) ∙ lt-leb (length bytes) at lt in
    rw (inside, none) refl

-- a member that the walk does not go on behind is no directory
pub no_directory : (bytes : List ℕ) (position : ℕ) → names_special (text_at_position bytes position) ≡ false → is_directory bytes position ≡ false
unfolding names_special
no_directory bytes position other =
    let text = text_at_position bytes position in
    or_left (names_directory text) (names_long_names text || names_other text) other

-- ---- a file that is no library

pub no_magic : (bytes : List ℕ) → has_magic bytes ≡ false → library_fault bytes ≡ Some (record { kind = kind.Magic; at = 0 })
unfolding library_fault
no_magic bytes other = rw other refl
