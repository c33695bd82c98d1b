-- The walk along the members at the start of an import library: both linker members, the long names where there are some, and
-- the first row's member.
use Rattle.std.proofs.Common.{◌≡◌, ℕ, ◌+◌, ◌%◌, ◌<◌, ◌≤◌, true, false, ◌&&◌, cond, List, [], length, Option, Some, None, unwrap_or, refl, sym, ap, ◌∙◌, arith}
use Rattle.std.specs.Prelude.{is_none, is_some}
use Rattle.link_base.specs.Bytes.{first_below}
use Rattle.lib_reader.specs.Constants.{ARCHIVE_LINKER_MEMBER, ARCHIVE_LONGNAMES_MEMBER}
use Rattle.lib_reader.specs.MemberName.{names_directory, names_long_names, names_special, names_an_offset}
use Rattle.lib_reader.specs.MemberFault.{lacks_long_name, member_fault}
use Rattle.lib_reader.specs.Listing.{Entry, directory_is_bad, listings_in}
use Rattle.lib_reader.specs.LibraryWalk.{has_magic, header_at, data_at_position, is_directory, is_long_names, first_directory, second_directory, first_long_names, long_names_data, long_names_among, has_directory_fault, position_fault, ends_walk, end_fault, library_fault, long_names_of, first_listed, second_listed, listing_of}
use Rattle.lib_reader.proofs.EndLemmas.{EndsAt, header_next, goes_behind, ends_past, past_well, ends_there, there_well, no_directory}
use Rattle.lib_reader.proofs.WalkLemmas.{directory_judged, directory_first, directory_second, other_judged, other_first, other_second, long_names_passed, long_names_found, text_tested, data_read}
use Rattle.implib.specs.ArchiveMember.{member_size}
use Rattle.implib.proofs.MemberLemmas.{IsMember}

-- ---- a member at a position of the walk

pub no_fault : (long_names bytes : List ℕ) (at : ℕ) (name content : List ℕ) → IsMember bytes at name content → lacks_long_name long_names name ≡ false → member_fault long_names bytes at ≡ None
unfolding member_fault
no_fault long_names bytes at name content is has = rw (is.header, is.size, is.name_is, has) refl

well_at : (bytes : List ℕ) (position at : ℕ) (name content : List ℕ) → at ≡ header_at bytes position → IsMember bytes at name content → lacks_long_name (long_names_among bytes position) name ≡ false → has_directory_fault bytes position ≡ false → position_fault bytes position ≡ None
unfolding position_fault
well_at bytes position at name content place is has well =
    let fault : member_fault (long_names_among bytes position) bytes (header_at bytes position) ≡ None =
    ap (member_fault (long_names_among bytes position) bytes) (sym place) ∙ no_fault (long_names_among bytes position) bytes at name content is has in
    rw (fault, well) refl

-- what the walk came to before a position
pub record IsBefore (bytes : List ℕ) (position at : ℕ) (first second : Option (List Entry)) (names : Option (List ℕ)) : Type 0 where
  pub place : at ≡ header_at bytes position
  pub even : at % 2 ≡ 0
  pub goes : first_below position (ends_walk bytes) ≡ None
  pub first_is : first ≡ first_listed bytes position
  pub second_is : second ≡ second_listed bytes position
  pub names_are : names ≡ long_names_data bytes position

pub before_all : (bytes : List ℕ) → IsBefore bytes 0 8 None None None
unfolding header_at first_below first_directory second_directory first_long_names
before_all bytes = record { place = refl; even = refl; goes = refl; first_is = refl; second_is = refl; names_are = refl }

-- ---- names of members

linker_lacks : (long_names : List ℕ) → lacks_long_name long_names ARCHIVE_LINKER_MEMBER ≡ false
unfolding lacks_long_name names_an_offset names_special
linker_lacks long_names = refl

long_lacks : (long_names : List ℕ) → lacks_long_name long_names ARCHIVE_LONGNAMES_MEMBER ≡ false
unfolding lacks_long_name names_an_offset names_special
long_lacks long_names = refl

linker_special : names_special ARCHIVE_LINKER_MEMBER ≡ true
unfolding names_special
linker_special = refl

long_special : names_special ARCHIVE_LONGNAMES_MEMBER ≡ true
unfolding names_special
long_special = refl

-- ---- one member on

next_place : (bytes : List ℕ) (position at : ℕ) (name content : List ℕ) → at ≡ header_at bytes position → at % 2 ≡ 0 → IsMember bytes at name content → at + member_size (length content) ≡ header_at bytes (position + 1)
next_place bytes position at name content place even is = sym (is.next even) ∙ header_next bytes at position place

linker_is : (bytes : List ℕ) (position at : ℕ) (content : List ℕ) → at ≡ header_at bytes position → IsMember bytes at ARCHIVE_LINKER_MEMBER content → is_directory bytes position ≡ true
linker_is bytes position at content place is = text_tested bytes at position ARCHIVE_LINKER_MEMBER names_directory true place (sym is.name_is) refl

not_long : (bytes : List ℕ) (position at : ℕ) (content : List ℕ) → at ≡ header_at bytes position → IsMember bytes at ARCHIVE_LINKER_MEMBER content → is_long_names bytes position ≡ false
not_long bytes position at content place is = text_tested bytes at position ARCHIVE_LINKER_MEMBER names_long_names false place (sym is.name_is) refl

content_at : (bytes : List ℕ) (position at : ℕ) (name content : List ℕ) → at ≡ header_at bytes position → IsMember bytes at name content → content ≡ data_at_position bytes position
content_at bytes position at name content place is = data_read bytes at position content place (sym is.content_is)

-- a linker member, of either form
pub behind_linker : (bytes : List ℕ) (position at : ℕ) (content : List ℕ) (first second : Option (List Entry)) (names : Option (List ℕ)) → IsBefore bytes position at first second names → IsMember bytes at ARCHIVE_LINKER_MEMBER content
    → cond (is_none first) (directory_is_bad false content) (is_none second && directory_is_bad true content) ≡ false
    → IsBefore bytes (position + 1) (at + member_size (length content)) (cond (is_none first) (Some (listings_in false content)) first) (cond (is_some first && is_none second) (Some (listings_in true content)) second) names
behind_linker bytes position at content first second names before is well =
    let directory = linker_is bytes position at content before.place is in
    let held = content_at bytes position at ARCHIVE_LINKER_MEMBER content before.place is in
    let judged = sym (directory_judged bytes position content first second before.first_is before.second_is held directory) ∙ well in
    let none = well_at bytes position at ARCHIVE_LINKER_MEMBER content before.place is (linker_lacks (long_names_among bytes position)) judged in
    let special = text_tested bytes at position ARCHIVE_LINKER_MEMBER names_special true before.place (sym is.name_is) (sym linker_special) in
    let even = before.even in
    record {
      place = next_place bytes position at ARCHIVE_LINKER_MEMBER content before.place before.even is;
      even = omega (arith, even);
      goes = goes_behind bytes at position before.place is.inside none special before.goes;
      first_is = directory_first bytes position content first before.first_is held directory;
      second_is = directory_second bytes position content first second before.first_is before.second_is held directory;
      names_are = before.names_are ∙ sym (long_names_passed bytes position (not_long bytes position at content before.place is));
    }

-- the member of long names, behind the linker members
pub behind_names : (bytes : List ℕ) (position at : ℕ) (content : List ℕ) (first second : Option (List Entry)) → IsBefore bytes position at first second None → IsMember bytes at ARCHIVE_LONGNAMES_MEMBER content → (position ≡ 0 → ⊥)
    → IsBefore bytes (position + 1) (at + member_size (length content)) first second (Some content)
behind_names bytes position at content first second before is later =
    let held = content_at bytes position at ARCHIVE_LONGNAMES_MEMBER content before.place is in
    let other = text_tested bytes at position ARCHIVE_LONGNAMES_MEMBER names_directory false before.place (sym is.name_is) refl in
    let long = text_tested bytes at position ARCHIVE_LONGNAMES_MEMBER names_long_names true before.place (sym is.name_is) refl in
    let special = text_tested bytes at position ARCHIVE_LONGNAMES_MEMBER names_special true before.place (sym is.name_is) (sym long_special) in
    let none = well_at bytes position at ARCHIVE_LONGNAMES_MEMBER content before.place is (long_lacks (long_names_among bytes position)) (other_judged bytes position other later) in
    let even = before.even in
    record {
      place = next_place bytes position at ARCHIVE_LONGNAMES_MEMBER content before.place before.even is;
      even = omega (arith, even);
      goes = goes_behind bytes at position before.place is.inside none special before.goes;
      first_is = before.first_is ∙ sym (other_first bytes position other);
      second_is = before.second_is ∙ sym (other_second bytes position other);
      names_are = ap Some held ∙ sym (long_names_found bytes position long (ap is_some (sym before.names_are)));
    }

-- ---- the end of the walk

-- what an opened library is by what the walk came to
pub record Opens (bytes : List ℕ) (listings : List Entry) (names : List ℕ) : Type 0 where
  pub well : library_fault bytes ≡ None
  pub listings_are : listing_of bytes ≡ listings
  pub names_are : long_names_of bytes ≡ names

opened : (bytes : List ℕ) (position at : ℕ) (first : Option (List Entry)) (second : List Entry) (names : Option (List ℕ)) → IsBefore bytes position at first (Some second) names → EndsAt bytes position → end_fault bytes position ≡ None → Opens bytes second (unwrap_or names [])
opened bytes position at first second names before ends none = record {
  well = ends.fault ∙ none;
  listings_are = ends.listings ∙ ap (λ (found : Option (List Entry)). unwrap_or found (unwrap_or (first_listed bytes position) [])) (sym before.second_is);
  names_are = ends.long_names ∙ ap (λ (found : Option (List ℕ)). unwrap_or found []) (sym before.names_are);
}

pub opens_past : (bytes : List ℕ) (position at : ℕ) (first : Option (List Entry)) (second : List Entry) (names : Option (List ℕ)) → has_magic bytes ≡ true → IsBefore bytes position at first (Some second) names → length bytes ≤ at → position < length bytes → Opens bytes second (unwrap_or names [])
opens_past bytes position at first second names magic before le lt =
    opened bytes position at first second names before (ends_past bytes at position magic before.place le lt before.goes) (past_well bytes at position before.place le)

pub opens_there : (bytes : List ℕ) (position at : ℕ) (name content : List ℕ) (first : Option (List Entry)) (second : List Entry) (names : Option (List ℕ)) → has_magic bytes ≡ true → IsBefore bytes position at first (Some second) names → IsMember bytes at name content → names_special name ≡ false → lacks_long_name (unwrap_or names []) name ≡ false → (position ≡ 0 → ⊥) → position < length bytes
    → Opens bytes second (unwrap_or names [])
opens_there bytes position at name content first second names magic before is plain has later lt =
    let other = text_tested bytes at position name names_special false before.place (sym is.name_is) (sym plain) in
    let among = ap (λ (found : Option (List ℕ)). unwrap_or found []) (sym before.names_are) in
    let none = well_at bytes position at name content before.place is (ap (λ (xs : List ℕ). lacks_long_name xs name) among ∙ has) (other_judged bytes position (no_directory bytes position other) later) in
    opened bytes position at first second names before (ends_there bytes position magic lt before.goes other) (there_well bytes at position before.place is.inside none)
