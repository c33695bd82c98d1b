-- The public symbols of an image, at their places in its sections. Own.
use Rattle.std.specs.Prelude.{ℕ, ◌+◌, ◌-◌, Bool, not, ◌&&◌, nat_lt, if◌then◌else◌, List, [], length, map, filter_map, slice_index, slice_index_or, Option, Some, None, option_map, codes}
use Rattle.std.specs.Ordering.{nat_cmp, then_cmp, on}
use Rattle.std.specs.Cmp.Lexicographic.{slice_cmp}
use Rattle.std.specs.declared.cmp.Ordering.{Ordering}
use Rattle.link_base.specs.NameText.{same_name}
use Rattle.section_group.specs.Uniqueness.{SectionRow}
use Rattle.address_layout.specs.declared.layout.Placed.{Placed}
use Rattle.sorted_lists.specs.Order.{in_order}
use Rattle.map_file.specs.declared.rows.MapPublic.{MapPublic}
use Rattle.pdb_publics.specs.declared.rows.PublicRow.{PublicRow}
use Rattle.debug_rows.specs.Contributions.{no_place}
use Rattle.debug_rows.specs.declared.link_publics.PublicPlace.{PublicPlace}
use Rattle.debug_rows.specs.declared.placed_publics.PublicKey.{PublicKey}

-- ---- where one stands

abbrev pub public_rva : List ℕ → PublicPlace → ℕ
public_rva rvas public = slice_index rvas public.piece + public.value

-- the name of the section of an index
abbrev pub name_of : SectionRow → List ℕ
name_of section = section.name

abbrev pub section_name : List SectionRow → ℕ → List ℕ
section_name sections i = slice_index_or (map name_of sections) i []

-- it is in a section of the image, but not in the table of exceptions
abbrev pub is_listed_in : List SectionRow → ℕ → Bool
is_listed_in sections i = nat_lt i (length sections) && not (same_name (section_name sections i) (codes ".pdata"))

abbrev pub listed_section : List SectionRow → ℕ → Option ℕ
listed_section sections i = if is_listed_in sections i then Some i else None

-- the index of its section, where a list has that of each piece, and the number of sections for one in none
abbrev pub public_section : List ℕ → List SectionRow → PublicPlace → Option ℕ
public_section owner sections public = listed_section sections (slice_index_or owner public.piece (length sections))

-- ---- of a PDB

-- one in the section of an index
abbrev pub public_row : List Placed → List ℕ → PublicPlace → ℕ → PublicRow
public_row places rvas public i = record {
  name = public.name;
  section = i + 1;
  offset = public_rva rvas public - (slice_index_or places i no_place).rva;
  function = public.function;
}

abbrev pub placed_row : List ℕ → List SectionRow → List Placed → List ℕ → PublicPlace → Option PublicRow
placed_row owner sections places rvas public = option_map (public_row places rvas public) (public_section owner sections public)

abbrev pub public_rows_of : List ℕ → List SectionRow → List Placed → List ℕ → List PublicPlace → List PublicRow
public_rows_of owner sections places rvas publics = filter_map (placed_row owner sections places rvas) publics

-- ---- of a map

abbrev pub public_key : List ℕ → PublicPlace → ℕ → PublicKey
public_key rvas public i = record { rva = public_rva rvas public; name = public.name; «module» = public.«module» }

abbrev pub placed_key : List ℕ → List SectionRow → List ℕ → PublicPlace → Option PublicKey
placed_key owner sections rvas public = option_map (public_key rvas public) (public_section owner sections public)

-- by the RVA, then by the bytes of the name, then by the module
abbrev pub key_cmp : PublicKey → PublicKey → Ordering
key_cmp =
    then_cmp (on (λ key. key.rva) nat_cmp)
    (then_cmp (on (λ key. key.name) (slice_cmp nat_cmp))
    (on (λ key. key.«module») nat_cmp))

abbrev pub map_public : PublicKey → MapPublic
map_public key = record { rva = key.rva; «module» = key.«module»; name = key.name }

abbrev pub map_publics_of : List ℕ → List SectionRow → List ℕ → List PublicPlace → List MapPublic
map_publics_of owner sections rvas publics = map map_public (in_order key_cmp (filter_map (placed_key owner sections rvas) publics))
