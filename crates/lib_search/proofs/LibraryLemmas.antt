-- One more listing, of which the first of its name counts; one more library; and a member that is opened.
use Rattle.std.proofs.Common.{◌≡◌, ℕ, ◌<◌, ◌+◌, Bool, true, false, cond, List, [], ◌∷◌, ◌++◌, length, get_or, Option, Some, None, refl, sym, ap, ◌∙◌, subst, add-one, arith}
use Rattle.std.specs.Prelude.{is_none, option_map}
use Rattle.std.specs.Option.{option_or}
use Rattle.std.proofs.lemmas.List.{length-append, get_or_append_left, get_or_default}
use Rattle.link_base.specs.Refusals.{first_refusal_below}
use Rattle.link_base.specs.NameText.{same_name}
use Rattle.link_base.proofs.RefusalLemmas.{same_below}
use Rattle.lib_reader.specs.Listing.{Entry, first_of_name}
use Rattle.lib_reader.specs.declared.error.LibError.{LibError}
use Rattle.lib_reader.specs.ArchiveMember.{data_of}
use Rattle.lib_reader.specs.LibraryWalk.{listing_of, long_names_of}
use Rattle.lib_reader.specs.MemberFault.{member_fault}
use Rattle.file_search.specs.FoundFiles.{FoundFile, no_file}
use Rattle.module_view.specs.Module.{ModuleView}
use Rattle.par_read.specs.Joining.{joining_fault}
use Rattle.lib_search.specs.LibraryFaults.{bad_library}
use Rattle.lib_search.specs.OpenLibraries.{ListsBelow, ListsSoFar}
use Rattle.lib_search.specs.SearchSteps.{MemberPlace, place_in, listing_at, name_of_member, member_fault_in}

step_of : (name other : List ℕ) (k at : ℕ) (left : List Entry) → option_map (place_in k) (first_of_name other ((name, at) ∷ left)) ≡ cond (same_name name other) (Some (k, at)) (option_map (place_in k) (first_of_name other left))
unfolding first_of_name
step_of name other k at left = by_case (same_name name other) (first_of_name other left)
  where
    by_case : (b : Bool) (o : Option ℕ) → option_map (place_in k) (cond b (Some at) o) ≡ cond b (Some (k, at)) (option_map (place_in k) o)
    by_case true o = refl
    by_case false o = refl

-- the first place of a name is kept
kept_first : (o rest : Option MemberPlace) (same : Bool) (place : MemberPlace) → option_or (option_or o (cond same (Some place) None)) rest ≡ option_or o (cond same (Some place) rest)
kept_first (Some first) rest same place = refl
kept_first None rest true place = refl
kept_first None rest false place = refl

-- one more listing was noted
pub lists_noted : (name : List ℕ) (place : MemberPlace) (left : List Entry) (libraries : List FoundFile) (old new : List ℕ → Option MemberPlace) → ((other : List ℕ) → new other ≡ option_or (old other) (cond (same_name name other) (Some place) None)) → ListsSoFar old place.0 ((name, place.1) ∷ left) libraries → ListsSoFar new place.0 left libraries
lists_noted name place left libraries old new now was = record {
  first = λ other.
      ap (λ (o : Option MemberPlace). option_or o (rest other)) (now other)
      ∙ kept_first (old other) (rest other) (same_name name other) place
      ∙ ap (option_or (old other)) (sym (step_of name other place.0 place.1 left))
      ∙ was.first other;
}
  where
    rest : List ℕ → Option MemberPlace
    rest other = option_map (place_in place.0) (first_of_name other left)

-- no listing of a library was gone through
pub lists_begin : (libraries : List FoundFile) (k : ℕ) (library : FoundFile) (place_of : List ℕ → Option MemberPlace) → library ≡ get_or libraries k no_file → ListsBelow place_of k libraries → ListsSoFar place_of k (listing_of library.bytes) libraries
lists_begin libraries k library place_of is below = record {
  first = λ name.
      ap (λ (o : Option MemberPlace). option_or o (option_map (place_in k) (first_of_name name (listing_of library.bytes)))) (below.first name)
      ∙ ap (λ (l : FoundFile). option_or (first_refusal_below k (listing_at libraries name)) (option_map (place_in k) (first_of_name name (listing_of l.bytes)))) is;
}

none_left : (o : Option MemberPlace) → option_or o None ≡ o
none_left None = refl
none_left (Some place) = refl

-- none is left
pub lists_end : (libraries : List FoundFile) (k : ℕ) (place_of : List ℕ → Option MemberPlace) → ListsSoFar place_of k [] libraries → ListsBelow place_of (k + 1) libraries
unfolding first_of_name first_refusal_below
lists_end libraries k place_of was = record {
  first = λ name. sym (none_left (place_of name)) ∙ was.first name ∙ rw add-one refl;
}

-- of no library
pub lists_none : (libraries : List FoundFile) (place_of : List ℕ → Option MemberPlace) → ((name : List ℕ) → place_of name ≡ None) → ListsBelow place_of 0 libraries
unfolding first_refusal_below
lists_none libraries place_of none = record { first = none }

-- ---- one library more

-- the libraries before it list what they listed
pub lists_more : (libraries : List FoundFile) (library : FoundFile) (k : ℕ) (place_of : List ℕ → Option MemberPlace) → k ≡ length libraries → ListsBelow place_of (length libraries) libraries → ListsBelow place_of k (libraries ++ library ∷ [])
lists_more libraries library k place_of is was = record {
  first = λ name.
      was.first name
      ∙ same_below (length libraries) (listing_at libraries name) (listing_at (libraries ++ library ∷ []) name)
      (λ j lt. ap (λ (l : FoundFile). option_map (place_in j) (first_of_name name (listing_of l.bytes))) (sym (get_or_append_left libraries (library ∷ []) no_file j lt)))
      ∙ ap (λ (n : ℕ). first_refusal_below n (listing_at (libraries ++ library ∷ []) name)) (sym is);
}

-- and it lists its own names after them
pub lists_now : (libraries now : List FoundFile) (library : FoundFile) (k : ℕ) (place_of : List ℕ → Option MemberPlace) → k ≡ length libraries → now ≡ libraries ++ library ∷ [] → ListsBelow place_of (k + 1) (libraries ++ library ∷ []) → ListsBelow place_of (length now) now
lists_now libraries now library k place_of is same below =
    let count = ap (λ (ls : List FoundFile). length ls) same ∙ length-append libraries (library ∷ []) in
    let end : k + 1 ≡ length now = omega (arith, is, count) in
    subst (λ (n : ℕ). ListsBelow place_of n now) end (subst (ListsBelow place_of (k + 1)) (sym same) below)

pub library_here : (libraries : List FoundFile) (k : ℕ) (library : FoundFile) → k < length libraries → library ≡ get_or libraries k library → library ≡ get_or libraries k no_file
library_here libraries k library lt is = is ∙ get_or_default libraries k library no_file lt

last_item : (libraries : List FoundFile) (library : FoundFile) → library ≡ get_or (libraries ++ library ∷ []) (length libraries) no_file
last_item [] library = refl
last_item (x ∷ libraries) library = last_item libraries library

pub last_library : (libraries : List FoundFile) (library : FoundFile) (k : ℕ) → k ≡ length libraries → library ≡ get_or (libraries ++ library ∷ []) k no_file
last_library libraries library k is =
    last_item libraries library ∙ ap (λ (n : ℕ). get_or (libraries ++ library ∷ []) n no_file) (sym is)

-- ---- a member that is opened

pub not_refused : {A : Type 0} (o : Option A) → true ≡ is_none o → o ≡ None
not_refused None e = refl
not_refused (Some x) e = absurd cc

-- where its header is well formed, its fault is that of the module
pub joins_as : (library : FoundFile) (at : ℕ) (merges : Bool) (modules : List ModuleView) (file name bytes : List ℕ) → member_fault (long_names_of library.bytes) library.bytes at ≡ None → file ≡ library.file → name ≡ name_of_member library at → bytes ≡ data_of library.bytes at → joining_fault file (Some name) bytes merges modules ≡ member_fault_in library at merges modules
joins_as library at merges modules file name bytes none file_is name_is bytes_are =
    ap (λ (f : List ℕ). joining_fault f (Some name) bytes merges modules) file_is
    ∙ ap (λ (n : List ℕ). joining_fault library.file (Some n) bytes merges modules) name_is
    ∙ ap (λ (b : List ℕ). joining_fault library.file (Some (name_of_member library at)) b merges modules) bytes_are
    ∙ sym (ap (λ (o : Option LibError). option_or (option_map (bad_library library.file) o) (joining_fault library.file (Some (name_of_member library at)) (data_of library.bytes at) merges modules)) none)
