-- The chains of parents of a module that opens, and what a list says of their ends.
use Rattle.std.proofs.Common.{◌≡◌, ℕ, zero, suc, ◌+◌, ◌-◌, ◌<◌, ◌≤◌, Bool, true, false, cond, ◌||◌, List, [], ◌∷◌, ◌++◌, length, get_or, map, Option, None, Some, refl, ap, ◌∙◌, subst, arith}
use Rattle.std.specs.Prelude.{option_map, nat_lt}
use Rattle.std.specs.List.{range_with_len, flat_map}
use Rattle.std.proofs.lemmas.List.{map-append, length-append, length-map}
use Rattle.std.proofs.lemmas.List.FromFn.{length-map-range_with_len, get_or-map-range_with_len}
use Rattle.std.proofs.lemmas.Simd.{map-map}
use Rattle.link_base.specs.Bytes.{first_below}
use Rattle.coff_object.specs.ObjectFaults.{least_place, row}
use Rattle.coff_records.specs.ObjectFile.{section_total}
use Rattle.link_base.specs.Refusals.{first_standing}
use Rattle.link_base.specs.declared.kinds.form.Kind.TheVariants as form
use Rattle.link_base.specs.declared.kinds.object.ObjFault.TheVariants as kind
use Rattle.link_base.proofs.OptionLemmas.{none_mapped}
use Rattle.module_view.specs.declared.error.ModuleError.TheVariants as error
use Rattle.module_view.specs.Module.{ModuleView, module_at}
use Rattle.coff_aux.specs.AuxFaults.{has_no_selection, has_no_parent, first_comdat, aux_place, parent_place, aux_fault}
use Rattle.coff_aux.specs.Comdats.{comdat_record_of, parent_in, parents_of}
use Rattle.module_view.specs.Opening.{unsupported, directive_error, has_linker_section, has_long_section_name, has_long_symbol_name, content_error, opening_error}
use Rattle.module_view.proofs.CallerLemmas.{opened_contents}
use Rattle.coff_aux.specs.Parents.{comes_back, AreParents}
use Rattle.coff_aux.specs.Steps.{all_comdat_records, parents_in}
use Rattle.coff_aux.proofs.CallerLemmas.{are_parents}
use Rattle.comdat.specs.Chains.{chain_end, at_chain_end}
use Rattle.comdat.specs.Selection.{own_flag, sections_of, named_sections, entry_in, entries_of, all_entries, is_chosen_of_group}
use Rattle.comdat.specs.Groups.{is_selected}
use Rattle.comdat.proofs.ChainLemmas.{DoEnd, end_some, end_within}

-- ---- no chain comes back

-- none of a table stands: its third does not
third_none : {A : Type 0} (one two three : Option A) (more : List (Option A)) → first_standing (one ∷ two ∷ three ∷ more) ≡ None → three ≡ None
third_none None None None more none = refl
third_none (Some x) two three more none = absurd cc
third_none None (Some x) three more none = absurd cc
third_none None None (Some x) more none = absurd cc

no_place : (one other : Option ℕ) → least_place one other ≡ None → other ≡ None
no_place None other none = none
no_place (Some one) None none = refl
no_place (Some one) (Some other) none = go (nat_lt other one) none
  where
    go : (b : Bool) → cond b (Some other) (Some one) ≡ None → Some other ≡ None
    go true e = absurd cc
    go false e = absurd cc

no_aux_fault : (bytes : List ℕ) → content_error bytes ≡ None → aux_fault bytes ≡ None
unfolding content_error
no_aux_fault bytes stand =
    none_mapped error.Object (aux_fault bytes) (third_none (unsupported (has_linker_section bytes) form.LinkerSection) (unsupported (has_long_section_name bytes || has_long_symbol_name bytes) form.LongName) (option_map error.Object (aux_fault bytes)) (directive_error bytes ∷ []) stand)

no_parent_place : (bytes : List ℕ) → aux_fault bytes ≡ None → parent_place bytes ≡ None
unfolding aux_fault
no_parent_place bytes stand =
    none_mapped (λ index. record { kind = kind.Associative; index = index }) (parent_place bytes) (third_none (row kind.Aux (aux_place bytes)) (row kind.Selection (first_comdat bytes has_no_selection)) (row kind.Associative (parent_place bytes)) [] stand)

pub ends : (bytes : List ℕ) → opening_error bytes ≡ None → first_below (length (parents_of bytes)) (comes_back (parents_of bytes)) ≡ None
unfolding parent_place
ends bytes opened =
    no_place (first_comdat bytes (has_no_parent (section_total bytes))) (first_below (length (parents_of bytes)) (comes_back (parents_of bytes))) (no_parent_place bytes (no_aux_fault bytes (opened_contents bytes opened)))

-- ---- parents are sections

by_records : (bytes : List ℕ) → parents_in (all_comdat_records bytes) ≡ parents_of bytes
unfolding parents_of
by_records bytes =
    ap (λ (xs : List ℕ). 0 ∷ xs)
    (ap (λ (n : ℕ). map (parent_in n) (all_comdat_records bytes)) (length-map-range_with_len (comdat_record_of bytes) 1 (section_total bytes))
    ∙ map-map (parent_in (section_total bytes)) (comdat_record_of bytes) (range_with_len 1 (section_total bytes)))

pub parents_are : (bytes : List ℕ) → AreParents (parents_of bytes)
parents_are bytes = subst AreParents (by_records bytes) (are_parents (all_comdat_records bytes))

pub parent_count : (bytes : List ℕ) → length (parents_of bytes) ≡ section_total bytes + 1
unfolding parents_of
parent_count bytes =
    let count = length-map-range_with_len (λ section. parent_in (section_total bytes) (comdat_record_of bytes section)) 1 (section_total bytes) in
    omega (arith, count)

-- ---- flags

pub range_alike : {X : Type 0} (f g : ℕ → X) (a n : ℕ) → ((k : ℕ) → a ≤ k → k < a + n → f k ≡ g k) → map f (range_with_len a n) ≡ map g (range_with_len a n)
range_alike f g a zero same = refl
range_alike f g a (suc n) same = λ i. same a (omega arith) (omega arith) i ∷ range_alike f g (a + 1) n (λ k low high. same k (omega arith) (omega arith)) i

-- what a list of a module says of the ends of chains
pub flags_at_ends : (bytes : List ℕ) (chosen : ℕ → Bool) (own : List Bool) (count : ℕ) → opening_error bytes ≡ None → own ≡ map (own_flag chosen bytes) (sections_of bytes) → count ≡ length (parents_of bytes) - 1 → map (at_chain_end (parents_of bytes) (false ∷ own)) (range_with_len 1 count) ≡ map (λ section. own_flag chosen bytes (chain_end (parents_of bytes) section)) (sections_of bytes)
flags_at_ends bytes chosen own count opened is all =
    let parents = parents_of bytes in
    let total = section_total bytes in
    let are : DoEnd parents = record { are = parents_are bytes; ends = ends bytes opened } in
    ap (λ (n : ℕ). map (at_chain_end parents (false ∷ own)) (range_with_len 1 n)) (omega (arith, all, parent_count bytes))
    ∙ range_alike (at_chain_end parents (false ∷ own)) (λ section. own_flag chosen bytes (chain_end parents section)) 1 total (λ k low high.
    let within : k < length parents = omega (arith, parent_count bytes) in
    ap (λ (flags : List Bool). get_or (false ∷ flags) (chain_end parents k) false) is
    ∙ behind (own_flag chosen bytes) total (chain_end parents k) (end_some parents k are (omega arith) within) (omega (arith, end_within parents k are.are within, parent_count bytes)))
  where
    behind : (f : ℕ → Bool) (total k : ℕ) → 0 < k → k < total + 1 → get_or (false ∷ map f (range_with_len 1 total)) k false ≡ f k
    behind f total zero low high = absurd (omega arith)
    behind f total (suc k) low high = get_or-map-range_with_len f 1 total k (suc k) false (omega arith) (omega arith)

-- ---- the rows of modules

-- what is told of the sections of the modules from a position on
pub told_from : List ModuleView → ℕ → List Bool
told_from modules position =
    map (is_selected (all_entries modules)) (flat_map (λ k. entries_of k (module_at modules k).bytes) (range_with_len position (length modules - position)))

pub told_first : (modules : List ModuleView) (selected : List Bool) → selected ≡ map (is_selected (all_entries modules)) (all_entries modules) → selected ≡ told_from modules 0
unfolding told_from
told_first modules selected is =
    is ∙ ap (λ (n : ℕ). map (is_selected (all_entries modules)) (flat_map (λ k. entries_of k (module_at modules k).bytes) (range_with_len 0 n))) (omega arith)

pub told_next : (modules : List ModuleView) (position : ℕ) → position < length modules → told_from modules position ≡ map (is_chosen_of_group modules position) (named_sections (module_at modules position).bytes) ++ told_from modules (position + 1)
unfolding told_from
told_next modules position lt =
    let test = is_selected (all_entries modules) in
    let entries = λ (k : ℕ). entries_of k (module_at modules k).bytes in
    ap (λ (n : ℕ). map test (flat_map entries (range_with_len position n))) (one_less (length modules) position lt)
    ∙ map-append test (entries position) (flat_map entries (range_with_len (position + 1) (length modules - (position + 1))))
    ∙ ap (λ (flags : List Bool). flags ++ map test (flat_map entries (range_with_len (position + 1) (length modules - (position + 1))))) (map-map test (entry_in position (module_at modules position).bytes) (named_sections (module_at modules position).bytes))
  where
    one_less : (total done : ℕ) → done < total → total - done ≡ suc (total - (done + 1))
    one_less total done lt = omega (arith, lt)

-- there is an entry for each section of the module that goes by a name
pub told_room : (modules : List ModuleView) (position : ℕ) (rest : List Bool) (m : ModuleView) → position < length modules → rest ≡ told_from modules position → m ≡ module_at modules position → length (named_sections m.bytes) ≤ length rest
told_room modules position rest m lt is same =
    let sections = named_sections (module_at modules position).bytes in
    let flags = map (is_chosen_of_group modules position) sections in
    omega (arith, ap length (is ∙ told_next modules position lt), length-append flags (told_from modules (position + 1)), length-map sections (is_chosen_of_group modules position), ap (λ (v : ModuleView). length (named_sections v.bytes)) same)
