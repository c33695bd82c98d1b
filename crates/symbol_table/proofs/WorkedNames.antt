-- The definitions on small lists.
use Rattle.std.proofs.Common.{◌≡◌, ℕ, Bool, true, false, List, [], ◌∷◌, Some, None, Ok, Err, codes, map, filter, refl}
use Rattle.std.specs.List.{find}
use Rattle.link_base.specs.Bytes.{first_below}
use Rattle.link_base.specs.Refusals.{first_refusal_below}
use Rattle.module_view.specs.declared.definition.Place.{Place}
use Rattle.module_view.specs.declared.definition.Place.TheVariants as place
use Rattle.symbol_table.specs.declared.meaning.Meaning.TheVariants as meaning
use Rattle.symbol_table.specs.declared.meaning.NoMeaning.TheVariants.{Undefined, WeakCycle}
use Rattle.symbol_names.specs.declared.weak_default.WeakDefault.{WeakDefault}
use Rattle.symbol_names.specs.declared.weak_default.WeakDefault.TheVariants as default
use Rattle.symbol_table.specs.LinkerNames.{linker_meaning}
use Rattle.symbol_names.specs.Lists.{Provided, provided, is_chosen_in, is_live, Offered, offered, offers, Said, says}
use Rattle.symbol_names.specs.LinkView.{LinkView}
use Rattle.symbol_names.specs.Alternates.{is_left}
use Rattle.symbol_table.specs.OpenNames.{is_provided, is_open_name, open_from}
use Rattle.symbol_table.specs.Clash.{clash_in}
use Rattle.symbol_table.specs.Resolution.{Ends, Leads, greatest_of, own_or, default_step, alternate_step, weak_step, step, meaning_within, meaning_of}

-- ---- sections

-- of the module 0 the second section is chosen, of the module 1 the only one
rows : List (List Bool)
rows = (false ∷ true ∷ []) ∷ (true ∷ []) ∷ []

-- the sections 1, 2 and 3 of the module 0, and the section 1 of a module that is not there
chosen : is_chosen_in rows 0 1 ∷ is_chosen_in rows 0 2 ∷ is_chosen_in rows 0 3 ∷ is_chosen_in rows 2 1 ∷ [] ≡ false ∷ true ∷ false ∷ false ∷ []
unfolding rows
chosen = refl

-- ---- definitions

defined : ℕ → ℕ → Place → Provided
defined name position at = provided position (record { name = name ∷ []; symbol = 0; place = at })

-- `a` in both sections of the module 0, and as a number
live : map (is_live rows) (defined 97 0 (place.Section 1 0) ∷ defined 97 0 (place.Section 2 0) ∷ defined 97 0 (place.Absolute 7) ∷ []) ≡ false ∷ true ∷ true ∷ []
unfolding rows defined
live = refl

-- `b` once, and `a` of the modules 0 and 2
first_and_third : clash_in (defined 97 0 (place.Section 1 0) ∷ defined 98 1 place.Thunk ∷ defined 97 2 (place.Section 1 0) ∷ []) ≡ Some (record { name = 97 ∷ []; first = 0; second = 2 })
unfolding defined first_below first_refusal_below
first_and_third = refl

-- one number twice, and then another
other_number : clash_in (defined 97 0 (place.Absolute 7) ∷ defined 97 1 (place.Absolute 7) ∷ defined 97 2 (place.Absolute 8) ∷ []) ≡ Some (record { name = 97 ∷ []; first = 0; second = 2 })
unfolding defined first_below first_refusal_below
other_number = refl

-- ---- commons

shared : ℕ → ℕ → ℕ → Offered
shared name position size = offered position (record { name = name ∷ []; symbol = 0; size = size })

-- `a` of 4, 8 and 8 bytes
first_of_equals : greatest_of (shared 97 0 4 ∷ shared 97 1 8 ∷ shared 97 2 8 ∷ []) ≡ Some (shared 97 1 8)
unfolding shared
first_of_equals = refl

-- `b` is greater, and is not asked for
of_its_name : greatest_of (filter (offers (97 ∷ [])) (shared 98 0 16 ∷ shared 97 1 4 ∷ [])) ≡ Some (shared 97 1 4)
unfolding shared
of_its_name = refl

-- ---- weak externals

weakly : ℕ → ℕ → WeakDefault → Said
weakly name position said = record { «module» = position; name = name ∷ []; default = said }

-- `a` of the module 0 leads to `b`, though that of the module 1 is a number
first_weak : weak_step rows (find (says (97 ∷ [])) (weakly 97 0 (default.Name (98 ∷ [])) ∷ weakly 97 1 (default.Absolute 7) ∷ [])) (Ends (Err Undefined)) ≡ Leads false (98 ∷ [])
unfolding weakly
first_weak = refl

-- a place in a section that is chosen, and in one that is not
place_of_chosen : default_step rows 0 (default.Place 2 4) ≡ Ends (Ok (meaning.Section 0 2 4))
unfolding rows
place_of_chosen = refl

place_of_lost : default_step rows 0 (default.Place 1 4) ≡ Ends (Err Undefined)
unfolding rows
place_of_lost = refl

-- ---- names of the linker

-- a default is not looked at where the linker means something by the name
before_its_default : own_or (linker_meaning (codes "__ImageBase")) (Leads false (98 ∷ [])) ≡ Ends (Ok meaning.ImageBase)
unfolding linker_meaning
before_its_default = refl

-- ---- alternates

-- of two alternates of `a`, the first
first_alternate : alternate_step (97 ∷ []) (find (is_left (97 ∷ [])) ((97 ∷ [], 98 ∷ []) ∷ (97 ∷ [], 99 ∷ []) ∷ [])) ≡ Leads false (98 ∷ [])
first_alternate = refl

-- none is looked at where a weak external is there, though it means nothing
behind_its_weak : weak_step rows (Some (weakly 97 0 default.Nothing)) (Leads false (98 ∷ [])) ≡ Ends (Err Undefined)
unfolding weakly
behind_its_weak = refl

-- no modules, and alternates that lead from `a` to `b` and on to the image's address, from `c` to `d` and back, and from `f` to
-- its slot
standing : LinkView
standing = record {
  words = [];
  alternates = (97 ∷ [], 98 ∷ []) ∷ (98 ∷ [], codes "__ImageBase") ∷ (99 ∷ [], 100 ∷ []) ∷ (100 ∷ [], 99 ∷ []) ∷ (102 ∷ [], codes "__imp_f") ∷ [];
  modules = [];
}

along_alternates : meaning_of standing [] (97 ∷ []) ≡ Ok meaning.ImageBase
unfolding meaning_of meaning_within step linker_meaning standing
along_alternates = refl

back_again : meaning_of standing [] (99 ∷ []) ≡ Err WeakCycle
unfolding meaning_of meaning_within step linker_meaning standing
back_again = refl

without_any : meaning_of standing [] (101 ∷ []) ≡ Err Undefined
unfolding meaning_of meaning_within step linker_meaning standing
without_any = refl

-- ---- slots

-- of `a`, which points to what the chain of `a` ends with
slot_of_a : meaning_of standing [] (codes "__imp_a") ≡ Ok (meaning.LocalSlot (97 ∷ []))
unfolding meaning_of meaning_within step linker_meaning standing
slot_of_a = refl

-- there is none of a slot that is made so
slot_of_slot : meaning_of standing [] (codes "__imp___imp_a") ≡ Err Undefined
unfolding meaning_of meaning_within step linker_meaning standing
slot_of_slot = refl

-- none of what means nothing, and none of what has no end
slot_of_nothing : meaning_of standing [] (codes "__imp_e") ≡ Err Undefined
unfolding meaning_of meaning_within step linker_meaning standing
slot_of_nothing = refl

slot_of_cycle : meaning_of standing [] (codes "__imp_c") ≡ Err WeakCycle
unfolding meaning_of meaning_within step linker_meaning standing
slot_of_cycle = refl

-- a name that leads to its own slot comes back
back_by_slot : meaning_of standing [] (102 ∷ []) ≡ Err WeakCycle
unfolding meaning_of meaning_within step linker_meaning standing
back_by_slot = refl

-- ---- names that are asked for

-- no modules, and words for `a`, the image's address and `b`
asking : LinkView
asking = record {
  words = (97 ∷ []) ∷ codes "__ImageBase" ∷ (98 ∷ []) ∷ [];
  alternates = [];
  modules = [];
}

-- the linker provides the second
open_words : open_from asking 0 ∷ open_from asking 1 ∷ open_from asking 3 ∷ [] ≡ Some (0, 97 ∷ []) ∷ Some (2, 98 ∷ []) ∷ None ∷ []
unfolding open_from is_provided linker_meaning asking
open_words = refl

open_name : is_open_name asking (98 ∷ []) ∷ is_open_name asking (codes "__ImageBase") ∷ is_open_name asking (99 ∷ []) ∷ [] ≡ true ∷ false ∷ false ∷ []
unfolding is_provided linker_meaning asking
open_name = refl
