-- The modules of a link, one after the other, the names that directives include, and the slots that names mean.
use Rattle.std.proofs.Common.{◌≡◌, ℕ, ◌+◌, ◌<◌, List, [], ◌∷◌, ◌++◌, length, get_or, map, take, Option, Some, None, refl, sym, ap, ◌∙◌, arith}
use Rattle.std.specs.Prelude.{filter_map}
use Rattle.std.specs.List.{cons_option, flat_map, range_with_len}
use Rattle.std.specs.Option.{option_or}
use Rattle.std.proofs.lemmas.List.{append-nil, get_or_default, take_more, map-append}
use Rattle.std.proofs.lemmas.List.Concat.{flat_map-append}
use Rattle.std.proofs.lemmas.List.Elements.{filter_map-append}
use Rattle.std.proofs.lemmas.List.Sums.{fold-append}
use Rattle.link_base.proofs.RangeLemmas.{range_more}
use Rattle.link_base.proofs.RefusalLemmas.{or_none}
use Rattle.link_base.specs.Refusals.{first_standing}
use Rattle.link_base.specs.declared.fault.Fault.{Fault}
use Rattle.directives.specs.Said.{said}
use Rattle.directives.specs.declared.item.Directive.{Directive}
use Rattle.module_view.specs.Module.{ModuleView, no_module, module_at}
use Rattle.link_pieces.specs.LinkParts.{LinkParts}
use Rattle.symbol_names.specs.References.{name_said}
use Rattle.link_pieces.specs.LocalSlots.{slot_meant, with_slot, with_slots, with_meant}
use Rattle.link_plan.specs.References.{asked_fault, names_fault, object_fault_among, references_fault_at}

-- the references of a module are those of the one that was read
pub module_here : (link : LinkParts) (modules : List ModuleView) (k : ℕ) (m : ModuleView) → link.modules ≡ modules → k < length modules → m ≡ get_or modules k m → references_fault_at link k ≡ object_fault_among link k m.bytes
module_here link modules k m are lt read =
    ap (λ (ms : List ModuleView). object_fault_among link k (module_at ms k).bytes) are
    ∙ ap (λ (v : ModuleView). object_fault_among link k v.bytes) (sym (get_or_default modules k m no_module lt) ∙ sym read)

-- its bytes are those of the one at the position
pub bytes_here : (link : LinkParts) (modules : List ModuleView) (k : ℕ) (m : ModuleView) → link.modules ≡ modules → k < length modules → m ≡ get_or modules k m → m.bytes ≡ (module_at link.modules k).bytes
bytes_here link modules k m are lt read =
    ap (λ (v : ModuleView). v.bytes) (read ∙ get_or_default modules k m no_module lt) ∙ ap (λ (ms : List ModuleView). (module_at ms k).bytes) (sym are)

-- ---- included names

-- the refusal of a directive that includes a name
abbrev pub directive_fault : LinkParts → ℕ → Directive → Option Fault
directive_fault link position directive =
    names_fault link (Some position) (filter_map name_said (said directive ∷ []))

-- those of directives, one after another
pub directives_fault : (link : LinkParts) (position : ℕ) (directives : List Directive) → names_fault link (Some position) (filter_map name_said (map said directives)) ≡ first_standing (map (directive_fault link position) directives)
directives_fault link position [] = refl
directives_fault link position (directive ∷ directives) =
    by (name_said (said directive)) (directives_fault link position directives)
  where
    by : (o : Option (List ℕ)) → names_fault link (Some position) (filter_map name_said (map said directives)) ≡ first_standing (map (directive_fault link position) directives) → names_fault link (Some position) (cons_option o (filter_map name_said (map said directives))) ≡ option_or (names_fault link (Some position) (cons_option o [])) (first_standing (map (directive_fault link position) directives))
    by None rest = rest
    by (Some name) rest =
        ap (option_or (asked_fault link (Some position) name)) rest
        ∙ ap (λ o. option_or o (first_standing (map (directive_fault link position) directives))) (sym (or_none (asked_fault link (Some position) name)))

-- ---- the slots that names mean

-- those of some names, then those of others
pub meant_append : (link : LinkParts) (slots xs ys : List (List ℕ)) → with_meant link slots (xs ++ ys) ≡ with_meant link (with_meant link slots xs) ys
meant_append link slots xs ys =
    ap (with_slots slots) (filter_map-append (slot_meant link) xs ys)
    ∙ fold-append with_slot slots (filter_map (slot_meant link) xs) (filter_map (slot_meant link) ys)

-- of the first ones that are walked, and of the next
pub meant_next : {A : Type 0} (link : LinkParts) (slots : List (List ℕ)) (names : List A → List (List ℕ)) → ((xs ys : List A) → names (xs ++ ys) ≡ names xs ++ names ys) → (xs : List A) (k : ℕ) (x : A) → k < length xs → x ≡ get_or xs k x → with_meant link (with_meant link slots (names (take k xs))) (names (x ∷ [])) ≡ with_meant link slots (names (take (k + 1) xs))
meant_next {A} link slots names append xs k x lt read =
    sym (ap (λ (ys : List A). with_meant link slots (names ys)) (take_more xs k x lt ∙ ap (λ (y : A). take k xs ++ y ∷ []) (sym read))
    ∙ ap (with_meant link slots) (append (take k xs) (x ∷ []))
    ∙ meant_append link slots (names (take k xs)) (names (x ∷ [])))

-- of the first of a list, and of the rest
pub meant_first : {A : Type 0} (link : LinkParts) (slots : List (List ℕ)) (name : A → Option (List ℕ)) (x : A) (xs : List A) → with_meant link slots (filter_map name (x ∷ xs)) ≡ with_meant link (with_meant link slots (cons_option (name x) [])) (filter_map name xs)
meant_first link slots name x xs =
    ap (with_meant link slots) (filter_map-append name (x ∷ []) xs)
    ∙ meant_append link slots (cons_option (name x) []) (filter_map name xs)

-- the names that directives include, of some and of others
pub asked_append : (xs ys : List Directive) → filter_map name_said (map said (xs ++ ys)) ≡ filter_map name_said (map said xs) ++ filter_map name_said (map said ys)
asked_append xs ys =
    ap (filter_map name_said) (map-append said xs ys) ∙ filter_map-append name_said (map said xs) (map said ys)

-- of the first modules, and of the next
pub meant_module : (link : LinkParts) (slots : List (List ℕ)) (names : ℕ → List (List ℕ)) (k : ℕ) → with_meant link (with_meant link slots (flat_map names (range_with_len 0 k))) (names k) ≡ with_meant link slots (flat_map names (range_with_len 0 (k + 1)))
meant_module link slots names k =
    sym (ap (λ (ks : List ℕ). with_meant link slots (flat_map names ks)) (range_more 0 k k (omega arith))
    ∙ ap (with_meant link slots) (flat_map-append names (range_with_len 0 k) (k ∷ []) ∙ ap (λ (ys : List (List ℕ)). flat_map names (range_with_len 0 k) ++ ys) (append-nil (names k)))
    ∙ meant_append link slots (flat_map names (range_with_len 0 k)) (names k))
