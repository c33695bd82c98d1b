-- A link has one loading: one fault of it, or one list of modules that join, with the entries of its
-- resource files.
use Rattle.std.proofs.Common.{◌≡◌, ℕ, ◌<◌, ◌≤◌, zero, suc, List, Some, None, sym, ap, ◌∙◌, inl, inr, arith}
use Rattle.std.proofs.lemmas.Option.{none-some, same_Some}
use Rattle.std.proofs.lemmas.Bool.{cases_lt}
use Rattle.link_base.specs.declared.fault.Fault.{Fault}
use Rattle.link_files.specs.Store.{Store}
use Rattle.module_view.specs.Module.{ModuleView}
use Rattle.link_words.specs.Outcome.{LinkOptions}
use Rattle.res_merge.specs.Entries.{Entry}
use Rattle.lib_search.specs.SearchSteps.{SearchState, Ends, Faults, next_step}
use Rattle.lib_search.specs.Loading.{state_in, state_after_one, state_after, EndsAt, FaultsAt, HasLoadingFault, AtRead, AtOpening, AtStep, Loads}

-- ---- one end

-- a state whose step leads no further
abbrev Halts : Store → LinkOptions → SearchState → Type 0
Halts store options state = state_in (next_step store options state) ≡ None

-- behind a state that halts there is none
halted : (store : Store) (options : LinkOptions) (steps : ℕ) (state : SearchState) → state_after store options steps ≡ Some state → Halts store options state → state_after store options (suc steps) ≡ None
unfolding state_after
halted store options steps state is halts = ap (state_after_one store options) is ∙ halts

at_steps : (store : Store) (options : LinkOptions) (steps others : ℕ) → steps ≡ others → state_after store options steps ≡ state_after store options others
at_steps store options steps others same = ap (state_after store options) same

-- nor later
none_later : (store : Store) (options : LinkOptions) (steps later : ℕ) → state_after store options steps ≡ None → steps ≤ later → state_after store options later ≡ None
unfolding state_after
none_later store options steps zero none le = at_steps store options zero steps (omega (arith, le)) ∙ none
none_later store options steps (suc later) none le = elim (cases_lt later steps) [
  | inl lt ↦ at_steps store options (suc later) steps (omega (arith, lt, le)) ∙ none
  | inr ge ↦ ap (state_after_one store options) (none_later store options steps later none ge)
]

not_before : (store : Store) (options : LinkOptions) (steps others : ℕ) (state other : SearchState) → state_after store options steps ≡ Some state → Halts store options state → state_after store options others ≡ Some other → steps < others → ⊥
not_before store options steps others state other is halts other_is lt =
    none-some other (sym (none_later store options (suc steps) others (halted store options steps state is halts) lt) ∙ other_is)

-- two states that halt are one
one_halt : (store : Store) (options : LinkOptions) (steps others : ℕ) (state other : SearchState) → state_after store options steps ≡ Some state → Halts store options state → state_after store options others ≡ Some other → Halts store options other → state ≡ other
one_halt store options steps others state other is halts other_is other_halts = elim (cases_lt steps others) [
  | inl lt ↦ absurd (not_before store options steps others state other is halts other_is lt)
  | inr ge ↦ elim (cases_lt others steps) [
    | inl lt ↦ absurd (not_before store options others steps other state other_is other_halts is lt)
    | inr le ↦ same_Some state other (sym is ∙ at_steps store options steps others (omega (arith, ge, le)) ∙ other_is)
  ]
]

same_end : (store : Store) (options : LinkOptions) (state other : SearchState) → EndsAt store options state → EndsAt store options other → state ≡ other
same_end store options state other x y =
    one_halt store options x.reached.steps y.reached.steps state other x.reached.is (ap state_in x.next) y.reached.is (ap state_in y.next)

-- ---- one fault

same_faults : (f g : Fault) → Faults f ≡ Faults g → f ≡ g
same_faults f g is = cc

no_end : (f : Fault) → Ends ≡ Faults f → ⊥
no_end f is = cc

same_step : (store : Store) (options : LinkOptions) (state other : SearchState) (f g : Fault) → FaultsAt store options state f → FaultsAt store options other g → f ≡ g
same_step store options state other f g x y =
    let same = one_halt store options x.reached.steps y.reached.steps state other x.reached.is (ap state_in x.next) y.reached.is (ap state_in y.next) in
    same_faults f g (sym x.next ∙ ap (next_step store options) same ∙ y.next)

not_both : (store : Store) (options : LinkOptions) (state other : SearchState) (fault : Fault) → FaultsAt store options state fault → EndsAt store options other → ⊥
not_both store options state other fault x y =
    let same = one_halt store options x.reached.steps y.reached.steps state other x.reached.is (ap state_in x.next) y.reached.is (ap state_in y.next) in
    no_end fault (sym y.next ∙ sym (ap (next_step store options) same) ∙ x.next)

pub one_fault : (store : Store) (options : LinkOptions) (f g : Fault) → HasLoadingFault store options f → HasLoadingFault store options g → f ≡ g
one_fault store options f g (AtRead r) (AtRead s) = same_Some f g (sym r ∙ s)
one_fault store options f g (AtRead r) (AtOpening read opened) = absurd (none-some f (sym read ∙ r))
one_fault store options f g (AtRead r) (AtStep state y) = absurd (none-some f (sym y.reached.read ∙ r))
one_fault store options f g (AtOpening read opened) (AtRead s) = absurd (none-some g (sym read ∙ s))
one_fault store options f g (AtOpening read opened) (AtOpening other y) = same_Some f g (sym opened ∙ y)
one_fault store options f g (AtOpening read opened) (AtStep state y) = absurd (none-some f (sym y.reached.opened ∙ opened))
one_fault store options f g (AtStep state x) (AtRead s) = absurd (none-some g (sym x.reached.read ∙ s))
one_fault store options f g (AtStep state x) (AtOpening read opened) = absurd (none-some g (sym x.reached.opened ∙ opened))
one_fault store options f g (AtStep state x) (AtStep other y) = same_step store options state other f g x y

-- ---- one list of modules, and one of entries

pub fault_or_loads : (store : Store) (options : LinkOptions) (fault : Fault) (modules : List ModuleView) (entries : List Entry) → HasLoadingFault store options fault → Loads store options modules entries → ⊥
fault_or_loads store options fault modules entries (AtRead r) y = none-some fault (sym y.ends.reached.read ∙ r)
fault_or_loads store options fault modules entries (AtOpening read opened) y = none-some fault (sym y.ends.reached.opened ∙ opened)
fault_or_loads store options fault modules entries (AtStep state x) y = not_both store options state y.state fault x y.ends

pub one_loading : (store : Store) (options : LinkOptions) (modules others : List ModuleView) (entries other_entries : List Entry) → Loads store options modules entries → Loads store options others other_entries → (modules ≡ others) × (entries ≡ other_entries)
one_loading store options modules others entries other_entries x y = (
  x.modules_are ∙ ap (λ (s : SearchState). s.searched.link.modules) (same_end store options x.state y.state x.ends y.ends) ∙ sym y.modules_are,
  x.entries_are ∙ sym y.entries_are,
)
