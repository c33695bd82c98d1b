use Rattle.std.proofs.Common.{◌≡◌, ◌<◌, ◌-◌, ℕ, List, false, true, length, Some, inl, inr, sym, ap, ◌∙◌, arith}
use Rattle.std.specs.Prelude.{option_map}
use Rattle.std.proofs.lemmas.Bool.{cases_lt}
use Rattle.symbol_names.specs.LinkView.{LinkView}
use Rattle.symbol_names.specs.References.{all_asked}
use Rattle.symbol_table.specs.OpenNames.{asked_at, is_open_at, named_at, open_from}
use Rattle.symbol_names.specs.Interning.{NotesAsked}
use Rattle.symbol_table.specs.TableParts.{link_view}
use Rattle.symbol_names.proofs.NumberLemmas.{number_within, one_name, zip_length}
use Rattle.symbol_table.proofs.AskedLemmas.{asked_number, open_here, first_found, none_found}
use Rattle.symbol_table.proofs.table.SymbolTable.open_from.Goals as goal

pub is_open-requires : goal.is_open-requires
is_open-requires c =
    let names = c.self.inside.names.keys in
    number_within names c.index-asked.result.now.name _
    (asked_number names c.self.inside.given c.self.inside.modules.items c.self.inside.asked c.loop-at.at c.index-asked.result.now c.self.invariant (omega (arith, c.loop-at-test.true, c.len-at-end.ensures)) c.index-asked.ensures)

pub name_at-requires : goal.name_at-requires
name_at-requires c =
    let names = c.self.inside.names.keys in
    number_within names c.index-asked.result.now.name _
    (asked_number names c.self.inside.given c.self.inside.modules.items c.self.inside.asked c.loop-at.at c.index-asked.result.now c.self.invariant (omega (arith, c.loop-at-test.true, c.len-at-end.ensures)) c.index-asked.ensures)

pub loop-at-preserved : goal.loop-at-preserved
loop-at-preserved c = λ k low high.
    let link = c.args.self.now in
    let at = c.loop-at.at in
    let here : is_open_at link at ≡ false =
    ap (λ (v : LinkView). is_open_at v at) (sym c.self.view_is)
    ∙ sym (open_here c.self.inside.names.keys c.self.inside.given c.self.inside.modules.items c.self.inside.asked at c.index-asked.result.now c.is_open.result c.self.invariant (omega (arith, c.loop-at-test.true, c.len-at-end.ensures)) c.index-asked.ensures c.is_open.ensures)
    ∙ c.if-is_open.false in
    elim (cases_lt k at) [
      | inl below ↦ c.loop-at.invariant k low below
      | inr level ↦ let same : k ≡ at = omega arith in ap (is_open_at link) same ∙ here
    ]

pub returns-then-is_open : goal.returns-then-is_open
unfolding open_from
returns-then-is_open c =
    let names = c.self.inside.names.keys in
    let given = c.self.inside.given in
    let kept = c.self.inside.modules.items in
    let asked = c.self.inside.asked in
    let noted = c.index-asked.result.now in
    let link = c.args.self.now in
    let at = c.loop-at.at in
    let lt : at < length asked.list.items = omega (arith, c.loop-at-test.true, c.len-at-end.ensures) in
    let long : length (all_asked link) ≡ length asked.list.items =
    ap (λ (v : LinkView). length (all_asked v)) (sym c.self.view_is) ∙ zip_length (NotesAsked names) (all_asked (link_view given kept)) asked.list.items c.self.invariant.asked_for.list in
    let here : is_open_at link at ≡ true =
    ap (λ (v : LinkView). is_open_at v at) (sym c.self.view_is)
    ∙ sym (open_here names given kept asked at noted c.is_open.result c.self.invariant lt c.index-asked.ensures c.is_open.ensures)
    ∙ c.if-is_open.true in
    ap (λ (name : List ℕ). Some (at, name))
    (one_name names noted.name c.name_at.result (asked_at (link_view given kept) at).name c.name_at.ensures (asked_number names given kept asked at noted c.self.invariant lt c.index-asked.ensures)
    ∙ ap (λ (v : LinkView). (asked_at v at).name) c.self.view_is)
    ∙ sym (ap (option_map (named_at link)) (first_found (is_open_at link) c.args.number (length (all_asked link) - c.args.number) at c.loop-at.auto.at (omega (arith, lt, long, c.loop-at.auto.at)) c.loop-at.invariant here))

pub returns : goal.returns
unfolding open_from
returns c =
    let link = c.args.self.now in
    let asked = c.self.inside.asked in
    let long : length (all_asked link) ≡ length asked.list.items =
    ap (λ (v : LinkView). length (all_asked v)) (sym c.self.view_is) ∙ zip_length (NotesAsked c.self.inside.names.keys) (all_asked (link_view c.self.inside.given c.self.inside.modules.items)) asked.list.items c.self.invariant.asked_for.list in
    sym (ap (option_map (named_at link)) (none_found (is_open_at link) c.args.number (length (all_asked link) - c.args.number)
    (λ j low high. c.loop-at.invariant j low (omega (arith, high, low, long, c.loop-at-test.false, c.len-at-end.ensures)))))
