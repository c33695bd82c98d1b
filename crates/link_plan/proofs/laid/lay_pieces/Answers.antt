use Rattle.std.proofs.Common.{◌≡◌, ℕ, Bool, length, map, get_or, List, Option, sym, ap, ◌∙◌, subst, arith}
use Rattle.std.proofs.lemmas.Result.{err_from_is_err_and}
use Rattle.std.specs.List.{All, filter_map}
use Rattle.std.proofs.lemmas.List.{length-map}
use Rattle.link_base.specs.Refusals.{RefusesFor}
use Rattle.symbol_table.specs.declared.meaning.Meaning.{Meaning}
use Rattle.section_group.specs.BarePieces.{bare}
use Rattle.section_group.specs.declared.piece.Piece.{Piece}
use Rattle.module_view.specs.Opening.{IsOpened}
use Rattle.link_words.specs.Outcome.{options_said}
use Rattle.link_pieces.specs.Pieces.{link_pieces}
use Rattle.debug_rows.specs.KeptPublics.{kept_public}
use Rattle.link_pieces.specs.Rows.{HasSomePlace}
use Rattle.link_fields.specs.Entry.{meant_place}
use Rattle.link_fields.specs.Places.{places_fault}
use Rattle.link_fields.specs.Fixes.{HaveFields}
use Rattle.link_plan.specs.Laid.{laid_link}
use Rattle.link_fields.specs.LoaderPlaces.{TLS_NAME, LOAD_CONFIG_NAME}
use Rattle.link_plan.proofs.CallerLemmas.{tls_sought, load_config_sought}
use Rattle.link_plan.proofs.EntryLemmas.{entry_stands, loader_stands}
use Rattle.link_plan.proofs.StageLemmas.{places_refused, fixes_refused, all_laid}
use Rattle.link_plan.proofs.LaidLemmas.{ArePlaces, table_planned, others_fail}
use Rattle.link_plan.proofs.PublicLemmas.{publics_planned}
use Rattle.link_plan.proofs.laid.lay_pieces.Goals as goal

pub pieces_of-requires-clause-slots : goal.pieces_of-requires-clause-slots
pieces_of-requires-clause-slots c = c.len-count.ensures.len ∙ ap (λ (slots : List (List ℕ)). length slots) c.requires.slots

pub new-requires-clause-placed : goal.new-requires-clause-placed
new-requires-clause-placed c =
    let pieces = c.in_ok-pieces.pieces.items in
    subst (λ (ps : List Piece). All (λ (piece : Piece). HasSomePlace c.args.modules.now (length c.args.meant.slots) piece.«module» piece.number) ps) (sym c.deref.ensures.value)
    (subst (λ (n : ℕ). All (λ (piece : Piece). HasSomePlace c.args.modules.now n piece.«module» piece.number) pieces) c.len-count.ensures.len c.in_ok-pieces.ensures.placed)

pub returns-in_err-pieces-clause-refused : goal.returns-in_err-pieces-clause-refused
returns-in_err-pieces-clause-refused c =
    let given = err_from_is_err_and c.from_residual.result c.from_residual.ensures.1 in
    rw (given.1, given.2) tt

pub returns-in_err-index-clause-refused : goal.returns-in_err-index-clause-refused
returns-in_err-index-clause-refused c =
    let given = err_from_is_err_and c.from_residual-in_err-index.result c.from_residual-in_err-index.ensures.1 in
    rw (given.1, given.2) tt

pub named_places-requires-clause-indexed : goal.named_places-requires-clause-indexed
named_places-requires-clause-indexed c =
    c.in_ok-index.ensures c.args.names.now c.requires.same (sym c.requires.slots) (ap (map bare) c.deref.ensures.value ∙ c.in_ok-pieces.ensures.pieces)

pub named_places-requires-clause-slots : goal.named_places-requires-clause-slots
named_places-requires-clause-slots c = c.len-count.ensures.len ∙ ap (λ (slots : List (List ℕ)). length slots) c.requires.slots

pub returns-in_err-places-clause-refused : goal.returns-in_err-places-clause-refused
returns-in_err-places-clause-refused c =
    let link = c.args.names.now in
    let given = err_from_is_err_and c.from_residual-in_err-places.result c.from_residual-in_err-places.ensures.1 in
    rw (given.1, given.2)
    (places_refused (options_said c.args.options.now) link c.in_err-places.field-0.0
    (subst (λ (start : Option Meaning). RefusesFor (places_fault link start) c.in_err-places.field-0.0) c.requires.start c.in_err-places.ensures.refused))

pub judge_pieces-requires-clause-indexed : goal.judge_pieces-requires-clause-indexed
judge_pieces-requires-clause-indexed c =
    c.in_ok-index.ensures c.args.names.now c.requires.same (sym c.requires.slots) (ap (map bare) c.deref.ensures.value ∙ c.in_ok-pieces.ensures.pieces)

pub returns-in_err-fixes-clause-refused : goal.returns-in_err-fixes-clause-refused
returns-in_err-fixes-clause-refused c =
    let link = c.args.names.now in
    let given = err_from_is_err_and c.from_residual-in_err-fixes.result c.from_residual-in_err-fixes.ensures.1 in
    rw (given.1, given.2)
    (fixes_refused (options_said c.args.options.now) link c.in_err-fixes.field-0.0
    (ap (places_fault link) (sym c.requires.start) ∙ c.in_ok-places.ensures.accepted) c.in_err-fixes.ensures.refused)

pub keep_pieces-requires-clause-indexed : goal.keep_pieces-requires-clause-indexed
keep_pieces-requires-clause-indexed c =
    c.in_ok-index.ensures c.args.names.now c.requires.same (sym c.requires.slots) (ap (map bare) c.deref.ensures.value ∙ c.in_ok-pieces.ensures.pieces)

pub keep_pieces-requires-clause-fields : goal.keep_pieces-requires-clause-fields
keep_pieces-requires-clause-fields c =
    subst (λ (n : ℕ). HaveFields c.args.names.now n c.in_ok-fixes.fixes.fixups.items) (ap length c.deref-2.ensures.value) c.in_ok-fixes.ensures.fields

pub keep_pieces-requires-clause-entry : goal.keep_pieces-requires-clause-entry
keep_pieces-requires-clause-entry c = c.in_ok-places.ensures.entry ∙ ap (meant_place c.args.names.now) c.requires.start

pub returns-in_err-laid-clause-refused : goal.returns-in_err-laid-clause-refused
returns-in_err-laid-clause-refused c =
    let given = err_from_is_err_and c.from_residual-in_err-laid.result c.from_residual-in_err-laid.ensures.1 in
    rw (given.1, given.2) tt

pub returns-clause-laid : goal.returns-clause-laid
returns-clause-laid c =
    let options = options_said c.args.options.now in
    let link = c.args.names.now in
    let laid = c.in_ok-laid.laid in
    let planned = c.in_ok-laid.ensures in
    let opened = c.in_ok-pieces.ensures.opened in
    let own = subst (All IsOpened) (sym c.requires.same) opened in
    record {
      opened = own;
      planned = planned;
      stands = rw planned.entry_is (entry_stands options (laid_link link laid) laid.pieces.items planned.pieces_are planned.kept_are own);
      tls_stands = rw planned.tls_is (loader_stands options (laid_link link laid) laid.pieces.items TLS_NAME tls_sought planned.pieces_are planned.kept_are own);
      load_config_stands = rw planned.load_config_is (loader_stands options (laid_link link laid) laid.pieces.items LOAD_CONFIG_NAME load_config_sought planned.pieces_are planned.kept_are own);
      no_fault = all_laid options link (ap (places_fault link) (sym c.requires.start) ∙ c.in_ok-places.ensures.accepted) c.in_ok-fixes.ensures.accepted;
    }

pub slot_table-table-requires-clause-others : goal.slot_table-table-requires-clause-others
slot_table-table-requires-clause-others c =
    let link = laid_link c.args.names.now c.in_ok-laid.laid in
    let pieces = c.in_ok-pieces.pieces in
    let count : c.len-first.result ≡ length (link_pieces link.parts) = omega (arith, c.len-first.ensures, pieces.ok.0, length-map pieces.items bare, ap length c.in_ok-pieces.ensures.pieces) in
    others_fail (options_said c.args.options.now) link (length c.args.modules.now) c.len-first.result c.deref-4.result.now (ap length (sym c.requires.same)) count (ap (map bare) c.deref-4.ensures.value ∙ c.in_ok-laid.ensures.pieces_are)

pub returns-clause-publics : goal.returns-clause-publics
returns-clause-publics c = λ asked.
    let options = options_said c.args.options.now in
    let link = laid_link c.args.names.now c.in_ok-laid.laid in
    let pieces = c.in_ok-pieces.pieces in
    let first = c.len-first.result in
    let spots = c.deref-7.result.now in
    let home = c.slot_table-table.result in
    let offsets = c.deref-8.result.now in
    let listed = c.deref-5.result.now in
    let places : ArePlaces link spots first home offsets = record {
      spots_are = c.deref-7.ensures.value;
      first_is = omega (arith, c.len-first.ensures, pieces.ok.0, length-map pieces.items bare, ap length c.in_ok-pieces.ensures.pieces);
      home_is = c.slot_table-table.ensures ∙ table_planned options link (length c.args.modules.now) c.deref-4.result.now (ap length (sym c.requires.same)) (ap (map bare) c.deref-4.ensures.value ∙ c.in_ok-laid.ensures.pieces_are);
      offsets_are = λ p. ap (λ (os : List ℕ). get_or os p 0) c.deref-8.ensures.value ∙ c.in_ok-laid.ensures.imports.offsets p;
    } in
    publics_planned link spots first home offsets listed c.in_ok-publics-2.publics.items places (c.deref-5.ensures.value ∙ c.in_ok-publics.ensures asked) (c.in_ok-publics-2.ensures ∙ ap (λ (kept : List Bool). filter_map (kept_public kept spots first home offsets) listed) c.deref-6.ensures.value)
