use Rattle.std.proofs.Common.{List, inl, inr, map, sym, ap, subst, ◌∙◌, arith}
use Rattle.std.specs.Prelude.{filter}
use Rattle.std.proofs.lemmas.List.Elements.{filter-append}
use Rattle.symbol_names.specs.Lists.{Provided, provided_by, is_live}
use Rattle.symbol_names.specs.Kept.{rows_of, noted_view}
use Rattle.symbol_table.specs.Passes.{AreLives}
use Rattle.symbol_table.proofs.PassLemmas.{each_first, each_first_more, each_first_all, none_or_some}
use Rattle.symbol_table.proofs.LiveLemmas.{no_lives}
use Rattle.symbol_table.proofs.lives.live_definitions.Goals as goal

pub loop-position-init : goal.loop-position-init
loop-position-init c =
    no_lives c.args.names.now.keys c.len.result c.in_ok-vec.field-0.items (c.in_ok-vec.ensures.items_if_clones_equal (λ y e. elim (none_or_some y) [ inl none ↦ none | inr some ↦ absurd (rw some.1 at e) ])) c.len.ensures.len

pub note_lives-requires-clause-long : goal.note_lives-requires-clause-long
note_lives-requires-clause-long c = c.loop-position.invariant.long

pub loop-position-preserved : goal.loop-position-preserved
loop-position-preserved c =
    let test = is_live (rows_of c.args.chosen.now) in
    let modules = c.args.modules.now in
    let k = c.loop-position.position in
    let noted = c.index-modules-position.result in
    subst (λ (es : List Provided). AreLives c.args.names.now.keys es c.note_lives.new.lives.firsts.items c.note_lives.new.lives.clash)
    (sym (ap (filter test) (each_first_more provided_by modules k c.index-modules-position.result (omega arith) c.index-modules-position.is)
    ∙ filter-append test (each_first provided_by (map noted_view modules) k) (provided_by k (noted_view noted))))
    (c.note_lives.ensures.noted _ c.loop-position.invariant)

pub returns : goal.returns
returns c =
    subst (λ (es : List Provided). AreLives c.args.names.now.keys (filter (is_live (rows_of c.args.chosen.now)) es) c.loop-position.lives.firsts.items c.loop-position.lives.clash)
    (each_first_all provided_by c.args.modules.now c.loop-position.position (omega arith))
    c.loop-position.invariant
