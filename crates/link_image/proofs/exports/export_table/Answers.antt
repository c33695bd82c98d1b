use Rattle.std.proofs.Common.{ℕ, List, Option, None, get_or, sym, ap, ◌∙◌}
use Rattle.link_words.specs.Outcome.{options_said}
use Rattle.link_plan.specs.Plan.{kept_parts}
use Rattle.link_image.proofs.TableLemmas.{places_are}
use Rattle.link_image.proofs.ExportTableLemmas.{nothing_held, nothing_inside, nothing_given}
use Rattle.link_image.proofs.exports.export_table.Goals as goal

pub returns-in-None-clause-table : goal.returns-in-None-clause-table
returns-in-None-clause-table c =
    c.new.ensures.items
    ∙ sym (nothing_held (kept_parts c.args.plan.now) c.args.placement.now.layout (sym (ap (λ (ps : List (Option ℕ)). get_or ps 5 None) (places_are (options_said c.args.options.now) c.args.plan.now c.requires.plan c.args.places.now c.requires.places)) ∙ c.in-None.is))

pub returns-in-None-clause-outside : goal.returns-in-None-clause-outside
returns-in-None-clause-outside c =
    nothing_inside (kept_parts c.args.plan.now) c.args.placement.now.layout.pieces.items (sym (ap (λ (ps : List (Option ℕ)). get_or ps 5 None) (places_are (options_said c.args.options.now) c.args.plan.now c.requires.plan c.args.places.now c.requires.places)) ∙ c.in-None.is)

pub returns-in-None-clause-given : goal.returns-in-None-clause-given
returns-in-None-clause-given c =
    nothing_given (kept_parts c.args.plan.now) c.args.placement.now.layout.pieces.items (sym (ap (λ (ps : List (Option ℕ)). get_or ps 5 None) (places_are (options_said c.args.options.now) c.args.plan.now c.requires.plan c.args.places.now c.requires.places)) ∙ c.in-None.is)

pub table_at-requires-clause-found : goal.table_at-requires-clause-found
table_at-requires-clause-found c =
    sym (ap (λ (ps : List (Option ℕ)). get_or ps 5 None) (places_are (options_said c.args.options.now) c.args.plan.now c.requires.plan c.args.places.now c.requires.places)) ∙ c.in-Some.is
