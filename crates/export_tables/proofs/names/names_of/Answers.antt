use Rattle.std.proofs.Common.{List, Option, ap, ◌∙◌}
use Rattle.std.specs.List.{flat_map}
use Rattle.std.specs.Option.{option_to_list}
use Rattle.export_tables.specs.declared.names.NameEntry.{NameEntry}
use Rattle.export_tables.proofs.PlaceLemmas.{names_are}
use Rattle.export_tables.proofs.names.names_of.Goals as goal

pub returns : goal.returns
returns c =
    names_are c.args.rows.now c.args.ordinals.now c.in_ok-names.names.items c.sort.new.names.items c.requires
    (c.in_ok-names.ensures ∙ ap (λ (places : List (Option NameEntry)). flat_map option_to_list places) (c.deref.ensures.value ∙ c.in_ok-places.ensures)) c.sort.ensures.permutation c.sort.ensures.sorted
