use Rattle.std.proofs.Common.{◌≡◌, None}
use Rattle.link_base.specs.Refusals.{first_refusal_below}
use Rattle.export_tables.specs.ExportDirectory.{named_address}
use Rattle.export_tables.proofs.lookup.name_address.Given as goal

abbrev pub invariant-loop-index : goal.invariant-loop-index
invariant-loop-index l = first_refusal_below l.index (named_address l.memory l.directory l.name) ≡ None
