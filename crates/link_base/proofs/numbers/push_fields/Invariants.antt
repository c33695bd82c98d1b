use Rattle.std.proofs.Common.{◌≡◌, ◌++◌, take}
use Rattle.link_base.specs.Fields.{fields}
use Rattle.link_base.proofs.numbers.push_fields.Given as goal

abbrev pub invariant-loop-field : goal.invariant-loop-field
invariant-loop-field l = l.out.items ≡ l.initial.out.items ++ fields (take l.field-index l.table)
