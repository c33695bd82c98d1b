use Rattle.std.proofs.Common.{◌≡◌, None}
use Rattle.link_base.specs.Bytes.{first_below}
use Rattle.section_group.specs.Uniqueness.{rows_of}
use Rattle.link_image.specs.NamedSections.{is_named}
use Rattle.link_image.proofs.tables.section_named.Given as goal

abbrev pub invariant-loop-index : goal.invariant-loop-index
invariant-loop-index l = first_below l.index (is_named (rows_of l.sections) l.name) ≡ None
