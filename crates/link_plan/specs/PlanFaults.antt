-- Why modules are not linked, before anything is laid out: the faults of the stages from mismatch to fields, in their order.
-- The order is own.
use Rattle.std.specs.Prelude.{List, Option, None, option_map}
use Rattle.std.specs.Option.{option_or}
use Rattle.link_base.specs.declared.fault.Fault.{Fault}
use Rattle.link_pieces.specs.LinkParts.{LinkParts}
use Rattle.link_base.specs.declared.fault.Fault.TheVariants as faults
use Rattle.module_view.specs.Module.{ModuleView}
use Rattle.link_directives.specs.LinkDirectives.{mismatch_of}
use Rattle.link_directives.specs.declared.mismatch.Mismatch.{Mismatch}
use Rattle.link_pieces.specs.ChoiceFaults.{conflict_fault, clash_fault}
use Rattle.link_words.specs.Outcome.{LinkOptions}
use Rattle.lib_search.specs.LinkOf.{asked_names}
use Rattle.link_fields.specs.Entry.{entry_meant}
use Rattle.link_fields.specs.Fixes.{fixes_fault}
use Rattle.link_fields.specs.Places.{places_fault}
use Rattle.link_plan.specs.References.{names_fault, references_fault, entry_meaning_fault}

-- mismatch: a directive gives a key another value than an earlier one
abbrev pub mismatched : Mismatch → Fault
mismatched mismatch = faults.Mismatch mismatch.key mismatch.first mismatch.second

abbrev pub mismatch_fault : List ModuleView → Option Fault
mismatch_fault modules = option_map mismatched (mismatch_of modules)

-- choice: COMDAT sections conflict, or two modules define one name
abbrev pub choice_fault : LinkParts → Option Fault
choice_fault link = option_or (conflict_fault link.modules) (clash_fault link.modules)

-- meaning: the entry means nothing, or another name that the command line asks for, or a reference of a module
abbrev pub meaning_fault : LinkOptions → LinkParts → Option Fault
meaning_fault options link =
    option_or (entry_meaning_fault link options.entry_name)
    (option_or (names_fault link None (asked_names options)) (references_fault link))

-- fields: the entry has no place in the image, or what is exported, or what a local slot points to; or a relocation of a piece
-- has a fault
abbrev pub fields_fault : LinkOptions → LinkParts → Option Fault
fields_fault options link =
    option_or (places_fault link (entry_meant link options.entry_name)) (fixes_fault link options.large)

-- the first of the stages that has a fault
unfoldable pub plan_fault : LinkOptions → LinkParts → Option Fault
plan_fault options link =
    option_or (mismatch_fault link.modules)
    (option_or (choice_fault link) (option_or (meaning_fault options link) (fields_fault options link)))
