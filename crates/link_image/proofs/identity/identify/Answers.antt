use Rattle.std.proofs.Common.{◌≡◌, ℕ, List, [], ◌∷◌, length, get_or, Option, sym, ap, ◌∙◌, arith}
use Rattle.section_group.specs.declared.piece.Piece.{Piece}
use Rattle.section_group.specs.Uniqueness.{rows_of}
use Rattle.debug_entry.specs.Identifier.{image_identifier}
use Rattle.debug_entry.proofs.IdentifierLemmas.{length-identifier}
use Rattle.link_debug.specs.LinkDebug.{DebugView, data_bytes}
use Rattle.pdata_table.specs.SortedContents.{sorted_contents}
use Rattle.piece_bytes.specs.Owners.{section_of}
use Rattle.piece_bytes.specs.PieceBytes.{size_at, written}
use Rattle.link_words.specs.Outcome.{LinkOptions, options_said}
use Rattle.link_plan.specs.declared.planning.LinkPlan.{LinkPlan}
use Rattle.link_plan.specs.Plan.{kept_parts}
use Rattle.link_image.specs.declared.placement.Placement.{Placement}
use Rattle.link_image.specs.NamedSections.{pdata_pieces}
use Rattle.link_image.specs.LinkedBytes.{linked_contents, with_bytes}
use Rattle.link_image.specs.Steps.{reloc_tables, file_of, sorted_file}
use Rattle.link_image.proofs.FieldLemmas.{owners_there}
use Rattle.link_image.proofs.IdentityFile.{there, size_is, own, section_is, lies, put}
use Rattle.link_image.proofs.IdentityLemmas.{data_replaced, data_there}
use Rattle.link_image.proofs.TableLemmas.{place_is}
use Rattle.link_image.proofs.identity.identify.Goals as goal

pub returns-in_default-clause-file : goal.returns-in_default-clause-file
returns-in_default-clause-file c =
    let options : LinkOptions = options_said c.args.options.now in
    let plan : LinkPlan = c.args.plan.now in
    let placement : Placement = c.args.placement.now in
    let none = sym (place_is options plan c.requires.plan c.args.places.now 7 c.requires.places (omega arith)) ∙ c.in_default.is in
    let sorted = sorted_contents (pdata_pieces (rows_of placement.sections.items)) (linked_contents (kept_parts plan) (rows_of placement.sections.items) placement.layout c.args.headers.now.base) in
    c.requires.file
    ∙ ap (λ (place : Option ℕ). file_of c.args.headers.now placement.sections.items placement.layout (with_bytes place (data_bytes plan.names.debug (image_identifier (sorted_file c.args.headers.now plan placement))) sorted) (reloc_tables placement.table)) (sym none)

pub offset_bounds-owner-k : goal.offset_bounds-owner-k
offset_bounds-owner-k c =
    let options : LinkOptions = options_said c.args.options.now in
    let plan : LinkPlan = c.args.plan.now in
    let placement : Placement = c.args.placement.now in
    let k = c.in-Some.k in
    let found = sym (place_is options plan c.requires.plan c.args.places.now 7 c.requires.places (omega arith)) ∙ c.in-Some.is in
    omega (arith, there options plan c.requires.plan placement c.args.owner.now c.requires.ready c.args.headers.now c.requires.directories k found, c.requires.plan.few)

pub bounds-owner-k : goal.bounds-owner-k
bounds-owner-k c =
    let options : LinkOptions = options_said c.args.options.now in
    let plan : LinkPlan = c.args.plan.now in
    let placement : Placement = c.args.placement.now in
    let k = c.in-Some.k in
    let found = sym (place_is options plan c.requires.plan c.args.places.now 7 c.requires.places (omega arith)) ∙ c.in-Some.is in
    owners_there (kept_parts plan) plan.pieces.items plan.fixes.items placement.sections.items placement.layout c.args.owner.now (reloc_tables placement.table) c.requires.ready k (there options plan c.requires.plan placement c.args.owner.now c.requires.ready c.args.headers.now c.requires.directories k found)

pub overflow_cast-k : goal.overflow_cast-k
overflow_cast-k c =
    let options : LinkOptions = options_said c.args.options.now in
    let plan : LinkPlan = c.args.plan.now in
    let placement : Placement = c.args.placement.now in
    let k = c.in-Some.k in
    let found = sym (place_is options plan c.requires.plan c.args.places.now 7 c.requires.places (omega arith)) ∙ c.in-Some.is in
    omega (arith, there options plan c.requires.plan placement c.args.owner.now c.requires.ready c.args.headers.now c.requires.directories k found, c.requires.plan.few)

pub write_pieces-requires-clause-section : goal.write_pieces-requires-clause-section
write_pieces-requires-clause-section c =
    let options : LinkOptions = options_said c.args.options.now in
    let plan : LinkPlan = c.args.plan.now in
    let placement : Placement = c.args.placement.now in
    let k = c.in-Some.k in
    let found = sym (place_is options plan c.requires.plan c.args.places.now 7 c.requires.places (omega arith)) ∙ c.in-Some.is in
    omega (arith, section_is options plan c.requires.plan placement c.args.owner.now c.requires.ready c.args.headers.now c.requires.directories k found, (own options plan c.requires.plan placement c.args.owner.now c.requires.ready c.args.headers.now c.requires.directories k found).there, c.requires.ready.laid.section_for_each)

pub write_pieces-requires-clause-lie : goal.write_pieces-requires-clause-lie
write_pieces-requires-clause-lie c =
    let options : LinkOptions = options_said c.args.options.now in
    let plan : LinkPlan = c.args.plan.now in
    let placement : Placement = c.args.placement.now in
    let k = c.in-Some.k in
    let found = sym (place_is options plan c.requires.plan c.args.places.now 7 c.requires.places (omega arith)) ∙ c.in-Some.is in
    rw (c.deref-3.ensures.value, section_is options plan c.requires.plan placement c.args.owner.now c.requires.ready c.args.headers.now c.requires.directories k found, c.requires.file) (lies options plan c.requires.plan placement c.args.owner.now c.requires.ready c.args.headers.now c.requires.directories k found)

pub write_pieces-requires-clause-whole : goal.write_pieces-requires-clause-whole
write_pieces-requires-clause-whole c =
    let options : LinkOptions = options_said c.args.options.now in
    let plan : LinkPlan = c.args.plan.now in
    let placement : Placement = c.args.placement.now in
    let k = c.in-Some.k in
    let found = sym (place_is options plan c.requires.plan c.args.places.now 7 c.requires.places (omega arith)) ∙ c.in-Some.is in
    let id = image_identifier (sorted_file c.args.headers.now plan placement) in
    let long = (data_replaced options plan c.requires.plan placement.layout id (length-identifier _) k found).long in
    let holds : c.in_ok-data.data.items ≡ data_bytes plan.names.debug id =
    c.in_ok-data.ensures
    ∙ ap (λ (debug : DebugView). data_bytes debug c.image_identifier-id.result) c.debug.ensures
    ∙ ap (data_bytes plan.names.debug) (c.image_identifier-id.ensures ∙ ap image_identifier (c.deref.ensures.value ∙ c.requires.file)) in
    omega (arith, ap length c.deref-2.ensures.value, ap length holds, long, size_is options plan c.requires.plan placement c.args.owner.now c.requires.ready c.args.headers.now c.requires.directories k found, ap (λ (ps : List Piece). size_at ps k) c.deref-3.ensures.value)

pub returns-clause-file : goal.returns-clause-file
returns-clause-file c =
    let options : LinkOptions = options_said c.args.options.now in
    let plan : LinkPlan = c.args.plan.now in
    let placement : Placement = c.args.placement.now in
    let k = c.in-Some.k in
    let found = sym (place_is options plan c.requires.plan c.args.places.now 7 c.requires.places (omega arith)) ∙ c.in-Some.is in
    let id = image_identifier (sorted_file c.args.headers.now plan placement) in
    let long = (data_replaced options plan c.requires.plan placement.layout id (length-identifier _) k found).long in
    let holds : c.in_ok-data.data.items ≡ data_bytes plan.names.debug id =
    c.in_ok-data.ensures
    ∙ ap (λ (debug : DebugView). data_bytes debug c.image_identifier-id.result) c.debug.ensures
    ∙ ap (data_bytes plan.names.debug) (c.image_identifier-id.ensures ∙ ap image_identifier (c.deref.ensures.value ∙ c.requires.file)) in
    let at = section_of (rows_of placement.sections.items) k in
    let image = c.args.image.now.items in
    let sorted = sorted_contents (pdata_pieces (rows_of placement.sections.items)) (linked_contents (kept_parts plan) (rows_of placement.sections.items) placement.layout c.args.headers.now.base) in
    c.write_pieces.ensures
    ∙ ap (λ (ps : List Piece). written placement.layout ps (get_or c.args.owner.now k 0) (k ∷ []) c.deref-2.result.now image) c.deref-3.ensures.value
    ∙ ap (λ (i : ℕ). written placement.layout plan.pieces.items i (k ∷ []) c.deref-2.result.now image) (section_is options plan c.requires.plan placement c.args.owner.now c.requires.ready c.args.headers.now c.requires.directories k found)
    ∙ ap (λ (bytes : List ℕ). written placement.layout plan.pieces.items at (k ∷ []) bytes image) (c.deref-2.ensures.value ∙ holds)
    ∙ ap (λ (file : List ℕ). written placement.layout plan.pieces.items at (k ∷ []) (data_bytes plan.names.debug id) file) c.requires.file
    ∙ put options plan c.requires.plan placement c.args.owner.now c.requires.ready c.args.headers.now c.requires.directories k found (data_bytes plan.names.debug id) long
    ∙ ap (λ (place : Option ℕ). file_of c.args.headers.now placement.sections.items placement.layout (with_bytes place (data_bytes plan.names.debug id) sorted) (reloc_tables placement.table)) (sym found)

pub returns-in_default-clause-identifier : goal.returns-in_default-clause-identifier
returns-in_default-clause-identifier c = λ asked.
    let options : LinkOptions = options_said c.args.options.now in
    let plan : LinkPlan = c.args.plan.now in
    let none = sym (place_is options plan c.requires.plan c.args.places.now 7 c.requires.places (omega arith)) ∙ c.in_default.is in
    absurd (data_there options plan c.requires.plan asked none)

pub returns-clause-identifier : goal.returns-clause-identifier
returns-clause-identifier c = λ asked. c.image_identifier-id.ensures ∙ ap image_identifier (c.deref.ensures.value ∙ c.requires.file)
