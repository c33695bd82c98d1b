use Rattle.std.proofs.Common.{◌≡◌, ◌<◌, ℕ, true, List, length, option_map, refl, sym, ap, ◌∙◌, subst, arith}
use Rattle.std.specs.List.{All}
use Rattle.section_group.specs.Uniqueness.{rows_of}
use Rattle.address_layout.specs.Layout.{all_pieces}
use Rattle.image_writer.specs.declared.headers.Headers.{Headers}
use Rattle.debug_entry.specs.Identifier.{image_identifier}
use Rattle.std.proofs.lemmas.Result.{err_from_is_err_and}
use Rattle.section_group.specs.declared.piece.OutSection.{OutSection}
use Rattle.link_words.specs.Outcome.{LinkOptions, options_said}
use Rattle.link_plan.specs.declared.planning.LinkPlan.{LinkPlan}
use Rattle.link_plan.specs.Plan.{kept_parts}
use Rattle.link_image.specs.declared.placement.Placement.{Placement}
use Rattle.image_headers.specs.ImageHeaders.{headers_of}
use Rattle.link_image.specs.LinkedBytes.{owners_in}
use Rattle.link_image.specs.LinkedImage.{entry_rva, directories_of}
use Rattle.link_image.specs.Steps.{reloc_tables, sorted_file, identified_file, IsWritten}
use Rattle.pdb_msf.specs.WrittenFile.{msf_of}
use Rattle.link_image.specs.LinkPdb.{streams_at, asked_pdb, Fits}
use Rattle.link_library.specs.LinkLibrary.{asked_library, library_fault}
use Rattle.link_image.proofs.SectionLemmas.{ready}
use Rattle.link_base.specs.Refusals.{RefusesFor}
use Rattle.export_tables.specs.Ordinals.{ordinal_fault}
use Rattle.link_exports.specs.Exports.{ExportsView}
use Rattle.link_image.proofs.ImportLemmas.{exports_unrefused}
use Rattle.link_image.proofs.MeansLemmas.{built, headers_inside, large_pdb, large_library}
use Rattle.link_image.proofs.make.image_of.Goals as goal

pub finish-requires-clause-base : goal.finish-requires-clause-base
finish-requires-clause-base g c κs within =
    let options : LinkOptions = options_said c.args.options.now in
    let placement : Placement = c.args.placement.now in
    ap (λ (h : Headers). h.base) c.headers_of-headers.ensures

pub owners_of-requires-clause-within : goal.owners_of-requires-clause-within
owners_of-requires-clause-within g c =
    let placement : Placement = c.args.placement.now in
    let count : c.len-2.result ≡ length placement.layout.pieces.items = c.len-2.ensures ∙ placement.layout.pieces.ok.0 in
    let laid = c.requires.placed.laid c.in_ok-image.ensures.rest c.in_ok-image.ensures.holds in
    subst (λ (ss : List OutSection). All (λ k. k < c.len-2.result) (all_pieces ss)) (sym c.deref-2.ensures.value)
    (subst (λ (n : ℕ). All (λ k. k < n) (all_pieces placement.sections.items)) (sym (count ∙ laid.rva_for_each)) laid.within)

pub returns-clause-built : goal.returns-clause-built
returns-clause-built g c =
    let options : LinkOptions = options_said c.args.options.now in
    let plan : LinkPlan = c.args.plan.now in
    let placement : Placement = c.args.placement.now in
    let owner = owners_in (rows_of placement.sections.items) placement.layout in
    let written : IsWritten c.headers_of-headers.result placement (kept_parts plan) c.in_ok-image.image.items = c.in_ok-image.ensures in
    let begins : c.headers_of-headers.result ≡ headers_of options (entry_rva placement.layout.pieces.items plan.entry) (directories_of (kept_parts plan) (rows_of placement.sections.items) placement.layout (reloc_tables placement.table)) =
    c.headers_of-headers.ensures ∙ ap (λ (e : ℕ). headers_of options e c.directories_of-directories.result) c.entry_rva-entry.ensures ∙ ap (headers_of options (entry_rva placement.layout.pieces.items plan.entry)) c.directories_of-directories.ensures in
    let all = ready options plan placement c.headers_of-headers.result c.in_ok-image.image.items owner c.requires.plan c.requires.placed written refl in
    let told = λ (asked : options.debug ≡ true). c.in_ok-id.ensures.identifier asked ∙ ap (λ (h : Headers). image_identifier (sorted_file h plan placement)) begins in
    let rows = rows_of placement.sections.items in
    let pdb = subst (λ (bytes : List ℕ). option_map (λ b. b.items) c.in_ok-pdb.pdb ≡ asked_pdb options (msf_of (streams_at options (kept_parts plan) rows placement.layout c.in_ok-id.id bytes))) c.deref-6.ensures.value c.in_ok-pdb.ensures.pdb in
    let fits = subst (λ (bytes : List ℕ). Fits options (streams_at options (kept_parts plan) rows placement.layout c.in_ok-id.id bytes)) c.deref-6.ensures.value c.in_ok-pdb.ensures.fits in
    let file = c.in_ok-id.ensures.identified ∙ ap (λ (h : Headers). identified_file h plan placement) begins in
    let library = c.in_ok-library.ensures.library ∙ ap (asked_library options) c.exports.ensures in
    let accepted = ap (library_fault options) (sym c.exports.ensures) ∙ c.in_ok-library.ensures.accepted in
    built options plan placement owner c.requires.plan c.requires.placed all (record { image = c.finish.new.image; sections = c.len-sections.result; map = c.in_ok-map.map; pdb = c.in_ok-pdb.pdb; library = c.in_ok-library.library }) c.requires.permitted c.in_ok-exports.ensures.outside c.in_ok-exports.ensures.given c.in_ok-id.ensures.in_range file (c.len-sections.ensures ∙ placement.sections.ok.0) c.in_ok-map.ensures c.in_ok-id.id told pdb fits library accepted

pub map_of-requires-clause-places : goal.map_of-requires-clause-places
map_of-requires-clause-places g c =
    (c.requires.placed.laid c.in_ok-image.ensures.rest c.in_ok-image.ensures.holds).section_for_each

pub map_of-requires-clause-entry : goal.map_of-requires-clause-entry
map_of-requires-clause-entry g c = c.entry_rva-entry.ensures

pub overflow_cast-sections : goal.overflow_cast-sections
overflow_cast-sections g c =
    let placement : Placement = c.args.placement.now in
    omega (arith, c.requires.placed.few, c.len-sections.ensures, placement.sections.ok.0)

pub pdb_of-requires-clause-headers : goal.pdb_of-requires-clause-headers
pdb_of-requires-clause-headers g c =
    let options : LinkOptions = options_said c.args.options.now in
    let plan : LinkPlan = c.args.plan.now in
    let placement : Placement = c.args.placement.now in
    let owner = owners_in (rows_of placement.sections.items) placement.layout in
    let written : IsWritten c.headers_of-headers.result placement (kept_parts plan) c.in_ok-image.image.items = c.in_ok-image.ensures in
    let begins : c.headers_of-headers.result ≡ headers_of options (entry_rva placement.layout.pieces.items plan.entry) (directories_of (kept_parts plan) (rows_of placement.sections.items) placement.layout (reloc_tables placement.table)) =
    c.headers_of-headers.ensures ∙ ap (λ (e : ℕ). headers_of options e c.directories_of-directories.result) c.entry_rva-entry.ensures ∙ ap (headers_of options (entry_rva placement.layout.pieces.items plan.entry)) c.directories_of-directories.ensures in
    let all = ready options plan placement c.headers_of-headers.result c.in_ok-image.image.items owner c.requires.plan c.requires.placed written refl in
    let file = c.in_ok-id.ensures.identified ∙ ap (λ (h : Headers). identified_file h plan placement) begins in
    headers_inside options plan placement owner c.requires.plan c.requires.placed all c.deref-6.result.now (c.deref-6.ensures.value ∙ file)

pub returns-in_err-pdb-clause-refused : goal.returns-in_err-pdb-clause-refused
returns-in_err-pdb-clause-refused g c =
    let options : LinkOptions = options_said c.args.options.now in
    let plan : LinkPlan = c.args.plan.now in
    let placement : Placement = c.args.placement.now in
    let owner = owners_in (rows_of placement.sections.items) placement.layout in
    let written : IsWritten c.headers_of-headers.result placement (kept_parts plan) c.in_ok-image.image.items = c.in_ok-image.ensures in
    let begins : c.headers_of-headers.result ≡ headers_of options (entry_rva placement.layout.pieces.items plan.entry) (directories_of (kept_parts plan) (rows_of placement.sections.items) placement.layout (reloc_tables placement.table)) =
    c.headers_of-headers.ensures ∙ ap (λ (e : ℕ). headers_of options e c.directories_of-directories.result) c.entry_rva-entry.ensures ∙ ap (headers_of options (entry_rva placement.layout.pieces.items plan.entry)) c.directories_of-directories.ensures in
    let all = ready options plan placement c.headers_of-headers.result c.in_ok-image.image.items owner c.requires.plan c.requires.placed written refl in
    let file = c.in_ok-id.ensures.identified ∙ ap (λ (h : Headers). identified_file h plan placement) begins in
    let told = λ (asked : options.debug ≡ true). c.in_ok-id.ensures.identifier asked ∙ ap (λ (h : Headers). image_identifier (sorted_file h plan placement)) begins in
    let given = err_from_is_err_and c.from_residual-in_err-pdb.result c.from_residual-in_err-pdb.ensures.1 in
    rw (given.1, given.2)
    (large_pdb options plan placement owner c.requires.plan c.requires.placed all c.in_ok-id.id c.deref-6.result.now c.in_err-pdb.field-0.0 c.requires.permitted c.in_ok-exports.ensures.outside c.in_ok-id.ensures.in_range told (c.deref-6.ensures.value ∙ file) c.in_err-pdb.ensures.refused)

pub link_library-requires-clause-unrefused : goal.link_library-requires-clause-unrefused
link_library-requires-clause-unrefused g c =
    ap (λ (exports : ExportsView). exports.fault) c.exports.ensures
    ∙ (exports_unrefused (options_said c.args.options.now) c.args.plan.now c.args.placement.now c.requires.plan c.requires.placed).0

pub link_library-requires-clause-numbered : goal.link_library-requires-clause-numbered
link_library-requires-clause-numbered g c =
    ap (λ (exports : ExportsView). ordinal_fault exports.rows) c.exports.ensures
    ∙ (exports_unrefused (options_said c.args.options.now) c.args.plan.now c.args.placement.now c.requires.plan c.requires.placed).1

pub returns-in_err-library-clause-refused : goal.returns-in_err-library-clause-refused
returns-in_err-library-clause-refused g c =
    let options : LinkOptions = options_said c.args.options.now in
    let plan : LinkPlan = c.args.plan.now in
    let placement : Placement = c.args.placement.now in
    let owner = owners_in (rows_of placement.sections.items) placement.layout in
    let written : IsWritten c.headers_of-headers.result placement (kept_parts plan) c.in_ok-image.image.items = c.in_ok-image.ensures in
    let begins : c.headers_of-headers.result ≡ headers_of options (entry_rva placement.layout.pieces.items plan.entry) (directories_of (kept_parts plan) (rows_of placement.sections.items) placement.layout (reloc_tables placement.table)) =
    c.headers_of-headers.ensures ∙ ap (λ (e : ℕ). headers_of options e c.directories_of-directories.result) c.entry_rva-entry.ensures ∙ ap (headers_of options (entry_rva placement.layout.pieces.items plan.entry)) c.directories_of-directories.ensures in
    let all = ready options plan placement c.headers_of-headers.result c.in_ok-image.image.items owner c.requires.plan c.requires.placed written refl in
    let file = c.in_ok-id.ensures.identified ∙ ap (λ (h : Headers). identified_file h plan placement) begins in
    let told = λ (asked : options.debug ≡ true). c.in_ok-id.ensures.identifier asked ∙ ap (λ (h : Headers). image_identifier (sorted_file h plan placement)) begins in
    let given = err_from_is_err_and c.from_residual-in_err-library.result c.from_residual-in_err-library.ensures.1 in
    let refused = subst (λ (exports : ExportsView). RefusesFor (library_fault options exports) c.in_err-library.field-0.0) c.exports.ensures c.in_err-library.ensures.refused in
    rw (given.1, given.2)
    (large_library options plan placement owner c.requires.plan c.requires.placed all c.in_ok-id.id c.deref-6.result.now c.in_err-library.field-0.0 c.requires.permitted c.in_ok-exports.ensures.outside c.in_ok-id.ensures.in_range told (c.deref-6.ensures.value ∙ file) c.in_ok-pdb.ensures.fits refused)
