use Rattle.std.proofs.Common.{◌≡◌, ℕ, ◌+◌, ◌-◌, ◌*◌, ◌≤◌, Bool, cond, List, length, map, take, drop, Some, None, sym, ap, ◌∙◌, subst, arith}
use Rattle.std.specs.List.{All}
use Rattle.std.proofs.lemmas.List.{length-map}
use Rattle.link_base.specs.declared.fault.Fault.TheVariants as faults
use Rattle.section_group.specs.declared.piece.Piece.{Piece}
use Rattle.section_group.specs.Uniqueness.{row_of, rows_of}
use Rattle.module_view.specs.Module.{ModuleView}
use Rattle.pdb_msf.specs.WrittenFile.{MSF_LIMIT, file_size, msf_of}
use Rattle.debug_rows.specs.ImageMap.{Mapped, mapped}
use Rattle.link_words.specs.Outcome.{LinkOptions, options_said}
use Rattle.link_plan.specs.Plan.{kept_parts}
use Rattle.link_image.specs.LinkPdb.{section_headers_in, streams_at, IsLarge}
use Rattle.link_image.proofs.MapLemmas.{listed_there}
use Rattle.link_image.proofs.PdbLemmas.{modules_within, publics_listed, streams_there, large_by}
use Rattle.link_image.proofs.pdb.pdb_of.Goals as goal

pub image_pdb-requires-clause-modules : goal.image_pdb-requires-clause-modules
image_pdb-requires-clause-modules c =
    let modules = ap (λ (image : Mapped). image.modules) c.listed_image-listed.ensures.listed in
    subst (λ (ms : List ModuleView). All (λ (piece : Piece). piece.«module» ≤ length ms) c.listed_image-listed.result.pieces.now) (sym modules)
    (subst (λ (ps : List Piece). All (λ (piece : Piece). piece.«module» ≤ length c.args.plan.now.modules.items) ps) (sym c.listed_image-listed.ensures.pieces) (modules_within (options_said c.args.options.now) c.args.plan.now c.requires.plan))

pub returns-in-Ok-clause-pdb : goal.returns-in-Ok-clause-pdb
returns-in-Ok-clause-pdb c =
    let options : LinkOptions = options_said c.args.options.now in
    let plan = c.args.plan.now in
    let placement = c.args.placement.now in
    let rows = rows_of placement.sections.items in
    let asked = c.if-not-options.false in
    let listed = c.listed_image-listed.ensures.listed ∙ listed_there options plan rows placement.layout c.requires.plan (publics_listed options asked) in
    let headers : take (328 + 40 * c.len-2.result - 328) (drop 328 c.args.image.now) ≡ section_headers_in c.args.image.now (length rows) =
    ap (λ (n : ℕ). take n (drop 328 c.args.image.now)) (omega (arith, c.len-2.ensures, placement.sections.ok.0, length-map placement.sections.items row_of)) in
    let streams = streams_there options (kept_parts plan) rows placement.layout (mapped c.listed_image-listed.result) c.args.id.now c.args.image.now _ listed headers in
    ap (λ (bytes : List ℕ). Some bytes) (c.in-Ok.ensures.written ∙ ap msf_of streams)
    ∙ sym (ap (λ (b : Bool). cond b (Some (msf_of (streams_at options (kept_parts plan) rows placement.layout c.args.id.now c.args.image.now))) None) asked)

pub returns-in-Ok-clause-fits : goal.returns-in-Ok-clause-fits
returns-in-Ok-clause-fits c = λ given.
    let options : LinkOptions = options_said c.args.options.now in
    let plan = c.args.plan.now in
    let placement = c.args.placement.now in
    let rows = rows_of placement.sections.items in
    let asked = c.if-not-options.false in
    let listed = c.listed_image-listed.ensures.listed ∙ listed_there options plan rows placement.layout c.requires.plan (publics_listed options asked) in
    let headers : take (328 + 40 * c.len-2.result - 328) (drop 328 c.args.image.now) ≡ section_headers_in c.args.image.now (length rows) =
    ap (λ (n : ℕ). take n (drop 328 c.args.image.now)) (omega (arith, c.len-2.ensures, placement.sections.ok.0, length-map placement.sections.items row_of)) in
    let streams = streams_there options (kept_parts plan) rows placement.layout (mapped c.listed_image-listed.result) c.args.id.now c.args.image.now _ listed headers in
    subst (λ (ss : List (List ℕ)). file_size (map length ss) ≤ MSF_LIMIT) streams c.in-Ok.ensures.fits

pub returns-in-Err-TooLarge-clause-refused : goal.returns-in-Err-TooLarge-clause-refused
returns-in-Err-TooLarge-clause-refused c =
    let options : LinkOptions = options_said c.args.options.now in
    let plan = c.args.plan.now in
    let placement = c.args.placement.now in
    let rows = rows_of placement.sections.items in
    let asked = c.if-not-options.false in
    let listed = c.listed_image-listed.ensures.listed ∙ listed_there options plan rows placement.layout c.requires.plan (publics_listed options asked) in
    let headers : take (328 + 40 * c.len-2.result - 328) (drop 328 c.args.image.now) ≡ section_headers_in c.args.image.now (length rows) =
    ap (λ (n : ℕ). take n (drop 328 c.args.image.now)) (omega (arith, c.len-2.ensures, placement.sections.ok.0, length-map placement.sections.items row_of)) in
    let streams = streams_there options (kept_parts plan) rows placement.layout (mapped c.listed_image-listed.result) c.args.id.now c.args.image.now _ listed headers in
    subst (λ (ss : List (List ℕ)). IsLarge options ss (faults.PdbTooLarge c.in-Err-TooLarge.size)) streams (large_by options _ c.in-Err-TooLarge.size c.in-Err-TooLarge.field-0 asked c.in-Err-TooLarge.field-0-is c.in-Err-TooLarge.ensures.too_large)
