use Rattle.std.proofs.Common.{◌≡◌, ◌<◌, ◌+◌, ◌^◌, ℕ, length, map, List, Option, None, get_or, ap, ◌∙◌, arith}
use Rattle.std.specs.Prelude.{codes}
use Rattle.section_group.specs.declared.piece.Piece.{Piece}
use Rattle.link_words.specs.Outcome.{options_said}
use Rattle.piece_bytes.specs.Extents.{extent_of}
use Rattle.link_plan.specs.Plan.{kept_parts}
use Rattle.image_headers.specs.declared.headers.Directories.{Directories}
use Rattle.section_group.specs.PieceContents.{piece_contents}
use Rattle.section_group.specs.Uniqueness.{rows_of}
use Rattle.link_fields.specs.declared.entry.EntryPlace.{EntryPlace}
use Rattle.link_fields.specs.LoaderPlaces.{TLS_NAME, LOAD_CONFIG_NAME}
use Rattle.link_plan.specs.Planned.{planned_loader}
use Rattle.link_image.specs.LinkedImage.{table_extent, section_extent, resource_extent, place_extent, config_size, table_directory, TLS_SIZE}
use Rattle.link_image.specs.Steps.{reloc_tables}
use Rattle.link_image.proofs.SectionLemmas.{sections_each}
use Rattle.link_image.proofs.UsedLemmas.{tls_used, load_config_used}
use Rattle.link_image.proofs.TableLemmas.{if_some, place_within, extent_is}
use Rattle.link_image.proofs.tables.directories_of.Goals as goal

pub extent_of-requires-clause-rva : goal.extent_of-requires-clause-rva
extent_of-requires-clause-rva c = place_within (options_said c.args.options.now) c.args.plan.now c.requires.plan c.args.places.now 5 (length c.deref-2.result.now) c.requires.places (omega arith) (omega (arith, ap length c.deref-2.ensures.value, c.requires.placed.room))

pub extent_of-requires-clause-piece : goal.extent_of-requires-clause-piece
extent_of-requires-clause-piece c = place_within (options_said c.args.options.now) c.args.plan.now c.requires.plan c.args.places.now 5 (length c.deref.result.now) c.requires.places (omega arith) (omega (arith, ap (λ (ps : List Piece). length ps) c.deref.ensures.value))

pub extent_of-requires-2-clause-rva : goal.extent_of-requires-2-clause-rva
extent_of-requires-2-clause-rva c = place_within (options_said c.args.options.now) c.args.plan.now c.requires.plan c.args.places.now 0 (length c.deref-4.result.now) c.requires.places (omega arith) (omega (arith, ap length c.deref-4.ensures.value, c.requires.placed.room))

pub extent_of-requires-2-clause-piece : goal.extent_of-requires-2-clause-piece
extent_of-requires-2-clause-piece c = place_within (options_said c.args.options.now) c.args.plan.now c.requires.plan c.args.places.now 0 (length c.deref-3.result.now) c.requires.places (omega arith) (omega (arith, ap (λ (ps : List Piece). length ps) c.deref-3.ensures.value))

pub extent_of-requires-3-clause-rva : goal.extent_of-requires-3-clause-rva
extent_of-requires-3-clause-rva c = place_within (options_said c.args.options.now) c.args.plan.now c.requires.plan c.args.places.now 2 (length c.deref-6.result.now) c.requires.places (omega arith) (omega (arith, ap length c.deref-6.ensures.value, c.requires.placed.room))

pub extent_of-requires-3-clause-piece : goal.extent_of-requires-3-clause-piece
extent_of-requires-3-clause-piece c = place_within (options_said c.args.options.now) c.args.plan.now c.requires.plan c.args.places.now 2 (length c.deref-5.result.now) c.requires.places (omega arith) (omega (arith, ap (λ (ps : List Piece). length ps) c.deref-5.ensures.value))

pub extent_of-requires-4-clause-rva : goal.extent_of-requires-4-clause-rva
extent_of-requires-4-clause-rva c = place_within (options_said c.args.options.now) c.args.plan.now c.requires.plan c.args.places.now 6 (length c.deref-11.result.now) c.requires.places (omega arith) (omega (arith, ap length c.deref-11.ensures.value, c.requires.placed.room))

pub extent_of-requires-4-clause-piece : goal.extent_of-requires-4-clause-piece
extent_of-requires-4-clause-piece c = place_within (options_said c.args.options.now) c.args.plan.now c.requires.plan c.args.places.now 6 (length c.deref-10.result.now) c.requires.places (omega arith) (omega (arith, ap (λ (ps : List Piece). length ps) c.deref-10.ensures.value))

pub section_extent-requires : goal.section_extent-requires
section_extent-requires c =
    sections_each (options_said c.args.options.now) (kept_parts c.args.plan.now) c.args.placement.now.sections.items c.args.placement.now.layout (reloc_tables c.args.placement.now.table) c.requires.placed.means

pub place_extent-requires-clause-piece : goal.place_extent-requires-clause-piece
place_extent-requires-clause-piece c =
    let plan = c.args.plan.now in
    if_some plan.loader.tls (λ (place : EntryPlace). place.piece < length c.deref-7.result.now) (λ place is.
    omega (arith, (c.requires.plan.tls_stands place is).within, c.requires.placed.room, ap length c.deref-7.ensures.value))

pub place_extent-requires-clause-fits : goal.place_extent-requires-clause-fits
place_extent-requires-clause-fits c =
    let plan = c.args.plan.now in
    rw (c.deref-7.ensures.value)
    (if_some plan.loader.tls (λ (place : EntryPlace). get_or c.args.placement.now.layout.pieces.items place.piece 0 < 2 ^ 32 → get_or c.args.placement.now.layout.pieces.items place.piece 0 + place.value < 2 ^ 32) (λ place is.
    c.requires.placed.fits place (c.requires.plan.tls_stands place is) (tls_used (options_said c.args.options.now) plan c.requires.plan place is)))

pub config_size-requires : goal.config_size-requires
config_size-requires c =
    let plan = c.args.plan.now in
    if_some plan.loader.load_config (λ (place : EntryPlace). place.piece < length c.deref-9.result.now) (λ place is.
    omega (arith, (c.requires.plan.load_config_stands place is).within, ap (λ (ps : List Piece). length ps) c.deref-9.ensures.value))

pub place_extent-requires-2-clause-piece : goal.place_extent-requires-2-clause-piece
place_extent-requires-2-clause-piece c =
    let plan = c.args.plan.now in
    if_some plan.loader.load_config (λ (place : EntryPlace). place.piece < length c.deref-8.result.now) (λ place is.
    omega (arith, (c.requires.plan.load_config_stands place is).within, c.requires.placed.room, ap length c.deref-8.ensures.value))

pub place_extent-requires-2-clause-fits : goal.place_extent-requires-2-clause-fits
place_extent-requires-2-clause-fits c =
    let plan = c.args.plan.now in
    rw (c.deref-8.ensures.value)
    (if_some plan.loader.load_config (λ (place : EntryPlace). get_or c.args.placement.now.layout.pieces.items place.piece 0 < 2 ^ 32 → get_or c.args.placement.now.layout.pieces.items place.piece 0 + place.value < 2 ^ 32) (λ place is.
    c.requires.placed.fits place (c.requires.plan.load_config_stands place is) (load_config_used (options_said c.args.options.now) plan c.requires.plan place is)))

directories : ℕ × ℕ → ℕ × ℕ → ℕ × ℕ → ℕ × ℕ → ℕ × ℕ → ℕ × ℕ → ℕ × ℕ → ℕ × ℕ → ℕ × ℕ → Directories
directories exports resources exceptions imports slots relocations tls load_config debug =
    record { exports = exports; resources = resources; exceptions = exceptions; imports = imports; slots = slots; relocations = relocations; tls = tls; load_config = load_config; debug = debug }

pub returns : goal.returns
unfolding directories
returns c =
    let plan = c.args.plan.now in
    let rvas = c.args.placement.now.layout.pieces.items in
    let rows = rows_of c.args.placement.now.sections.items in
    let layout = c.args.placement.now.layout in
    let exports = c.extent_of.ensures
    ∙ ap (λ (ps : List Piece). extent_of ps c.deref-2.result.now (get_or c.args.places.now 5 None)) c.deref.ensures.value
    ∙ ap (λ (rs : List ℕ). extent_of plan.pieces.items rs (get_or c.args.places.now 5 None)) c.deref-2.ensures.value
    ∙ extent_is (options_said c.args.options.now) plan c.requires.plan rvas c.args.places.now 5 (omega arith) c.requires.places in
    let imports = c.extent_of-2.ensures
    ∙ ap (λ (ps : List Piece). extent_of ps c.deref-4.result.now (get_or c.args.places.now 0 None)) c.deref-3.ensures.value
    ∙ ap (λ (rs : List ℕ). extent_of plan.pieces.items rs (get_or c.args.places.now 0 None)) c.deref-4.ensures.value
    ∙ extent_is (options_said c.args.options.now) plan c.requires.plan rvas c.args.places.now 0 (omega arith) c.requires.places in
    let slots = c.extent_of-3.ensures
    ∙ ap (λ (ps : List Piece). extent_of ps c.deref-6.result.now (get_or c.args.places.now 2 None)) c.deref-5.ensures.value
    ∙ ap (λ (rs : List ℕ). extent_of plan.pieces.items rs (get_or c.args.places.now 2 None)) c.deref-6.ensures.value
    ∙ extent_is (options_said c.args.options.now) plan c.requires.plan rvas c.args.places.now 2 (omega arith) c.requires.places in
    let tls = c.place_extent.ensures
    ∙ ap (λ (rs : List ℕ). place_extent rs plan.loader.tls TLS_SIZE) c.deref-7.ensures.value
    ∙ ap (λ (place : Option EntryPlace). place_extent rvas place TLS_SIZE) c.requires.plan.tls_is in
    let size : c.config_size.result ≡ config_size (kept_parts plan) plan.loader.load_config =
    c.config_size.ensures (kept_parts plan) (ap (λ (ps : List Piece). map piece_contents ps) c.deref-9.ensures.value ∙ c.requires.plan.contents_are) in
    let load_config = c.place_extent-2.ensures
    ∙ ap (λ (rs : List ℕ). place_extent rs plan.loader.load_config c.config_size.result) c.deref-8.ensures.value
    ∙ ap (place_extent rvas plan.loader.load_config) size
    ∙ ap (λ (place : Option EntryPlace). place_extent rvas place (config_size (kept_parts plan) place)) c.requires.plan.load_config_is in
    let debug = c.extent_of-4.ensures
    ∙ ap (λ (ps : List Piece). extent_of ps c.deref-11.result.now (get_or c.args.places.now 6 None)) c.deref-10.ensures.value
    ∙ ap (λ (rs : List ℕ). extent_of plan.pieces.items rs (get_or c.args.places.now 6 None)) c.deref-11.ensures.value
    ∙ extent_is (options_said c.args.options.now) plan c.requires.plan rvas c.args.places.now 6 (omega arith) c.requires.places in
    let extent = table_extent (kept_parts plan) layout in
    let resources = resource_extent (kept_parts plan) rows layout in
    let exceptions = section_extent rows layout (codes ".pdata") in
    let relocations = table_directory layout (reloc_tables c.args.placement.now.table) in
    let own_tls = place_extent rvas (planned_loader (kept_parts plan) TLS_NAME) TLS_SIZE in
    ap (λ (e : ℕ × ℕ). directories e c.resource_extent.result c.section_extent.result c.extent_of-2.result c.extent_of-3.result c.table_directory.result c.place_extent.result c.place_extent-2.result c.extent_of-4.result) exports
    ∙ ap (λ (e : ℕ × ℕ). directories (extent 5) e c.section_extent.result c.extent_of-2.result c.extent_of-3.result c.table_directory.result c.place_extent.result c.place_extent-2.result c.extent_of-4.result) c.resource_extent.ensures
    ∙ ap (λ (e : ℕ × ℕ). directories (extent 5) resources e c.extent_of-2.result c.extent_of-3.result c.table_directory.result c.place_extent.result c.place_extent-2.result c.extent_of-4.result) c.section_extent.ensures
    ∙ ap (λ (e : ℕ × ℕ). directories (extent 5) resources exceptions e c.extent_of-3.result c.table_directory.result c.place_extent.result c.place_extent-2.result c.extent_of-4.result) imports
    ∙ ap (λ (e : ℕ × ℕ). directories (extent 5) resources exceptions (extent 0) e c.table_directory.result c.place_extent.result c.place_extent-2.result c.extent_of-4.result) slots
    ∙ ap (λ (e : ℕ × ℕ). directories (extent 5) resources exceptions (extent 0) (extent 2) e c.place_extent.result c.place_extent-2.result c.extent_of-4.result) c.table_directory.ensures
    ∙ ap (λ (e : ℕ × ℕ). directories (extent 5) resources exceptions (extent 0) (extent 2) relocations e c.place_extent-2.result c.extent_of-4.result) tls
    ∙ ap (λ (e : ℕ × ℕ). directories (extent 5) resources exceptions (extent 0) (extent 2) relocations own_tls e c.extent_of-4.result) load_config
    ∙ ap (directories (extent 5) resources exceptions (extent 0) (extent 2) relocations own_tls (place_extent rvas (planned_loader (kept_parts plan) LOAD_CONFIG_NAME) (config_size (kept_parts plan) (planned_loader (kept_parts plan) LOAD_CONFIG_NAME)))) debug
