-- The section of a public symbol, as it is looked up.
use Rattle.std.proofs.Common.{◌≡◌, ◌<◌, ℕ, Bool, true, not, ◌&&◌, cond, ltb, List, length, get_or, Some, None, sym, ap, ◌∙◌, lt-ltb, arith}
use Rattle.std.specs.Prelude.{codes}
use Rattle.std.proofs.Math.ListN.{get_or-map}
use Rattle.std.proofs.lemmas.Bool.{ltb-true}
use Rattle.std.proofs.lemmas.List.{length-map, get_or_default}
use Rattle.link_base.specs.NameText.{same_name}
use Rattle.section_group.specs.declared.piece.OutSection.{OutSection}
use Rattle.section_group.specs.Uniqueness.{row_of, rows_of}
use Rattle.piece_bytes.specs.Owners.{no_row}
use Rattle.debug_rows.specs.declared.link_publics.PublicPlace.{PublicPlace}
use Rattle.debug_rows.specs.PlacedPublics.{name_of, section_name, listed_section, public_section}
use Rattle.debug_rows.proofs.ListLemmas.{mapped_read}

-- its index, as it was read
pub owner_read : (owner : List ℕ) (piece index none : ℕ) → true ≡ ltb piece (length owner) → index ≡ get_or owner piece index → index ≡ get_or owner piece none
owner_read owner piece index none inside read = read ∙ get_or_default owner piece index none (ltb-true piece (length owner) (sym inside))

-- its name
name_there : (sections : List OutSection) (index : ℕ) (section : OutSection) → index < length sections → section ≡ get_or sections index section → section_name (rows_of sections) index ≡ section.name
name_there sections index section lt read =
    get_or-map name_of (rows_of sections) index no_row
    ∙ ap name_of (sym (get_or_default (rows_of sections) index (row_of section) no_row (omega (arith, lt, length-map sections row_of))))
    ∙ ap name_of (sym (mapped_read row_of sections index section read))

pub listed_by : (owner : List ℕ) (sections : List OutSection) (public : PublicPlace) (index : ℕ) (section : OutSection) (pdata : Bool) → index < length sections → section ≡ get_or sections index section → index ≡ get_or owner public.piece (length (rows_of sections)) → same_name section.name (codes ".pdata") ≡ pdata → public_section owner (rows_of sections) public ≡ cond (not pdata) (Some index) None
listed_by owner sections public index section pdata lt read owned named =
    let rows = rows_of sections in
    ap (listed_section rows) (sym owned)
    ∙ ap (λ (b : Bool). cond (b && not (same_name (section_name rows index) (codes ".pdata"))) (Some index) None) (lt-ltb index (length rows) (omega (arith, lt, length-map sections row_of)))
    ∙ ap (λ (name : List ℕ). cond (not (same_name name (codes ".pdata"))) (Some index) None) (name_there sections index section lt read)
    ∙ ap (λ (b : Bool). cond (not b) (Some index) None) named
