use Rattle.std.proofs.Common.{◌≡◌, ◌+◌, ◌*◌, ◌≤◌, ℕ, Bool, true, false, cond, length, refl, sym, ap, subst, arith, ◌∙◌}
use mir.Val.{bool_byte}
use Rattle.link_base.proofs.ListLemmas.{front_is}
use Rattle.address_layout.specs.Places.{section_count}
use Rattle.address_layout.specs.Rounded.{rounded}
use Rattle.address_layout.proofs.StandingLemmas.{pieces_few, pieces_fewer}
use Rattle.address_layout.proofs.LayoutLemmas.{sections_few, size_is, layout_is, can_grow}
use Rattle.address_layout.proofs.places.place.Goals as goal

byte_is : (b : Bool) → bool_byte b ≡ cond b 1 0
byte_is true = refl
byte_is false = refl

byte_small : (b : Bool) → bool_byte b ≤ 1
byte_small true = omega arith
byte_small false = omega arith

pub overflow_cast-result : goal.overflow_cast-result
overflow_cast-result c =
    omega (arith, c.from.ensures, byte_small c.args.reloc, sections_few c.args.sections.now c.requires.standing.some, pieces_few c.args.pieces.now c.args.sections.now c.requires.standing, c.requires.few)

pub round_up-image-requires-clause-fits : goal.round_up-image-requires-clause-fits
round_up-image-requires-clause-fits c =
    let are = c.in_ok-placed.ensures.1 in
    omega (arith, are.end_bound, pieces_fewer c.args.sections.now (length c.args.sections.now), pieces_few c.args.pieces.now c.args.sections.now c.requires.standing, c.requires.few, c.if-count-gt-SECTION_LIMIT.false)

pub returns-then-image-gt-MAX_IMAGE-clause-refused : goal.returns-then-image-gt-MAX_IMAGE-clause-refused
returns-then-image-gt-MAX_IMAGE-clause-refused c =
    let sections = c.args.sections.now in
    let count : length sections + c.from.result ≡ section_count sections c.args.reloc = ap (λ (n : ℕ). length sections + n) (c.from.ensures ∙ byte_is c.args.reloc) in
    let headers = c.headers_len-headers.ensures.value ∙ ap (λ (n : ℕ). rounded 512 (328 + 40 * n)) count in (
      subst (λ (n : ℕ). n ≤ 96) count c.if-count-gt-SECTION_LIMIT.false,
      size_is c.args.pieces.now sections c.args.reloc c.headers_len-headers.result c.in_ok-placed.end c.in_ok-placed.ensures.0 c.in_ok-placed.placed.items c.place_all.new.rvas c.round_up-image.result c.requires.aligned c.requires.standing headers c.in_ok-placed.ensures.1 c.round_up-image.ensures,
      c.if-image-gt-MAX_IMAGE.true,
    )

pub returns-clause-layout : goal.returns-clause-layout
returns-clause-layout c =
    let sections = c.args.sections.now in
    let count : length sections + c.from.result ≡ section_count sections c.args.reloc = ap (λ (n : ℕ). length sections + n) (c.from.ensures ∙ byte_is c.args.reloc) in
    let headers = c.headers_len-headers.ensures.value ∙ ap (λ (n : ℕ). rounded 512 (328 + 40 * n)) count in
    let few : length sections ≤ 96 = omega (arith, c.if-count-gt-SECTION_LIMIT.false) in
    layout_is c.args.pieces.now sections c.args.reloc c.headers_len-headers.result c.in_ok-placed.end c.in_ok-placed.ensures.0 c.in_ok-placed.placed.items c.place_all.new.rvas _ c.requires.aligned c.requires.standing few headers c.in_ok-placed.ensures.1
    refl refl (front_is c.place_all.new.rvas _ _ (c.in_ok-rvas.ensures.len ∙ sym c.in_ok-placed.ensures.1.room)) c.round_up-image.ensures c.if-image-gt-MAX_IMAGE.false

pub returns-clause-growth : goal.returns-clause-growth
returns-clause-growth c =
    let sections = c.args.sections.now in
    let count : length sections + c.from.result ≡ section_count sections c.args.reloc = ap (λ (n : ℕ). length sections + n) (c.from.ensures ∙ byte_is c.args.reloc) in
    let headers = c.headers_len-headers.ensures.value ∙ ap (λ (n : ℕ). rounded 512 (328 + 40 * n)) count in
    let few : length sections ≤ 96 = omega (arith, c.if-count-gt-SECTION_LIMIT.false) in
    can_grow c.args.pieces.now sections c.args.reloc c.headers_len-headers.result c.in_ok-placed.end c.in_ok-placed.ensures.0 c.in_ok-placed.placed.items c.place_all.new.rvas _ c.requires.aligned c.requires.standing few headers c.in_ok-placed.ensures.1
    refl refl (front_is c.place_all.new.rvas _ _ (c.in_ok-rvas.ensures.len ∙ sym c.in_ok-placed.ensures.1.room)) c.round_up-image.ensures c.if-image-gt-MAX_IMAGE.false

pub returns-clause-few_sections : goal.returns-clause-few_sections
returns-clause-few_sections c =
    let sections = c.args.sections.now in
    let count : length sections + c.from.result ≡ section_count sections c.args.reloc = ap (λ (n : ℕ). length sections + n) (c.from.ensures ∙ byte_is c.args.reloc) in
    subst (λ (n : ℕ). n ≤ 96) count c.if-count-gt-SECTION_LIMIT.false
