use Rattle.std.proofs.Common.{◌+◌, ℕ, sym, ap, subst, arith, ◌∙◌}
use Rattle.address_layout.specs.Places.{IsLeastMultiple}
use Rattle.address_layout.specs.Growth.{last_end, grown_size}
use Rattle.address_layout.specs.Rounded.{rounded}
use Rattle.address_layout.proofs.RoundLemmas.{rounded_is, rounded_bound, rounded_above}
use Rattle.address_layout.proofs.reloc.append_reloc.Goals as goal

pub overflow_add-start : goal.overflow_add-start
overflow_add-start c =
    let high = rounded_bound 4096 c.from.result (omega arith) in
    omega (arith, high, c.round_up-start.ensures, c.from.ensures, c.end_of.ensures.small, c.from-2.ensures, c.grown_size-size.ensures.small)

pub round_up-image-requires-clause-fits : goal.round_up-image-requires-clause-fits
round_up-image-requires-clause-fits c =
    let high = rounded_bound 4096 c.from.result (omega arith) in
    omega (arith, high, c.round_up-start.ensures, c.from.ensures, c.end_of.ensures.small, c.from-2.ensures, c.grown_size-size.ensures.small)

pub returns-then-image-gt-MAX_IMAGE-clause-refused : goal.returns-then-image-gt-MAX_IMAGE-clause-refused
returns-then-image-gt-MAX_IMAGE-clause-refused c =
    let from = c.from.ensures ∙ c.end_of.ensures.value in
    let start = c.round_up-start.ensures ∙ ap (rounded 4096) from in
    let size = c.from-2.ensures ∙ c.grown_size-size.ensures.value in
    let image = c.round_up-image.ensures ∙ ap (λ (n : ℕ). rounded 4096 (c.round_up-start.result + n)) size in (
      record {
        rva = c.round_up-start.result;
        start = subst (IsLeastMultiple 4096 (last_end c.args.layout.now)) (sym start) (rounded_is 4096 (last_end c.args.layout.now) (omega arith));
        image = subst (IsLeastMultiple 4096 (c.round_up-start.result + grown_size c.args.length)) (sym image) (rounded_is 4096 (c.round_up-start.result + grown_size c.args.length) (omega arith));
      },
      c.if-image-gt-MAX_IMAGE.true,
    )

pub overflow_cast-raw : goal.overflow_cast-raw
overflow_cast-raw c =
    let high = rounded_bound 512 c.from-3.result (omega arith) in
    let up = rounded_above 4096 (c.round_up-start.result + c.from-2.result) (omega arith) in
    omega (arith, high, up, c.round_up-image.ensures, c.if-image-gt-MAX_IMAGE.false, c.from-2.ensures, c.from-3.ensures, c.grown_size-size.ensures.long, c.round_up-raw.ensures)

pub overflow_cast-placed : goal.overflow_cast-placed
overflow_cast-placed c =
    let up = rounded_above 4096 (c.round_up-start.result + c.from-2.result) (omega arith) in
    omega (arith, up, c.round_up-image.ensures, c.if-image-gt-MAX_IMAGE.false)

pub returns-clause-added : goal.returns-clause-added
returns-clause-added c =
    let old = c.args.layout.now in
    let from = c.from.ensures ∙ c.end_of.ensures.value in
    let start = c.round_up-start.ensures ∙ ap (rounded 4096) from in
    let raw = c.round_up-raw.ensures ∙ ap (rounded 512) c.from-3.ensures in
    let image = c.round_up-image.ensures ∙ ap (λ (n : ℕ). rounded 4096 (c.round_up-start.result + n)) c.from-2.ensures in
    let pushed = c.in_ok-push_placed.ensures in
    record {
      placed = record { rva = c.round_up-start.result; size = c.grown_size-size.result; raw = c.round_up-raw.result; file = c.file_place.result };
      start = subst (IsLeastMultiple 4096 (last_end old)) (sym start) (rounded_is 4096 (last_end old) (omega arith));
      size = c.grown_size-size.ensures.value;
      raw = subst (IsLeastMultiple 512 c.args.length) (sym raw) (rounded_is 512 c.args.length (omega arith));
      file = c.file_place.ensures;
      headers = pushed.headers;
      sections = pushed.sections;
      pieces = pushed.pieces;
      image = subst (IsLeastMultiple 4096 (c.round_up-start.result + c.grown_size-size.result)) (sym image) (rounded_is 4096 (c.round_up-start.result + c.grown_size-size.result) (omega arith));
    }
