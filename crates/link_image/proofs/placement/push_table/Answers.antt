use Rattle.std.proofs.Common.{◌++◌, ◌∷◌, [], List, ℕ, ap, ◌∙◌}
use Rattle.std.specs.Prelude.{codes}
use Rattle.section_group.specs.Uniqueness.{SectionRow}
use Rattle.link_image.proofs.placement.push_table.Goals as goal

row : List ℕ → List ℕ → SectionRow
row name pieces = record { name = name; flags = 0x4200_0040; pieces = pieces }

pub returns : goal.returns
unfolding row
returns c = record {
  section = record { name = c.of.result; flags = 0x4200_0040; pieces = c.push.new.self };
  is = c.in_ok-push-2.ensures.items;
  row =
      ap (λ (name : List ℕ). row name c.push.new.self.items) c.of.ensures
      ∙ ap (row (codes ".reloc")) (c.in_ok-push.ensures.items ∙ ap (λ (ks : List ℕ). ks ++ c.args.piece ∷ []) c.in_ok-pieces.ensures.items);
}
