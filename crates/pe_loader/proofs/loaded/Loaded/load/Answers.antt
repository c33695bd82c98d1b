use Rattle.std.proofs.Common.{◌≡◌, length, ◌∙◌, arith}
use Rattle.std.proofs.lemmas.List.{with_items_is}
use Rattle.pe_loader.proofs.StandLemmas.{permitted_is, stands}
use Rattle.pe_loader.proofs.ExtentLemmas.{section_numbered}
use Rattle.pe_loader.proofs.loaded.Loaded.load.Goals as goal

pub returns-clause-loaded : goal.returns-clause-loaded
returns-clause-loaded c =
    let len : length c.raise_fields.new.memory ≡ c.in_ok-memory.memory.len = omega arith in
    let kept = with_items_is c.in_ok-memory.memory c.raise_fields.new.memory len in
    let permits = permitted_is c.args.image.now c.args.base c.base_rule.result c.size_of_image.result c.permitted.result c.base_rule.ensures c.size_of_image.ensures c.permitted.ensures c.if-not-permitted.false in
    record {
      memory = stands c.args.image.now _ c.args.base c.in_ok-raise_fields.ensures.fine permits (kept ∙ c.in_ok-raise_fields.ensures.raised);
      directories = c.directories.ensures;
      sections = λ number. section_numbered c.args.image.now c.in_ok-sections.sections.items number c.in_ok-sections.ensures;
    }
