use Rattle.std.proofs.Common.{◌∙◌, ap, ◌++◌, List, ℕ}
use Rattle.diagnostics.proofs.LineLemmas.{appends_parts}
use Rattle.diagnostics.proofs.line.push_escaped.Goals as goal

pub returns : goal.returns
returns c =
    appends_parts _ _ _ c.args.line.now.items _ c.args.name.now (c.in_ok-extend_from_slice.ensures.items ∙ ap (λ (t : List ℕ). c.args.line.now.items ++ t) c.prefix.ensures) c.rest.ensures c.push_escaped_bytes.ensures
