-- A name that was looked up. Own.
use Rattle.std.specs.Prelude.{◌≡◌}
use Rattle.link_pieces.specs.LinkParts.{LinkParts}
use Rattle.link_keeping.specs.declared.roots.NamedNode.{NamedNode}
use Rattle.link_keeping.specs.Reach.{name_node}

-- it means the node that is noted
abbrev pub MeansNode : LinkParts → NamedNode → Type 0
MeansNode link one = one.node ≡ name_node link one.name
