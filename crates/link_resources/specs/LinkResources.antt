-- The resources of an image: those of the resource files of a link, in one tree (PE Format, "The .rsrc Section"; that there is
-- no tree without a resource is own).
use Rattle.std.specs.Prelude.{◌≡◌, ℕ, ◌==◌, if◌then◌else◌, List, [], ◌∷◌}
use Rattle.res_merge.specs.Entries.{Entry}
use Rattle.res_merge.specs.Order.{in_order}
use Rattle.res_merge.specs.Tree.{tree_of, tree_size}
use Rattle.link_words.specs.Outcome.{LinkOptions}

-- the time of the image, the resources in the order of their files, and the size of their tree
pub record ResourcesView : Type 0 where
  pub time : ℕ
  pub entries : List Entry
  pub size : ℕ

-- the size of the tree of some resources, which is 0 without any
unfoldable pub size_of : List Entry → ℕ
size_of [] = 0
size_of (entry ∷ entries) = tree_size (in_order (entry ∷ entries))

abbrev pub resources_with : LinkOptions → List Entry → ResourcesView
resources_with options entries = record { time = options.time; entries = entries; size = size_of entries }

-- the size is that of the tree
abbrev pub IsSized : ResourcesView → Type 0
IsSized resources = resources.size ≡ size_of resources.entries

-- the bytes of the tree, at an RVA; without resources there are none
unfoldable pub tree_bytes : ResourcesView → ℕ → List ℕ
tree_bytes resources rva = if resources.size == 0 then [] else tree_of resources.time rva (in_order resources.entries)
