-- The tree of some resources has its size, and without any it has none.
use Rattle.std.proofs.Common.{◌≡◌, ℕ, ◌<◌, Bool, true, false, cond, eqb, List, [], ◌∷◌, length, map, refl, sym, ◌∙◌, arith}
use Rattle.std.proofs.lemmas.Bool.{eqb-true}
use Rattle.link_base.proofs.NumberLemmas.{above_zero}
use Rattle.res_merge.specs.Entries.{Entry}
use Rattle.res_merge.specs.Order.{in_order}
use Rattle.res_merge.specs.Tree.{tree_of, tree_size}
use Rattle.res_merge.proofs.PositionLemmas.{tree_length_is}
use Rattle.link_resources.specs.LinkResources.{ResourcesView, size_of, IsSized, tree_bytes}

-- where there is a size, there are resources, and it is that of their tree
pub sized_tree : (entries : List Entry) → 0 < size_of entries → size_of entries ≡ tree_size (in_order entries)
unfolding size_of
sized_tree [] some = absurd (omega (arith, some))
sized_tree (entry ∷ entries) some = refl

-- where there are resources, there is a size
pub some_size : (entries : List Entry) → 0 < length entries → 0 < size_of entries
unfolding size_of tree_size
some_size [] some = absurd (omega (arith, some))
some_size (entry ∷ entries) some = omega arith

pub no_tree : {A : Type 0} (entry_of : A → Entry) (list : List A) → length list ≡ 0 → 0 ≡ size_of (map entry_of list)
unfolding size_of
no_tree entry_of [] none = refl
no_tree entry_of (first ∷ rest) none = absurd (omega (arith, none))

pub has_tree : {A : Type 0} (entry_of : A → Entry) (list : List A) → 0 < length list → tree_size (in_order (map entry_of list)) ≡ size_of (map entry_of list)
unfolding size_of
has_tree entry_of [] some = absurd (omega (arith, some))
has_tree entry_of (first ∷ rest) some = refl

-- the bytes of a tree are as many as its size
pub length-bytes : (resources : ResourcesView) (rva : ℕ) → IsSized resources → length (tree_bytes resources rva) ≡ resources.size
unfolding tree_bytes
length-bytes resources rva sized = by (eqb resources.size 0) refl
  where
    by : (b : Bool) → eqb resources.size 0 ≡ b → length (cond b [] (tree_of resources.time rva (in_order resources.entries))) ≡ resources.size
    by true none = sym (eqb-true resources.size 0 none)
    by false some =
        tree_length_is resources.time rva (in_order resources.entries)
        ∙ sym (sized ∙ sized_tree resources.entries (omega (arith, above_zero resources.size some, sized)))

-- and where there is a size, they are the tree
pub bytes_are : (resources : ResourcesView) (rva : ℕ) → 0 < resources.size → tree_bytes resources rva ≡ tree_of resources.time rva (in_order resources.entries)
unfolding tree_bytes
bytes_are resources rva some = by (eqb resources.size 0) refl
  where
    by : (b : Bool) → eqb resources.size 0 ≡ b → cond b [] (tree_of resources.time rva (in_order resources.entries)) ≡ tree_of resources.time rva (in_order resources.entries)
    by true none = absurd (omega (arith, some, eqb-true resources.size 0 none))
    by false other = refl
