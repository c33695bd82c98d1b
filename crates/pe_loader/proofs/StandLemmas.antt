-- An image without a fault stands at a base that it permits.
use Rattle.std.proofs.Common.{◌≡◌, ℕ, Bool, true, cond, ◌&&◌, List, Option, Some, None, is_none, sym, ap, ◌∙◌}
use Rattle.link_base.specs.declared.kinds.image.ImageKind.{ImageKind}
use Rattle.address_layout.specs.declared.base.BaseRule.{BaseRule}
use Rattle.address_layout.specs.PermittedBase.{is_permitted}
use Rattle.base_reloc.specs.Blocks.{walked_fields, raised_all}
use Rattle.pe_loader.specs.LoadedImage.{size_of_image, image_base, copied, base_walk, base_delta, base_rule, image_fault, loaded}

pub permitted_is : (image : List ℕ) (base : ℕ) (rule : BaseRule) (size : ℕ) (answer : Bool) → rule ≡ base_rule image → size ≡ size_of_image image → answer ≡ is_permitted rule size base → answer ≡ true → is_permitted (base_rule image) (size_of_image image) base ≡ true
permitted_is image base rule size answer is len said permits =
    sym (ap (λ (r : BaseRule). is_permitted r (size_of_image image) base) is)
    ∙ sym (ap (λ (n : ℕ). is_permitted rule n base) len)
    ∙ sym said
    ∙ permits

pub stands : (image memory : List ℕ) (base : ℕ) → image_fault image ≡ None → is_permitted (base_rule image) (size_of_image image) base ≡ true → memory ≡ raised_all (base_delta (image_base image) base) (copied image) (walked_fields (base_walk image)) → loaded image base ≡ Some memory
unfolding loaded
stands image memory base fine permitted is =
    ap (λ (fault : Option ImageKind). cond (is_none fault && is_permitted (base_rule image) (size_of_image image) base) (Some there) None) fine
    ∙ ap (λ (b : Bool). cond b (Some there) None) permitted
    ∙ ap (λ (xs : List ℕ). Some xs) (sym is)
  where
    there : List ℕ
    there = raised_all (base_delta (image_base image) base) (copied image) (walked_fields (base_walk image))
