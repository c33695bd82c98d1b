-- What is loaded at a base, from what loading promises.
use Rattle.std.proofs.Common.{◌≡◌, ℕ, ◌+◌, ◌%◌, ◌^◌, ◌≤◌, Bool, true, false, cond, ◌&&◌, ◌||◌, not, eqb, leb, List, Option, Some, None, Ok, Err, refl, sym, ap, ◌∙◌, arith}
use Rattle.std.specs.Prelude.{is_none}
use Rattle.std.proofs.lemmas.Bool.{and_parts, leb-true, false≢true}
use Rattle.link_base.specs.declared.fault.Fault.TheVariants as faults
use Rattle.link_base.specs.declared.kinds.image.ImageKind.{ImageKind}
use Rattle.address_layout.specs.PermittedBase.{is_permitted, address_limit}
use Rattle.pe_loader.specs.LoadedImage.{image_fault, base_rule, size_of_image, loaded}
use Rattle.image_show.specs.ShownBytes.{memory_there, image_memory}

-- a memory is there where nothing refuses the image and the base is permitted
by_tests : (fault : Option ImageKind) (allowed : Bool) (whole memory : List ℕ) → cond (is_none fault && allowed) (Some whole) None ≡ Some memory → (fault ≡ None) × (allowed ≡ true)
by_tests None true whole memory e = (refl, refl)
by_tests None false whole memory e = absurd cc
by_tests (Some kind) allowed whole memory e = absurd cc

loaded_sound : (image : List ℕ) (base : ℕ) (memory : List ℕ) → loaded image base ≡ Some memory → (image_fault image ≡ None) × (is_permitted (base_rule image) (size_of_image image) base ≡ true)
unfolding loaded
loaded_sound image base memory e = by_tests (image_fault image) (is_permitted (base_rule image) (size_of_image image) base) _ memory e

refused_by : (sound allowed : Bool) (whole : List ℕ) → allowed ≡ false → cond (sound && allowed) (Some whole) None ≡ None
refused_by true true whole e = absurd (false≢true (sym e))
refused_by true false whole e = refl
refused_by false allowed whole e = refl

pub not_loaded : (image : List ℕ) (base : ℕ) → is_permitted (base_rule image) (size_of_image image) base ≡ false → loaded image base ≡ None
unfolding loaded
not_loaded image base refused = refused_by (is_none (image_fault image)) (is_permitted (base_rule image) (size_of_image image) base) _ refused

limit_small : (large : Bool) → address_limit large ≤ 2 ^ 47
limit_small true = omega arith
limit_small false = omega arith

-- the base of a memory is far from the end of 64 bits
pub loaded_low : (image : List ℕ) (base : ℕ) (memory : List ℕ) → loaded image base ≡ Some memory → base ≤ 2 ^ 47
loaded_low image base memory e =
    let rule = base_rule image in
    let size = size_of_image image in
    let allowed = (loaded_sound image base memory e).1 in
    let parts = and_parts (eqb (base % 65536) 0) (leb (base + size) (address_limit rule.large) && (not rule.fixed || eqb base rule.base)) allowed in
    let ends = leb-true (base + size) (address_limit rule.large) (and_parts (leb (base + size) (address_limit rule.large)) (not rule.fixed || eqb base rule.base) parts.1).0 in
    omega (arith, ends, limit_small rule.large)

-- ---- the memory of an image, or the base that is refused

pub bad_base : (image : List ℕ) (base : ℕ) → image_fault image ≡ None → is_permitted (base_rule image) (size_of_image image) base ≡ false → image_memory image base ≡ Err (faults.BasePermit base)
bad_base image base sound refused =
    ap (λ (fault : Option ImageKind). memory_there base fault (loaded image base)) sound
    ∙ ap (memory_there base None) (not_loaded image base refused)

pub memory_loaded : (image : List ℕ) (base : ℕ) (memory : List ℕ) → loaded image base ≡ Some memory → image_memory image base ≡ Ok memory
memory_loaded image base memory e =
    ap (λ (fault : Option ImageKind). memory_there base fault (loaded image base)) (loaded_sound image base memory e).0
    ∙ ap (memory_there base None) e
