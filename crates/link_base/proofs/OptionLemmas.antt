-- Options: where there is none, and the first of two.
use Rattle.std.proofs.Common.{◌≡◌, false, Option, Some, None, is_some, option_map, refl}
use Rattle.std.specs.Option.{option_or}

-- one that is not some is none
pub none_is : {A : Type 0} (o : Option A) → is_some o ≡ false → o ≡ None
none_is None e = refl
none_is (Some x) e = absurd cc

-- one that is mapped to none is none
pub none_mapped : {A B : Type 0} (f : A → B) (o : Option A) → option_map f o ≡ None → o ≡ None
none_mapped f None e = refl
none_mapped f (Some x) e = absurd cc

-- the first of two is none: neither is some
pub both_none : {A : Type 0} (first later : Option A) → option_or first later ≡ None → (first ≡ None) × (later ≡ None)
both_none None later e = (refl, e)
both_none (Some x) later e = absurd cc

-- the first of two that are mapped is the first of the two, mapped
pub map_or : {A B : Type 0} (f : A → B) (a b : Option A) → option_map f (option_or a b) ≡ option_or (option_map f a) (option_map f b)
map_or f None b = refl
map_or f (Some x) b = refl
