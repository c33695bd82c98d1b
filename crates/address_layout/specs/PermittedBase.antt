-- The bases at which an image may stand. A multiple of 64 KiB is the PE Format's ("Optional Header Windows-Specific
-- Fields", ImageBase); the limits are those of user addresses and of addresses that fit a signed number of 32 bits.
use Rattle.std.specs.Prelude.{◌≡◌, ℕ, ◌+◌, ◌%◌, ◌^◌, Bool, false, ◌&&◌, ◌||◌, not, ◌==◌, nat_le, if◌then◌else◌}
use Rattle.address_layout.specs.declared.base.BaseRule.{BaseRule}
use Rattle.address_layout.specs.declared.layout.LayoutError.{LayoutError}
use Rattle.address_layout.specs.declared.layout.LayoutError.TheVariants.{TooManySections, ImageTooLarge, BaseRange, Memory}

-- what the end of the image may not exceed
abbrev pub address_limit : Bool → ℕ
address_limit large = if large then 2 ^ 47 else 2 ^ 31

-- a multiple of 64 KiB below the limit, and for an image that cannot move its own base alone
abbrev pub is_permitted : BaseRule → ℕ → ℕ → Bool
is_permitted rule image base =
    (base % 65536 == 0) && (nat_le (base + image) (address_limit rule.large) && (not rule.fixed || base == rule.base))

-- the one refusal of a base
abbrev pub IsBaseRefusal : BaseRule → ℕ → LayoutError → Type 0
IsBaseRefusal rule image (BaseRange base) = (base ≡ rule.base) × (is_permitted rule image rule.base ≡ false)
IsBaseRefusal rule image (TooManySections count) = ⊥
IsBaseRefusal rule image (ImageTooLarge size) = ⊥
IsBaseRefusal rule image Memory = ⊥
