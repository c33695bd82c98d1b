use Rattle.std.proofs.Common.{◌≡◌, take}
use Rattle.address_fields.specs.AddressFields.{all_fields}
use Rattle.address_fields.proofs.listing.base_fields.Given as goal

abbrev pub invariant-loop-section : goal.invariant-loop-section
invariant-loop-section l = l.fields.items ≡ all_fields l.rvas l.fixes (take l.section-index l.sections)
