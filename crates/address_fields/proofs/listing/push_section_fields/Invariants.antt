use Rattle.std.proofs.Common.{◌≡◌, ◌++◌, take}
use Rattle.address_fields.specs.AddressFields.{section_fields}
use Rattle.address_fields.proofs.listing.push_section_fields.Given as goal

abbrev pub invariant-loop-k : goal.invariant-loop-k
invariant-loop-k l = l.fields.items ≡ l.fn.fields.items ++ section_fields l.rvas l.fixes (take l.k-index l.pieces)
