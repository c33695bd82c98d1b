use Rattle.std.proofs.Common.{◌≡◌, ◌++◌, take}
use Rattle.address_fields.specs.AddressFields.{fields_of}
use Rattle.address_fields.proofs.listing.push_fields.Given as goal

abbrev pub invariant-loop-fix : goal.invariant-loop-fix
invariant-loop-fix l = l.fields.items ≡ l.fn.fields.items ++ fields_of l.rva (take l.fix-index l.fixes)
